-- What is read of a text that is an output.
use Rattle.std.specs.Prelude.{ℕ, ◌≡◌, ◌≤◌, ◌<◌, ◌^◌, List, length, map, Ok}
use Rattle.fx_rules.specs.Session.{Header}
use Rattle.fx_rules.specs.History.{IsLegal}
use Rattle.fx_rules.specs.Sending.{sent_by}
use Rattle.fx_rules.specs.declared.outcome.Entry.{Entry}
use Rattle.reply_lines.specs.Output.{IsOutput}
use Rattle.reply_lines.specs.declared.output.Ending.{Ending}
use Rattle.journal_check.specs.Listed.{listed, most_entries}
use Rattle.journal_check.specs.Verdict.{yes, IsVerdict, IsSomeOutput}
use Rattle.journal_check.specs.declared.check.Verdict.TheVariants.{No}
use Rattle.journal_check.specs.declared.read.Read.{Read}
use Rattle.journal_check.specs.declared.read.Read.TheVariants as reads

-- The text is the output of this legal history of this session, and lists them.
pub record IsReadOf (text : List ℕ) (session : Header) (entries : List Entry) : Type 0 where
  pub legal : IsLegal session entries
  pub few : length entries ≤ most_entries
  pub as_listed : listed text ≡ Ok (record { session = session; commands = map sent_by entries })
  pub strays : ℕ
  pub strays_most : strays < 2 ^ 64
  pub ending : Ending
  pub output : IsOutput session entries strays ending text

-- what is read of a text goes with its verdict
abbrev pub IsRead : List ℕ → Read → Type 0
IsRead text (reads.Yes session entries) = IsVerdict text yes × IsReadOf text session entries
IsRead text (reads.No offset) = IsVerdict text (No offset) × ¬ (IsSomeOutput text)
