-- What an output tells.
use Rattle.std.specs.Prelude.{ℕ, ◌≡◌, ◌≤◌, List, length, map, Ok}
use Rattle.fx_rules.specs.Session.{Header}
use Rattle.fx_rules.specs.History.{IsLegal}
use Rattle.fx_rules.specs.declared.outcome.Entry.{Entry}
use Rattle.reply_lines.specs.Output.{IsOutput}
use Rattle.reply_lines.specs.declared.output.Ending.{Ending}
use Rattle.journal_check.specs.Listed.{listed, most_entries}
use Rattle.fx_rules.specs.Sending.{sent_by}
use Rattle.journal_check.specs.Verdict.{IsVerdict}
use Rattle.journal_check.specs.declared.check.Verdict.{Verdict}

-- Two legal histories with one output are one, with their sessions, strays and endings.
abbrev pub OutputsAgree : Type 0
OutputsAgree =
    (one other : Header) (entries others : List Entry) (strays others_strays : ℕ) (ending others_ending : Ending) (text : List ℕ) →
    IsLegal one entries → IsLegal other others →
    IsOutput one entries strays ending text → IsOutput other others others_strays others_ending text →
    (one ≡ other) × (entries ≡ others) × (strays ≡ others_strays) × (ending ≡ others_ending)

-- The output of a legal history of no more entries than can be checked lists its own session, and its entries' banks and
-- commands in their order.
abbrev pub OutputsList : Type 0
OutputsList =
    (h : Header) (entries : List Entry) (strays : ℕ) (ending : Ending) (text : List ℕ) →
    IsLegal h entries → length entries ≤ most_entries → IsOutput h entries strays ending text →
    listed text ≡ Ok (record { session = h; commands = map sent_by entries })

-- A text has one verdict.
abbrev pub VerdictsAgree : Type 0
VerdictsAgree = (text : List ℕ) (one other : Verdict) → IsVerdict text one → IsVerdict text other → one ≡ other
