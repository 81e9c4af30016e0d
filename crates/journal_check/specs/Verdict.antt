-- The verdict on a text: whether it is the output of a legal history, and where it is not.
use Rattle.std.specs.Prelude.{ℕ, ◌≡◌, ◌≤◌, ◌<◌, ◌^◌, ◌-◌, Bool, ◌&&◌, ◌||◌, ◌==◌, is_some, if◌then◌else◌, List, [], ◌∷◌, length, take, drop, map, codes, bytes_eq, Result, Ok, Err}
use Rattle.fx_text.specs.Number.{number_of}
use Rattle.fx_rules.specs.Session.{Header}
use Rattle.fx_rules.specs.History.{IsLegal}
use Rattle.fx_rules.specs.Sending.{sent_by}
use Rattle.fx_rules.specs.declared.outcome.Entry.{Entry}
use Rattle.reply_lines.specs.Output.{IsDayText, IsOutput}
use Rattle.reply_lines.specs.declared.output.Ending.{Ending}
use Rattle.journal_check.specs.Lines.{LineAt, behind, lines_from}
use Rattle.journal_check.specs.Listed.{Listed, listed, most_entries}
use Rattle.journal_check.specs.Compared.{beginning}
use Rattle.journal_check.specs.declared.check.Verdict.{Verdict}
use Rattle.journal_check.specs.declared.check.Verdict.TheVariants.{Yes, No}

-- the verdict on an output, with the one `Passed`
abbrev pub yes : Verdict
yes = Yes (record { 0 = tt })

-- The last lines

-- the line tells the strays: a number below 2^64, in its one spelling, one space behind the word
abbrev pub is_strays : List ℕ → Bool
is_strays part = bytes_eq (take 7 part) (codes "STRAYS ") && is_some (number_of 0 (2 ^ 64 - 1) (drop 7 part))

-- the line tells how the reading ended
abbrev pub is_ending : List ℕ → Bool
is_ending part =
    bytes_eq part (codes "END") || bytes_eq part (codes "CUT") || bytes_eq part (codes "READ") || bytes_eq part (codes "MUCH")

-- the line of the ending, behind which the text ends
abbrev pub ending_in : ℕ → List LineAt → Verdict
ending_in end [] = No end
ending_in end (line ∷ more) =
    if is_ending line.part then (if behind line == end then yes else No (behind line)) else No line.at

-- the line of the strays and that of the ending, and nothing more
unfoldable pub last_in : ℕ → List LineAt → Verdict
last_in end [] = No end
last_in end (line ∷ more) = if is_strays line.part then ending_in end more else No line.at

-- The text

abbrev pub last_behind : List ℕ → Result ℕ ℕ → Verdict
last_behind text (Ok at) = last_in (length text) (lines_from text at)
last_behind text (Err at) = No at

-- a text whose history has this output, up to its last lines
unfoldable pub day_verdict : List ℕ → List ℕ → Verdict
day_verdict text day = last_behind text (beginning 0 day text)

-- The commands that are listed, applied in order, are those of a legal history, and there is no other. The text is compared
-- with the output of that history, up to its last lines, and these are read.
pub record IsJudged (text : List ℕ) (found : Listed) (verdict : Verdict) : Type 0 where
  pub entries : List Entry
  pub legal : IsLegal found.session entries
  pub in_order : map sent_by entries ≡ found.commands
  pub day : List ℕ
  pub is_day : IsDayText found.session entries day
  pub judged : verdict ≡ day_verdict text day

abbrev pub IsVerdictOn : List ℕ → Result Listed ℕ → Verdict → Type 0
IsVerdictOn text (Ok found) verdict = IsJudged text found verdict
IsVerdictOn text (Err offset) verdict = verdict ≡ No offset

-- the verdict on a text
abbrev pub IsVerdict : List ℕ → Verdict → Type 0
IsVerdict text verdict = IsVerdictOn text (listed text) verdict

-- a text is the output of a legal history of no more entries than can be checked, with strays below 2^64 and an ending
pub record IsSomeOutput (text : List ℕ) : Type 0 where
  pub session : Header
  pub entries : List Entry
  pub strays : ℕ
  pub ending : Ending
  pub legal : IsLegal session entries
  pub few : length entries ≤ most_entries
  pub strays_most : strays < 2 ^ 64
  pub output : IsOutput session entries strays ending text
