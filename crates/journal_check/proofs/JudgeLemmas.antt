-- The verdict on a text, step by step.
use Rattle.std.proofs.Common.{◌≡◌, ℕ, Bool, List, [], length, map, Result, Ok, Err, refl, sym, ap, ◌∙◌, subst}
use Rattle.fx_text.specs.Faults.{◌>>=◌}
use Rattle.fx_rules.specs.Session.{Header}
use Rattle.fx_rules.specs.History.{IsLegal}
use Rattle.fx_rules.specs.declared.outcome.Entry.{Entry}
use Rattle.session_head.specs.Head.{Begun}
use Rattle.journal_check.specs.Lines.{lines_from}
use Rattle.fx_rules.specs.declared.command.Sent.{Sent}
use Rattle.journal_check.specs.Listed.{Listed, header_among, count_among, commands_among, listed}
use Rattle.journal_check.specs.Compared.{beginning}
use Rattle.fx_rules.specs.Sending.{sent_by}
use Rattle.journal_check.specs.Verdict.{last_in, last_behind, day_verdict, IsJudged, IsVerdict, IsVerdictOn}
use Rattle.journal_check.specs.inside.Stops.{Answers, ReadsEntries, IsComparedWith, Judges}
use Rattle.journal_check.specs.declared.check.Verdict.{Verdict}
use Rattle.journal_check.specs.declared.check.Verdict.TheVariants.{No}
use Rattle.journal_check.specs.declared.header.Headed.{Headed}
use Rattle.journal_check.specs.declared.journal.Counted.{Counted}
use Rattle.journal_check.specs.declared.kept.Kept.{Kept}
use Rattle.journal_check.specs.declared.stop.Stop.{Stop}
use Rattle.journal_check.specs.declared.stop.Stop.TheVariants.{Wrong, Memory}

-- What is listed

-- what follows the commands, the line that tells how many entries there are, and START
abbrev pub with_session : Header → List Sent → Result Listed ℕ
with_session h commands = Ok (record { session = h; commands = commands })

abbrev pub listed_behind : List ℕ → Header → Counted → Result Listed ℕ
listed_behind text h count = commands_among h (length text) [] count.entries (lines_from text count.next) >>= with_session h

abbrev pub journal_behind : List ℕ → Headed → Result Listed ℕ
journal_behind text header = count_among (length text) (lines_from text header.next) >>= listed_behind text header.session

pub listed_header : (text : List ℕ) (read : Result Headed ℕ) → header_among (length text) (Begun 0) (lines_from text 0) ≡ read → listed text ≡ (read >>= journal_behind text)
unfolding listed
listed_header text read is = ap (λ (r : Result Headed ℕ). r >>= journal_behind text) is

pub listed_journal : (text : List ℕ) (header : Headed) (read : Result Counted ℕ) → header_among (length text) (Begun 0) (lines_from text 0) ≡ Ok header → count_among (length text) (lines_from text header.next) ≡ read
    → listed text ≡ (read >>= listed_behind text header.session)
listed_journal text header read is counts =
    listed_header text (Ok header) is ∙ ap (λ (r : Result Counted ℕ). r >>= listed_behind text header.session) counts

pub listed_commands : (text : List ℕ) (header : Headed) (count : Counted) (read : Result (List Sent) ℕ) → header_among (length text) (Begun 0) (lines_from text 0) ≡ Ok header → count_among (length text) (lines_from text header.next) ≡ Ok count
    → commands_among header.session (length text) [] count.entries (lines_from text count.next) ≡ read → listed text ≡ (read >>= with_session header.session)
listed_commands text header count read is counts commands =
    listed_journal text header (Ok count) is counts ∙ ap (λ (r : Result (List Sent) ℕ). r >>= with_session header.session) commands

-- The verdict

unlisted : (text : List ℕ) (offset : ℕ) → listed text ≡ Err offset → IsVerdict text (No offset)
unlisted text offset is = subst (λ (read : Result Listed ℕ). IsVerdictOn text read (No offset)) (sym is) refl

judged : (text : List ℕ) (found : Listed) (verdict : Verdict) → listed text ≡ Ok found → IsJudged text found verdict → IsVerdict text verdict
judged text found verdict is holds = subst (λ (read : Result Listed ℕ). IsVerdictOn text read verdict) (sym is) holds

pub judged_header : (text : List ℕ) (whole : Bool) (stop : Stop) → Answers (Err stop) (header_among (length text) (Begun 0) (lines_from text 0)) → Judges text whole (Err stop)
judged_header text whole (Wrong offset) is = unlisted text offset (listed_header text (Err offset) is)
judged_header text whole (Memory memory) is = tt

pub judged_count : (text : List ℕ) (whole : Bool) (header : Headed) (stop : Stop) → header_among (length text) (Begun 0) (lines_from text 0) ≡ Ok header → Answers (Err stop) (count_among (length text) (lines_from text header.next)) → Judges text whole (Err stop)
judged_count text whole header (Wrong offset) read is = unlisted text offset (listed_journal text header (Err offset) read is)
judged_count text whole header (Memory memory) read is = tt

pub judged_commands : (text : List ℕ) (whole : Bool) (kept : Kept) (header : Headed) (count : Counted) (stop : Stop) → header_among (length text) (Begun 0) (lines_from text 0) ≡ Ok header → count_among (length text) (lines_from text header.next) ≡ Ok count
    → ReadsEntries header.session whole kept (Err stop) (commands_among header.session (length text) [] count.entries (lines_from text count.next)) → Judges text whole (Err stop)
judged_commands text whole kept header count (Wrong offset) read counts is = unlisted text offset (listed_commands text header count (Err offset) read counts is)
judged_commands text whole kept header count (Memory memory) read counts is = tt

pub verdict_behind : (text day : List ℕ) (read : Result ℕ ℕ) → beginning 0 day text ≡ read → day_verdict text day ≡ last_behind text read
unfolding day_verdict
verdict_behind text day read is = ap (last_behind text) is

-- a text whose header and journal were read, and whose history was carried out
pub record WasRead (text : List ℕ) (header : Headed) (count : Counted) (entries : List Entry) : Type 0 where
  pub header_is : header_among (length text) (Begun 0) (lines_from text 0) ≡ Ok header
  pub count_is : count_among (length text) (lines_from text header.next) ≡ Ok count
  pub commands_are : commands_among header.session (length text) [] count.entries (lines_from text count.next) ≡ Ok (map sent_by entries)
  pub legal : IsLegal header.session entries

judged_day : (text : List ℕ) (header : Headed) (count : Counted) (entries : List Entry) (compared : Result ℕ Stop) (read : Result ℕ ℕ) (verdict : Verdict) → WasRead text header count entries
    → (is : IsComparedWith header.session entries text compared) → beginning 0 is.day text ≡ read → verdict ≡ last_behind text read → IsVerdict text verdict
judged_day text header count entries compared read verdict was is begins verdict_is =
    judged text (record { session = header.session; commands = map sent_by entries }) verdict
    (listed_commands text header count (Ok (map sent_by entries)) was.header_is was.count_is was.commands_are)
    (record {
      entries = entries;
      legal = was.legal;
      in_order = refl;
      day = is.day;
      is_day = is.is_day;
      judged = verdict_is ∙ sym (verdict_behind text is.day read begins);
    })

pub judged_apart : (text : List ℕ) (whole : Bool) (header : Headed) (count : Counted) (entries : List Entry) (stop : Stop) → WasRead text header count entries → IsComparedWith header.session entries text (Err stop) → Judges text whole (Err stop)
judged_apart text whole header count entries (Wrong offset) was is = judged_day text header count entries (Err (Wrong offset)) (Err offset) (No offset) was is is.compared refl
judged_apart text whole header count entries (Memory memory) was is = tt

pub judged_last : (text : List ℕ) (header : Headed) (count : Counted) (entries : List Entry) (end : ℕ) (verdict : Verdict) → WasRead text header count entries → IsComparedWith header.session entries text (Ok end)
    → verdict ≡ last_in (length text) (lines_from text end) → IsVerdict text verdict
judged_last text header count entries end verdict was is verdict_is = judged_day text header count entries (Ok end) (Ok end) verdict was is is.compared verdict_is
