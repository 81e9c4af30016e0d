-- The verdict is yes exactly at the outputs of legal histories.
use Rattle.std.proofs.Common.{◌≡◌, ℕ, zero, suc, ◌+◌, ◌^◌, ◌<◌, ◌≤◌, Bool, true, false, List, [], ◌∷◌, ◌++◌, length, map, drop, Option, Some, None, Result, Ok, Err, refl, sym, ap, ◌∙◌, subst, arith, eqb, cond, inl, inr, append_assoc, append-nil, length-append}
use Rattle.std.specs.List.{flat_map}
use Rattle.std.proofs.lemmas.Bool.{cases_Bool, cond-true, cond-false, eqb-true}
use Rattle.std.proofs.lemmas.List.{drop_at, length-map}
use Rattle.fx_text.specs.Faults.{◌>>=◌}
use Rattle.fx_text.specs.Lines.{line_of}
use Rattle.fx_text.specs.Number.{number_of}
use Rattle.fx_text.specs.declared.line.Line.{Line}
use Rattle.fx_text.specs.declared.line.Line.TheVariants.{Whole, Long}
use Rattle.fx_text.proofs.NumberLemmas.{Reads, Reads-number_of}
use Rattle.fx_rules.specs.Session.{Header}
use Rattle.fx_rules.specs.State.{opening}
use Rattle.fx_rules.specs.History.{IsLegal}
use Rattle.fx_rules.specs.declared.command.Command.{Command}
use Rattle.fx_rules.specs.declared.command.Sent.{Sent}
use Rattle.fx_rules.specs.declared.outcome.Entry.{Entry}
use Rattle.session_head.specs.Head.{Begun}
use Rattle.session_head.specs.HeadText.{head_text_of}
use Rattle.order_lines.specs.Grammar.{journal_line}
use Rattle.reply_lines.specs.inside.Journals.{count_line}
use Rattle.reply_lines.specs.Output.{entry_line, journal_text, day_text, last_text, IsDayText}
use Rattle.reply_lines.specs.declared.output.Ending.{Ending}
use Rattle.journal_check.specs.Lines.{LineAt, behind, is_long, lines_from}
use Rattle.journal_check.specs.Listed.{Listed, header_among, count_told, count_among, commands_among, listed, most_entries}
use Rattle.journal_check.specs.Compared.{beginning}
use Rattle.journal_check.specs.Laws.{OutputsList}
use Rattle.fx_rules.specs.Sending.{sent_by, sent_of}
use Rattle.journal_check.specs.Verdict.{yes, last_in, last_behind, day_verdict, IsJudged, IsVerdict, IsVerdictOn, IsSomeOutput}
use Rattle.journal_check.specs.declared.check.Verdict.{Verdict}
use Rattle.journal_check.specs.declared.check.Verdict.TheVariants.{No}
use Rattle.journal_check.specs.declared.journal.Counted.{Counted}
use Rattle.journal_check.specs.Reading.{IsReadOf}
use Rattle.journal_check.specs.inside.Stops.{IsKept, IsComparedWith}
use Rattle.journal_check.specs.declared.header.Headed.{Headed}
use Rattle.journal_check.specs.declared.kept.Kept.{Kept}
use Rattle.journal_check.proofs.JournalLemmas.{counted, followed, commands_among-long, commands_among-short}
use Rattle.journal_check.proofs.JudgeLemmas.{WasRead, with_session, listed_behind, journal_behind, listed_commands, verdict_behind}
use Rattle.journal_check.proofs.CompareLemmas.{beginning-shared, beginning-ends}
use Rattle.journal_check.proofs.HeadWalk.{header_among-head_text}
use Rattle.journal_check.proofs.JournalWalk.{counts_at, entries_at}
use Rattle.fx_rules.proofs.Continuing.{histories_agree}
use Rattle.journal_check.proofs.Histories.{steps_sent, day_begins}
use Rattle.reply_lines.proofs.Outputs.{is_day as day_is}
use Rattle.reply_lines.proofs.Singly.{days_agree}
use Rattle.journal_check.proofs.LastLines.{IsLast, last_taken, last_only}

-- How many commands are listed

bind_ok : {A B : Type 0} (read : Result A ℕ) (f : A → Result B ℕ) (y : B) → (read >>= f) ≡ Ok y → (x : A) × (read ≡ Ok x) × (f x ≡ Ok y)
bind_ok (Ok x) f y is = (x, refl, is)
bind_ok {A} {B} (Err offset) f y is = let wrong : ◌≡◌ {A = Result B ℕ} (Err offset) (Ok y) = is in absurd cc

number_few : (most : ℕ) (text : List ℕ) (n : ℕ) → number_of 0 most text ≡ Some n → n ≤ most
number_few most text n is =
    let reads : Reads 0 most text (Some n) = subst (λ (read : Option ℕ). Reads 0 most text read) is (Reads-number_of 0 most text) in reads.most

chosen : (b : Bool) (o : Option ℕ) (n : ℕ) → cond b o None ≡ Some n → o ≡ Some n
chosen true o n is = is
chosen false o n is = absurd cc

told_few : (line : Line) (n : ℕ) → count_told line ≡ Some n → n ≤ most_entries
told_few (Whole text) n is = number_few most_entries _ n (chosen _ _ n is)
told_few (Long first) n is = absurd cc

counted_few : (most : ℕ) (line : LineAt) (told : Option ℕ) (count : Counted) → ((n : ℕ) → told ≡ Some n → n ≤ most) → counted line told ≡ Ok count → count.entries ≤ most
counted_few most line None count few is = let wrong : ◌≡◌ {A = Result Counted ℕ} (Err line.at) (Ok count) = is in absurd cc
counted_few most line (Some n) count few is =
    let same : record { entries = n; next = behind line } ≡ count = cc in
    subst (λ (c : Counted). c.entries ≤ most) same (few n refl)

count_few : (end : ℕ) (lines : List LineAt) (count : Counted) → count_among end lines ≡ Ok count → count.entries ≤ most_entries
unfolding count_among
count_few end [] count is = let wrong : ◌≡◌ {A = Result Counted ℕ} (Err end) (Ok count) = is in absurd cc
count_few end (line ∷ more) count is = elim (cases_Bool (is_long line)) [
  | inl long ↦ let wrong : ◌≡◌ {A = Result Counted ℕ} (Err line.at) (Ok count) = sym (cond-true (is_long line) _ _ long) ∙ is in absurd cc
  | inr short ↦ counted_few most_entries line (count_told (line_of line.part)) count (told_few (line_of line.part)) (sym (cond-false (is_long line) (Err line.at) _ short) ∙ is)
]

sent_ok : (line : LineAt) (said : Option (ℕ × Command)) (on : Sent → Result (List Sent) ℕ) (all : List Sent) → followed line said on ≡ Ok all → (one : Sent) × (on one ≡ Ok all)
sent_ok line None on all is = let wrong : ◌≡◌ {A = Result (List Sent) ℕ} (Err line.at) (Ok all) = is in absurd cc
sent_ok line (Some one) on all is = (sent_of one, is)

same_ok : (xs ys : List Sent) → ◌≡◌ {A = Result (List Sent) ℕ} (Ok xs) (Ok ys) → xs ≡ ys
same_ok xs ys is = cc

commands_count : (h : Header) (end : ℕ) (before : List Sent) (count : ℕ) (lines : List LineAt) (all : List Sent) → commands_among h end before count lines ≡ Ok all → length all ≡ length before + count
unfolding commands_among
commands_count h end before zero lines all is = omega (arith, ap length (same_ok before all is))
commands_count h end before (suc count) [] all is = let wrong : ◌≡◌ {A = Result (List Sent) ℕ} (Err end) (Ok all) = is in absurd cc
commands_count h end before (suc count) (line ∷ more) all is = elim (cases_Bool (is_long line)) [
  | inl long ↦ let wrong : ◌≡◌ {A = Result (List Sent) ℕ} (Err line.at) (Ok all) = sym (commands_among-long h end before count line more long) ∙ is in absurd cc
  | inr short ↦
      let on = sent_ok line (journal_line h (line_of line.part)) (λ sent. commands_among h end (before ++ sent ∷ []) count more) all (sym (commands_among-short h end before count line more short) ∙ is) in
      let rest = commands_count h end (before ++ on.0 ∷ []) count more all on.1 in
      omega (arith, rest, length-append before (on.0 ∷ []))
]

same_found : (h : Header) (commands : List Sent) (found : Listed) → with_session h commands ≡ Ok found → found.commands ≡ commands
same_found h commands found is = let same : record { session = h; commands = commands } ≡ found = cc in ap (λ (f : Listed). f.commands) (sym same)

listed_few : (text : List ℕ) (found : Listed) → listed text ≡ Ok found → length found.commands ≤ most_entries
unfolding listed
listed_few text found is =
    let header = bind_ok (header_among (length text) (Begun 0) (lines_from text 0)) (journal_behind text) found is in
    let count = bind_ok (count_among (length text) (lines_from text header.0.next)) (listed_behind text header.0.session) found header.2 in
    let commands = bind_ok (commands_among header.0.session (length text) [] count.0.entries (lines_from text count.0.next)) (with_session header.0.session) found count.2 in
    let few : count.0.entries ≤ most_entries = count_few (length text) (lines_from text header.0.next) count.0 count.1 in
    let size : length commands.0 ≡ 0 + count.0.entries = commands_count header.0.session (length text) [] count.0.entries (lines_from text count.0.next) commands.0 commands.1 in
    omega (arith, ap length (same_found header.0.session commands.0 found commands.2), size, few)

-- A text that begins with another one

record Begins (day text : List ℕ) (at end : ℕ) : Type 0 where
  rest : List ℕ
  joined : text ≡ day ++ rest
  size : end ≡ at + length day

begins_only : (at end : ℕ) (day text : List ℕ) → beginning at day text ≡ Ok end → Begins day text at end
unfolding beginning
begins_only at end [] text is = record { rest = text; joined = refl; size = let same : at ≡ end = cc in omega arith }
begins_only at end (byte ∷ day) [] is = let wrong : ◌≡◌ {A = Result ℕ ℕ} (Err at) (Ok end) = is in absurd cc
begins_only at end (byte ∷ day) (other ∷ text) is = elim (cases_Bool (eqb other byte)) [
  | inr apart ↦ let wrong : ◌≡◌ {A = Result ℕ ℕ} (Err at) (Ok end) = sym (cond-false (eqb other byte) (beginning (at + 1) day text) _ apart) ∙ is in absurd cc
  | inl same ↦
      let on = begins_only (at + 1) end day text (sym (cond-true (eqb other byte) (beginning (at + 1) day text) (Err at) same) ∙ is) in
      let byte_is : other ≡ byte = eqb-true other byte same in
      record { rest = on.rest; joined = ap (λ (b : ℕ). b ∷ text) byte_is ∙ ap (λ (t : List ℕ). byte ∷ t) on.joined; size = omega (arith, on.size) }
]

begins : (day rest : List ℕ) → beginning 0 day (day ++ rest) ≡ Ok (length day)
begins day rest =
    let size : 0 + length day ≡ length day = omega arith in
    ap (λ (t : List ℕ). beginning 0 t (day ++ rest)) (sym (append-nil day)) ∙ beginning-shared 0 day [] rest ∙ beginning-ends (0 + length day) rest ∙ ap (λ (n : ℕ). Ok n) size

-- Yes is said of outputs alone

yes_by : (text day : List ℕ) (read : Result ℕ ℕ) → beginning 0 day text ≡ read → last_behind text read ≡ yes → (end : ℕ) × (beginning 0 day text ≡ Ok end) × (last_in (length text) (lines_from text end) ≡ yes)
yes_by text day (Ok end) is taken = (end, is, taken)
yes_by text day (Err end) is taken = absurd cc

output_of : (text day : List ℕ) → day_verdict text day ≡ yes → (last : List ℕ) × (text ≡ day ++ last) × IsLast last
unfolding day_verdict
output_of text day taken =
    let it = yes_by text day (beginning 0 day text) refl taken in
    let on = begins_only 0 it.0 day text it.1 in
    let here : it.0 ≡ length day = omega (arith, on.size) in
    let within : it.0 ≤ length text = omega (arith, here, ap length on.joined, length-append day on.rest) in
    let rest : drop it.0 text ≡ on.rest = ap (λ (n : ℕ). drop n text) here ∙ ap (drop (length day)) on.joined ∙ drop_at day on.rest (length day) refl in
    (on.rest, on.joined, subst IsLast rest (last_only text it.0 within it.2))

-- what a text is read as, where it is an output
read_by : (text : List ℕ) (h : Header) (entries : List Entry) (day : List ℕ) → IsLegal h entries → listed text ≡ Ok (record { session = h; commands = map sent_by entries }) → IsDayText h entries day → day_verdict text day ≡ yes → IsReadOf text h entries
read_by text h entries day legal lists is_day taken =
    let it = output_of text day taken in
    let few : length (map sent_by entries) ≤ most_entries = listed_few text (record { session = h; commands = map sent_by entries }) lists in
    record {
      legal = legal;
      few = omega (arith, few, length-map entries sent_by);
      as_listed = lists;
      strays = it.2.strays;
      strays_most = it.2.few;
      ending = it.2.ending;
      output = record {
        books = is_day.books;
        at_the_end = is_day.at_the_end;
        exactly = it.1 ∙ ap (λ (last : List ℕ). day ++ last) it.2.is ∙ ap (λ (d : List ℕ). d ++ last_text it.2.strays it.2.ending) is_day.exactly;
      };
    }

pub read_last : (text : List ℕ) (header : Headed) (count : Counted) (entries : List Entry) (end : ℕ) (verdict : Verdict) → WasRead text header count entries → IsComparedWith header.session entries text (Ok end)
    → verdict ≡ last_in (length text) (lines_from text end) → verdict ≡ yes → IsReadOf text header.session entries
read_last text header count entries end verdict was is verdict_is taken =
    read_by text header.session entries is.day was.legal (listed_commands text header count (Ok (map sent_by entries)) was.header_is was.count_is was.commands_are) is.is_day
    (verdict_behind text is.day (Ok end) is.compared ∙ sym verdict_is ∙ taken)

pub kept_whole : (whole : Bool) (entries : List Entry) (kept : Kept) → whole ≡ true → IsKept whole entries kept → kept.entries.items ≡ entries
kept_whole whole entries kept is keeps = keeps.items ∙ cond-true whole entries [] is

-- what a text is read as is some output
pub some_output : (text : List ℕ) (h : Header) (entries : List Entry) → IsReadOf text h entries → IsSomeOutput text
some_output text h entries read = record {
  session = h;
  entries = entries;
  strays = read.strays;
  ending = read.ending;
  legal = read.legal;
  few = read.few;
  strays_most = read.strays_most;
  output = read.output;
}

sound_by : (text : List ℕ) (read : Result Listed ℕ) → listed text ≡ read → IsVerdictOn text read yes → IsSomeOutput text
sound_by text (Err offset) is verdict = absurd cc
sound_by text (Ok found) is verdict =
    some_output text found.session verdict.entries
    (read_by text found.session verdict.entries verdict.day verdict.legal (is ∙ ap (λ (sent : List Sent). Ok (record { session = found.session; commands = sent })) (sym verdict.in_order)) verdict.is_day (sym verdict.judged))

pub sound : (text : List ℕ) (verdict : Verdict) → IsVerdict text verdict → verdict ≡ yes → IsSomeOutput text
sound text verdict holds is = sound_by text (listed text) refl (subst (IsVerdict text) is holds)

-- An output lists its history

pub listed_output : (h : Header) (entries : List Entry) (text more : List ℕ) → IsLegal h entries → length entries ≤ most_entries → text ≡ head_text_of h ++ (journal_text h entries ++ more)
    → listed text ≡ Ok (record { session = h; commands = map sent_by entries })
unfolding journal_text count_line
listed_output h entries text more legal few is =
    let rows : List ℕ = flat_map (entry_line h) entries in
    let at : ℕ = length (head_text_of h) in
    let header = header_among-head_text h (length text) text (journal_text h entries ++ more) legal.session is in
    let there : drop at text ≡ count_line (length entries) ++ (rows ++ more) =
    ap (drop at) is ∙ drop_at (head_text_of h) (journal_text h entries ++ more) at refl ∙ append_assoc (count_line (length entries)) rows more in
    let count = counts_at (length text) text at (length entries) (rows ++ more) (omega (arith, few)) few there in
    listed_commands text (record { session = h; next = at }) (record { entries = length entries; next = count.behind }) (Ok (map sent_by entries)) header count.count
    (entries_at h (length text) text more entries count.behind [] legal.session (steps_sent h (opening h) entries legal.steps) count.rest)

pub outputs_list : OutputsList
outputs_list h entries strays ending text legal few is =
    let begins_so = day_begins h entries (day_text h entries is.books) (day_is h entries is.books is.at_the_end) in
    listed_output h entries text (begins_so.0 ++ last_text strays ending) legal few
    (is.exactly ∙ ap (λ (day : List ℕ). day ++ last_text strays ending) begins_so.1
    ∙ append_assoc (head_text_of h) (journal_text h entries ++ begins_so.0) (last_text strays ending)
    ∙ ap (λ (t : List ℕ). head_text_of h ++ t) (append_assoc (journal_text h entries) begins_so.0 (last_text strays ending)))

-- what is said of the output of a legal history
yes_of : (text day : List ℕ) (strays : ℕ) (ending : Ending) → strays < 2 ^ 64 → text ≡ day ++ last_text strays ending → day_verdict text day ≡ yes
unfolding day_verdict
yes_of text day strays ending few is =
    let within : length day ≤ length text = omega (arith, ap length is, length-append day (last_text strays ending)) in
    let rest : drop (length day) text ≡ last_text strays ending = ap (drop (length day)) is ∙ drop_at day (last_text strays ending) (length day) refl in
    ap (λ (t : List ℕ). last_behind text (beginning 0 day t)) is
    ∙ ap (last_behind text) (begins day (last_text strays ending))
    ∙ last_taken text (length day) strays ending within few rest

complete_by : (text : List ℕ) (is : IsSomeOutput text) (verdict : Verdict) → IsJudged text (record { session = is.session; commands = map sent_by is.entries }) verdict → verdict ≡ yes
complete_by text is verdict judged =
    let same : judged.entries ≡ is.entries = histories_agree is.session judged.entries is.entries judged.legal is.legal judged.in_order in
    let its_day : List ℕ = day_text is.session is.entries is.output.books in
    let day : judged.day ≡ its_day = days_agree is.session is.entries judged.day its_day is.legal
    (subst (λ (entries : List Entry). IsDayText is.session entries judged.day) same judged.is_day) (day_is is.session is.entries is.output.books is.output.at_the_end) in
    judged.judged ∙ ap (day_verdict text) day ∙ yes_of text its_day is.strays is.ending is.strays_most is.output.exactly

pub complete : (text : List ℕ) (verdict : Verdict) → IsVerdict text verdict → IsSomeOutput text → verdict ≡ yes
complete text verdict holds is =
    let found = outputs_list is.session is.entries is.strays is.ending text is.legal is.few is.output in
    complete_by text is verdict (subst (λ (read : Result Listed ℕ). IsVerdictOn text read verdict) found holds)

-- a text at which the verdict is No is no output
pub other : (text : List ℕ) (offset : ℕ) → IsVerdict text (No offset) → ¬ (IsSomeOutput text)
other text offset verdict is = no_yes offset (complete text (No offset) verdict is)
  where
    no_yes : (at : ℕ) → No at ≡ yes → ⊥
    no_yes at same = cc

pub other_of : (text : List ℕ) (offset : ℕ) (verdict : Verdict) → verdict ≡ No offset → IsVerdict text verdict → IsVerdict text (No offset) × ¬ (IsSomeOutput text)
other_of text offset verdict is holds = let same : IsVerdict text (No offset) = subst (IsVerdict text) is holds in (same, other text offset same)
