-- A journal that is read line by line.
use Rattle.std.proofs.Common.{◌≡◌, ℕ, zero, suc, ◌+◌, ◌-◌, ◌<◌, ◌≤◌, true, false, List, [], ◌∷◌, ◌++◌, length, take, drop, Option, Some, None, option_map, ok_or, Result, Ok, Err, refl, sym, ap, ap₂, ◌∙◌, subst, arith, length-drop, length-take-le}
use Rattle.std.proofs.lemmas.Bool.{cond-true, cond-false, lt-ltb, le-ltb}
use Rattle.fx_text.specs.Faults.{◌>>=◌}
use Rattle.fx_text.specs.Lines.{line_of, line_seen}
use Rattle.std.proofs.Math.Seq.{take-add}
use Rattle.fx_rules.specs.Session.{Header}
use Rattle.fx_rules.specs.Sending.{sent_of}
use Rattle.order_lines.specs.Grammar.{journal_line}
use Rattle.journal_check.specs.Lines.{LineAt, behind, is_long, lines_from}
use Rattle.fx_rules.specs.declared.command.Command.{Command}
use Rattle.fx_rules.specs.declared.command.Sent.{Sent}
use Rattle.journal_check.specs.Listed.{count_told, count_among, commands_among}
use Rattle.journal_check.specs.inside.Stops.{IsReadAt, IsStopAt, Missing, TooLong, ReadsLine, Answers, ReadsSent, SaysAt, StandsIn, lines_of, next_of, sent_line}
use Rattle.journal_check.specs.declared.journal.Counted.{Counted}
use Rattle.journal_check.specs.declared.journal.ReadSent.{ReadSent}
use Rattle.journal_check.specs.declared.line.ReadLine.{ReadLine}
use Rattle.journal_check.specs.declared.lines.ReadLines.{ReadLines}
use Rattle.journal_check.specs.declared.stop.Stop.{Stop}
use Rattle.journal_check.specs.declared.stop.Stop.TheVariants.{Wrong, Memory}

-- How many entries there are

-- a line that tells so many entries, where it tells them
abbrev pub counted : LineAt → Option ℕ → Result Counted ℕ
counted line told = ok_or told line.at >>= (λ entries. Ok (record { entries = entries; next = behind line }))

count_among-long : (end : ℕ) (line : LineAt) (more : List LineAt) → is_long line ≡ true → count_among end (line ∷ more) ≡ Err line.at
unfolding count_among
count_among-long end line more long = cond-true (is_long line) _ _ long

pub count_among-short : (end : ℕ) (line : LineAt) (more : List LineAt) → is_long line ≡ false → count_among end (line ∷ more) ≡ counted line (count_told (line_of line.part))
unfolding count_among
count_among-short end line more short = cond-false (is_long line) _ _ short

count_among-none : (end : ℕ) → count_among end [] ≡ Err end
unfolding count_among
count_among-none end = refl

pub count_stops : (text : List ℕ) (at offset : ℕ) → IsStopAt text at offset → count_among (length text) (lines_from text at) ≡ Err offset
count_stops text at offset (Missing none is) = ap (count_among (length text)) none ∙ count_among-none (length text) ∙ ap (λ (n : ℕ). Err n) (sym is)
count_stops text at offset (TooLong part there long is) =
    ap (count_among (length text)) there.lines
    ∙ count_among-long (length text) (record { at = at; part = part }) (lines_from text (at + length part + 1)) (lt-ltb 256 (length part) long)
    ∙ ap (λ (n : ℕ). Err n) (sym is)

count_reads : (text : List ℕ) (at : ℕ) (read : ReadLine) (told : Option ℕ) (is : IsReadAt text at read) → told ≡ count_told (line_seen read.line)
    → count_among (length text) (lines_from text at) ≡ counted (record { at = at; part = is.part }) told
count_reads text at read told is then =
    ap (count_among (length text)) is.there.lines
    ∙ count_among-short (length text) (record { at = at; part = is.part }) (lines_from text (at + length is.part + 1)) (le-ltb 256 (length is.part) is.short)
    ∙ ap (counted (record { at = at; part = is.part })) (ap (count_told) (sym is.line_is) ∙ sym then)

pub count_wrong : (text : List ℕ) (at : ℕ) (read : ReadLine) → IsReadAt text at read → None ≡ count_told (line_seen read.line) → count_among (length text) (lines_from text at) ≡ Err at
count_wrong text at read is then = count_reads text at read None is then

pub count_right : (text : List ℕ) (at : ℕ) (read : ReadLine) (entries : ℕ) → IsReadAt text at read → Some entries ≡ count_told (line_seen read.line)
    → count_among (length text) (lines_from text at) ≡ Ok (record { entries = entries; next = read.next })
count_right text at read entries is then =
    count_reads text at read (Some entries) is then ∙ ap (λ (next : ℕ). Ok (record { entries = entries; next = next })) (sym is.next_is)

-- The entries

-- a line of a journal, where it is one: its command is sent behind those before it, and the lines behind it follow
abbrev pub followed : LineAt → Option (ℕ × Command) → (Sent → Result (List Sent) ℕ) → Result (List Sent) ℕ
followed line said on = ok_or (option_map sent_of said) line.at >>= on

pub commands_among-long : (h : Header) (end : ℕ) (before : List Sent) (count : ℕ) (line : LineAt) (more : List LineAt) → is_long line ≡ true → commands_among h end before (suc count) (line ∷ more) ≡ Err line.at
unfolding commands_among
commands_among-long h end before count line more long =
    ap (λ (r : Result Sent ℕ). r >>= (λ sent. commands_among h end (before ++ sent ∷ []) count more)) (cond-true (is_long line) (Err line.at) _ long)

pub commands_among-short : (h : Header) (end : ℕ) (before : List Sent) (count : ℕ) (line : LineAt) (more : List LineAt) → is_long line ≡ false
    → commands_among h end before (suc count) (line ∷ more) ≡ followed line (journal_line h (line_of line.part)) (λ sent. commands_among h end (before ++ sent ∷ []) count more)
unfolding commands_among
commands_among-short h end before count line more short =
    ap (λ (r : Result Sent ℕ). r >>= (λ sent. commands_among h end (before ++ sent ∷ []) count more)) (cond-false (is_long line) (Err line.at) _ short)

commands_among-none : (h : Header) (end : ℕ) (before : List Sent) (count : ℕ) → commands_among h end before (suc count) [] ≡ Err end
unfolding commands_among
commands_among-none h end before count = refl

pub commands_among-all : (h : Header) (end : ℕ) (before : List Sent) (count : ℕ) (lines : List LineAt) → count ≡ 0 → commands_among h end before count lines ≡ Ok before
unfolding commands_among
commands_among-all h end before zero lines none = refl
commands_among-all h end before (suc count) lines none = absurd (omega arith)

pub commands_stop : (h : Header) (text : List ℕ) (at offset : ℕ) (before : List Sent) (count : ℕ) → 0 < count → IsStopAt text at offset → commands_among h (length text) before count (lines_from text at) ≡ Err offset
commands_stop h text at offset before zero some stop = absurd (omega arith)
commands_stop h text at offset before (suc count) some (Missing none is) =
    ap (commands_among h (length text) before (suc count)) none ∙ commands_among-none h (length text) before count ∙ ap (λ (n : ℕ). Err n) (sym is)
commands_stop h text at offset before (suc count) some (TooLong part there long is) =
    ap (commands_among h (length text) before (suc count)) there.lines
    ∙ commands_among-long h (length text) before count (record { at = at; part = part }) (lines_from text (at + length part + 1)) (lt-ltb 256 (length part) long)
    ∙ ap (λ (n : ℕ). Err n) (sym is)

commands_read : (h : Header) (text : List ℕ) (at : ℕ) (before : List Sent) (count : ℕ) (read : ReadLine) (said : Option (ℕ × Command)) (is : IsReadAt text at read) → said ≡ journal_line h (line_seen read.line)
    → commands_among h (length text) before (suc count) (lines_from text at) ≡ followed (record { at = at; part = is.part }) said (λ sent. commands_among h (length text) (before ++ sent ∷ []) count (lines_from text read.next))
commands_read h text at before count read said is then =
    let line : LineAt = record { at = at; part = is.part } in
    ap (commands_among h (length text) before (suc count)) is.there.lines
    ∙ commands_among-short h (length text) before count line (lines_from text (at + length is.part + 1)) (le-ltb 256 (length is.part) is.short)
    ∙ ap (λ (o : Option (ℕ × Command)). followed line o (λ sent. commands_among h (length text) (before ++ sent ∷ []) count (lines_from text (at + length is.part + 1)))) (ap (journal_line h) (sym is.line_is) ∙ sym then)
    ∙ ap (λ (n : ℕ). followed line said (λ sent. commands_among h (length text) (before ++ sent ∷ []) count (lines_from text n))) (sym is.next_is)

pub commands_wrong : (h : Header) (text : List ℕ) (at : ℕ) (before : List Sent) (count : ℕ) (read : ReadLine) → 0 < count → IsReadAt text at read → None ≡ journal_line h (line_seen read.line)
    → commands_among h (length text) before count (lines_from text at) ≡ Err at
commands_wrong h text at before zero read some is then = absurd (omega arith)
commands_wrong h text at before (suc count) read some is then = commands_read h text at before count read None is then

pub more_sent : (h : Header) (text : List ℕ) (at : ℕ) (before : List Sent) (count : ℕ) (read : ReadLine) (sent : ℕ × Command) → IsReadAt text at read → Some sent ≡ journal_line h (line_seen read.line)
    → commands_among h (length text) before (suc count) (lines_from text at) ≡ commands_among h (length text) (before ++ sent_of sent ∷ []) count (lines_from text read.next)
more_sent h text at before count read sent is then = commands_read h text at before count read (Some sent) is then

-- No line can be read

pub count_stopped : (text : List ℕ) (at : ℕ) (stop : Stop) → ReadsLine text at (Err stop) → Answers (Err stop) (count_among (length text) (lines_from text at))
count_stopped text at (Wrong offset) stops = count_stops text at offset stops
count_stopped text at (Memory memory) stops = absurd stops

-- so no command can be read
pub sent_stopped : (h : Header) (text : List ℕ) (at : ℕ) (stop : Stop) → ReadsLine text at (Err stop) → ReadsSent h text at (Err stop)
sent_stopped h text at (Wrong offset) stops = λ before count. commands_stop h text at offset before (suc count) (omega arith) stops
sent_stopped h text at (Memory memory) stops = absurd stops

-- a line that was read stands where it was read
pub line_stands : (text rest line : List ℕ) (at size : ℕ) → rest ≡ drop at text → line ≡ take size rest → size ≤ length rest → line ≡ take (length line) (drop at text)
line_stands text rest line at size rest_is line_is few =
    let len : length line ≡ size = ap length line_is ∙ length-take-le size rest few in
    line_is ∙ ap₂ (λ (n : ℕ) (xs : List ℕ). take n xs) (sym len) rest_is

-- lines that are bytes of the text, with one more
pub line_read : (h : Header) (was now : ReadLines) (read : ReadSent) → was.is_made ≡ false → now ≡ was → StandsIn was.rest.now was.len read → read.line.now ≡ sent_line h read.sent
    → lines_of (record now { len = now.len + length read.line.now }) ≡ lines_of was ++ sent_line h read.sent
line_read h was now read unmade is there spelled = subst (λ (l : ReadLines). lines_of (record l { len = l.len + length read.line.now }) ≡ lines_of was ++ sent_line h read.sent) (sym is)
    (cond-false was.is_made _ _ unmade
    ∙ take-add was.len (length read.line.now) was.rest.now
    ∙ ap (λ (xs : List ℕ). take was.len was.rest.now ++ xs) (sym there.same ∙ spelled)
    ∙ ap (λ (xs : List ℕ). xs ++ sent_line h read.sent) (sym (cond-false was.is_made _ _ unmade)))

-- lines that are made
pub line_made : (now : ReadLines) (size : ℕ) (lines : List ℕ) → now.is_made ≡ true → now.made.items ≡ lines → lines_of (record now { len = now.len + size }) ≡ lines
line_made now size lines made is = cond-true now.is_made _ _ made ∙ is

-- a line that was read field by field
pub fields_say : (h : Header) (text rest : List ℕ) (at size : ℕ) (line : ReadLine) (said : ℕ × Command) (read : ReadSent) → at ≤ length text → IsReadAt text at line → Some said ≡ journal_line h (line_seen line.line) → rest ≡ drop at text → size ≡ line.next - at
    → read.line.now ≡ take size rest → read.sent ≡ sent_of said → read.spelled ≡ false → SaysAt h text at read
fields_say h text rest at size line said read inside is then rest_is size_is line_is sent_is spelled_not =
    let long : length rest ≡ length text - at = ap length rest_is ∙ length-drop at text in
    let there = is.there.within in
    let len : length read.line.now ≡ size = ap length line_is ∙ length-take-le size rest (omega (arith, long, size_is, is.next_is, there)) in
    let next : line.next ≡ next_of at read = omega (arith, len, size_is, is.next_is) in
    record {
      there = record {
        within = omega (arith, next, is.next_is, there);
        same = line_stands text rest read.line.now at size rest_is line_is (omega (arith, long, size_is, is.next_is, there));
      };
      goes_on = λ before count. more_sent h text at before count line said is then
          ∙ ap (λ (n : ℕ). commands_among h (length text) (before ++ sent_of said ∷ []) count (lines_from text n)) next
          ∙ ap (λ (s : Sent). commands_among h (length text) (before ++ s ∷ []) count (lines_from text (next_of at read))) (sym sent_is);
      spelled = λ yes. let no' : false ≡ true = sym spelled_not ∙ yes in absurd (cc);
    }
