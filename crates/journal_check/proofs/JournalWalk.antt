-- The journal of a history is read as its commands.
use Rattle.std.proofs.Common.{◌≡◌, ℕ, suc, ◌+◌, ◌-◌, ◌^◌, ◌<◌, ◌≤◌, ◌==◌, ◌&&◌, if◌then◌else◌, bytes_eq, true, List, [], ◌∷◌, ◌++◌, length, map, take, drop, codes, Some, None, Option, Ok, refl, sym, ap, ap₂, ◌∙◌, subst, arith, length-append, length-drop, append_assoc, append-nil, leb, inl, inr}
use Rattle.std.specs.Str.Lines.{strip_carriage_return}
use Rattle.std.proofs.lemmas.Bool.{cases_Bool, leb-true, cond-true, cond-false}
use Rattle.fx_amounts.specs.Numeral.{numeral}
use Rattle.fx_text.specs.Fields.{first_field, field_at}
use Rattle.fx_text.specs.Number.{number_of}
use Rattle.fx_text.specs.Lines.{line_of}
use Rattle.fx_text.specs.declared.line.Line.{Line}
use Rattle.fx_text.specs.declared.line.Line.TheVariants.{Whole, Long}
use Rattle.fx_text.proofs.NumberLemmas.{number_of-numeral}
use Rattle.fx_rules.specs.Session.{Header, IsSession}
use Rattle.fx_rules.specs.declared.outcome.Entry.{Entry}
use Rattle.order_lines.specs.Spelling.{command_text_of}
use Rattle.fx_text.proofs.FieldTexts.{IsField-tested, IsField-numeral}
use Rattle.fx_text.proofs.JoinedFields.{fields_of-join, join-visible, length-join, IsField}
use Rattle.order_lines.proofs.WrittenCommands.{IsWritten-command}
use Rattle.reply_lines.specs.inside.Journals.{count_line}
use Rattle.reply_lines.specs.Output.{entry_line}
use Rattle.std.specs.List.{flat_map, join_with_byte, AllByRecursion}
use Rattle.journal_check.specs.Lines.{LineAt, lines_from}
use Rattle.fx_rules.specs.declared.command.Command.{Command}
use Rattle.fx_rules.specs.declared.command.Sent.{Sent}
use Rattle.journal_check.specs.Listed.{most_entries, count_told, count_among, commands_among}
use Rattle.fx_rules.specs.Sending.{IsSentOf, sent_by}
use Rattle.journal_check.specs.declared.journal.ReadSent.{ReadSent}
use Rattle.journal_check.specs.inside.Stops.{SaysAt, next_of}
use Rattle.std.proofs.lemmas.List.{take_at}
use Rattle.journal_check.proofs.JournalLemmas.{counted, followed, count_among-short, commands_among-short, commands_among-all, line_stands}
use Rattle.journal_check.proofs.Walking.{IsPlain, IsAt-plain, short_line, line_of-plain, ended}
use Rattle.journal_check.proofs.Histories.{AreSentOf}

-- The line that tells how many entries there are

count_fields : ℕ → List (List ℕ)
count_fields n = codes "JOURNAL" ∷ numeral n ∷ []

count_part : ℕ → List ℕ
count_part n = join_with_byte 32 (count_fields n)

journal_word : IsField (codes "JOURNAL")
journal_word = IsField-tested (codes "JOURNAL") refl

are_fields : (n : ℕ) → n < 10 ^ 20 → AllByRecursion IsField (count_fields n)
unfolding count_fields
are_fields n small = (journal_word, (IsField-numeral n small, tt))

-- the line, as it is written
count_line-part : (n : ℕ) → count_line n ≡ count_part n ++ 10 ∷ []
unfolding count_line count_part count_fields
count_line-part n = ap (λ (t : List ℕ). codes "JOURNAL" ++ 32 ∷ t ++ 10 ∷ []) (append-nil (numeral n)) ∙ sym (append_assoc (codes "JOURNAL") (32 ∷ numeral n) (10 ∷ []))

-- what the fields of a line tell
abbrev count_in : List (List ℕ) → Option ℕ
count_in fields = if (length fields == 2) && bytes_eq (field_at fields 0) (codes "JOURNAL") then number_of 0 most_entries (field_at fields 1) else None

told : (n : ℕ) → n < 10 ^ 20 → n ≤ most_entries → count_told (Whole (count_part n)) ≡ Some n
unfolding count_part count_fields
told n small few =
    ap (count_in) (fields_of-join (codes "JOURNAL" ∷ numeral n ∷ []) (omega arith) (are_fields n small))
    ∙ number_of-numeral 0 most_entries n (omega arith) few

count_short : (n : ℕ) → n < 10 ^ 20 → length (count_part n) ≤ 256
unfolding count_part count_fields
count_short n small = omega (arith, length-join (codes "JOURNAL" ∷ numeral n ∷ []) (are_fields n small))

count_plain : (n : ℕ) → n < 10 ^ 20 → IsPlain (count_part n)
unfolding count_part
count_plain n small = join-visible (count_fields n) (are_fields n small)

-- a text in which the journal's first line stands at an offset
pub record CountsAt (end : ℕ) (text : List ℕ) (at n : ℕ) (more : List ℕ) : Type 0 where
  pub behind : ℕ
  pub count : count_among end (lines_from text at) ≡ Ok (record { entries = n; next = behind })
  pub rest : drop behind text ≡ more

pub counts_at : (end : ℕ) (text : List ℕ) (at n : ℕ) (more : List ℕ) → n < 10 ^ 20 → n ≤ most_entries → drop at text ≡ count_line n ++ more → CountsAt end text at n more
counts_at end text at n more small few there =
    let part : List ℕ = count_part n in
    let here : drop at text ≡ part ++ 10 ∷ more = there ∙ ap (λ (t : List ℕ). t ++ more) (count_line-part n) ∙ ended part more in
    let flat = count_plain n small in
    let on = IsAt-plain text at part more here flat in
    record {
      behind = at + length part + 1;
      count = ap (count_among end) on.line
          ∙ count_among-short end (record { at = at; part = part }) (lines_from text (at + length part + 1)) (short_line at part (count_short n small))
          ∙ ap (λ (l : Line). counted (record { at = at; part = part }) (count_told l)) (line_of-plain part flat (count_short n small))
          ∙ ap (counted (record { at = at; part = part })) (told n small few);
      rest = on.rest;
    }

-- The entries

whole_length : (part : List ℕ) → Whole (strip_carriage_return part) ≡ Whole part → leb (length (strip_carriage_return part)) 256 ≡ true → length part ≤ 256
whole_length part same few =
    let stripped : strip_carriage_return part ≡ part = cc in
    subst (λ (t : List ℕ). length t ≤ 256) stripped (leb-true (length (strip_carriage_return part)) 256 few)

whole_short : (part : List ℕ) → line_of part ≡ Whole part → length part ≤ 256
unfolding line_of
whole_short part whole = elim (cases_Bool (leb (length (strip_carriage_return part)) 256)) [
  | inl few ↦ let same : Whole (strip_carriage_return part) ≡ Whole part = sym (cond-true _ _ _ few) ∙ whole in whole_length part same few
  | inr long ↦ let same : Long (first_field (take 256 (strip_carriage_return part))) ≡ Whole part = sym (cond-false _ _ _ long) ∙ whole in absurd cc
]

-- a text that goes on from an offset with the line of a command in its one spelling
pub sent_at_line : (h : Header) (end : ℕ) (text rest : List ℕ) (at : ℕ) (before : List Sent) (count : ℕ) (sent : Sent) → IsSession h → IsSentOf h sent → drop at text ≡ command_text_of h sent.bank sent.command ++ 10 ∷ rest
    → commands_among h end before (suc count) (lines_from text at) ≡ commands_among h end (before ++ sent ∷ []) count (lines_from text (at + length (command_text_of h sent.bank sent.command) + 1))
sent_at_line h end text rest at before count sent session valid here =
    let part : List ℕ = command_text_of h sent.bank sent.command in
    let written = IsWritten-command h sent.bank sent.command session valid.command in
    let on = IsAt-plain text at part rest here written.visible in
    let line : LineAt = record { at = at; part = part } in
    ap (commands_among h end before (suc count)) on.line
    ∙ commands_among-short h end before count line (lines_from text (at + length part + 1)) (short_line at part (whole_short part written.whole))
    ∙ ap (λ (said : Option (ℕ × Command)). followed line said (λ one. commands_among h end (before ++ one ∷ []) count (lines_from text (at + length part + 1)))) written.read_back

pub entries_at : (h : Header) (end : ℕ) (text more : List ℕ) (entries : List Entry) (at : ℕ) (before : List Sent) → IsSession h → AreSentOf h entries → drop at text ≡ flat_map (entry_line h) entries ++ more
    → commands_among h end before (length entries) (lines_from text at) ≡ Ok (before ++ map sent_by entries)
entries_at h end text more [] at before session are there = commands_among-all h end before 0 (lines_from text at) refl ∙ ap (λ (s : List Sent). Ok s) (sym (append-nil before))
entries_at h end text more (e ∷ es) at before session are there =
    let part : List ℕ = command_text_of h e.bank e.command in
    let rest : List ℕ = flat_map (entry_line h) es ++ more in
    let here : drop at text ≡ part ++ 10 ∷ rest = there ∙ append_assoc (part ++ 10 ∷ []) (flat_map (entry_line h) es) more ∙ ended part rest in
    let written = IsWritten-command h e.bank e.command session are.0.command in
    sent_at_line h end text rest at before (length es) (sent_by e) session are.0 here
    ∙ entries_at h end text more es (at + length part + 1) (before ++ sent_by e ∷ []) session are.1 (IsAt-plain text at part rest here written.visible).rest
    ∙ ap (λ (s : List Sent). Ok s) (append_assoc before (sent_by e ∷ []) (map sent_by es))

-- what was read in its one spelling says its command
pub spelled_says : (h : Header) (text rest behind : List ℕ) (at size : ℕ) (read : ReadSent) → IsSession h → IsSentOf h read.sent → at ≤ length text → rest ≡ drop at text
    → rest ≡ command_text_of h read.sent.bank read.sent.command ++ 10 ∷ behind → size ≡ length rest - length behind → read.line.now ≡ take size rest → SaysAt h text at read
spelled_says h text rest behind at size read session valid within rest_is is size_is line_is =
    let part : List ℕ = command_text_of h read.sent.bank read.sent.command in
    let whole : rest ≡ (part ++ 10 ∷ []) ++ behind = is ∙ sym (append_assoc part (10 ∷ []) behind) in
    let long : length rest ≡ length part + suc (length behind) = ap length is ∙ length-append part (10 ∷ behind) in
    let front : read.line.now ≡ part ++ 10 ∷ [] = line_is ∙ ap₂ (λ (n : ℕ) (xs : List ℕ). take n xs) (let it : size ≡ length part + 1 = omega (arith, size_is, long) in it) whole
    ∙ take_at (part ++ 10 ∷ []) behind (length part + 1) (length-append part (10 ∷ [])) in
    let next_is : next_of at read ≡ at + length part + 1 = omega (arith, ap length front, length-append part (10 ∷ [])) in
    record {
      there = record {
        within = omega (arith, next_is, long, ap length rest_is, length-drop at text, within);
        same = line_stands text rest read.line.now at size rest_is line_is (omega (arith, size_is));
      };
      goes_on = λ before count. sent_at_line h (length text) text behind at before count read.sent session valid (sym rest_is ∙ is)
          ∙ ap (λ (n : ℕ). commands_among h (length text) (before ++ read.sent ∷ []) count (lines_from text n)) (sym next_is);
      spelled = λ _. front;
    }
