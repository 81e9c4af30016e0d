-- The last lines of an output.
use Rattle.std.proofs.Common.{◌≡◌, ℕ, ◌+◌, ◌-◌, ◌^◌, ◌<◌, ◌≤◌, Bool, true, false, ◌||◌, List, [], ◌∷◌, ◌++◌, length, take, drop, codes, bytes_eq, Option, Some, None, is_some, refl, sym, ap, ap₂, ◌∙◌, subst, arith, eqb, inl, inr, suc, cond, append-nil, length-append, length-drop}
use Rattle.std.specs.Char.{is_ascii_digit}
use Rattle.std.specs.List.{list_all}
use Rattle.std.specs.Cmp.Lexicographic.{bytes_decides}
use Rattle.std.proofs.lemmas.Bool.{cases_Bool, cond-true, cond-false, and_parts, or_cases, eq-eqb, eqb-true, leb-true}
use Rattle.std.proofs.lemmas.List.{take-append-drop, nil_from_length}
use Rattle.std.proofs.lemmas.List.Elements.{All-nil, All-cons, All-append}
use Rattle.fx_amounts.specs.Numeral.{numeral}
use Rattle.fx_amounts.proofs.NumeralLemmas.{IsNumeralOf-numeral}
use Rattle.fx_text.specs.Number.{number_of}
use Rattle.fx_text.specs.Lines.{parts_of, all_but_last}
use Rattle.fx_text.proofs.NumberLemmas.{number_of-numeral, Reads, Reads-number_of}
use Rattle.reply_lines.specs.Output.{strays_line, ending_line, last_text}
use Rattle.reply_lines.specs.declared.output.Ending.{Ending}
use Rattle.reply_lines.specs.declared.output.Ending.TheVariants.{End, Cut, Read, Much}
use Rattle.journal_check.specs.Lines.{LineAt, behind, placed, lines_from}
use Rattle.journal_check.specs.Verdict.{yes, is_strays, is_ending, ending_in, last_in}
use Rattle.journal_check.specs.declared.check.Verdict.{Verdict}
use Rattle.journal_check.specs.declared.check.Verdict.TheVariants.{No}
use Rattle.journal_check.proofs.LineLemmas.{parts_of-line, begins_with}
use Rattle.journal_check.proofs.Walking.{IsPlain, unbroken, IsAt-plain, ended}

-- What they are

abbrev pub strays_part : ℕ → List ℕ
strays_part strays = codes "STRAYS " ++ numeral strays

abbrev pub ending_part : Ending → List ℕ
ending_part End = codes "END"
ending_part Cut = codes "CUT"
ending_part Read = codes "READ"
ending_part Much = codes "MUCH"

ending_line-part : (ending : Ending) → ending_line ending ≡ ending_part ending ++ 10 ∷ []
unfolding ending_line
ending_line-part End = refl
ending_line-part Cut = refl
ending_line-part Read = refl
ending_line-part Much = refl

strays_line-part : (strays : ℕ) → strays_line strays ≡ strays_part strays ++ 10 ∷ []
unfolding strays_line
strays_line-part strays = ap (λ (t : List ℕ). codes "STRAYS " ++ (t ++ 10 ∷ [])) (append-nil (numeral strays))

pub last_text-parts : (strays : ℕ) (ending : Ending) → last_text strays ending ≡ strays_part strays ++ 10 ∷ (ending_part ending ++ 10 ∷ [])
unfolding last_text
last_text-parts strays ending =
    ap₂ (λ (a b : List ℕ). a ++ b) (strays_line-part strays) (ending_line-part ending) ∙ ended (strays_part strays) (ending_part ending ++ 10 ∷ [])

digits_plain : (text : List ℕ) → ((byte : ℕ) → is_ascii_digit byte ≡ true → 32 ≤ byte) → list_all is_ascii_digit text ≡ true → IsPlain text
digits_plain [] each all = All-nil (λ byte. 32 ≤ byte)
digits_plain (byte ∷ text) each all =
    let parts = and_parts (is_ascii_digit byte) (list_all is_ascii_digit text) all in
    All-cons (λ byte. 32 ≤ byte) byte text (each byte parts.0) (digits_plain text each parts.1)

digit_plain : (byte : ℕ) → is_ascii_digit byte ≡ true → 32 ≤ byte
digit_plain byte digit = let it = and_parts _ _ digit in let least : 48 ≤ byte = leb-true 48 byte it.0 in omega arith

pub numeral_plain : (n : ℕ) → IsPlain (numeral n)
numeral_plain n = digits_plain (numeral n) digit_plain (IsNumeralOf-numeral n).digits

strays_word : IsPlain (codes "STRAYS ")
strays_word =
    All-cons (λ byte. 32 ≤ byte) 83 (codes "TRAYS ") (omega arith) (All-cons (λ byte. 32 ≤ byte) 84 (codes "RAYS ") (omega arith) (All-cons (λ byte. 32 ≤ byte) 82 (codes "AYS ") (omega arith)
    (All-cons (λ byte. 32 ≤ byte) 65 (codes "YS ") (omega arith) (All-cons (λ byte. 32 ≤ byte) 89 (codes "S ") (omega arith) (All-cons (λ byte. 32 ≤ byte) 83 (codes " ") (omega arith)
    (All-cons (λ byte. 32 ≤ byte) 32 [] (omega arith) (All-nil (λ byte. 32 ≤ byte))))))))

pub strays_plain : (strays : ℕ) → IsPlain (strays_part strays)
strays_plain strays = All-append (λ byte. 32 ≤ byte) (codes "STRAYS ") (numeral strays) strays_word (numeral_plain strays)

three : (a b c : ℕ) → 32 ≤ a → 32 ≤ b → 32 ≤ c → IsPlain (a ∷ b ∷ c ∷ [])
three a b c first second third = All-cons (λ byte. 32 ≤ byte) a (b ∷ c ∷ []) first (All-cons (λ byte. 32 ≤ byte) b (c ∷ []) second (All-cons (λ byte. 32 ≤ byte) c [] third (All-nil (λ byte. 32 ≤ byte))))

pub ending_plain : (ending : Ending) → IsPlain (ending_part ending)
ending_plain End = three 69 78 68 (omega arith) (omega arith) (omega arith)
ending_plain Cut = three 67 85 84 (omega arith) (omega arith) (omega arith)
ending_plain Read = All-cons (λ byte. 32 ≤ byte) 82 (codes "EAD") (omega arith) (three 69 65 68 (omega arith) (omega arith) (omega arith))
ending_plain Much = All-cons (λ byte. 32 ≤ byte) 77 (codes "UCH") (omega arith) (three 85 67 72 (omega arith) (omega arith) (omega arith))

-- They are taken

strays_taken : (strays : ℕ) → strays < 2 ^ 64 → is_strays (strays_part strays) ≡ true
strays_taken strays few = ap is_some (number_of-numeral 0 (2 ^ 64 - 1) strays (omega arith) (omega arith))

ending_taken : (ending : Ending) → is_ending (ending_part ending) ≡ true
ending_taken End = refl
ending_taken Cut = refl
ending_taken Read = refl
ending_taken Much = refl

last_in-strays : (end : ℕ) (line : LineAt) (more : List LineAt) → is_strays line.part ≡ true → last_in end (line ∷ more) ≡ ending_in end more
unfolding last_in
last_in-strays end line more is = cond-true (is_strays line.part) _ _ is

ending_in-end : (end : ℕ) (line : LineAt) (more : List LineAt) → is_ending line.part ≡ true → behind line ≡ end → ending_in end (line ∷ more) ≡ yes
ending_in-end end line more is ends = cond-true (is_ending line.part) _ _ is ∙ cond-true (eqb (behind line) end) _ _ (eq-eqb (behind line) end ends)

pub last_taken : (text : List ℕ) (at strays : ℕ) (ending : Ending) → at ≤ length text → strays < 2 ^ 64 → drop at text ≡ last_text strays ending → last_in (length text) (lines_from text at) ≡ yes
last_taken text at strays ending within few there =
    let first : List ℕ = strays_part strays in
    let second : List ℕ = ending_part ending in
    let here : drop at text ≡ first ++ 10 ∷ (second ++ 10 ∷ []) = there ∙ last_text-parts strays ending in
    let one = IsAt-plain text at first (second ++ 10 ∷ []) here (strays_plain strays) in
    let two = IsAt-plain text (at + length first + 1) second [] one.rest (ending_plain ending) in
    let size : length (drop at text) ≡ length first + suc (length second + 1) = ap length here ∙ length-append first (10 ∷ (second ++ 10 ∷ [])) ∙ ap (λ (n : ℕ). length first + suc n) (length-append second (10 ∷ [])) in
    let ends : at + length first + 1 + length second + 1 ≡ length text = omega (arith, size, length-drop at text) in
    ap (last_in (length text)) one.line
    ∙ last_in-strays (length text) (record { at = at; part = first }) (lines_from text (at + length first + 1)) (strays_taken strays few)
    ∙ ap (ending_in (length text)) two.line
    ∙ ending_in-end (length text) (record { at = at + length first + 1; part = second }) (lines_from text (at + length first + 1 + length second + 1)) (ending_taken ending) ends

-- Nothing else is taken

record IsStrays (part : List ℕ) : Type 0 where
  strays : ℕ
  few : strays < 2 ^ 64
  is : part ≡ strays_part strays

strays_read : (part : List ℕ) (read : Option ℕ) → take 7 part ≡ codes "STRAYS " → number_of 0 (2 ^ 64 - 1) (drop 7 part) ≡ read → is_some read ≡ true → IsStrays part
strays_read part None word is some = absurd cc
strays_read part (Some strays) word is some =
    let reads : Reads 0 (2 ^ 64 - 1) (drop 7 part) (Some strays) = subst (λ (read : Option ℕ). Reads 0 (2 ^ 64 - 1) (drop 7 part) read) is (Reads-number_of 0 (2 ^ 64 - 1) (drop 7 part)) in
    let most : strays ≤ 2 ^ 64 - 1 = reads.most in
    let spelling : drop 7 part ≡ numeral strays = reads.spelling in
    record { strays = strays; few = omega arith; is = sym (take-append-drop 7 part) ∙ ap₂ (λ (a b : List ℕ). a ++ b) word spelling }

strays_are : (part : List ℕ) → is_strays part ≡ true → IsStrays part
strays_are part is =
    let both = and_parts (bytes_eq (take 7 part) (codes "STRAYS ")) (is_some (number_of 0 (2 ^ 64 - 1) (drop 7 part))) is in
    strays_read part (number_of 0 (2 ^ 64 - 1) (drop 7 part)) ((bytes_decides (take 7 part) (codes "STRAYS ")).0 both.0) refl both.1

ending_is : (part : List ℕ) → is_ending part ≡ true → (ending : Ending) × (part ≡ ending_part ending)
ending_is part is = elim (or_cases (bytes_eq part (codes "END") || bytes_eq part (codes "CUT") || bytes_eq part (codes "READ")) (bytes_eq part (codes "MUCH")) is) [
  | inr much ↦ (Much, (bytes_decides part (codes "MUCH")).0 much)
  | inl three ↦ elim (or_cases (bytes_eq part (codes "END") || bytes_eq part (codes "CUT")) (bytes_eq part (codes "READ")) three) [
    | inr read ↦ (Read, (bytes_decides part (codes "READ")).0 read)
    | inl two ↦ elim (or_cases (bytes_eq part (codes "END")) (bytes_eq part (codes "CUT")) two) [
      | inl end ↦ (End, (bytes_decides part (codes "END")).0 end)
      | inr cut ↦ (Cut, (bytes_decides part (codes "CUT")).0 cut)
    ]
  ]
]

record EndsWith (end at : ℕ) (parts : List (List ℕ)) : Type 0 where
  part : List ℕ
  more : List (List ℕ)
  are : parts ≡ part ∷ more
  is : is_ending part ≡ true
  ends : at + length part + 1 ≡ end

abbrev if_end : Bool → ℕ → Verdict
if_end b next = cond b yes (No next)

is_end : (b : Bool) (next : ℕ) → if_end b next ≡ yes → b ≡ true
is_end true next same = refl
is_end false next same = absurd cc

ends_with : (end at : ℕ) (parts : List (List ℕ)) → ending_in end (placed at parts) ≡ yes → EndsWith end at parts
ends_with end at [] taken = absurd cc
ends_with end at (part ∷ more) taken = elim (cases_Bool (is_ending part)) [
  | inr other ↦ let wrong : No at ≡ yes = sym (cond-false (is_ending part) _ (No at) other) ∙ taken in absurd cc
  | inl is ↦ let inner : (if_end (eqb (at + length part + 1) end) (at + length part + 1)) ≡ yes = sym (cond-true (is_ending part) _ (No at) is) ∙ taken in
      record { part = part; more = more; are = refl; is = is; ends = eqb-true (at + length part + 1) end (is_end (eqb (at + length part + 1) end) (at + length part + 1) inner) }
]

-- a text that is the last lines of an output
pub record IsLast (text : List ℕ) : Type 0 where
  pub strays : ℕ
  pub ending : Ending
  pub few : strays < 2 ^ 64
  pub is : text ≡ last_text strays ending

last_by : (end at : ℕ) (rest : List ℕ) (parts : List (List ℕ)) → end ≡ at + length rest → all_but_last (parts_of rest) ≡ parts → last_in end (placed at parts) ≡ yes → IsLast rest
unfolding last_in
last_by end at rest [] size are taken = absurd cc
last_by end at rest (part ∷ more) size are taken = elim (cases_Bool (is_strays part)) [
  | inr other ↦ let wrong : No at ≡ yes = sym (cond-false (is_strays part) _ (No at) other) ∙ taken in absurd cc
  | inl is ↦
      let line : LineAt = record { at = at; part = part } in
      let inner : ending_in end (placed (at + length part + 1) more) ≡ yes = sym (cond-true (is_strays part) _ (No at) is) ∙ taken in
      let ends = ends_with end (at + length part + 1) more inner in
      let first = begins_with rest part more are in
      let second = begins_with first.rest ends.part ends.more (first.parts ∙ ends.are) in
      let strays = strays_are part is in
      let ending = ending_is ends.part ends.is in
      let outer_size : length rest ≡ length part + suc (length first.rest) = ap length first.joined ∙ length-append part (10 ∷ first.rest) in
      let inner_size : length first.rest ≡ length ends.part + suc (length second.rest) = ap length second.joined ∙ length-append ends.part (10 ∷ second.rest) in
      let nothing : second.rest ≡ [] = nil_from_length second.rest (omega (arith, outer_size, inner_size, ends.ends, size)) in
      let joined : rest ≡ strays_part strays.strays ++ 10 ∷ (ending_part ending.0 ++ 10 ∷ []) =
      first.joined ∙ ap₂ (λ (a b : List ℕ). a ++ 10 ∷ b) strays.is (second.joined ∙ ap₂ (λ (a b : List ℕ). a ++ 10 ∷ b) ending.1 nothing) in
      record { strays = strays.strays; ending = ending.0; few = strays.few; is = joined ∙ sym (last_text-parts strays.strays ending.0) }
]

pub last_only : (text : List ℕ) (at : ℕ) → at ≤ length text → last_in (length text) (lines_from text at) ≡ yes → IsLast (drop at text)
unfolding lines_from
last_only text at within taken =
    let size : length text ≡ at + length (drop at text) = omega (arith, length-drop at text) in
    last_by (length text) at (drop at text) (all_but_last (parts_of (drop at text))) size refl taken

-- The last lines tell the strays and the ending

pub same_number : (n m : ℕ) → numeral n ≡ numeral m → n ≡ m
same_number n m same =
    let one : number_of 0 (n + m) (numeral n) ≡ Some n = number_of-numeral 0 (n + m) n (omega arith) (omega arith) in
    let other : number_of 0 (n + m) (numeral m) ≡ Some m = number_of-numeral 0 (n + m) m (omega arith) (omega arith) in
    let both : Some n ≡ Some m = sym one ∙ ap (number_of 0 (n + m)) same ∙ other in
    cc

first_byte : List ℕ → ℕ
first_byte [] = 0
first_byte (byte ∷ more) = byte

abbrev by_byte : ℕ → Ending
by_byte byte = cond (eqb byte 69) End (cond (eqb byte 67) Cut (cond (eqb byte 82) Read Much))

by_first : (ending : Ending) → by_byte (first_byte (ending_part ending)) ≡ ending
unfolding first_byte
by_first End = refl
by_first Cut = refl
by_first Read = refl
by_first Much = refl

same_ending : (ending other : Ending) → ending_part ending ≡ ending_part other → ending ≡ other
same_ending ending other same = sym (by_first ending) ∙ ap (λ (part : List ℕ). by_byte (first_byte part)) same ∙ by_first other

two_apart : (a b c d : List ℕ) → a ∷ b ∷ [] ≡ c ∷ d ∷ [] → (a ≡ c) × (b ≡ d)
two_apart a b c d same = (cc, cc)

last_parts : (strays : ℕ) (ending : Ending) → all_but_last (parts_of (last_text strays ending)) ≡ strays_part strays ∷ ending_part ending ∷ []
last_parts strays ending =
    ap (λ (text : List ℕ). all_but_last (parts_of text)) (last_text-parts strays ending)
    ∙ parts_of-line (strays_part strays) (ending_part ending ++ 10 ∷ []) (unbroken (strays_part strays) (strays_plain strays))
    ∙ ap (λ (parts : List (List ℕ)). strays_part strays ∷ parts) (parts_of-line (ending_part ending) [] (unbroken (ending_part ending) (ending_plain ending)))

pub last_agrees : (strays others : ℕ) (ending other : Ending) → last_text strays ending ≡ last_text others other → (strays ≡ others) × (ending ≡ other)
last_agrees strays others ending other same =
    let parts = two_apart (strays_part strays) (ending_part ending) (strays_part others) (ending_part other)
    (sym (last_parts strays ending) ∙ ap (λ (text : List ℕ). all_but_last (parts_of text)) same ∙ last_parts others other) in
    (same_number strays others (ap (drop 7) parts.0), same_ending ending other parts.1)
