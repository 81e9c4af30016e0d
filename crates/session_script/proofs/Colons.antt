-- A line whose first field has a colon is no sender's.
use Rattle.std.proofs.Common.{ℕ, ◌≡◌, ◌≢◌, ◌+◌, ◌<◌, ◌&&◌, ◌||◌, not, Bool, true, false, cond, List, [], ◌∷◌, ◌++◌, refl, ap, sym, subst, ◌∙◌, arith, eqb, nat_lt, length, take, drop, get_or, filter, position, bytes_eq, codes, Option, None, Some, ⊎_elim}
use Rattle.std.specs.List.{position_or_len, slice_split, onto_first, list_all}
use Rattle.std.specs.Cmp.Lexicographic.{bytes_decides}
use Rattle.std.proofs.lemmas.Bool.{and_parts, and_from, cases_Bool, cond-false, ltb-true, lt-ltb, ne_eqb, false_from_ne_true, true≢false, false≢true}
use Rattle.std.proofs.lemmas.List.{length-take, get_or-take}
use Rattle.std.proofs.lemmas.List.Elements.{recursion_from_All}
use Rattle.std.proofs.lemmas.List.Splits.{slice_split-cons_no, length-slice_split}
use Rattle.std.proofs.lemmas.List.Sums.{fails_before_first, split_at_first}
use Rattle.std.proofs.lemmas.Option.{cond_some}
use Rattle.fx_text.specs.Fields.{fields_of, field_at, first_field, has_bytes, is_blank, is_comment, is_end}
use Rattle.fx_text.specs.Lines.{is_passed_over}
use Rattle.fx_text.specs.declared.line.Line.TheVariants.{Whole}
use Rattle.fx_rules.specs.Lists.{Each}
use Rattle.fx_rules.specs.Names.{is_name_byte}
use Rattle.fx_rules.specs.Session.{Header, IsSession, IsSender, bank_name}
use Rattle.order_lines.specs.Grammar.{command_line, or_bad}
use Rattle.order_lines.specs.Reading.{command_said}
use Rattle.order_lines.specs.Words.{is_operator, sender_name, sender_named}
use Rattle.order_lines.specs.declared.spoken.Spoken.{Spoken}
use Rattle.order_lines.specs.declared.spoken.Spoken.TheVariants.{Stray, End, Passed}
use Rattle.order_lines.proofs.SaidLines.{of_sender}
use Rattle.order_lines.proofs.SenderNames.{bank-name, operator-name, sender-bank, sender_named-ok}

-- a colon or a blank ends what can be a sender's name
abbrev pub ends_name : ℕ → Bool
ends_name byte = eqb byte 58 || is_blank byte

abbrev no_colon : ℕ → Bool
no_colon byte = not (eqb byte 58)

-- ---- a name without a colon

colon_in : (front part : List ℕ) → list_all no_colon (front ++ 58 ∷ part) ≡ false
colon_in [] part = refl
colon_in (byte ∷ front) part =
    ⊎_elim
    (λ (none : no_colon byte ≡ true). ap (λ b. b && list_all no_colon (front ++ 58 ∷ part)) none ∙ colon_in front part)
    (λ (is : no_colon byte ≡ false). ap (λ b. b && list_all no_colon (front ++ 58 ∷ part)) is)
    (cases_Bool (no_colon byte))

name_byte : (byte : ℕ) → is_name_byte byte ≡ true → no_colon byte ≡ true
name_byte byte is = ap not (ne_eqb byte 58 (λ same. true≢false (sym is ∙ ap is_name_byte same)))

name_bytes : (text : List ℕ) → list_all is_name_byte text ≡ true → list_all no_colon text ≡ true
name_bytes [] all = refl
name_bytes (byte ∷ text) all =
    let parts = and_parts (is_name_byte byte) (list_all is_name_byte text) all in
    and_from (no_colon byte) (list_all no_colon text) (name_byte byte parts.0) (name_bytes text parts.1)

sender_text : (h : Header) (sender : ℕ) → IsSession h → IsSender h sender → list_all no_colon (sender_name h sender) ≡ true
sender_text h sender session is =
    ⊎_elim
    (λ (operates : is_operator h sender ≡ true). ap (list_all no_colon) (operator-name h sender operates))
    (λ (none : is_operator h sender ≡ false).
    let valid = session.names sender [] (sender-bank h sender is none) in
    ap (list_all no_colon) (bank-name h sender none) ∙ name_bytes (bank_name h sender) (and_parts _ (list_all is_name_byte (bank_name h sender)) (and_parts _ _ valid).0).1)
    (cases_Bool (is_operator h sender))

not_some : {X : Type 0} (o : Option X) → ((x : X) → o ≡ Some x → ⊥) → o ≡ None
not_some None none = refl
not_some (Some x) none = absurd (none x refl)

-- ---- the first field of such a line

first_part : (parts : List (List ℕ)) → 0 < length parts → (part : List ℕ) × (more : List (List ℕ)) × (parts ≡ part ∷ more)
first_part [] some = absurd (omega arith)
first_part (part ∷ more) some = (part, more, refl)

begins : (front rest : List ℕ) → Each (λ byte. is_blank byte ≡ false) front → (part : List ℕ) × (more : List (List ℕ)) × (slice_split is_blank (front ++ 58 ∷ rest) ≡ (front ++ 58 ∷ part) ∷ more)
begins [] rest unbroken =
    let next = first_part (slice_split is_blank rest) (omega (arith, length-slice_split is_blank rest)) in
    (next.0, next.1, slice_split-cons_no is_blank 58 rest refl ∙ ap (onto_first 58) next.2)
begins (byte ∷ front) rest unbroken =
    let next = begins front rest unbroken.1 in
    (next.0, next.1, slice_split-cons_no is_blank byte (front ++ 58 ∷ rest) unbroken.0 ∙ ap (onto_first byte) next.2)

some_colon : (front part : List ℕ) → 0 < length (front ++ 58 ∷ part)
some_colon [] part = omega arith
some_colon (byte ∷ front) part = omega arith

first-byte : (front a b : List ℕ) → get_or (front ++ 58 ∷ a) 0 0 ≡ get_or (front ++ 58 ∷ b) 0 0
first-byte [] a b = refl
first-byte (byte ∷ front) a b = refl

-- the first field of a text that has a colon in front of its first blank
record IsParted (text : List ℕ) : Type 0 where
  pub front : List ℕ
  pub part : List ℕ
  pub more : List (List ℕ)
  pub fields : fields_of text ≡ (front ++ 58 ∷ part) ∷ more
  pub begin : get_or (front ++ 58 ∷ part) 0 0 ≡ get_or text 0 0

fields-colon : (front rest : List ℕ) → Each (λ byte. is_blank byte ≡ false) front → IsParted (front ++ 58 ∷ rest)
unfolding fields_of
fields-colon front rest unbroken =
    let next = begins front rest unbroken in
    record {
      front = front;
      part = next.0;
      more = filter has_bytes next.1;
      fields = ap (filter has_bytes) next.2 ∙ ap (λ b. cond b ((front ++ 58 ∷ next.0) ∷ filter has_bytes next.1) (filter has_bytes next.1)) (lt-ltb 0 (length (front ++ 58 ∷ next.0)) (some_colon front next.0));
      begin = first-byte front next.0 rest;
    }

fields-parted : (text : List ℕ) (at : ℕ) → position ends_name text ≡ Some at → get_or text at 0 ≡ 58 → IsParted text
fields-parted text at found colon =
    let here = cond_some (nat_lt (position_or_len ends_name text) (length text)) (position_or_len ends_name text) at found in
    let inside : position_or_len ends_name text < length text = ltb-true (position_or_len ends_name text) (length text) here.0 in
    let split : text ≡ take at text ++ 58 ∷ drop (at + 1) text =
    subst (λ n. text ≡ take n text ++ get_or text n 0 ∷ drop (n + 1) text) here.1 (split_at_first ends_name text 0 inside)
    ∙ ap (λ b. take at text ++ b ∷ drop (at + 1) text) colon in
    let unbroken : Each (λ byte. is_blank byte ≡ false) (take at text) =
    recursion_from_All (λ byte. is_blank byte ≡ false) (take at text)
    (λ k d before.
    let first : k < at = omega (arith, before, length-take at text) in
    ap is_blank (get_or-take at text k d first) ∙ neither (eqb (get_or text k d) 58) (is_blank (get_or text k d)) (fails_before_first ends_name text k d (omega (arith, here.1)))) in
    subst IsParted (sym split) (fields-colon (take at text) (drop (at + 1) text) unbroken)
  where
    neither : (a b : Bool) → (a || b) ≡ false → b ≡ false
    neither true b is = absurd (false≢true (sym is))
    neither false b is = is

-- ---- the line

stray-parted : (h : Header) (text : List ℕ) → IsSession h → IsParted text → get_or text 0 0 ≢ 35 → command_line h (Whole text) ≡ Stray
unfolding command_line
stray-parted h text session parted plain =
    let first : List ℕ = parted.front ++ 58 ∷ parted.part in
    let first_is : first_field text ≡ first = ap (λ fs. field_at fs 0) parted.fields in
    let colon : list_all no_colon first ≡ false = colon_in parted.front parted.part in
    let none : sender_named h (first_field text) ≡ None =
    not_some (sender_named h (first_field text)) (λ sender found.
    let named = sender_named-ok h (first_field text) sender session found in
    false≢true (sym colon ∙ ap (list_all no_colon) (sym first_is ∙ named.1) ∙ sender_text h sender session named.0)) in
    let not_end : is_end (fields_of text) ≡ false =
    false_from_ne_true (is_end (fields_of text)) (λ ends.
    let parts = and_parts (eqb (length (fields_of text)) 1) (bytes_eq (first_field text) (codes "END")) ends in
    false≢true (sym colon ∙ ap (list_all no_colon) (sym first_is ∙ (bytes_decides (first_field text) (codes "END")).0 parts.1))) in
    let kept : is_passed_over (Whole text) ≡ false =
    ap (λ (fs : List (List ℕ)). eqb (length fs) 0 || is_comment (field_at fs 0)) parted.fields
    ∙ ap (λ b. b || is_comment first) (ne_eqb (length (first ∷ parted.more)) 0 (λ is. omega arith))
    ∙ ne_eqb (get_or first 0 0) 35 (λ is. plain (sym parted.begin ∙ is)) in
    let sent : Spoken = of_sender (sender_named h (first_field text)) (λ who. or_bad (command_said h who (fields_of text))) in
    cond-false (is_passed_over (Whole text)) Passed (cond (is_end (fields_of text)) End sent) kept
    ∙ cond-false (is_end (fields_of text)) End sent not_end
    ∙ ap (λ (found : Option ℕ). of_sender found (λ who. or_bad (command_said h who (fields_of text)))) none

-- A line with a colon in its first field that is no comment is a stray.
pub stray-colon : (h : Header) (text : List ℕ) (at : ℕ) → IsSession h → position ends_name text ≡ Some at → get_or text at 0 ≡ 58 → get_or text 0 0 ≢ 35 → command_line h (Whole text) ≡ Stray
stray-colon h text at session found colon plain = stray-parted h text session (fields-parted text at found colon) plain
