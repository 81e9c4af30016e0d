-- The lines of a text from an offset on.
use Rattle.std.proofs.Common.{◌≡◌, ℕ, ◌+◌, ◌-◌, ◌<◌, ◌≤◌, Bool, true, false, List, [], ◌∷◌, ◌++◌, length, take, drop, get_or, position, Option, Some, None, refl, sym, ap, ◌∙◌, subst, arith, eqb, ⊎_elim, length-drop}
use Rattle.std.specs.List.{All}
use Rattle.std.specs.Str.Lines.{strip_carriage_return}
use Rattle.std.proofs.lemmas.Bool.{cases_Bool, cond-true, cond-false, eqb-true, le-leb}
use Rattle.std.proofs.lemmas.List.{length-take, get_or-take, get_or_default, take-append-drop, drop-drop, drop_more}
use Rattle.std.proofs.lemmas.List.Quantifiers.{position-Some}
use Rattle.std.proofs.lemmas.List.Splits.{slice_split_none, slice_split_at, length-slice_split}
use Rattle.fx_text.specs.Lines.{parts_of, all_but_last, line_of}
use Rattle.fx_text.specs.declared.line.Line.TheVariants.{Whole}
use Rattle.session_head.proofs.StatementLemmas.{none_passes}
use Rattle.journal_check.specs.Lines.{placed, lines_from}
use Rattle.journal_check.specs.inside.Stops.{IsLineAt}

abbrev pub is_line_feed : ℕ → Bool
is_line_feed byte = eqb byte 10

some_parts : (text : List ℕ) → 0 < length (parts_of text)
some_parts text = omega (arith, length-slice_split is_line_feed text)

keeps_first : (part : List ℕ) (parts : List (List ℕ)) → 0 < length parts → all_but_last (part ∷ parts) ≡ part ∷ all_but_last parts
keeps_first part [] some = absurd (omega arith)
keeps_first part (second ∷ more) some = refl

-- a part of a text that a line feed ends
pub parts_of-line : (part more : List ℕ) → All (λ byte. is_line_feed byte ≡ false) part → all_but_last (parts_of (part ++ 10 ∷ more)) ≡ part ∷ all_but_last (parts_of more)
parts_of-line part more unbroken =
    ap all_but_last (slice_split_at is_line_feed part 10 more unbroken refl) ∙ keeps_first part (parts_of more) (some_parts more)

-- no line feed follows
lines_from-none : (text : List ℕ) (at : ℕ) → position is_line_feed (drop at text) ≡ None → lines_from text at ≡ []
unfolding lines_from
lines_from-none text at none =
    ap (λ (parts : List (List ℕ)). placed at (all_but_last parts)) (slice_split_none is_line_feed (drop at text) (none_passes is_line_feed (drop at text) none))

pub line_missing : (text rest : List ℕ) (at : ℕ) → rest ≡ drop at text → None ≡ position is_line_feed rest → lines_from text at ≡ []
line_missing text rest at is none = lines_from-none text at (ap (position is_line_feed) (sym is) ∙ sym none)

-- the first line feed follows behind so many bytes
cut : (text : List ℕ) (i : ℕ) → i < length text → get_or text i 0 ≡ 10 → text ≡ take i text ++ 10 ∷ drop (i + 1) text
cut text i within is =
    sym (take-append-drop i text) ∙ ap (λ (rest : List ℕ). take i text ++ rest) (drop_more text i 0 within)
    ∙ ap (λ (byte : ℕ). take i text ++ byte ∷ drop (i + 1) text) is

front_unbroken : (text : List ℕ) (i : ℕ) → i < length text → ((k : ℕ) → k < i → is_line_feed (get_or text k 0) ≡ false) → All (λ byte. is_line_feed byte ≡ false) (take i text)
front_unbroken text i within none k d below =
    let less : k < i = omega (arith, length-take i text) in
    subst (λ (byte : ℕ). is_line_feed byte ≡ false) (sym (get_or-take i text k d less ∙ get_or_default text k d 0 (omega arith))) (none k less)

lines_from-some : (text : List ℕ) (at i : ℕ) → at ≤ length text → position is_line_feed (drop at text) ≡ Some i → IsLineAt text at (take i (drop at text))
unfolding lines_from
lines_from-some text at i within is =
    let rest : List ℕ = drop at text in
    let part : List ℕ = take i rest in
    let it = position-Some is_line_feed rest i 0 is in
    let inside : i < length rest = it.0 in
    let size : length part ≡ i = omega (arith, length-take i rest) in
    let split : all_but_last (parts_of rest) ≡ part ∷ all_but_last (parts_of (drop (i + 1) rest)) =
    ap (λ (t : List ℕ). all_but_last (parts_of t)) (cut rest i inside (eqb-true (get_or rest i 0) 10 it.1))
    ∙ parts_of-line part (drop (i + 1) rest) (front_unbroken rest i inside it.2) in
    let behind : at + (i + 1) ≡ at + length part + 1 = omega (arith, size) in
    let onward : drop (i + 1) rest ≡ drop (at + length part + 1) text =
    drop-drop (i + 1) at text ∙ ap (λ (n : ℕ). drop n text) behind in
    record {
      within = omega (arith, size, length-drop at text, inside);
      lines = ap (placed at) split
          ∙ ap (λ (t : List ℕ). record { at = at; part = part } ∷ placed (at + length part + 1) (all_but_last (parts_of t))) onward;
    }

pub line_found : (text rest part : List ℕ) (at i : ℕ) → at ≤ length text → rest ≡ drop at text → Some i ≡ position is_line_feed rest → part ≡ take i rest → IsLineAt text at part
line_found text rest part at i within is found part_is =
    subst (IsLineAt text at) (sym (part_is ∙ ap (take i) is)) (lines_from-some text at i within (ap (position is_line_feed) (sym is) ∙ sym found))

-- the first part of a text that a line feed ends, and the text behind it
split_at : (text : List ℕ) (i : ℕ) → position is_line_feed text ≡ Some i → (text ≡ take i text ++ 10 ∷ drop (i + 1) text) × (all_but_last (parts_of text) ≡ take i text ∷ all_but_last (parts_of (drop (i + 1) text)))
split_at text i is =
    let it = position-Some is_line_feed text i 0 is in
    let joined : text ≡ take i text ++ 10 ∷ drop (i + 1) text = cut text i it.0 (eqb-true (get_or text i 0) 10 it.1) in
    (joined, ap (λ (t : List ℕ). all_but_last (parts_of t)) joined ∙ parts_of-line (take i text) (drop (i + 1) text) (front_unbroken text i it.0 it.2))

pub record BeginsWith (text part : List ℕ) (more : List (List ℕ)) : Type 0 where
  pub rest : List ℕ
  pub joined : text ≡ part ++ 10 ∷ rest
  pub parts : all_but_last (parts_of rest) ≡ more

same_parts : (p q : List ℕ) (more others : List (List ℕ)) → p ∷ more ≡ q ∷ others → (p ≡ q) × (more ≡ others)
same_parts p q more others same = (cc, cc)

begins_by : (text part : List ℕ) (more : List (List ℕ)) (place : Option ℕ) → position is_line_feed text ≡ place → all_but_last (parts_of text) ≡ part ∷ more → BeginsWith text part more
begins_by text part more None none is =
    let no_parts : all_but_last (parts_of text) ≡ [] = ap all_but_last (slice_split_none is_line_feed text (none_passes is_line_feed text none)) in
    absurd cc
begins_by text part more (Some i) some is =
    let it = split_at text i some in
    let same = same_parts (take i text) part (all_but_last (parts_of (drop (i + 1) text))) more (sym it.1 ∙ is) in
    record { rest = drop (i + 1) text; joined = it.0 ∙ ap (λ (p : List ℕ). p ++ 10 ∷ drop (i + 1) text) same.0; parts = same.1 }

pub begins_with : (text part : List ℕ) (more : List (List ℕ)) → all_but_last (parts_of text) ≡ part ∷ more → BeginsWith text part more
begins_with text part more is = begins_by text part more (position is_line_feed text) refl is

-- a part that is not long is a whole line
stripped : (part : List ℕ) → length (strip_carriage_return part) ≤ length part
stripped part = ⊎_elim
    (λ (ends : eqb (get_or part (length part - 1) 0) 13 ≡ true). let is : strip_carriage_return part ≡ take (length part - 1) part = cond-true _ _ _ ends in omega (arith, ap length is, length-take (length part - 1) part))
    (λ (other : eqb (get_or part (length part - 1) 0) 13 ≡ false). let is : strip_carriage_return part ≡ part = cond-false _ _ _ other in omega (arith, ap length is))
    (cases_Bool (eqb (get_or part (length part - 1) 0) 13))

pub line_of-short : (part : List ℕ) → length part ≤ 256 → line_of part ≡ Whole (strip_carriage_return part)
unfolding line_of
line_of-short part short = rw (le-leb (length (strip_carriage_return part)) 256 (omega (arith, stripped part))) refl
