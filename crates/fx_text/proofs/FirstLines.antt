-- The first line that ends in a text.
use Rattle.std.proofs.Common.{◌≡◌, ℕ, ◌+◌, ◌-◌, ◌<◌, ◌≤◌, min, Bool, false, nat_lt, List, [], ◌∷◌, ◌++◌, length, map, take, drop, get_or, position, Option, Some, None, cond, true, lt-ltb, le-ltb, refl, sym, ap, ◌∙◌, subst, arith, length-drop, append_assoc, All, inl, inr}
use Rattle.std.proofs.lemmas.Bool.{eqb-true, cases_Bool, cond-true, cond-false, false_from_ne_true}
use Rattle.std.proofs.lemmas.Bool.Decides.{nat_tests}
use Rattle.std.proofs.lemmas.List.Sums.{fails_before_first, position_or_len_is}
use Rattle.std.specs.List.{position_or_len}
use Rattle.std.proofs.lemmas.List.{length-take, get_or-take, get_or_default, take-append-drop, drop_more, drop-drop}
use Rattle.std.proofs.lemmas.List.Quantifiers.{position-Some}
use Rattle.std.proofs.lemmas.List.Elements.{All-take}
use Rattle.std.proofs.lemmas.List.Splits.{slice_split_none, slice_split_at}
use Rattle.memchr.specs.Find.{IsFirstByte, is_byte}
use Rattle.fx_text.specs.Lines.{parts_of, all_but_last, last_of, line_of, lines_of, rest_of, held_of, IsRest, IsFirstLine}
use Rattle.fx_text.specs.inside.Held.{IsHeld, IsFirstPart}
use Rattle.fx_text.specs.declared.line.Line.{Line}
use Rattle.fx_text.proofs.PartsLemmas.{Unbroken, Unbroken-last, onto_front, slice_split-onto_front}
use Rattle.fx_text.proofs.LineTexts.{extended_within}
use Rattle.fx_text.proofs.LinesLemmas.{is_line_feed, line_of-take, IsHeld-held_of, IsHeld-nil}
use Rattle.fx_text.proofs.JoinedFields.{some_parts, keeps_first, keeps_last}

-- where it stands
cut : (text : List ℕ) (i : ℕ) → i < length text → get_or text i 0 ≡ 10 → text ≡ take i text ++ 10 ∷ drop (i + 1) text
cut text i within is =
    sym (take-append-drop i text) ∙ ap (λ (rest : List ℕ). take i text ++ rest) (drop_more text i 0 within)
    ∙ ap (λ (byte : ℕ). take i text ++ byte ∷ drop (i + 1) text) is

front_unbroken : (text : List ℕ) (i : ℕ) → i < length text → ((k : ℕ) → k < i → is_line_feed (get_or text k 0) ≡ false) → Unbroken is_line_feed (take i text)
front_unbroken text i within none k d below =
    let less : k < i = omega (arith, length-take i text) in
    subst (λ (byte : ℕ). is_line_feed byte ≡ false) (sym (get_or-take i text k d less ∙ get_or_default text k d 0 (omega arith))) (none k less)

IsFirstPart-at : (text : List ℕ) (at : ℕ) → Some at ≡ position is_line_feed text → IsFirstPart text (take at text) (drop (at + 1) text)
IsFirstPart-at text at is =
    let it = position-Some is_line_feed text at 0 (sym is) in
    let behind : List ℕ = drop (at + 1) text in
    record {
      parts = ap parts_of (cut text at it.0 (eqb-true (get_or text at 0) 10 it.1)) ∙ slice_split_at is_line_feed (take at text) 10 behind (front_unbroken text at it.0 it.2) refl;
      whole = slice_split_none is_line_feed (take at text) (front_unbroken text at it.0 it.2);
      shorter = omega (arith, it.0, length-drop (at + 1) text);
    }

none_passes : {X : Type 0} (p : X → Bool) (xs : List X) → position p xs ≡ None → All (λ x. p x ≡ false) xs
none_passes p xs none k d within =
    elim (cases_Bool (nat_lt (position_or_len p xs) (length xs))) [
      | inl found ↦ absurd (let wrong : Some (position_or_len p xs) ≡ None = rw found at none in cc)
      | inr past ↦ fails_before_first p xs k d (let bound : length xs ≤ position_or_len p xs = grind (arith, nat_tests) in omega arith)
    ]

-- where a search for its byte finds it
position-at : (text : List ℕ) (i : ℕ) → i ≤ length text → ((k : ℕ) → k < i → is_line_feed (get_or text k 0) ≡ false) → (i < length text → is_line_feed (get_or text i 0) ≡ true)
    → position is_line_feed text ≡ cond (nat_lt i (length text)) (Some i) None
position-at text i within none there = ap (λ (n : ℕ). cond (nat_lt n (length text)) (Some n) None) (position_or_len_is is_line_feed text i 0 within none there)

pub position-first_byte : (text : List ℕ) (found : Option ℕ) → IsFirstByte (is_byte 10) text found → found ≡ position is_line_feed text
position-first_byte text None none =
    sym (position-at text (length text) (omega arith) (λ k below. false_from_ne_true _ (none k (omega arith) below)) (λ past. absurd (omega arith)) ∙ cond-false _ _ _ (le-ltb (length text) (length text) (omega arith)))
position-first_byte text (Some i) found =
    sym (position-at text i (omega (arith, found.0.high)) (λ k below. false_from_ne_true _ (found.0.before k (omega arith) below)) (λ _. found.1) ∙ cond-true _ _ _ (lt-ltb i (length text) found.0.high))

pub IsFirstPart-split : (text part rest behind : List ℕ) (at : ℕ) → Some at ≡ position is_line_feed text → part ≡ take at text → rest ≡ drop at text → behind ≡ drop 1 rest → IsFirstPart text part behind
IsFirstPart-split text part rest behind at is front back past =
    let after : behind ≡ drop (at + 1) text = past ∙ ap (drop 1) back ∙ drop-drop 1 at text in
    subst (λ (b : List ℕ). IsFirstPart text part b) (sym after) (subst (λ (a : List ℕ). IsFirstPart text a (drop (at + 1) text)) (sym front) (IsFirstPart-at text at is))

pub one_part : (text : List ℕ) → None ≡ position is_line_feed text → parts_of text ≡ text ∷ []
one_part text none = slice_split_none is_line_feed text (none_passes is_line_feed text (sym none))

-- a part that ends behind what is held
held_unbroken : (held : List ℕ) → IsHeld held → Unbroken is_line_feed held
unfolding rest_of
held_unbroken held is = subst (Unbroken is_line_feed) is.whole (All-take (λ byte. is_line_feed byte ≡ false) 258 (rest_of held) (Unbroken-last is_line_feed held))

parts_onto : (held piece : List ℕ) (part : List ℕ) (more : List (List ℕ)) → IsHeld held → parts_of piece ≡ part ∷ more → parts_of (held ++ piece) ≡ (held ++ part) ∷ more
parts_onto held piece part more is parts = slice_split-onto_front is_line_feed held piece (held_unbroken held is) ∙ ap (onto_front held) parts

first_line_of : (text part behind : List ℕ) → parts_of text ≡ part ∷ parts_of behind → IsFirstLine text (line_of part) behind
unfolding lines_of rest_of
first_line_of text part behind parts = record {
  lines = ap (λ (all : List (List ℕ)). map line_of (all_but_last all)) parts ∙ ap (map line_of) (keeps_first part (parts_of behind) (some_parts behind));
  rest = ap last_of parts ∙ keeps_last part (parts_of behind) (some_parts behind);
}

rest_from_parts : (text : List ℕ) → parts_of text ≡ text ∷ [] → IsRest text
unfolding lines_of rest_of
rest_from_parts text parts = record {
  lines = ap (λ (all : List (List ℕ)). map line_of (all_but_last all)) parts;
  whole = ap last_of parts;
}

pub IsFirstLine-seen : (text part behind : List ℕ) (line : Line) → line ≡ line_of part → IsFirstPart text part behind → IsFirstLine text line behind
IsFirstLine-seen text part behind line is first = subst (λ (l : Line). IsFirstLine text l behind) (sym is) (first_line_of text part behind first.parts)

pub IsRest-parts : (text : List ℕ) → parts_of text ≡ text ∷ [] → IsRest text
IsRest-parts text parts = rest_from_parts text parts

pub IsFirstLine-held : (old piece new part behind : List ℕ) → IsHeld old → IsFirstPart piece part behind → new ≡ take 258 (old ++ part) → IsFirstLine (old ++ piece) (line_of new) behind
IsFirstLine-held old piece new part behind is first held =
    let line : line_of new ≡ line_of (old ++ part) = ap line_of held ∙ line_of-take (old ++ part) in
    subst (λ (l : Line). IsFirstLine (old ++ piece) l behind) (sym line) (first_line_of (old ++ piece) (old ++ part) behind (parts_onto old piece part (parts_of behind) is first.parts))

pub IsRest-held : (old piece : List ℕ) → IsHeld old → parts_of piece ≡ piece ∷ [] → IsRest (old ++ piece)
IsRest-held old piece is parts = rest_from_parts (old ++ piece) (parts_onto old piece piece [] is parts)

-- what is held of a rest
pub held-rest : (text : List ℕ) → IsRest text → take 258 text ≡ held_of text
held-rest text is = ap (take 258) (sym is.whole)

pub IsHeld-rest : (text held : List ℕ) → IsRest text → held ≡ take 258 text → IsHeld held
IsHeld-rest text held is all = subst IsHeld (sym (all ∙ held-rest text is)) (IsHeld-held_of text)

pub IsHeld-part : (old piece part behind held : List ℕ) → IsHeld old → IsFirstPart piece part behind → held ≡ take 258 (old ++ part) → IsHeld held
IsHeld-part old piece part behind held is first all = IsHeld-rest (old ++ part) held (IsRest-held old part is first.whole) all

-- bytes that are added in a fixed room
pub extended : (bytes old more : List ℕ) (len count : ℕ) → length bytes ≡ 258 → len ≤ 258 → take len bytes ≡ old → count ≡ min (length more) (258 - len)
    → take len bytes ++ take count more ≡ take 258 (old ++ more)
extended bytes old more len count room within is all = extended_within 258 bytes old more len count room within is all

-- the lines of what was held and of a piece, as they are cut
pub record CutsOn (before piece held rest : List ℕ) (done : List Line) : Type 0 where
  pub is_held : IsHeld held
  pub lines : lines_of (before ++ piece) ≡ done ++ lines_of (held ++ rest)
  pub behind : rest_of (before ++ piece) ≡ rest_of (held ++ rest)

pub CutsOn-line : (before piece held rest behind : List ℕ) (done : List Line) (line : Line) → CutsOn before piece held rest done → IsFirstLine (held ++ rest) line behind → CutsOn before piece [] behind (done ++ line ∷ [])
CutsOn-line before piece held rest behind done line cuts first = record {
  is_held = IsHeld-nil;
  lines = cuts.lines ∙ ap (λ (more : List Line). done ++ more) first.lines ∙ sym (append_assoc done (line ∷ []) (lines_of behind));
  behind = cuts.behind ∙ first.rest;
}
