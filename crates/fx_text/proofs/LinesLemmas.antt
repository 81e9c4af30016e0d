-- The lines of a text that is given piece by piece.
use Rattle.std.proofs.Common.{◌≡◌, ap₂, ℕ, zero, suc, ◌+◌, ◌-◌, ◌<◌, ◌≤◌, Bool, true, false, List, [], ◌∷◌, ◌++◌, length, map, take, get_or, refl, sym, ap, ◌∙◌, arith, eqb, count_by, length-append, ⊎_elim, inl, inr, ◌⊎◌, append_assoc}
use Rattle.std.proofs.lemmas.Bool.{cases_Bool, cases_lt, lt-leb, cond-true, cond-false}
use Rattle.std.proofs.lemmas.List.{map-append, length-map, take_all, take-take, length-take}
use Rattle.std.proofs.lemmas.List.Elements.{All-take}
use Rattle.std.proofs.lemmas.List.Splits.{slice_split_none, length-slice_split}
use Rattle.std.proofs.lemmas.List.Sums.{count_by-le-length}
use Rattle.std.specs.Str.Lines.{strip_carriage_return}
use Rattle.fx_text.specs.Fields.{first_field}
use Rattle.fx_text.specs.Lines.{parts_of, all_but_last, last_of, line_of, lines_of, rest_of, held_of, is_end_rest}
use Rattle.fx_text.specs.inside.Held.{IsHeld}
use Rattle.fx_text.specs.declared.line.Line.{Line}
use Rattle.fx_text.specs.declared.line.Line.TheVariants.{Long}
use Rattle.fx_text.proofs.PartsLemmas.{Unbroken, Unbroken-last, all_but_last-split_append, last_of-split_append, slice_split-onto_front, slice_split-put_back, onto_front}

abbrev pub is_line_feed : ℕ → Bool
is_line_feed byte = eqb byte 10

-- a text has at most as many lines as bytes
pub length-lines_of : (text : List ℕ) → length (lines_of text) ≤ length text
unfolding lines_of
length-lines_of text =
    let front : List (List ℕ) = all_but_last (parts_of text) in
    let parts : length (parts_of text) ≡ count_by is_line_feed text + 1 = length-slice_split is_line_feed text in
    let one_more : length (parts_of text) ≡ length front + 1 = ap length (slice_split-put_back is_line_feed text) ∙ length-append front (last_of (parts_of text) ∷ []) in
    omega (arith, parts, one_more, length-map front line_of, count_by-le-length is_line_feed text)

-- the lines of two texts, one after the other: only the rest of the first goes on
pub lines_of-append : (text more : List ℕ) → lines_of (text ++ more) ≡ lines_of text ++ lines_of (rest_of text ++ more)
unfolding lines_of rest_of
lines_of-append text more = ap (map line_of) (all_but_last-split_append is_line_feed text more)
    ∙ map-append line_of (all_but_last (parts_of text)) (all_but_last (parts_of (last_of (parts_of text) ++ more)))

pub rest_of-append : (text more : List ℕ) → rest_of (text ++ more) ≡ rest_of (rest_of text ++ more)
unfolding rest_of
rest_of-append text more = last_of-split_append is_line_feed text more

-- a line that is long by more than a carriage return
stripped : (part : List ℕ) → (strip_carriage_return part ≡ part) ⊎ (strip_carriage_return part ≡ take (length part - 1) part)
stripped part = ⊎_elim
    (λ (ends : eqb (get_or part (length part - 1) 0) 13 ≡ true). inr (cond-true _ _ _ ends))
    (λ (other : eqb (get_or part (length part - 1) 0) 13 ≡ false). inl (cond-false _ _ _ other))
    (cases_Bool (eqb (get_or part (length part - 1) 0) 13))

line_of-stripped : (part text : List ℕ) → strip_carriage_return part ≡ text → 257 ≤ length text → take 256 text ≡ take 256 part → line_of part ≡ Long (first_field (take 256 part))
unfolding line_of
line_of-stripped part text is long same = rw (is, lt-leb (length text) 256 (omega arith), same) refl

pub line_of-long : (part : List ℕ) → 258 ≤ length part → line_of part ≡ Long (first_field (take 256 part))
line_of-long part long = ⊎_elim
    (λ (is : strip_carriage_return part ≡ part). line_of-stripped part part is (omega arith) refl)
    (λ (is : strip_carriage_return part ≡ take (length part - 1) part). line_of-stripped part (take (length part - 1) part) is (omega (arith, length-take (length part - 1) part)) (take-take 256 (length part - 1) part (omega arith)))
    (stripped part)

pub line_of-take : (part : List ℕ) → line_of (take 258 part) ≡ line_of part
line_of-take part = ⊎_elim
    (λ (long : 258 < length part). line_of-long (take 258 part) (omega (arith, length-take 258 part)) ∙ ap (λ (text : List ℕ). Long (first_field text)) (take-take 256 258 part (omega arith)) ∙ sym (line_of-long part (omega arith)))
    (λ (short : length part ≤ 258). ap line_of (take_all 258 part short))
    (cases_lt 258 (length part))

-- a rest that is held cut to its first bytes goes on as the whole rest does
pub take-take_append : (n : ℕ) (xs ys : List ℕ) → take n (take n xs ++ ys) ≡ take n (xs ++ ys)
take-take_append zero xs ys = refl
take-take_append (suc n) [] ys = refl
take-take_append (suc n) (x ∷ xs) ys = ap (λ (rest : List ℕ). x ∷ rest) (take-take_append n xs ys)

line_of-held : (front part : List ℕ) → line_of (take 258 front ++ part) ≡ line_of (front ++ part)
line_of-held front part = sym (line_of-take (take 258 front ++ part)) ∙ ap line_of (take-take_append 258 front part) ∙ line_of-take (front ++ part)

lines_onto : (front : List ℕ) (parts : List (List ℕ)) → map line_of (all_but_last (onto_front (take 258 front) parts)) ≡ map line_of (all_but_last (onto_front front parts))
lines_onto front [] = refl
lines_onto front (part ∷ []) = refl
lines_onto front (part ∷ second ∷ more) = ap (λ (line : Line). line ∷ map line_of (all_but_last (second ∷ more))) (line_of-held front part)

last_onto : (front : List ℕ) (parts : List (List ℕ)) → take 258 (last_of (onto_front (take 258 front) parts)) ≡ take 258 (last_of (onto_front front parts))
last_onto front [] = take-take 258 258 front (omega arith)
last_onto front (part ∷ []) = take-take_append 258 front part
last_onto front (part ∷ second ∷ more) = refl

pub lines_of-held : (text more : List ℕ) → lines_of (held_of text ++ more) ≡ lines_of (rest_of text ++ more)
unfolding lines_of rest_of
lines_of-held text more =
    let whole : Unbroken is_line_feed (rest_of text) = Unbroken-last is_line_feed text in
    let cut : Unbroken is_line_feed (held_of text) = All-take (λ byte. is_line_feed byte ≡ false) 258 (rest_of text) whole in
    ap (λ (parts : List (List ℕ)). map line_of (all_but_last parts)) (slice_split-onto_front is_line_feed (held_of text) more cut)
    ∙ lines_onto (rest_of text) (parts_of more)
    ∙ sym (ap (λ (parts : List (List ℕ)). map line_of (all_but_last parts)) (slice_split-onto_front is_line_feed (rest_of text) more whole))

pub held_of-held : (text more : List ℕ) → held_of (held_of text ++ more) ≡ held_of (rest_of text ++ more)
unfolding rest_of
held_of-held text more =
    let whole : Unbroken is_line_feed (rest_of text) = Unbroken-last is_line_feed text in
    let cut : Unbroken is_line_feed (held_of text) = All-take (λ byte. is_line_feed byte ≡ false) 258 (rest_of text) whole in
    ap (λ (parts : List (List ℕ)). take 258 (last_of parts)) (slice_split-onto_front is_line_feed (held_of text) more cut)
    ∙ last_onto (rest_of text) (parts_of more)
    ∙ sym (ap (λ (parts : List (List ℕ)). take 258 (last_of parts)) (slice_split-onto_front is_line_feed (rest_of text) more whole))

-- the law of cutting: what comes of more bytes depends on what is held alone
pub lines_of-cut : (text more : List ℕ) → lines_of (text ++ more) ≡ lines_of text ++ lines_of (held_of text ++ more)
lines_of-cut text more = lines_of-append text more ∙ ap (λ (lines : List Line). lines_of text ++ lines) (sym (lines_of-held text more))

pub held_of-cut : (text more : List ℕ) → held_of (text ++ more) ≡ held_of (held_of text ++ more)
held_of-cut text more = ap (take 258) (rest_of-append text more) ∙ sym (held_of-held text more)

-- what is held tells whether the rest is the END line
pub is_end_rest-held : (text : List ℕ) → is_end_rest (held_of text) ≡ is_end_rest (rest_of text)
is_end_rest-held text = ⊎_elim
    (λ (long : 258 < length (rest_of text)). rw (lt-leb (length (held_of text)) 256 (omega (arith, length-take 258 (rest_of text))), lt-leb (length (rest_of text)) 256 (omega arith)) refl)
    (λ (short : length (rest_of text) ≤ 258). ap is_end_rest (take_all 258 (rest_of text) short))
    (cases_lt 258 (length (rest_of text)))

-- what is held has no line, and is held whole
pub lines_of-held_alone : (text : List ℕ) → lines_of (held_of text) ≡ []
unfolding lines_of rest_of
lines_of-held_alone text = ap (λ (parts : List (List ℕ)). map line_of (all_but_last parts))
    (slice_split_none is_line_feed (held_of text) (All-take (λ byte. is_line_feed byte ≡ false) 258 (rest_of text) (Unbroken-last is_line_feed text)))

pub held_of-held_alone : (text : List ℕ) → held_of (held_of text) ≡ held_of text
unfolding rest_of
held_of-held_alone text = ap (λ (parts : List (List ℕ)). take 258 (last_of parts))
    (slice_split_none is_line_feed (held_of text) (All-take (λ byte. is_line_feed byte ≡ false) 258 (rest_of text) (Unbroken-last is_line_feed text)))
    ∙ take-take 258 258 (rest_of text) (omega arith)

-- nothing is held without a line
pub IsHeld-nil : IsHeld []
unfolding lines_of rest_of
IsHeld-nil = record { no_line = refl; whole = refl }

pub IsHeld-held_of : (text : List ℕ) → IsHeld (held_of text)
IsHeld-held_of text = record { no_line = lines_of-held_alone text; whole = held_of-held_alone text }

-- a line more behind others
pub pushed_line : (start lines items : List Line) (line same : Line) → items ≡ start ++ lines → line ≡ same → items ++ line ∷ [] ≡ start ++ (lines ++ same ∷ [])
pushed_line start lines items line same is e = ap₂ (λ (front : List Line) (last : Line). front ++ last ∷ []) is e ∙ append_assoc start lines (same ∷ [])
