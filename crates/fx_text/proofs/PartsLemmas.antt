-- The parts of a text, as it grows: std's `slice_split`, from its end.
use Rattle.std.proofs.Common.{◌≡◌, ℕ, ◌<◌, Bool, true, false, List, [], ◌∷◌, ◌++◌, length, refl, sym, ap, ◌∙◌, arith, ⊎_elim, All}
use Rattle.std.proofs.lemmas.Bool.{cases_Bool}
use Rattle.std.proofs.lemmas.List.Elements.{All-nil, All-cons, All-head, All-tail, All-push}
use Rattle.std.proofs.lemmas.List.Splits.{slice_split-cons_yes, slice_split-cons_no, slice_split_none, slice_split_at, length-slice_split}
use Rattle.std.specs.List.{slice_split, onto_first}
use Rattle.fx_text.specs.Lines.{all_but_last, last_of}

-- no byte of the text passes
abbrev pub Unbroken : (ℕ → Bool) → List ℕ → Type 0
Unbroken p text = All (λ byte. p byte ≡ false) text

-- a list of parts that is not empty is its front and its last
put_back : (parts : List (List ℕ)) → 0 < length parts → parts ≡ all_but_last parts ++ last_of parts ∷ []
put_back [] h = absurd (omega arith)
put_back (part ∷ []) h = refl
put_back (part ∷ second ∷ more) h = ap (λ (rest : List (List ℕ)). part ∷ rest) (put_back (second ∷ more) (omega arith))

some_parts : (p : ℕ → Bool) (text : List ℕ) → 0 < length (slice_split p text)
some_parts p text = omega (arith, length-slice_split p text)

pub slice_split-put_back : (p : ℕ → Bool) (text : List ℕ) → slice_split p text ≡ all_but_last (slice_split p text) ++ last_of (slice_split p text) ∷ []
slice_split-put_back p text = put_back (slice_split p text) (some_parts p text)

-- the last part has no byte that passes
last_onto_first : (p : ℕ → Bool) (x : ℕ) (parts : List (List ℕ)) → p x ≡ false → Unbroken p (last_of parts) → Unbroken p (last_of (onto_first x parts))
last_onto_first p x [] h u = All-cons (λ byte. p byte ≡ false) x [] h u
last_onto_first p x (part ∷ []) h u = All-cons (λ byte. p byte ≡ false) x part h u
last_onto_first p x (part ∷ second ∷ more) h u = u

last_after_empty : (p : ℕ → Bool) (parts : List (List ℕ)) → Unbroken p (last_of parts) → Unbroken p (last_of ([] ∷ parts))
last_after_empty p [] u = u
last_after_empty p (part ∷ more) u = u

pub Unbroken-last : (p : ℕ → Bool) (text : List ℕ) → Unbroken p (last_of (slice_split p text))
Unbroken-last p [] = All-nil (λ byte. p byte ≡ false)
Unbroken-last p (x ∷ xs) = ⊎_elim
    (λ (passes : p x ≡ true). rw (slice_split-cons_yes p x xs passes) (last_after_empty p (slice_split p xs) (Unbroken-last p xs)))
    (λ (fails : p x ≡ false). rw (slice_split-cons_no p x xs fails) (last_onto_first p x (slice_split p xs) fails (Unbroken-last p xs)))
    (cases_Bool (p x))

-- the parts of two texts one after the other: only the last part of the first goes on
append_after_empty : (parts rest : List (List ℕ)) → 0 < length parts → all_but_last ([] ∷ parts) ++ rest ≡ [] ∷ (all_but_last parts ++ rest)
append_after_empty [] rest h = absurd (omega arith)
append_after_empty (part ∷ more) rest h = refl

same_last : (parts : List (List ℕ)) → 0 < length parts → last_of ([] ∷ parts) ≡ last_of parts
same_last [] h = absurd (omega arith)
same_last (part ∷ more) h = refl

append_onto_first : (p : ℕ → Bool) (x : ℕ) → p x ≡ false → (parts : List (List ℕ)) (ys : List ℕ)
    → onto_first x (all_but_last parts ++ slice_split p (last_of parts ++ ys)) ≡ all_but_last (onto_first x parts) ++ slice_split p (last_of (onto_first x parts) ++ ys)
append_onto_first p x fails [] ys = sym (slice_split-cons_no p x ys fails)
append_onto_first p x fails (part ∷ []) ys = sym (slice_split-cons_no p x (part ++ ys) fails)
append_onto_first p x fails (part ∷ second ∷ more) ys = refl

pub slice_split-append : (p : ℕ → Bool) (xs ys : List ℕ) → slice_split p (xs ++ ys) ≡ all_but_last (slice_split p xs) ++ slice_split p (last_of (slice_split p xs) ++ ys)
slice_split-append p [] ys = refl
slice_split-append p (x ∷ xs) ys = ⊎_elim
    (λ (passes : p x ≡ true). rw (slice_split-cons_yes p x (xs ++ ys) passes, slice_split-cons_yes p x xs passes, slice_split-append p xs ys, same_last (slice_split p xs) (some_parts p xs))
    (sym (append_after_empty (slice_split p xs) (slice_split p (last_of (slice_split p xs) ++ ys)) (some_parts p xs))))
    (λ (fails : p x ≡ false). rw (slice_split-cons_no p x (xs ++ ys) fails, slice_split-cons_no p x xs fails, slice_split-append p xs ys) (append_onto_first p x fails (slice_split p xs) ys))
    (cases_Bool (p x))

-- the front and the last of a list that is made of others
pub all_but_last-append : (xs ys : List (List ℕ)) → 0 < length ys → all_but_last (xs ++ ys) ≡ xs ++ all_but_last ys
all_but_last-append [] ys h = refl
all_but_last-append (x ∷ []) [] h = absurd (omega arith)
all_but_last-append (x ∷ []) (y ∷ ys) h = refl
all_but_last-append (x ∷ second ∷ more) ys h = ap (λ (rest : List (List ℕ)). x ∷ rest) (all_but_last-append (second ∷ more) ys h)

pub last_of-append : (xs ys : List (List ℕ)) → 0 < length ys → last_of (xs ++ ys) ≡ last_of ys
last_of-append [] ys h = refl
last_of-append (x ∷ []) [] h = absurd (omega arith)
last_of-append (x ∷ []) (y ∷ ys) h = refl
last_of-append (x ∷ second ∷ more) ys h = last_of-append (second ∷ more) ys h

pub all_but_last-split_append : (p : ℕ → Bool) (xs ys : List ℕ) → all_but_last (slice_split p (xs ++ ys)) ≡ all_but_last (slice_split p xs) ++ all_but_last (slice_split p (last_of (slice_split p xs) ++ ys))
all_but_last-split_append p xs ys = ap all_but_last (slice_split-append p xs ys) ∙ all_but_last-append (all_but_last (slice_split p xs)) (slice_split p (last_of (slice_split p xs) ++ ys)) (some_parts p (last_of (slice_split p xs) ++ ys))

pub last_of-split_append : (p : ℕ → Bool) (xs ys : List ℕ) → last_of (slice_split p (xs ++ ys)) ≡ last_of (slice_split p (last_of (slice_split p xs) ++ ys))
last_of-split_append p xs ys = ap last_of (slice_split-append p xs ys) ∙ last_of-append (all_but_last (slice_split p xs)) (slice_split p (last_of (slice_split p xs) ++ ys)) (some_parts p (last_of (slice_split p xs) ++ ys))

-- one byte more: one that passes ends the last part, and another one is added to it
pub slice_split-last_passes : (p : ℕ → Bool) (xs : List ℕ) (y : ℕ) → p y ≡ true → slice_split p (last_of (slice_split p xs) ++ y ∷ []) ≡ last_of (slice_split p xs) ∷ [] ∷ []
slice_split-last_passes p xs y passes = slice_split_at p (last_of (slice_split p xs)) y [] (Unbroken-last p xs) passes

pub slice_split-last_fails : (p : ℕ → Bool) (xs : List ℕ) (y : ℕ) → p y ≡ false → slice_split p (last_of (slice_split p xs) ++ y ∷ []) ≡ (last_of (slice_split p xs) ++ y ∷ []) ∷ []
slice_split-last_fails p xs y fails = slice_split_none p (last_of (slice_split p xs) ++ y ∷ []) (All-push (λ byte. p byte ≡ false) (last_of (slice_split p xs)) y (Unbroken-last p xs) fails)

-- an unbroken text before another goes to its first part
abbrev pub onto_front : List ℕ → List (List ℕ) → List (List ℕ)
onto_front front [] = front ∷ []
onto_front front (part ∷ more) = (front ++ part) ∷ more

onto_front_first : (x : ℕ) (front : List ℕ) (parts : List (List ℕ)) → onto_first x (onto_front front parts) ≡ onto_front (x ∷ front) parts
onto_front_first x front [] = refl
onto_front_first x front (part ∷ more) = refl

onto_front_empty : (parts : List (List ℕ)) → 0 < length parts → onto_front [] parts ≡ parts
onto_front_empty [] h = absurd (omega arith)
onto_front_empty (part ∷ more) h = refl

pub slice_split-onto_front : (p : ℕ → Bool) (front ys : List ℕ) → Unbroken p front → slice_split p (front ++ ys) ≡ onto_front front (slice_split p ys)
slice_split-onto_front p [] ys u = sym (onto_front_empty (slice_split p ys) (some_parts p ys))
slice_split-onto_front p (x ∷ front) ys u =
    slice_split-cons_no p x (front ++ ys) (All-head (λ byte. p byte ≡ false) x front u)
    ∙ ap (onto_first x) (slice_split-onto_front p front ys (All-tail (λ byte. p byte ≡ false) x front u))
    ∙ onto_front_first x front (slice_split p ys)
