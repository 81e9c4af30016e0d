-- The numbers below one, and what is made of them by place.
use Rattle.std.proofs.Common.{ℕ, zero, suc, ◌≡◌, ◌+◌, ◌<◌, List, [], ◌∷◌, ◌++◌, map, length, get_or, inl, inr, refl, ap, ap₂, subst, sym, ◌∙◌, arith, add-one}
use Rattle.std.proofs.lemmas.Bool.{cases_order}
use Rattle.std.proofs.lemmas.List.{length-map, length_push, map_push, get_or_push, get_or_append_left, append-nil}
use Rattle.std.proofs.lemmas.List.Concat.{flat_map-append}
use Rattle.std.specs.List.{All, flat_map}
use Rattle.fx_rules.specs.Lists.{below}

pub below_more : (n : ℕ) → below (n + 1) ≡ below n ++ n ∷ []
below_more n = ap below (add-one n)

pub length_below : (n : ℕ) → length (below n) ≡ n
length_below zero = refl
length_below (suc n) = length_push (below n) n ∙ ap (λ k. k + 1) (length_below n) ∙ add-one n

pub flat_map-more : {X : Type 0} (f : ℕ → List X) (n : ℕ) → flat_map f (below (n + 1)) ≡ flat_map f (below n) ++ f n
flat_map-more f n = ap (flat_map f) (below_more n) ∙ flat_map-append f (below n) (n ∷ []) ∙ ap (λ xs. flat_map f (below n) ++ xs) (append-nil (f n))

pub flat_map-suc : {X : Type 0} (f : ℕ → List X) (n : ℕ) → flat_map f (below (suc n)) ≡ flat_map f (below n) ++ f n
flat_map-suc f n = flat_map-append f (below n) (n ∷ []) ∙ ap (λ xs. flat_map f (below n) ++ xs) (append-nil (f n))

pub flat_map-same : {X : Type 0} (f g : ℕ → List X) (n : ℕ) → ((k : ℕ) → k < n → f k ≡ g k) → flat_map f (below n) ≡ flat_map g (below n)
flat_map-same f g zero same = refl
flat_map-same {X} f g (suc n) same =
    flat_map-suc f n
    ∙ ap₂ (λ (front last : List X). front ++ last) (flat_map-same f g n (λ k within. same k (omega arith))) (same n (omega arith))
    ∙ sym (flat_map-suc g n)

pub map-more : {X : Type 0} (f : ℕ → X) (n : ℕ) → map f (below (n + 1)) ≡ map f (below n) ++ f n ∷ []
map-more f n = ap (map f) (below_more n) ∙ map_push f (below n) n

pub length-map_below : {X : Type 0} (f : ℕ → X) (n : ℕ) → length (map f (below n)) ≡ n
length-map_below f n = length-map (below n) f ∙ length_below n

pub get_or_below : {X : Type 0} (f : ℕ → X) (n k : ℕ) (d : X) → k < n → get_or (map f (below n)) k d ≡ f k
get_or_below f zero k d within = absurd (omega arith)
get_or_below f (suc n) k d within =
    ap (λ xs. get_or xs k d) (map_push f (below n) n)
    ∙ elim (cases_order k n) [
      | inl same ↦ ap (λ i. get_or (map f (below n) ++ f n ∷ []) i d) same ∙ get_or_push (map f (below n)) (f n) d n (length-map_below f n) ∙ ap f (sym same)
      | inr other ↦ elim other [
        | inl before ↦ let count : length (map f (below n)) ≡ n = length-map_below f n in
            get_or_append_left (map f (below n)) (f n ∷ []) d k (omega arith) ∙ get_or_below f n k d before
        | inr past ↦ absurd (omega arith)
      ]
    ]

-- what holds at each place holds of all
pub all-below : {X : Type 0} (P : X → Type 0) (f : ℕ → X) (n : ℕ) → ((k : ℕ) → k < n → P (f k)) → All P (map f (below n))
all-below P f n each k d within =
    let count : length (map f (below n)) ≡ n = length-map_below f n in
    let place : k < n = omega arith in
    subst P (sym (get_or_below f n k d place)) (each k place)
