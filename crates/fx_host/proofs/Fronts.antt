-- The fronts of a blank with a key for each pair: the first are the senders', and those behind them the pairs'.
use Rattle.std.proofs.Common.{ℕ, zero, suc, ◌≡◌, ◌+◌, ◌≤◌, ◌<◌, List, [], ◌∷◌, length, take, drop, Option, Some, slice_get, refl, ap, ◌∙◌, arith}
use Rattle.std.proofs.lemmas.List.{length-drop, length-take-le}
use Rattle.fx_rules.specs.declared.outcome.Entry.{Entry}
use Rattle.fx_rules.specs.Keyed.{pair_key}
use Rattle.fx_chronicle.specs.Faces.{Witness, witness, AreNew}
use Rattle.fx_host.specs.inside.Opening.{ArePairFronts}

get-drop : {X : Type 0} (xs : List X) (n k : ℕ) → slice_get (drop n xs) k ≡ slice_get xs (n + k)
get-drop xs zero k = ap (slice_get xs) (omega arith)
get-drop [] (suc n) k = refl
get-drop (x ∷ xs) (suc n) k = let next : suc (n + k) ≡ suc n + k = omega arith in get-drop xs n k ∙ ap (slice_get (x ∷ xs)) next

get-take : {X : Type 0} (xs : List X) (n k : ℕ) → k < n → slice_get (take n xs) k ≡ slice_get xs k
get-take [] zero k below = refl
get-take [] (suc n) k below = refl
get-take (x ∷ xs) zero k below = absurd (omega (arith, below))
get-take (x ∷ xs) (suc n) zero below = refl
get-take (x ∷ xs) (suc n) (suc k) below = get-take xs n k (omega (arith, below))

pub sender-fronts : (keys : ℕ) (fronts : List (Witness Entry)) → 65 ≤ keys → AreNew keys fronts → AreNew 65 (take 65 fronts)
sender-fronts keys fronts most new =
    (length-take-le 65 fronts (omega (arith, new.0, most)), λ key below. get-take fronts 65 key below ∙ new.1 key (omega (arith, below, most)))

-- the front of a pair's key, which has seen nothing
front_of : ℕ → Option (Witness Entry)
front_of pair = Some (witness (pair_key pair) [])

same_front : (front : Witness Entry) (pair : ℕ) → Some front ≡ front_of pair → front ≡ witness (pair_key pair) []
unfolding front_of
same_front front pair same = cc

in_order : (pair : ℕ) (fronts : List (Witness Entry)) → ((place : ℕ) → place < length fronts → slice_get fronts place ≡ front_of (pair + place)) → ArePairFronts pair fronts
in_order pair [] each = tt
in_order pair (front ∷ fronts) each =
    (same_front front pair (each zero (omega arith) ∙ ap front_of (omega arith)), in_order (pair + 1) fronts (λ place below. each (suc place) (omega (arith, below)) ∙ ap front_of (omega arith)))

pub pair-fronts : (keys : ℕ) (fronts : List (Witness Entry)) → AreNew keys fronts → ArePairFronts 0 (drop 65 fronts)
unfolding front_of
pair-fronts keys fronts new =
    in_order 0 (drop 65 fronts) (λ place below. get-drop fronts 65 place ∙ new.1 (65 + place) (omega (arith, below, new.0, length-drop 65 fronts)) ∙ ap front_of (omega arith))
