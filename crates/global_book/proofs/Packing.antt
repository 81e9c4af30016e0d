-- The orders of a list moved together, so that no place is empty.
use Rattle.std.proofs.Common.{ℕ, zero, suc, ◌≡◌, ◌≤◌, ◌<◌, ◌+◌, ◌++◌, List, [], ◌∷◌, Option, Some, None, IsSome, is_some, length, take, get_or, refl, ap, sym, subst, ◌∙◌, arith}
use Rattle.std.specs.List.{filter}
use Rattle.fx_rules.specs.declared.orders.Resting.{Resting}
use Rattle.order_store.specs.Linked.{HaveLots}
use Rattle.global_book.specs.inside.Ends.{orders_of}

-- those before a place, and one more
pub take-more : (slots : List (Option Resting)) (place : ℕ) (order : Resting) → get_or slots place None ≡ Some order → take (place + 1) slots ≡ take place slots ++ Some order ∷ []
take-more slots place order is = subst (λ n. take n slots ≡ take place slots ++ Some order ∷ []) (let it : suc place ≡ place + 1 = omega arith in it) (taken slots place is)
  where
    taken : (slots : List (Option Resting)) (place : ℕ) → get_or slots place None ≡ Some order → take (suc place) slots ≡ take place slots ++ Some order ∷ []
    taken [] place is = let it : None ≡ Some order = is in cc
    taken (slot ∷ slots) zero is = ap (λ (s : Option Resting). s ∷ []) is
    taken (slot ∷ slots) (suc place) is = ap (λ (ss : List (Option Resting)). slot ∷ ss) (taken slots place is)

pub take-none : (slots : List (Option Resting)) → take 0 slots ≡ []
take-none [] = refl
take-none (slot ∷ slots) = refl

pub take-length : (slots : List (Option Resting)) (place : ℕ) → place ≤ length slots → length (take place slots) ≡ place
take-length slots zero within = ap (λ (ss : List (Option Resting)). length ss) (take-none slots)
take-length [] (suc place) within = absurd (omega arith)
take-length (slot ∷ slots) (suc place) within = ap suc (take-length slots place (omega arith))

take-at : (slots : List (Option Resting)) (most place : ℕ) (order : Resting) → get_or (take most slots) place None ≡ Some order → get_or slots place None ≡ Some order
take-at slots zero place order is = let it : None ≡ Some order = sym (ap (λ (ss : List (Option Resting)). get_or ss place None) (take-none slots)) ∙ is in cc
take-at [] (suc most) place order is = let it : None ≡ Some order = is in cc
take-at (slot ∷ slots) (suc most) zero order is = is
take-at (slot ∷ slots) (suc most) (suc place) order is = take-at slots most place order is

pub take-lots : (slots : List (Option Resting)) (most : ℕ) → HaveLots (λ at. get_or slots at None) → HaveLots (λ at. get_or (take most slots) at None)
take-lots slots most have place order is = have place order (take-at slots most place order is)

-- without the empty places
pub orders-packed : (slots : List (Option Resting)) → orders_of (filter is_some slots) ≡ orders_of slots
orders-packed [] = refl
orders-packed (None ∷ slots) = orders-packed slots
orders-packed (Some order ∷ slots) = ap (λ (os : List Resting). order ∷ os) (orders-packed slots)

pub none-empty : (slots : List (Option Resting)) (place : ℕ) → place < length (filter is_some slots) → IsSome (get_or (filter is_some slots) place None)
none-empty [] place within = absurd (omega arith)
none-empty (None ∷ slots) place within = none-empty slots place within
none-empty (Some order ∷ slots) zero within = refl
none-empty (Some order ∷ slots) (suc place) within = none-empty slots place (omega arith)
