-- One fill carried out, in the table of uses.
use Rattle.std.proofs.Common.{ℕ, ◌≡◌, ◌+◌, ◌-◌, ◌*◌, ◌<◌, leb, List, [], ◌∷◌, ◌++◌, ◌⊎◌, inl, inr, refl, ap, sym, ◌∙◌, arith, length, get_or, get_or-set_same, get_or-set_other}
use Rattle.std.proofs.Math.ListN.{set, length-set}
use Rattle.std.proofs.lemmas.Bool.{cases_eq, cond_both}
use Rattle.fx_rules.specs.declared.orders.Fill.{Fill}
use Rattle.flat_host.specs.FlatState.{FlatCredit, use_place, use_in, line_in}
use Rattle.flat_host.specs.Parts.{use_raised, credit_after}

-- one place for each two banks, in either order
pub use_place-swap : (i j : ℕ) → use_place i j ≡ use_place j i
use_place-swap i j = omega arith

other_way : (i j a b : ℕ) → i < 65 → j < 65 → a < 65 → b < 65 → use_place i j ≡ use_place a b → (i ≡ a → ⊥) → i ≡ b
other_way i j a b i_in j_in a_in b_in same is_not = omega arith

other_way' : (i j a b : ℕ) → i < 65 → j < 65 → a < 65 → b < 65 → use_place i j ≡ use_place a b → (i ≡ a → ⊥) → j ≡ a
other_way' i j a b i_in j_in a_in b_in same is_not = omega arith

pub places_same : (i j a b : ℕ) → i ≡ a → j ≡ b → use_place i j ≡ use_place a b
places_same i j a b p q = omega arith

pub use_place-same : (i j a b : ℕ) → i < 65 → j < 65 → a < 65 → b < 65 → use_place i j ≡ use_place a b → ((i ≡ a) × (j ≡ b)) ⊎ ((i ≡ b) × (j ≡ a))
use_place-same i j a b i_in j_in a_in b_in same =
    elim (cases_eq i a) [
      | inl is ↦ inl (is, omega arith)
      | inr is_not ↦ inr (other_way i j a b i_in j_in a_in b_in same is_not, other_way' i j a b i_in j_in a_in b_in same is_not)
    ]

-- the uses with some units added between two banks
abbrev pub raised : List ℕ → ℕ → ℕ → ℕ → List ℕ
raised uses a b units = set uses (use_place a b) (use_in uses a b + units)

-- the use of two banks after one was raised
pub raised_here : (uses : List ℕ) (i j a b units : ℕ) → length uses ≡ 4225 → a < 65 → b < 65 → use_place i j ≡ use_place a b → use_in (raised uses a b units) i j ≡ use_in uses i j + units
raised_here uses i j a b units full a_in b_in same =
    ap (λ p. get_or (raised uses a b units) p 0) same
    ∙ get_or-set_same uses (use_place a b) (use_in uses a b + units) 0 (omega arith)
    ∙ ap (λ p. get_or uses p 0 + units) (sym same)

pub raised_there : (uses : List ℕ) (i j a b units : ℕ) → (use_place i j ≡ use_place a b → ⊥) → use_in (raised uses a b units) i j ≡ use_in uses i j
raised_there uses i j a b units differ = get_or-set_other uses (use_place a b) (use_place i j) (use_in uses a b + units) 0 differ

-- the tables keep their size
pub length-raised : (credit : FlatCredit) (a b units : ℕ) → length (use_raised credit a b units).uses ≡ length credit.uses
length-raised credit a b units =
    cond_both (leb units (line_in credit a b)) (record credit { uses = raised credit.uses a b units }) credit
    (λ (c : FlatCredit). length c.uses ≡ length credit.uses)
    (λ _. length-set credit.uses (use_place a b) (use_in credit.uses a b + units)) (λ _. refl)

pub length-credit_after : (weights : List ℕ) (credit : FlatCredit) (fills : List Fill) → length (credit_after weights credit fills).uses ≡ length credit.uses
length-credit_after weights credit [] = refl
length-credit_after weights credit (f ∷ fills) =
    let cost : ℕ = f.lots * get_or weights f.pair 0 in
    length-credit_after weights (use_raised credit f.taker f.maker cost) fills ∙ length-raised credit f.taker f.maker cost

pub credit_after-append : (weights : List ℕ) (credit : FlatCredit) (xs ys : List Fill) → credit_after weights credit (xs ++ ys) ≡ credit_after weights (credit_after weights credit xs) ys
credit_after-append weights credit [] ys = refl
credit_after-append weights credit (f ∷ xs) ys = credit_after-append weights (use_raised credit f.taker f.maker (f.lots * get_or weights f.pair 0)) xs ys

-- and there are as many banks
pub banks-raised : (credit : FlatCredit) (a b units : ℕ) → (use_raised credit a b units).banks ≡ credit.banks
banks-raised credit a b units =
    cond_both (leb units (line_in credit a b)) (record credit { uses = raised credit.uses a b units }) credit
    (λ (c : FlatCredit). c.banks ≡ credit.banks) (λ _. refl) (λ _. refl)

pub banks-credit_after : (weights : List ℕ) (credit : FlatCredit) (fills : List Fill) → (credit_after weights credit fills).banks ≡ credit.banks
banks-credit_after weights credit [] = refl
banks-credit_after weights credit (f ∷ fills) =
    let cost : ℕ = f.lots * get_or weights f.pair 0 in
    banks-credit_after weights (use_raised credit f.taker f.maker cost) fills ∙ banks-raised credit f.taker f.maker cost
