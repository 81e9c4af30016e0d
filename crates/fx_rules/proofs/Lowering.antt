-- What lowering an order leaves of a book.
use Rattle.std.proofs.Common.{ℕ, ◌≡◌, true, eqb, ◌-◌, ◌≤◌, ◌<◌, cond, List, [], ◌∷◌, arith, ltb}
use Rattle.std.proofs.lemmas.Bool.{cond_both, ltb-true, and_parts, and_from, eqb-true, eq-eqb}
use Rattle.fx_rules.specs.declared.orders.ActiveOrder.{ActiveOrder}
use Rattle.fx_rules.specs.declared.orders.Resting.{Resting}
use Rattle.fx_rules.specs.Lists.{Each, EachPair}
use Rattle.fx_rules.specs.Sweep.{lowered, with_left, is_order}
use Rattle.fx_rules.specs.Sound.{Rises}
use Rattle.fx_rules.proofs.ListLemmas.{Each-weaker}

-- what is true of each order, however little it has left, stays true of each
pub Each-lowered : (P : ActiveOrder → Type 0) → ((a : ActiveOrder) (left : ℕ) → P a → 1 ≤ left → left ≤ a.order.left → P (with_left a left)) → (bank number lots : ℕ) (orders : List ActiveOrder) → Each P orders → Each P (lowered bank number lots orders)
Each-lowered P keeps bank number lots [] all = tt
Each-lowered P keeps bank number lots (a ∷ rest) all =
    cond_both (is_order bank number a.order)
    (cond (ltb lots a.order.left) (with_left a (a.order.left - lots) ∷ rest) rest) (a ∷ lowered bank number lots rest) (Each P)
    (λ _. cond_both (ltb lots a.order.left) (with_left a (a.order.left - lots) ∷ rest) rest (Each P)
    (λ more. let lt : lots < a.order.left = ltb-true lots a.order.left more in
    (keeps a (a.order.left - lots) all.0 (omega arith) (omega arith), all.1))
    (λ _. all.1))
    (λ _. (all.0, Each-lowered P keeps bank number lots rest all.1))

before_lowered : (a b : ActiveOrder) (left : ℕ) → Rises a b → 1 ≤ left → left ≤ b.order.left → Rises a (with_left b left)
before_lowered a b left before _ _ = record { arrival = before.arrival; number = before.number }

lowered_before : (a b : ActiveOrder) (left : ℕ) → Rises a b → Rises (with_left a left) b
lowered_before a b left before = record { arrival = before.arrival; number = before.number }

pub rising-lowered : (bank number lots : ℕ) (orders : List ActiveOrder) → EachPair Rises orders → EachPair Rises (lowered bank number lots orders)
rising-lowered bank number lots [] rising = tt
rising-lowered bank number lots (a ∷ rest) rising =
    cond_both (is_order bank number a.order)
    (cond (ltb lots a.order.left) (with_left a (a.order.left - lots) ∷ rest) rest) (a ∷ lowered bank number lots rest)
    (EachPair Rises)
    (λ _. cond_both (ltb lots a.order.left) (with_left a (a.order.left - lots) ∷ rest) rest (EachPair Rises)
    (λ _. (
      Each-weaker (Rises a) (Rises (with_left a (a.order.left - lots)))
          (λ b. lowered_before a b (a.order.left - lots)) rest rising.0,
      rising.1,
    ))
    (λ _. rising.1))
    (λ _. (Each-lowered (Rises a) (before_lowered a) bank number lots rest rising.0, rising-lowered bank number lots rest rising.1))

-- what it says that an order is the one of a bank and number
pub is_order-says : (bank number : ℕ) (o : Resting) → is_order bank number o ≡ true → (o.bank ≡ bank) × (o.number ≡ number)
is_order-says bank number o is =
    let both = and_parts (eqb o.bank bank) (eqb o.number number) is in
    (eqb-true o.bank bank both.0, eqb-true o.number number both.1)

pub is_order-from : (bank number : ℕ) (o : Resting) → o.bank ≡ bank → o.number ≡ number → is_order bank number o ≡ true
is_order-from bank number o owner command =
    and_from (eqb o.bank bank) (eqb o.number number) (eq-eqb o.bank bank owner) (eq-eqb o.number number command)
