-- The levels of a bank and a side from a price on, as callers see them.
use Rattle.std.proofs.Common.{ℕ, ◌≡◌, ◌≤◌, ◌+◌, ◌^◌, true, false, Bool, ◌&&◌, eqb, leb, ltb, List, Option, Some, None, inl, inr, refl, ap, sym, subst, ◌∙◌, arith}
use Rattle.std.proofs.lemmas.Bool.{cases_Bool, cases_lt, both_ways, le-leb, lt-leb, or_parts}
use Rattle.std.specs.Option.{IfSome}
use Rattle.fx_amounts.specs.Side.{opposite}
use Rattle.fx_amounts.specs.declared.side.Side.{Side}
use Rattle.fx_rules.specs.declared.orders.Resting.{Resting}
use Rattle.fx_rules.specs.Sweep.{is_better, is_opposite}
use Rattle.fx_rules.proofs.ListLemmas.{Each-of}
use Rattle.order_store.specs.Orders.{order_at}
use Rattle.global_book.specs.Book.{IsPriceOf, is_of, is_worse, is_worse_of}
use Rattle.global_book.specs.Room.{rank_of}
use Rattle.global_book.specs.inside.Bests.{IsBestAt, IsBestOf, from_rank, is_own_from}
use Rattle.global_book.specs.inside.Linked.{Linked, orders_in}
use Rattle.global_book.proofs.Listing.{among-at, at-among}
use Rattle.global_book.proofs.Preferring.{better-rank, rank-better}

-- from a rank on stand the prices that are worse
worse-rank : (side : Side) (past : Option ℕ) (price : ℕ) → IfSome past (λ p. p ≤ 10 ^ 9) → leb (from_rank side past) (rank_of side price) ≡ is_worse (opposite side) past price
worse-rank side None price most = le-leb 0 (rank_of side price) (omega arith)
worse-rank side (Some past) price most =
    elim (cases_Bool (is_better (opposite side) past price)) [
      | inl better ↦ le-leb (rank_of side past + 1) (rank_of side price) (omega (arith, better-rank side past price most better)) ∙ sym better
      | inr not_better ↦
          lt-leb (rank_of side past + 1) (rank_of side price)
          (elim (cases_lt (rank_of side past) (rank_of side price)) [
            | inl less ↦ absurd (both_ways (is_better (opposite side) past price) not_better (rank-better side past price most less))
            | inr upto ↦ omega (arith, upto)
          ])
          ∙ sym not_better
    ]

worse-same : (side : Side) (bank : ℕ) (past : Option ℕ) (order : Resting) → IfSome past (λ p. p ≤ 10 ^ 9) → is_own_from bank side (from_rank side past) order ≡ is_worse_of (opposite side) bank past order
worse-same side bank past order most = ap (λ (b : Bool). is_of bank order && is_opposite (opposite side) order.side && b) (worse-rank side past order.price most)

-- the best price that is worse
pub price-found : (linked : Linked) (orders : List Resting) (bank : ℕ) (side : Side) (past : Option ℕ) (found : Option ℕ) (place : ℕ) (order : Resting) → orders_in linked ≡ orders → IfSome past (λ p. p ≤ 10 ^ 9)
    → IsBestOf linked.orders.slots (is_own_from bank side (from_rank side past)) side found → found ≡ Some place → order_at linked.orders place ≡ Some order → IsPriceOf (opposite side) bank past orders (Some order.price)
price-found linked orders bank side past found place order seen most best is at =
    let it : IsBestAt linked.orders.slots (is_own_from bank side (from_rank side past)) side place = subst (IsBestOf linked.orders.slots (is_own_from bank side (from_rank side past)) side) is best in
    let same : it.order ≡ order = some_same it.order order (sym it.is ∙ at) in
    subst (λ os. IsPriceOf (opposite side) bank past os (Some order.price)) seen (record {
      order = order;
      there = among-at linked.orders.slots place order at;
      passes = sym (worse-same side bank past order most) ∙ ap (is_own_from bank side (from_rank side past)) (sym same) ∙ it.passes_it;
      price = refl;
      first = Each-of (λ other. is_worse_of (opposite side) bank past other ≡ true → is_better (opposite side) other.price order.price ≡ false) (orders_in linked) (λ other there worse.
          let here = at-among linked.orders.slots other there in
          let below = it.best here.0 other here.1 (worse-same side bank past other most ∙ worse) in
          subst (λ (o : Resting). is_better (opposite side) other.price o.price ≡ false) same
          (or_parts (is_better (opposite side) other.price it.order.price) (eqb other.price it.order.price && ltb other.arrival it.order.arrival) below).0);
      lots = refl;
    })
  where
    some_same : (a b : Resting) → Some a ≡ Some b → a ≡ b
    some_same a b is = cc

pub price-none : (linked : Linked) (orders : List Resting) (bank : ℕ) (side : Side) (past : Option ℕ) (found : Option ℕ) → orders_in linked ≡ orders → IfSome past (λ p. p ≤ 10 ^ 9)
    → IsBestOf linked.orders.slots (is_own_from bank side (from_rank side past)) side found → found ≡ None → IsPriceOf (opposite side) bank past orders None
price-none linked orders bank side past found seen most best is =
    let none : IsBestOf linked.orders.slots (is_own_from bank side (from_rank side past)) side None = subst (IsBestOf linked.orders.slots (is_own_from bank side (from_rank side past)) side) is best in
    subst (λ os. IsPriceOf (opposite side) bank past os None) seen
    (Each-of (λ order. is_worse_of (opposite side) bank past order ≡ false) (orders_in linked) (λ order there.
    let here = at-among linked.orders.slots order there in
    sym (worse-same side bank past order most) ∙ none here.0 order here.1))
