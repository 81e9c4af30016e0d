use Rattle.std.proofs.Common.{ℕ, ◌≡◌, true, leb, List, Option, Some, None, get_or, subst, sym}
use Rattle.std.proofs.lemmas.Bool.{and_parts, eqb-true}
use Rattle.std.specs.Option.{IsSomeAnd}
use Rattle.fx_amounts.specs.Side.{opposite}
use Rattle.fx_amounts.specs.declared.side.Side.{Side}
use Rattle.fx_rules.specs.declared.orders.Resting.{Resting}
use Rattle.fx_rules.specs.Sweep.{is_opposite}
use Rattle.order_store.specs.Orders.{IsOf}
use Rattle.global_book.specs.Book.{is_of}
use Rattle.global_book.specs.Room.{rank_of}
use Rattle.global_book.specs.inside.Bests.{IsBestOf, is_own_from}
use Rattle.global_book.specs.inside.Owning.{is_own}
use Rattle.global_book.proofs.Behind.{best-live}
use Rattle.global_book.proofs.Ending.{order_is}
use Rattle.global_book.proofs.linked.LinkedOrders.first_under.Goals as goal

-- the best order of a bank and a side is the bank's
best-under : (slots : List (Option Resting)) (bank : ℕ) (side : Side) (found : Option ℕ) (place number : ℕ) (order : Resting) → IsBestOf slots (is_own_from bank side 0) side found → found ≡ Some place
    → get_or slots place None ≡ Some order → order.number ≡ number → IsSomeAnd (get_or slots place None) (IsOf bank number)
best-under slots bank side found place number order is_best is at named =
    let best = subst (IsBestOf slots (is_own_from bank side 0) side) is is_best in
    let same : best.order ≡ order = order_is slots place best.order order best.is at in
    let own : is_own_from bank side 0 order ≡ true = subst (λ (o : Resting). is_own_from bank side 0 o ≡ true) same best.passes_it in
    subst (λ (s : Option Resting). IsSomeAnd s (IsOf bank number)) (sym at) (record {
      bank = eqb-true order.bank bank (and_parts (is_of bank order) (is_opposite (opposite side) order.side) (and_parts (is_own bank side order) (leb 0 (rank_of side order.price)) own).0).0;
      number = named;
    })

pub order-order-requires : goal.order-order-requires
order-order-requires c = record {
  live = best-live c.args.self.now.orders.slots (is_own_from c.args.bank c.args.side 0) c.args.side c.first_of.result c.in_ok-place.place c.first_of.ensures c.in_ok-place.was;
}

pub returns-then-order-number : goal.returns-then-order-number
returns-then-order-number c =
    best-under c.args.self.now.orders.slots c.args.bank c.args.side c.first_of.result c.in_ok-place.place c.args.number c.order-order.result c.first_of.ensures c.in_ok-place.was c.order-order.ensures.value c.if-order-number.true
