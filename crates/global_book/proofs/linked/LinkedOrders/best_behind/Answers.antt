use Rattle.std.proofs.Common.{subst, sym}
use Rattle.std.specs.Option.{IfSome, IsSomeAnd, option_copied}
use Rattle.order_store.specs.Linked.{AreListed}
use Rattle.order_store.specs.Orders.{IsOf, Lacks, order_at}
use Rattle.global_book.specs.Behind.{IsCursor}
use Rattle.global_book.specs.inside.Bests.{IsBestOf, is_past}
use Rattle.global_book.specs.inside.Ends.{orders_of}
use Rattle.global_book.specs.inside.Linked.{Linked, orders_in}
use Rattle.global_book.proofs.Behind.{cursor-best, cursor-found, past-none}
use Rattle.global_book.proofs.linked.LinkedOrders.best_behind.Goals as goal

pub unwrap-place-requires : goal.unwrap-place-requires
unwrap-place-requires c =
    let cursor : IsCursor (orders_of c.args.self.now.orders.slots) c.args.bank c.args.side c.in-Some.last.now =
    subst (λ p. IfSome (option_copied p) (IsCursor (orders_in c.args.self.now) c.args.bank c.args.side)) c.in-Some.is c.requires.past in
    cursor-found c.args.self.now.orders c.args.bank c.args.side c.in-Some.last.now c.find.result cursor
    (λ none. subst (λ (l : Linked). Lacks l.orders c.in-Some.last.now.bank c.in-Some.last.now.number) c.self.view_is (c.find.ensures.none none))

pub returns-in-Some : goal.returns-in-Some
returns-in-Some c =
    let cursor : IsCursor (orders_of c.args.self.now.orders.slots) c.args.bank c.args.side c.in-Some.last.now =
    subst (λ p. IfSome (option_copied p) (IsCursor (orders_in c.args.self.now) c.args.bank c.args.side)) c.in-Some.is c.requires.past in
    subst (λ p. IsBestOf c.args.self.now.orders.slots (is_past c.args.bank c.args.side (option_copied p)) c.args.side c.behind.result) (sym c.in-Some.is)
    (cursor-best c.args.self.now.orders c.args.bank c.args.side c.in-Some.last.now c.find.result c.unwrap-place.result c.behind.result (subst (λ (l : Linked). AreListed l.orders) c.self.view_is c.find.ensures.valid) cursor c.unwrap-place.ensures
    (subst (λ (l : Linked). IfSome c.find.result (λ p. IsSomeAnd (order_at l.orders p) (IsOf c.in-Some.last.now.bank c.in-Some.last.now.number))) c.self.view_is c.find.ensures.found)
    c.behind.ensures)

pub returns-in-None : goal.returns-in-None
returns-in-None c =
    subst (λ p. IsBestOf c.args.self.now.orders.slots (is_past c.args.bank c.args.side (option_copied p)) c.args.side c.first_from.result) (sym c.in-None.is)
    (past-none c.args.self.now.orders.slots c.args.bank c.args.side c.first_from.result c.first_from.ensures)
