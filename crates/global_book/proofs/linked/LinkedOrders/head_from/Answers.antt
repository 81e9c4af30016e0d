use Rattle.std.proofs.Common.{ℕ, ◌≡◌, Option, option_map, subst, sym}
use Rattle.std.specs.Option.{IfSome}
use Rattle.order_store.specs.Orders.{order_at}
use Rattle.price_levels.specs.Rungs.{IsNextRank}
use Rattle.price_levels.specs.declared.level.Level.{Level}
use Rattle.access_index.specs.Ranked.{bank_level}
use Rattle.access_index.specs.declared.words.Head.{Head}
use Rattle.global_book.specs.Room.{ladders_of, rank_of}
use Rattle.global_book.specs.inside.Bests.{IsBestAt, IsBestOf, is_own_from}
use Rattle.global_book.specs.inside.Linked.{Linked}
use Rattle.global_book.proofs.Booking.{each-some}
use Rattle.global_book.proofs.Preferring.{first-found, none-found}
use Rattle.global_book.proofs.Words.{rank-is}
use Rattle.global_book.proofs.linked.LinkedOrders.head_from.Goals as goal

pub returns-in_err-rank-clause-best : goal.returns-in_err-rank-clause-best
returns-in_err-rank-clause-best c =
    subst (λ (l : Linked). IsBestOf l.orders.slots (is_own_from c.args.bank c.args.side c.args.from) c.args.side (option_map (λ (head : Head). head.place) c.from_residual.result)) c.self.view_is
    (subst (λ (found : Option Head). IsBestOf c.self.inside.list.slots (is_own_from c.args.bank c.args.side c.args.from) c.args.side (option_map (λ (head : Head). head.place) found)) (sym c.from_residual.ensures)
    (none-found c.self.inside.list.slots c.args.bank c.args.side (bank_level (ladders_of c.self.inside.ladders c.args.side)) (c.self.invariant.linked.told c.args.side) c.self.invariant.linked.priced
    c.self.invariant.listed.rising c.self.invariant.listed.lots c.args.from (c.next.ensures.none c.in_err-rank.was)))

-- the rank that is found is the next one
next-rank : (c : goal.After-level-place) → IsNextRank (bank_level (ladders_of c.self.inside.ladders c.args.side) c.args.bank) c.args.from c.in_ok-rank.rank
next-rank c = subst (λ (f : Option ℕ). IfSome f (IsNextRank (bank_level (ladders_of c.self.inside.ladders c.args.side) c.args.bank) c.args.from)) c.in_ok-rank.was c.next.ensures.found

pub returns-clause-best : goal.returns-clause-best
returns-clause-best c =
    subst (λ (l : Linked). IsBestAt l.orders.slots (is_own_from c.args.bank c.args.side c.args.from) c.args.side c.level-place.result.first) c.self.view_is
    (subst (λ (l : Level). IsBestAt c.self.inside.list.slots (is_own_from c.args.bank c.args.side c.args.from) c.args.side l.first) (sym c.level-place.ensures)
    (first-found c.self.inside.list.slots c.args.bank c.args.side (bank_level (ladders_of c.self.inside.ladders c.args.side)) (c.self.invariant.linked.told c.args.side) c.self.invariant.linked.priced
    c.self.invariant.listed.rising c.self.invariant.listed.lots c.args.from c.in_ok-rank.rank (next-rank c)))

pub returns-clause-rank : goal.returns-clause-rank
returns-clause-rank c =
    subst (λ (l : Linked). IfSome (order_at l.orders c.level-place.result.first) (λ order. rank_of c.args.side order.price ≡ c.in_ok-rank.rank)) c.self.view_is
    (subst (λ (l : Level). IfSome (order_at c.self.inside.list l.first) (λ order. rank_of c.args.side order.price ≡ c.in_ok-rank.rank)) (sym c.level-place.ensures)
    (each-some (order_at c.self.inside.list (bank_level (ladders_of c.self.inside.ladders c.args.side) c.args.bank c.in_ok-rank.rank).first) (λ order. rank_of c.args.side order.price ≡ c.in_ok-rank.rank) (λ order at.
    rank-is c.self.inside.list.slots c.args.bank c.args.side (bank_level (ladders_of c.self.inside.ladders c.args.side)) (c.self.invariant.linked.told c.args.side) c.self.invariant.linked.priced
    c.self.invariant.listed.rising c.self.invariant.listed.lots c.in_ok-rank.rank order (next-rank c).some at)))
