-- An order goes.
use Rattle.std.proofs.Common.{ℕ, ◌≤◌, None, ap, subst, sym, ◌∙◌}
use Rattle.std.proofs.Math.ListN.{set}
use Rattle.price_levels.specs.Ticks.{without_order}
use Rattle.price_levels.specs.declared.level.Level.{Level}
use Rattle.access_index.specs.Ranked.{bank_holds, bank_level, with_bank_level}
use Rattle.global_book.specs.Room.{ladders_of}
use Rattle.global_book.specs.inside.Ends.{orders_of}
use Rattle.global_book.specs.inside.Linked.{AreLinked, Linked}
use Rattle.global_book.specs.inside.Owning.{AreOwnersOf}
use Rattle.global_book.proofs.Booking.{if-some}
use Rattle.global_book.proofs.Linking.{behind-fits, has-left, holds-same, linked-removed}
use Rattle.global_book.proofs.Owned.{lots-owned, none-owned, owners-removed}
use Rattle.global_book.proofs.linked.LinkedOrders.remove.Goals as goal

pub remove-requires-clause-bank : goal.remove-requires-clause-bank
remove-requires-clause-bank c = (c.self.invariant.linked.priced c.args.place c.order-order.result c.order-order.ensures.value).bank

pub remove-requires-clause-has : goal.remove-requires-clause-has
remove-requires-clause-has c =
    subst (λ r. c.order-order.result.left ≤ (bank_level (ladders_of c.self.inside.ladders c.order-order.result.side) c.order-order.result.bank r).lots) (sym c.rank_of-rank.ensures.rank)
    (has-left c.self.inside.list.slots c.self.inside.ladders c.args.place c.order-order.result c.order-order.ensures.value c.self.invariant.linked)

pub remove-requires-clause-behind : goal.remove-requires-clause-behind
remove-requires-clause-behind c =
    behind-fits c.self.inside.list c.args.place c.order-order.result c.behind-behind.result c.order-order.ensures.valid (if-some _ c.order-order.result _ c.order-order.ensures.value c.behind-behind.ensures.behind)

pub invariant_of-self : goal.invariant_of-self
invariant_of-self c =
    let old : ℕ → ℕ → Level = bank_level (ladders_of c.self.inside.ladders c.order-order.result.side) in
    let linked : AreLinked (set c.self.inside.list.slots c.args.place None) c.remove.new.self =
    linked-removed c.self.inside.list.slots c.self.inside.ladders c.args.place c.order-order.result c.order-order.ensures.value c.self.invariant.linked c.remove.new.self c.before-before.result c.behind-behind.result c.order-order.ensures.valid.lots
    (if-some _ c.order-order.result _ c.order-order.ensures.value c.before-before.ensures.before) (if-some _ c.order-order.result _ c.order-order.ensures.value c.behind-behind.ensures.behind)
    (λ other at. c.remove.ensures.levels other at
    ∙ ap (λ r. with_bank_level old c.order-order.result.bank r (without_order (old c.order-order.result.bank r) c.order-order.result.left c.before-before.result c.behind-behind.result) other at) c.rank_of-rank.ensures.rank)
    c.remove.ensures.other_side in
    record {
      listed = c.remove-2.ensures.valid;
      linked = subst (λ ss. AreLinked ss c.remove.new.self) (sym c.remove-2.ensures.slots) linked;
      owned = subst (λ ss. AreOwnersOf (orders_of ss) c.unlist_gone.new.self) (sym c.remove-2.ensures.slots)
          (subst (AreOwnersOf (orders_of (set c.self.inside.list.slots c.args.place None))) (sym c.unlist_gone.ensures)
          (owners-removed c.self.inside.list.slots c.args.place c.order-order.result c.order-order.ensures.value c.self.inside.owners c.owns-owns.result
          (λ yes'. let it = c.owns-owns.ensures.yes yes' in lots-owned (set c.self.inside.list.slots c.args.place None) c.remove.new.self it.0 c.order-order.result.bank it.1 linked it.2)
          (λ no'. none-owned (set c.self.inside.list.slots c.args.place None) c.remove.new.self c.order-order.result.bank linked (c.owns-owns.ensures.no no'))
          c.self.invariant.owned));
    }

pub returns-clause-slots : goal.returns-clause-slots
returns-clause-slots c = c.remove-2.ensures.slots ∙ ap (λ (l : Linked). set l.orders.slots c.args.place None) c.self.view_is

pub returns-clause-room : goal.returns-clause-room
returns-clause-room c = c.remove-2.ensures.room ∙ ap (λ (l : Linked). l.orders.room) c.self.view_is

pub returns-clause-holds : goal.returns-clause-holds
returns-clause-holds c = λ side bank rank.
    holds-same c.self.inside.ladders c.remove.new.self c.order-order.result.side c.remove.ensures.holds c.remove.ensures.other_side side bank rank
    ∙ ap (λ (l : Linked). bank_holds (ladders_of l.ladders side) bank rank) c.self.view_is
