-- An order comes to rest.
use Rattle.std.proofs.Common.{ℕ, ◌≡◌, ◌+◌, ◌≤◌, ◌<◌, ◌^◌, ◌++◌, ◌∷◌, [], Some, true, length, ap, subst, sym, ◌∙◌, arith}
use Rattle.order_store.specs.Linked.{IsInLevel, IsLastBelow}
use Rattle.order_store.specs.Orders.{Lacks, TakesRoom, order_at, room_for}
use Rattle.price_levels.specs.Ticks.{last_of_level, with_order}
use Rattle.price_levels.specs.declared.level.Level.{Level}
use Rattle.access_index.specs.Ranked.{bank_holds, bank_level, with_bank_level}
use Rattle.global_book.specs.Room.{ladders_of, rank_of}
use Rattle.global_book.specs.inside.Ends.{orders_of}
use Rattle.global_book.specs.inside.Linked.{AreLinked, Linked}
use Rattle.global_book.specs.inside.Owning.{AreOwnersOf}
use Rattle.global_book.proofs.Linking.{before-asked, holds-same, linked-pushed, sum-fits}
use Rattle.global_book.proofs.Owned.{lots-owned, none-owned, owner-fits, owners-pushed}
use Rattle.global_book.proofs.Owning.{parted}
use Rattle.global_book.proofs.linked.LinkedOrders.rest.Goals as goal

pub insert-before-requires-clause-place : goal.insert-before-requires-clause-place
insert-before-requires-clause-place c =
    omega (arith, c.places-place.ensures.count, c.places-place.ensures.few c.args.order.bank (subst (λ (l : Linked). 1 ≤ room_for l.orders c.args.order.bank) (sym c.self.view_is) c.requires.room))

pub insert-before-requires-clause-holds : goal.insert-before-requires-clause-holds
insert-before-requires-clause-holds c =
    subst (λ r. bank_holds (ladders_of c.self.inside.ladders c.args.order.side) c.args.order.bank r ≡ true) (sym c.rank_of-rank.ensures.rank)
    (subst (λ (l : Linked). bank_holds (ladders_of l.ladders c.args.order.side) c.args.order.bank (rank_of c.args.order.side c.args.order.price) ≡ true) (sym c.self.view_is) c.requires.holds)

pub insert-before-requires-clause-fits : goal.insert-before-requires-clause-fits
insert-before-requires-clause-fits c =
    subst (λ r. (bank_level (ladders_of c.self.inside.ladders c.args.order.side) c.args.order.bank r).lots + c.args.order.left < 2 ^ 64) (sym c.rank_of-rank.ensures.rank)
    (sum-fits c.self.inside.list.slots c.self.inside.ladders c.args.order c.self.invariant.linked c.places-place.ensures.valid.lots c.rank_of-rank.ensures.price (omega arith) c.places-place.ensures.valid.few)

pub push-requires-clause-room : goal.push-requires-clause-room
push-requires-clause-room c = subst (λ (l : Linked). 1 ≤ room_for l.orders c.args.order.bank) (sym c.self.view_is) c.requires.room

pub push-requires-clause-absent : goal.push-requires-clause-absent
push-requires-clause-absent c = subst (λ (l : Linked). Lacks l.orders c.args.order.bank c.args.order.number) (sym c.self.view_is) c.requires.absent

pub push-requires-clause-later : goal.push-requires-clause-later
push-requires-clause-later c = λ place other at.
    c.requires.later place other (sym (ap (λ (l : Linked). order_at l.orders place) c.self.view_is) ∙ at)

pub push-requires-clause-before : goal.push-requires-clause-before
push-requires-clause-before c =
    subst (IsLastBelow (IsInLevel (order_at c.self.inside.list) c.args.order) (length c.self.inside.list.slots))
    (sym (c.insert-before.ensures.before ∙ ap (λ r. last_of_level (bank_level (ladders_of c.self.inside.ladders c.args.order.side) c.args.order.bank r)) c.rank_of-rank.ensures.rank))
    (before-asked c.self.inside.list.slots c.self.inside.ladders c.args.order c.self.invariant.linked c.places-place.ensures.valid.lots c.rank_of-rank.ensures.price)

pub list_new-requires-clause-room : goal.list_new-requires-clause-room
list_new-requires-clause-room c = λ no'.
    owner-fits c.self.inside.list.slots c.self.inside.ladders c.args.order.bank c.self.inside.owners c.self.invariant.linked c.self.invariant.owned c.requires.bank
    (none-owned c.self.inside.list.slots c.self.inside.ladders c.args.order.bank c.self.invariant.linked (c.owns-owned.ensures.no no'))

pub list_new-requires-clause-in_order : goal.list_new-requires-clause-in_order
list_new-requires-clause-in_order c = parted c.args.order.bank c.self.inside.owners c.self.invariant.owned.rising

pub invariant_of-self : goal.invariant_of-self
invariant_of-self c =
    let old : ℕ → ℕ → Level = bank_level (ladders_of c.self.inside.ladders c.args.order.side) in
    record {
      listed = c.push.ensures.valid;
      owned = subst (λ ss. AreOwnersOf (orders_of ss) c.list_new.new.self) (sym c.push.ensures.slots)
          (subst (AreOwnersOf (orders_of (c.self.inside.list.slots ++ Some c.args.order ∷ []))) (sym c.list_new.ensures)
          (owners-pushed c.self.inside.list.slots c.args.order c.self.inside.owners c.owns-owned.result
          (λ yes'. let it = c.owns-owned.ensures.yes yes' in lots-owned c.self.inside.list.slots c.self.inside.ladders it.0 c.args.order.bank it.1 c.self.invariant.linked it.2)
          (λ no'. none-owned c.self.inside.list.slots c.self.inside.ladders c.args.order.bank c.self.invariant.linked (c.owns-owned.ensures.no no'))
          c.self.invariant.owned));
      linked = subst (λ ss. AreLinked ss c.insert-before.new.self) (sym c.push.ensures.slots)
          (linked-pushed c.self.inside.list.slots c.self.inside.ladders c.args.order c.self.invariant.linked c.places-place.ensures.valid.lots c.insert-before.new.self
          (record { bank = c.requires.bank; least = c.rank_of-rank.ensures.least; price = c.rank_of-rank.ensures.price }) (omega arith)
          (λ other at. c.insert-before.ensures.levels other at
          ∙ ap (λ r. with_bank_level old c.args.order.bank r (with_order (old c.args.order.bank r) c.places-place.result c.args.order.left) other at) c.rank_of-rank.ensures.rank
          ∙ ap (λ p. with_bank_level old c.args.order.bank (rank_of c.args.order.side c.args.order.price) (with_order (old c.args.order.bank (rank_of c.args.order.side c.args.order.price)) p c.args.order.left) other at)
          c.places-place.ensures.count)
          c.insert-before.ensures.other_side);
    }

pub returns-clause-slots : goal.returns-clause-slots
returns-clause-slots c = c.push.ensures.slots ∙ ap (λ (l : Linked). l.orders.slots ++ Some c.args.order ∷ []) c.self.view_is

pub returns-clause-room : goal.returns-clause-room
returns-clause-room c = subst (λ (l : Linked). TakesRoom l.orders c.push.new.self) c.self.view_is c.push.ensures.room

pub returns-clause-holds : goal.returns-clause-holds
returns-clause-holds c = λ side bank rank.
    holds-same c.self.inside.ladders c.insert-before.new.self c.args.order.side c.insert-before.ensures.holds c.insert-before.ensures.other_side side bank rank
    ∙ ap (λ (l : Linked). bank_holds (ladders_of l.ladders side) bank rank) c.self.view_is
