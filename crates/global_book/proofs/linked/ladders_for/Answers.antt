use Rattle.std.proofs.Common.{ℕ, take, ap, subst, sym, ◌∙◌, arith}
use Rattle.price_levels.specs.Ticks.{with_order}
use Rattle.price_levels.specs.declared.level.Level.{Level}
use Rattle.access_index.specs.Ranked.{bank_level, with_bank_level}
use Rattle.global_book.specs.Room.{ladders_of, rank_of}
use Rattle.global_book.specs.inside.Linked.{AreLinked}
use Rattle.global_book.proofs.Linking.{linked-pushed, sum-fits}
use Rattle.global_book.proofs.Packing.{take-length, take-lots, take-more}
use Rattle.global_book.proofs.linked.ladders_for.Goals as goal

pub rest_on-requires-clause-fits : goal.rest_on-requires-clause-fits
rest_on-requires-clause-fits c =
    sum-fits (take c.loop-place.place c.args.list.now.slots) c.loop-place.ladders c.order-order.result c.loop-place.invariant
    (take-lots c.args.list.now.slots c.loop-place.place c.places-places.ensures.valid.lots)
    (c.requires.priced c.loop-place.place c.order-order.result c.order-order.ensures.value).price
    (c.places-places.ensures.valid.lots c.loop-place.place c.order-order.result c.order-order.ensures.value).1
    (omega (arith, take-length c.args.list.now.slots c.loop-place.place (omega arith), c.places-places.ensures.valid.few))

pub loop-place-preserved : goal.loop-place-preserved
loop-place-preserved c =
    let slots = c.args.list.now.slots in
    let order = c.order-order.result in
    let old : ℕ → ℕ → Level = bank_level (ladders_of c.loop-place.ladders order.side) in
    subst (λ ss. AreLinked ss c.rest_on.new.ladders) (sym (take-more slots c.loop-place.place order c.order-order.ensures.value))
    (linked-pushed (take c.loop-place.place slots) c.loop-place.ladders order c.loop-place.invariant (take-lots slots c.loop-place.place c.places-places.ensures.valid.lots) c.rest_on.new.ladders
    (c.requires.priced c.loop-place.place order c.order-order.ensures.value)
    (omega (arith, (c.places-places.ensures.valid.lots c.loop-place.place order c.order-order.ensures.value).0))
    (λ other at. c.in_ok-rest_on.ensures.levels other at
    ∙ ap (λ p. with_bank_level old order.bank (rank_of order.side order.price) (with_order (old order.bank (rank_of order.side order.price)) p order.left) other at)
    (sym (take-length slots c.loop-place.place (omega arith))))
    c.in_ok-rest_on.ensures.other_side)
