use Rattle.std.proofs.Common.{ℕ, ◌≡◌, ◌<◌, ◌≤◌, false, ◌&&◌, ltb, Option, ap, subst, sym, ◌∙◌, arith}
use Rattle.std.proofs.lemmas.Bool.{and_right}
use Rattle.std.specs.Option.{option_copied}
use Rattle.fx_amounts.specs.Side.{opposite}
use Rattle.fx_rules.specs.Plan.{is_behind}
use Rattle.fx_rules.specs.Sweep.{is_opposite}
use Rattle.global_book.specs.Behind.{is_owned_behind}
use Rattle.global_book.specs.Book.{is_of}
use Rattle.global_book.specs.inside.Ahead.{still_ahead}
use Rattle.global_book.specs.inside.Bests.{IsBestOf, is_own_behind, is_own_from}
use Rattle.global_book.proofs.Booking.{if-some}
use Rattle.global_book.proofs.Late.{too-late}
use Rattle.global_book.proofs.Seeking.{ahead-begun, ahead-early, ahead-passed, ahead-smaller}
use Rattle.global_book.proofs.linked.LinkedOrders.best_ahead.Goals as goal
use Rattle.global_book.proofs.linked.LinkedOrders.best_ahead.Goals.{then-is_behind+else-order-before, else-is_behind}

pub loop-next-init : goal.loop-next-init
loop-next-init g c = record {
  seeks = ahead-begun c.args.self.now.orders.slots c.args.bank c.args.side c.args.before (option_copied c.args.past) c.first_from-next.result
      (subst (λ r. IsBestOf c.args.self.now.orders.slots (is_own_from c.args.bank c.args.side r) c.args.side c.first_from-next.result) c.first_rank.ensures c.first_from-next.ensures);
  early = λ timely. omega (arith, c.tick.ensures);
}

pub loop-next-smaller : goal.loop-next-smaller
loop-next-smaller g c =
    subst (λ (f : Option ℕ). still_ahead c.args.self.now.orders.slots c.behind-next.result < still_ahead c.args.self.now.orders.slots f) (sym c.in-Some.is)
    (ahead-smaller c.args.self.now.orders.slots c.behind-next.result c.in-Some.place c.order-order.result c.order-order.ensures.value
    (if-some _ c.order-order.result (λ order. IsBestOf c.args.self.now.orders.slots (is_own_behind order) order.side c.behind-next.result) c.order-order.ensures.value c.behind-next.ensures))

pub loop-next-preserved : goal.loop-next-preserved
loop-next-preserved g c =
    let passed : is_owned_behind (opposite c.args.side) c.args.bank c.args.before (option_copied c.args.past) c.order-order.result ≡ false = elim c.if-is_behind.branch [
      | then-is_behind+else-order-before w ↦
          too-late c.args.bank c.args.side c.args.before (option_copied c.args.past) c.order-order.result w.if-order-before.false
      | else-is_behind w ↦
          and_right (is_opposite (opposite c.args.side) c.order-order.result.side && is_of c.args.bank c.order-order.result && ltb c.order-order.result.arrival c.args.before)
          (is_behind (opposite c.args.side) (option_copied c.args.past) c.order-order.result)
          (ap (λ s. is_behind s (option_copied c.args.past) c.order-order.result) (sym c.opposite.ensures) ∙ sym c.is_behind.ensures ∙ w.if-is_behind.false)
    ] in
    record {
      seeks = ahead-passed c.args.self.now.orders.slots c.args.bank c.args.side c.args.before (option_copied c.args.past) c.loop-next.next c.behind-next.result c.in-Some.place c.order-order.result c.order-order.ensures.valid.rising
          c.loop-next.invariant.seeks c.in-Some.is c.order-order.ensures.value passed
          (if-some _ c.order-order.result (λ order. IsBestOf c.args.self.now.orders.slots (is_own_behind order) order.side c.behind-next.result) c.order-order.ensures.value c.behind-next.ensures);
      early = λ timely.
          let early : c.order-order.result.arrival < c.args.before =
          ahead-early c.args.self.now.orders.slots c.args.bank c.args.side c.args.before (option_copied c.args.past) c.loop-next.next c.in-Some.place c.order-order.result c.loop-next.invariant.seeks c.in-Some.is
          c.order-order.ensures.value timely in
          elim c.if-is_behind.branch [
            | then-is_behind+else-order-before w ↦
                let late : c.args.before ≤ c.order-order.result.arrival = w.if-order-before.false in
                absurd (omega (arith, early, late))
            | else-is_behind w ↦ let was = c.loop-next.invariant.early timely in omega (arith, was, w.steps-is)
          ];
    }
