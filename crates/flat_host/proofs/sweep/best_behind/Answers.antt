-- The best so far stays the best, or the next order takes its place.
use Rattle.std.proofs.Common.{◌+◌, Some, sym, ap, ◌∙◌, subst, take}
use Rattle.flat_host.specs.inside.Search.{is_candidate, candidates, IsBestOf}
use Rattle.flat_host.proofs.Searching.{best-yes, best-no}
use Rattle.flat_host.proofs.sweep.best_behind.Goals as goal
use Rattle.flat_host.proofs.sweep.best_behind.Goals.{then-is_candidate, else-is_candidate}

pub loop-active-preserved : goal.loop-active-preserved
loop-active-preserved c =
    let t = c.args.taker.now in
    let test = is_candidate c.args.weight c.args.lines.now t c.args.last.now in
    elim c.if-is_candidate.branch [
      | then-is_candidate w ↦
          subst (IsBestOf t.side (candidates c.args.weight c.args.lines.now t c.args.last.now (take (c.loop-active.active-index + 1) c.args.orders.now)))
          (ap Some (sym w.preferred.ensures.value) ∙ sym w.best-is)
          (best-yes t.side test c.args.orders.now c.loop-active.active-index c.active-item.result c.loop-active.best
          c.loop-active-test.true c.active-item.is (sym c.is_candidate.ensures.value ∙ w.if-is_candidate.true) c.loop-active.invariant)
      | else-is_candidate w ↦
          subst (IsBestOf t.side (candidates c.args.weight c.args.lines.now t c.args.last.now (take (c.loop-active.active-index + 1) c.args.orders.now)))
          (sym w.best-is)
          (best-no t.side test c.args.orders.now c.loop-active.active-index c.active-item.result c.loop-active.best
          c.loop-active-test.true c.active-item.is (sym c.is_candidate.ensures.value ∙ w.if-is_candidate.false) c.loop-active.invariant)
    ]
