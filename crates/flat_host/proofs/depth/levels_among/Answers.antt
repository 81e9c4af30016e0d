-- The levels are those of the walk; at its end, or once there are more than ten, the first ten are those of the whole sweep.
use Rattle.std.proofs.Common.{◌^◌, arith, ◌∙◌}
use Rattle.flat_host.proofs.Walking.{by-on, by-lots, levelled-whole, levelled-full}
use Rattle.flat_host.proofs.depth.levels_among.Goals as goal
use Rattle.flat_host.proofs.depth.levels_among.Goals.{else-loop-walk-test, then-loop-walk-test+in_default}

pub add_fill-requires : goal.add_fill-requires
add_fill-requires c = record {
  lots = by-lots c.args.weight c.args.orders.now c.args.lines c.args.taker.now c.loop-walk.walk c.next_fill.new.self c.loop-walk.levels.items c.in-Some.fill (2 ^ 64)
      c.loop-walk.invariant c.in-Some.ensures.steps c.requires.lots;
}

pub loop-walk-preserved : goal.loop-walk-preserved
loop-walk-preserved c =
    by-on c.args.weight c.args.orders.now c.args.lines c.args.taker.now c.loop-walk.walk c.next_fill.new.self c.loop-walk.levels.items c.add_fill.new.levels.items c.in-Some.fill
    c.loop-walk.invariant c.in-Some.ensures.steps c.in_ok-add_fill.ensures.levels

pub returns : goal.returns
returns c = record {
  levels = elim c.loop-walk-test.branch [
    | else-loop-walk-test w ↦
        levelled-full c.args.weight c.args.orders.now c.args.lines c.args.taker.now c.loop-walk.walk c.loop-walk.levels.items c.from_vec.result
        c.loop-walk.invariant (omega (arith, w.loop-walk-test.false, c.len.ensures)) (c.from_vec.ensures.items ∙ c.truncate.ensures.items)
    | then-loop-walk-test+in_default w ↦
        levelled-whole c.args.weight c.args.orders.now c.args.lines c.args.taker.now c.loop-walk.walk c.loop-walk.levels.items c.from_vec.result c.loop-walk.walk.taker.left
        c.loop-walk.invariant w.in_default.ensures.steps.1 (c.from_vec.ensures.items ∙ c.truncate.ensures.items)
  ];
}
