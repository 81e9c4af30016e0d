-- The levels of the sweep through the orders against the taker are those of its sweep through all.
use Rattle.std.proofs.Common.{◌∙◌}
use Rattle.flat_host.proofs.Against.{levelled-against}
use Rattle.flat_host.proofs.depth.first_levels.Goals as goal

pub returns : goal.returns
returns c = record {
  levels = levelled-against c.args.weight c.args.lines c.args.orders.now c.deref.result.now c.args.taker.now c.levels_among.result
      (c.deref.ensures.value ∙ c.in_ok-against.ensures.against) c.levels_among.ensures.levels;
}
