use Rattle.std.proofs.Common.{◌<◌, arith}
use Rattle.fx_amounts.specs.declared.side.Side.TheVariants.{Buy, Sell}
use Rattle.fx_rules.specs.declared.outcome.Outcome.TheVariants.{Depth}
use Rattle.local_view.proofs.InHistories.{in_histories}
use Rattle.local_view.proofs.Probing.{shown-reached}
use Rattle.local_view.proofs.shown.depth_counted.Goals as goal

pub returns-clause-sound : goal.returns-clause-sound
returns-clause-sound g c h S sound fits few =
    let some : 0 < c.args.weight = omega (arith, c.requires.weight.0) in
    record {
      sells = shown-reached c.args.book.now c.args.lines.now c.args.weight c.args.viewer Sell c.in_ok-bids.bids c.requires.bank some c.in_ok-bids.ensures.levels h S sound fits few;
      buys = shown-reached c.args.book.now c.args.lines.now c.args.weight c.args.viewer Buy c.in_ok-asks.asks c.requires.bank some c.in_ok-asks.ensures.levels h S sound fits few;
    }

pub returns-clause-depth : goal.returns-clause-depth
returns-clause-depth g c =
    in_histories c.args.book.now c.args.lines.now c.args.weight c.args.viewer (Depth c.in_ok-bids.bids c.in_ok-asks.asks) (returns-clause-sound g c)
