-- Both sides are shown in each state that the host stands for, so the laws of local books hold of them.
use Rattle.fx_rules.specs.declared.outcome.Outcome.{Outcome}
use Rattle.fx_rules.specs.declared.outcome.Outcome.TheVariants.{Depth}
use Rattle.flat_host.specs.Steps.{ShowsEach}
use Rattle.flat_host.proofs.Stepping.{shows}
use Rattle.flat_host.proofs.Viewing.{shows-by_view, shows-truly}
use Rattle.flat_host.proofs.host.FlatHost.depth.Goals as goal

pub returns : goal.returns
returns c =
    let shown : Outcome = Depth c.in_ok-bids.bids c.in_ok-asks.asks in
    let is : ShowsEach c.args.self.now c.args.bank c.args.pair shown =
    shows c.args.self.now c.args.bank c.args.pair c.in_ok-bids.bids c.in_ok-asks.asks c.requires.bank c.requires.pair c.in_ok-bids.ensures.levels c.in_ok-asks.ensures.levels in
    record {
      shows = is;
      view = shows-by_view c.args.self.now c.args.bank c.args.pair shown c.requires.bank c.requires.pair is;
      truthful = shows-truly c.args.self.now c.args.bank c.args.pair shown c.requires.bank c.requires.pair is;
    }
