-- What is shown in each sound state is shown in each to which a legal history led.
use Rattle.std.proofs.Common.{ℕ, Result, Ok, Err, IfOk}
use Rattle.fx_amounts.specs.declared.memory.Memory.{Memory}
use Rattle.fx_rules.specs.declared.outcome.Outcome.{Outcome}
use Rattle.fx_rules.specs.Market.{InEach, IsDepthOf}
use Rattle.flat_host.specs.FlatState.{FlatState}
use Rattle.flat_host.specs.Steps.{ShowsEach, stands}
use Rattle.flat_host.proofs.GoingOn.{may-ask, is-depth}
use Rattle.flat_host.proofs.as_market.FlatHostMarket.depth.Goals as goal

pub depth-requires : goal.depth-requires
depth-requires c = record {
  bank = (may-ask c.args.self.now c.args.bank c.args.pair c.requires.may_ask).0;
  pair = (may-ask c.args.self.now c.args.bank c.args.pair c.requires.may_ask).1;
}

shown : (l : FlatState) (bank pair : ℕ) (r : Result Outcome Memory) → IfOk r (ShowsEach l bank pair) → IfOk r (λ outcome. InEach (stands l) (IsDepthOf bank pair outcome))
shown l bank pair (Ok outcome) shows = is-depth l bank pair outcome shows
shown l bank pair (Err e) shows = tt

pub returns : goal.returns
returns c = record { depth = shown c.args.self.now c.args.bank c.args.pair c.depth.result c.depth.ensures.shows }
