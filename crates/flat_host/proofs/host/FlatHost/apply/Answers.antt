-- The answer is the market's, and what is made of it leads to the state after it.
use Rattle.fx_rules.specs.Market.{GoesOn}
use Rattle.flat_host.specs.Steps.{StepsEach, stands}
use Rattle.flat_host.proofs.Stepping.{steps-each}
use Rattle.flat_host.proofs.Sendable.{sender-place}
use Rattle.flat_host.proofs.GoingOn.{goes-on, keeps-lines, stays-uncrossed}
use Rattle.flat_host.proofs.host.FlatHost.apply.Goals as goal

pub carry_out-requires-clause-sender : goal.carry_out-requires-clause-sender
carry_out-requires-clause-sender c = sender-place c.args.self.now c.args.bank c.args.command.now c.requires.command

pub returns : goal.returns
returns c =
    let steps : StepsEach c.args.self.now c.carry_out.new.self c.args.bank c.args.command.now c.in_ok-outcome.outcome =
    steps-each c.args.self.now c.carry_out.new.self c.args.bank c.args.command.now c.in_ok-outcome.outcome c.in_ok-outcome.ensures.answers c.in_ok-carry_out.ensures.follows in
    let on : GoesOn (stands c.args.self.now) (stands c.carry_out.new.self) c.args.bank c.args.command.now c.in_ok-outcome.outcome =
    goes-on c.args.self.now c.carry_out.new.self c.args.bank c.args.command.now c.in_ok-outcome.outcome c.requires.count c.requires.command steps in
    record {
      steps = steps;
      goes_on = on;
      lines = keeps-lines c.args.self.now c.carry_out.new.self c.args.bank c.args.command.now c.in_ok-outcome.outcome on;
      uncrossed = stays-uncrossed c.args.self.now c.carry_out.new.self c.args.bank c.args.command.now c.in_ok-outcome.outcome on;
      tells = c.in_ok-outcome.ensures.tells;
      fills = c.in_ok-outcome.ensures.fills;
      counts = c.in_ok-carry_out.ensures.counts;
      banks = c.in_ok-carry_out.ensures.banks;
      weights = c.in_ok-carry_out.ensures.weights;
      memory = tt;
    }
