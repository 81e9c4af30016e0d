-- What is told of the answer rests on what the bank sees.
use Rattle.flat_host.proofs.Viewing.{tells-by_view, fills-by_view}
use Rattle.flat_host.proofs.host.FlatHost.answer.Goals as goal

pub returns-clause-tells : goal.returns-clause-tells
returns-clause-tells c =
    tells-by_view c.args.self.now c.args.bank c.args.command.now c.in_ok-outcome.outcome c.requires.command c.in_ok-outcome.ensures.answers

pub returns-clause-fills : goal.returns-clause-fills
returns-clause-fills c =
    fills-by_view c.args.self.now c.args.bank c.args.command.now c.in_ok-outcome.outcome c.requires.command c.in_ok-outcome.ensures.answers
