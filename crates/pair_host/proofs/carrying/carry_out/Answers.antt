-- What is made in the book is what the market makes of the pair.
use Rattle.pair_host.proofs.Carried.{follows}
use Rattle.pair_host.proofs.carrying.carry_out.Goals as goal

pub returns-clause-follows : goal.returns-clause-follows
returns-clause-follows c =
    follows c.args.book.now c.change.new.book c.args.sender.now c.args.command.now c.args.outcome.now c.requires.pair c.change.ensures.pair c.change.ensures.orders
