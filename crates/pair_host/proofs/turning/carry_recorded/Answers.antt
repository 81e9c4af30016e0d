use Rattle.pair_host.proofs.RecordedTurns.{raised-own}
use Rattle.pair_host.proofs.turning.carry_recorded.Goals as goal

pub returns-clause-follows : goal.returns-clause-follows
returns-clause-follows c =
    raised-own c.args.book.now c.carry_own.new.book c.args.fills.now c.carry_own.ensures.pair c.carry_own.ensures.orders
