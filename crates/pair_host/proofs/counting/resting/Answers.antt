use Rattle.std.proofs.Common.{arith}
use Rattle.pair_host.proofs.Counted.{few_resting}
use Rattle.pair_host.proofs.counting.resting.Goals as goal

pub returns-clause-most : goal.returns-clause-most
returns-clause-most c = omega (arith, c.len.ensures.count, few_resting c.args.book.now c.len.ensures.valid c.requires.banks)
