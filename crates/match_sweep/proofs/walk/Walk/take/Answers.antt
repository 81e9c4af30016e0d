use Rattle.std.proofs.Common.{ap, get_or, arith}
use Rattle.match_sweep.proofs.walk.Walk.take.Goals as goal

pub overflow_add-self : goal.overflow_add-self
overflow_add-self g c = omega (arith, c.get.ensures.most, c.requires.used, ap (λ k. get_or c.args.self.now.used k 0) c.index.ensures.value)
