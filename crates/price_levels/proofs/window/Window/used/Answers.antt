use Rattle.std.proofs.Common.{arith}
use Rattle.price_levels.proofs.Marking.{used_few}
use Rattle.price_levels.proofs.window.Window.used.Goals as goal

pub returns-clause-few : goal.returns-clause-few
returns-clause-few c = omega (arith, c.self.invariant.counted, used_few c.self.inside.levels.items, c.self.invariant.few)
