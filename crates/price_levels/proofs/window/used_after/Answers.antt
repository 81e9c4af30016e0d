use Rattle.std.proofs.Common.{arith}
use Rattle.price_levels.proofs.Marking.{mark_few, used_few}
use Rattle.price_levels.proofs.window.used_after.Goals as goal

pub overflow_add-result : goal.overflow_add-result
overflow_add-result c = omega (arith, c.requires.used, c.requires.few, used_few c.args.levels.now, c.mark.ensures, mark_few c.args.level)
