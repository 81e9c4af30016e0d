-- The best of each side.
use Rattle.std.proofs.Common.{arith}
use Rattle.credit_raise.proofs.prices.Tops.of_book.Goals as goal

pub returns : goal.returns
returns g c = record {
  tops = record { buy = c.best_of.ensures.best; sell = c.best_of-2.ensures.best };
  steps = omega (arith, c.best_of.ensures.step, c.best_of-2.ensures.step);
}
