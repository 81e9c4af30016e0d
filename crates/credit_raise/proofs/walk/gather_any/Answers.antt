use Rattle.std.proofs.Common.{arith}
use Rattle.fx_amounts.specs.Side.{opposite}
use Rattle.credit_raise.specs.inside.Prices.{top_of}
use Rattle.credit_raise.proofs.Gathering.{gathers-apart}
use Rattle.credit_raise.proofs.walk.gather_any.Goals as goal

pub returns-then-not-any : goal.returns-then-not-any
returns-then-not-any g c = record {
  gathered = gathers-apart c.args.bank c.args.side (top_of c.args.tops.now (opposite c.args.side)) c.args.book.now.orders c.args.turns.now.items (c.requires.none c.if-not-any.true);
  steps = omega arith;
}
