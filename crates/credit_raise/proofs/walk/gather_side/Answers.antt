-- Nothing crosses a best price that there is not.
use Rattle.std.proofs.Common.{arith, ap, sym, ◌∙◌}
use Rattle.fx_amounts.specs.Side.{opposite}
use Rattle.credit_raise.specs.inside.Prices.{top_of}
use Rattle.credit_raise.proofs.Gathering.{gathers-none}
use Rattle.credit_raise.proofs.walk.gather_side.Goals as goal

pub returns-in-None : goal.returns-in-None
returns-in-None g c = record {
  gathered = gathers-none c.args.bank c.args.side (top_of c.args.tops.now (opposite c.args.side)) c.args.book.now.orders c.args.turns.now.items
      (sym (c.of.ensures ∙ ap (top_of c.args.tops.now) c.opposite.ensures) ∙ c.in-None.is);
  steps = omega arith;
}
