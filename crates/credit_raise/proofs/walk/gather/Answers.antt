-- An order crosses as a buy or as a sell.
use Rattle.std.proofs.Common.{arith}
use Rattle.std.proofs.lemmas.Result.{on_ok_weaker}
use Rattle.credit_raise.proofs.Gathering.{gathers-sides}
use Rattle.credit_raise.proofs.walk.gather.Goals as goal

pub returns : goal.returns
returns g c = record {
  gathered = on_ok_weaker c.gather_side-2.result
      (gathers-sides c.args.bank c.args.tops.now c.args.book.now.orders c.args.turns.now.items c.gather_side.new.turns.items c.gather_side-2.new.turns.items c.in_ok-gather_side.ensures.gathered)
      c.gather_side-2.ensures.gathered;
  steps = on_ok_weaker c.gather_side-2.result (λ second. omega (arith, second, c.in_ok-gather_side.ensures.steps)) c.gather_side-2.ensures.steps;
}
