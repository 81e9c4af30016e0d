-- What is gathered of both banks is the live turns.
use Rattle.std.proofs.Common.{ap, length, arith}
use Rattle.credit_raise.proofs.Gathering.{gathered-live}
use Rattle.credit_raise.proofs.walk.live_orders.Goals as goal

pub returns : goal.returns
returns g c = record {
  orders = gathered-live c.args.i c.args.j c.args.tops_i.now c.args.tops_j.now c.args.book.now.orders c.in_ok-orders.orders.items c.gather_live.new.turns.items c.gather_live-2.new.turns.items
      c.requires.differ c.in_ok-orders.ensures.items c.in_ok-gather_live.ensures.gathered c.in_ok-gather_live-2.ensures.gathered;
  steps = omega (arith, ap length c.in_ok-orders.ensures.items, c.in_ok-gather_live.ensures.steps, c.in_ok-gather_live-2.ensures.steps);
}
