use Rattle.std.proofs.Common.{rules, ◌≡◌, ◌∷◌, arith}
use Rattle.fx_host.proofs.Locking.{in_order-push, fronts-left}
use Rattle.fx_host.proofs.opening.locks_of.Goals as goal

pub loop-front-preserved : goal.loop-front-preserved
loop-front-preserved g c =
    let left_is : c.loop-front.front-iterator.rest.items ≡ c.in-Some.front ∷ c.next.new.self.rest.items = search rules in
    record {
      can = tt;
      ends = tt;
      count = search (rules, arith);
      in_order = in_order-push c.loop-front.locks.items c.push.new.self.items c.new.result c.loop-front.invariant.in_order (search (rules, arith)) c.in_ok-push.ensures.items;
      fronts = fronts-left _ _ c.in-Some.front _ c.next.new.self.rest.items c.loop-front.invariant.fronts left_is (search (rules, arith));
    }
