use Rattle.std.proofs.Common.{◌≡◌, ◌++◌, map}
use Rattle.fx_rules.specs.declared.outcome.Entry.{Entry}
use Rattle.fx_rules.specs.Lists.{Each}
use Rattle.fx_chronicle.specs.Faces.{Witness}
use Rattle.gateway_workers.specs.declared.lane.Lane.{Lane}
use Rattle.gateway_workers.specs.inside.SenderLanes.{IsFresh}
use Rattle.gateway_workers.proofs.lanes.lanes_of.Given as goal

-- the lanes so far have the first passes, in order
abbrev pub invariant-loop-pass : goal.invariant-loop-pass
invariant-loop-pass g l = record {
  can : (goal.iterator-loop-pass g).can_next l.pass-iterator;
  ends : (goal.iterator-loop-pass g).is_finite l.pass-iterator;
  passes : map (λ (lane : Lane (Witness Entry)). lane.pass) l.lanes.items ++ l.pass-iterator.rest.items ≡ l.initial.pass-iterator.rest.items;
  fresh : Each IsFresh l.lanes.items;
}
