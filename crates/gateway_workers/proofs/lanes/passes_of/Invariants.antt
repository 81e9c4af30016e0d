use Rattle.std.proofs.Common.{◌≡◌, ◌++◌, map}
use Rattle.fx_rules.specs.declared.outcome.Entry.{Entry}
use Rattle.fx_chronicle.specs.Faces.{Witness}
use Rattle.gateway_workers.specs.declared.lane.Lane.{Lane}
use Rattle.gateway_workers.proofs.lanes.passes_of.Given as goal

-- the passes so far, and those of the lanes that are left
abbrev pub invariant-loop-lane : goal.invariant-loop-lane
invariant-loop-lane g l = record {
  can : (goal.iterator-loop-lane g).can_next l.lane-iterator;
  ends : (goal.iterator-loop-lane g).is_finite l.lane-iterator;
  passes : l.passes.items ++ map (λ (lane : Lane (Witness Entry)). lane.pass) l.lane-iterator.rest.items ≡ map (λ (lane : Lane (Witness Entry)). lane.pass) l.initial.lane-iterator.rest.items;
}
