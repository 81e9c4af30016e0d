use Rattle.std.proofs.Common.{ℕ, ◌≡◌, ◌<◌, ◌≤◌, length, get_or}
use Rattle.fx_rules.specs.declared.outcome.Entry.{Entry}
use Rattle.fx_rules.specs.History.{own}
use Rattle.fx_chronicle.specs.Faces.{Witness}
use Rattle.gateway_workers.specs.declared.lane.Lane.{Lane}
use Rattle.gateway_workers.specs.Lanes.{IsReadyLane}
use Rattle.host_trials.proofs.refused.go_on.Given as goal

-- the lanes so far are ready, and the others are as they were
abbrev pub invariant-loop-lane : goal.invariant-loop-lane
invariant-loop-lane g l = record {
  long : length l.lanes ≡ length l.fn.lanes;
  so_far : (i : ℕ) (d : Lane (Witness Entry)) → i < l.lane-index → IsReadyLane g.N.Naming.session (λ (p : Witness Entry). p.key) (λ (p : Witness Entry). own p.key p.met) (get_or l.lanes i d);
  to_come : (i : ℕ) (d : Lane (Witness Entry)) → l.lane-index ≤ i → get_or l.lanes i d ≡ get_or l.fn.lanes i d;
}
