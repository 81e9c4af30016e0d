use Rattle.std.proofs.Common.{◌≡◌}
use Rattle.keep_disk.specs.Keeping.{AtRest}
use Rattle.keep_disk.specs.Rounds.{KeptAll}
use Rattle.keep_disk.proofs.rounds.keep_rounds.Given as goal

abbrev pub invariant-loop-round : goal.invariant-loop-round
invariant-loop-round g l = record {
  kept : KeptAll g.D.Disk.bytes g.D.Disk.may_leave g.D.Disk.moment g.D.Disk.left_since g.K.Sink.written g.K.Sink.faults g.N.Rounds.gives l.fn.disk l.disk l.fn.out l.out l.fn.rounds l.rounds;
  at_rest : AtRest g.D.Disk.bytes g.D.Disk.may_leave l.disk l.keeper.place;
  bodies : l.keeper.bodies ≡ l.fn.keeper.bodies;
  count : g.D.Disk.faults l.disk ≡ g.D.Disk.faults l.fn.disk;
}

abbrev pub decreases-loop-round : goal.decreases-loop-round
decreases-loop-round g l = g.N.Rounds.left l.rounds
