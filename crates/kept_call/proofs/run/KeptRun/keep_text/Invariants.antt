use Rattle.std.proofs.Common.{◌≡◌, ◌≤◌, List, ℕ}
use Rattle.kept_call.specs.Running.{Start}
use Rattle.kept_call.specs.RunText.{IsKeeping}
use Rattle.session_script.proofs.RoundLaws.{to_read}
use Rattle.kept_call.proofs.run.KeptRun.keep_text.Given as goal

-- what was read in former rounds is kept and told
abbrev pub invariant-loop-reading : goal.invariant-loop-reading
invariant-loop-reading g l = record {
  keeping : (front : List ℕ) (before : _) (start : Start _ _)
      → IsKeeping g.D.Disk.bytes g.D.Disk.may_leave g.D.Disk.moment g.D.Disk.left_since g.K.Sink.written g.K.Sink.faults g.S.Source.left g.S.Source.faults front before start l.fn.disk l.fn.out g.N.Naming.session l.fn.source l.fn.reading l.fn.self.keeper.place l.fn.self.run.gathered l.fn.self.run.lanes.items l.fn.self.telling.counts.items
      → IsKeeping g.D.Disk.bytes g.D.Disk.may_leave g.D.Disk.moment g.D.Disk.left_since g.K.Sink.written g.K.Sink.faults g.S.Source.left g.S.Source.faults front before start l.disk l.out g.N.Naming.session l.source l.reading l.self.keeper.place l.self.run.gathered l.self.run.lanes.items l.self.telling.counts.items;
  steady : g.D.Disk.faults l.disk ≡ g.D.Disk.faults l.fn.disk;
  count : g.K.Sink.faults l.fn.out ≤ g.K.Sink.faults l.out;
}

abbrev pub decreases-loop-reading : goal.decreases-loop-reading
decreases-loop-reading g l = to_read l.reading.end l.reading.intake.taken
