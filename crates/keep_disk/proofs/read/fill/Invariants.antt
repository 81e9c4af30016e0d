use Rattle.std.proofs.Common.{◌≡◌, ◌-◌, ◌≤◌, length, take}
use Rattle.fx_disk.specs.Disk.{WhereTold}
use Rattle.keep_disk.specs.inside.Keeping.{Untouched}
use Rattle.keep_disk.proofs.read.fill.Given as goal

abbrev pub invariant-loop-at : goal.invariant-loop-at
invariant-loop-at g l = record {
  within : l.at ≤ length l.into;
  untouched : Untouched g.D.Disk.bytes g.D.Disk.may_leave g.D.Disk.moment g.D.Disk.left_since g.D.Disk.faults l.fn.disk l.disk;
  read : WhereTold (g.D.Disk.bytes l.fn.disk) (λ file. length l.into ≡ length file → take l.at l.into ≡ take l.at file);
}

abbrev pub decreases-loop-at : goal.decreases-loop-at
decreases-loop-at g l = length l.into - l.at
