-- What contracts see of the disks in memory.
use Rattle.std.specs.Prelude.{◌≡◌, ℕ, List, Some, length, Result, IsErrOf}
use Rattle.fx_edges.specs.Faults.{one_more}
use Rattle.fx_disk.specs.declared.disk.DiskStop.{DiskStop}
use Rattle.fx_disk.specs.declared.disk.DiskStop.TheVariants.{Failed}
use Rattle.fx_disk.specs.Disk.{Called}
use Rattle.fx_disk.specs.Model.{Tape, state_now, MayLeaveIn, LeftSince}

-- a disk whose calls fail as it is told beforehand
pub record FailingDisk : Type 0 where
  pub tape : Tape
  -- the calls so far
  pub made : ℕ
  -- the numbers of the calls that fail
  pub fails : List ℕ
  pub faults : ℕ

-- what a read gives, and what a crash may leave
abbrev pub reads_of : FailingDisk → List ℕ
reads_of disk = (state_now disk.tape).reads

abbrev pub may_leave_of : FailingDisk → List ℕ → Type 0
may_leave_of disk image = MayLeaveIn (state_now disk.tape) image

abbrev pub CalledFailing : {T : Type 0} → FailingDisk → FailingDisk → Result T DiskStop → Type 0
CalledFailing before now result = Called (λ d. Some (reads_of d)) may_leave_of (λ d. length d.tape.calls) (λ d t image. LeftSince d.tape t image) (λ d. d.faults) before now result

-- a call is counted whatever it answers, and a fault where it failed; which calls fail stays
pub record CountedFailing {T : Type 0} (before now : FailingDisk) (result : Result T DiskStop) : Type 0 where
  pub made : now.made ≡ one_more before.made
  pub fault : IsErrOf result Failed → now.faults ≡ one_more before.faults
  pub fails : now.fails ≡ before.fails
