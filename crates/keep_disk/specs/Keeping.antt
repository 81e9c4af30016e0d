-- A disk between two calls of a keeper.
use Rattle.std.specs.Prelude.{◌≡◌, ℕ, ◌≤◌, List, Option, Result, IsErrOf}
use Rattle.fx_edges.specs.Faults.{Rose}
use Rattle.fx_disk.specs.declared.disk.DiskStop.{DiskStop}
use Rattle.fx_disk.specs.declared.disk.DiskStop.TheVariants.{Failed}
use Rattle.fx_disk.specs.Disk.{WhereTold, Only}
use Rattle.keep_disk.specs.Blocks.{IsClosedAt}

-- where the disk tells its bytes, they are the one image, and are closed at this place
abbrev pub AtRest : {D : Type 0} → (D → Option (List ℕ)) → (D → List ℕ → Type 0) → D → ℕ → Type 0
AtRest bytes may_leave disk place = WhereTold (bytes disk) (λ file. IsClosedAt file place × Only file (may_leave disk))

-- the count rose where the call answers a fault of the disk, and stayed where it answers anything else
pub record HasCause {D T : Type 0} (faults : D → ℕ) (before now : D) (result : Result T DiskStop) : Type 0 where
  pub count : faults before ≤ faults now
  pub cause : IsErrOf result Failed → Rose (faults before) (faults now)
  pub steady : (IsErrOf result Failed → ⊥) → faults now ≡ faults before
