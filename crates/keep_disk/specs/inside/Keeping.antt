-- What private functions and proofs alone say of it, beside `specs/Keeping.antt`.
use Rattle.std.specs.Prelude.{◌≡◌, ℕ, List, Option}
use Rattle.fx_disk.specs.Disk.{NoMore, Torn, LeavesOnly}

-- one of these images, after a write of n bytes that a crash cut short
abbrev pub TornFrom : ℕ → ℕ → (List ℕ → Type 0) → List ℕ → Type 0
TornFrom at n images image = (old : List ℕ) × images old × Torn at n old image

-- Calls since `before` left the bytes as they were and added no image.
pub record Untouched {D : Type 0} (bytes : D → Option (List ℕ)) (may_leave : D → List ℕ → Type 0) (moment : D → ℕ)
    (left_since : D → ℕ → List ℕ → Type 0) (faults : D → ℕ) (before now : D) : Type 0 where
  pub same : bytes now ≡ bytes before
  pub no_more : NoMore (may_leave before) (may_leave now)
  pub every_moment : LeavesOnly moment left_since before now (may_leave before)
  pub count : faults now ≡ faults before
