-- What the calls of a disk do to its file, and what a crash may leave of it.
use Rattle.std.specs.Prelude.{◌≡◌, ◌⊎◌, ℕ, ◌+◌, ◌≤◌, max, List, ◌++◌, length, take, drop, Option, Some, is_some, Result, IsErrOf}
use Rattle.fx_amounts.specs.OutOfMemory.{refused}
use Rattle.fx_edges.specs.Faults.{Rose}
use Rattle.fx_disk.specs.declared.disk.DiskStop.{DiskStop}
use Rattle.fx_disk.specs.declared.disk.DiskStop.TheVariants.{Failed, Memory}

-- where a disk tells its bytes, they have P
abbrev pub WhereTold : Option (List ℕ) → (List ℕ → Type 0) → Type 0
WhereTold known P = (file : List ℕ) → known ≡ Some file → P file

-- the file with this piece at this place
abbrev pub with_piece : ℕ → List ℕ → List ℕ → List ℕ
with_piece at piece file = take at file ++ piece ++ drop (at + length piece) file

-- after a write of n bytes that a crash cut short: any bytes in its range, the others as before
pub record Torn (at n : ℕ) (before after : List ℕ) : Type 0 where
  pub front : take at after ≡ take at before
  pub behind : drop (at + n) after ≡ drop (at + n) before
  pub no_shorter : length before ≤ length after
  pub no_longer : length after ≤ max (length before) (at + n)

-- each image now is one from before, after a write of n bytes that a crash cut short
abbrev pub TornBy : ℕ → ℕ → (List ℕ → Type 0) → (List ℕ → Type 0) → Type 0
TornBy at n before now = (image : List ℕ) → now image → (old : List ℕ) × before old × Torn at n old image

-- each image now was one before
abbrev pub NoMore : (List ℕ → Type 0) → (List ℕ → Type 0) → Type 0
NoMore before now = (image : List ℕ) → now image → before image

-- this file is the one image
abbrev pub Only : List ℕ → (List ℕ → Type 0) → Type 0
Only file images = (image : List ℕ) → images image → image ≡ file

-- What each call of a disk leaves, whatever it answers.
pub record Called {D T : Type 0} (bytes : D → Option (List ℕ)) (may_leave : D → List ℕ → Type 0) (moment : D → ℕ)
    (left_since : D → ℕ → List ℕ → Type 0) (faults : D → ℕ) (before now : D) (result : Result T DiskStop) : Type 0 where
  -- a disk that tells its bytes goes on telling them, and one that doesn't never begins to
  pub told : is_some (bytes now) ≡ is_some (bytes before)
  -- the clock never falls, and a crash in the call leaves what one after it may leave
  pub later : moment before ≤ moment now
  pub no_more : (t : ℕ) (image : List ℕ) → t ≤ moment before → left_since now t image → left_since before t image ⊎ may_leave now image
  pub no_fewer : (t : ℕ) (image : List ℕ) → t ≤ moment before → left_since before t image → left_since now t image
  -- the count rose where the call failed, and stayed where it did not
  pub count : faults before ≤ faults now
  pub cause : IsErrOf result Failed → Rose (faults before) (faults now)
  pub steady : (IsErrOf result Failed → ⊥) → faults now ≡ faults before
  -- a call that was out of memory did nothing
  pub same_bytes : IsErrOf result (Memory refused) → bytes now ≡ bytes before
  pub same_images : IsErrOf result (Memory refused) → NoMore (may_leave before) (may_leave now) × NoMore (may_leave now) (may_leave before)

-- At every moment since `start`, in a call of the disk or between two, each image that a crash may leave has P.
pub record LeavesOnly {D : Type 0} (moment : D → ℕ) (left_since : D → ℕ → List ℕ → Type 0) (start now : D) (P : List ℕ → Type 0) : Type 0 where
  pub later : moment start ≤ moment now
  pub each : (image : List ℕ) → left_since now (moment start) image → P image
  -- for a run that began earlier
  pub earlier : (t : ℕ) (image : List ℕ) → t ≤ moment start → left_since now t image → left_since start t image ⊎ P image
