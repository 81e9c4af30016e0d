-- What reading does to a source, seen by the bytes that it has left and by its count of faults.
use Rattle.std.specs.Prelude.{◌≡◌, ℕ, ◌≤◌, List, Option}
use Rattle.std.specs.Io.KnownBytes.{prepend_known}

-- The source gave these bytes: it had them in front of what it has left now. Where it doesn't tell
-- what it has left, this says that it goes on not telling. The count never falls.
pub record Took {S : Type 0} (left : S → Option (List ℕ)) (faults : S → ℕ)
    (before now : S) (bytes : List ℕ) : Type 0 where
  pub moved : left before ≡ prepend_known bytes (left now)
  pub count : faults before ≤ faults now
