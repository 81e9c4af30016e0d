-- What is found in the blocks that a kept session left.
use Rattle.std.specs.Prelude.{ℕ, ◌≡◌, ◌⊎◌, List, [], length}
use Rattle.fx_rules.specs.declared.outcome.Entry.{Entry}
use Rattle.fx_rules.specs.Session.{Header}
use Rattle.kept_history.specs.Found.{IsWhole, IsFull}

-- The blocks are read back as the session with just this history, which is gone on from; or there are too many entries to go on from; or
-- there is no block. So a restart goes on from that history, or answers `Full` or `Empty`, and no block is damaged.
abbrev pub IsReadBack : Header → List Entry → List (List ℕ) → Type 0
IsReadBack h entries blocks = (blocks ≡ []) ⊎ (IsWhole blocks h entries ⊎ IsFull blocks (length entries))
