-- The passes of a desk's senders.
use Rattle.std.specs.Prelude.{ℕ, ◌≡◌, ◌<◌, ◌≤◌, List, length, slice_index_or}
use Rattle.fx_rules.specs.declared.outcome.Entry.{Entry}
use Rattle.fx_rules.specs.Session.{Header}
use Rattle.fx_chronicle.specs.Passes.{sender_at}

-- the pass at each place is that of the sender there, and has submitted at most so many commands
abbrev pub AreOfSenders : {Pass : Type 0} → Header → (Pass → ℕ) → (Pass → List Entry) → ℕ → List Pass → Type 0
AreOfSenders {Pass} h bank_of mine most passes =
    (place : ℕ) (none : Pass) → place < length passes →
    (bank_of (slice_index_or passes place none) ≡ sender_at h place) × (length (mine (slice_index_or passes place none)) ≤ most)
