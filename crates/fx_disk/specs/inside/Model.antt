-- What private functions and proofs alone say of it, beside `specs/Model.antt`.
use Rattle.std.specs.Prelude.{◌≡◌, ℕ, List, [], ◌∷◌, ◌++◌}
use Rattle.fx_disk.specs.declared.call.Call.{Call}
use Rattle.fx_disk.specs.declared.call.Call.TheVariants.{Wrote}
use Rattle.fx_disk.specs.Model.{Tape}

-- one call more
abbrev pub Added : Tape → Call → Tape → Type 0
Added before call now = now ≡ record before { calls = before.calls ++ call ∷ [] }

-- one write more, of these bytes
abbrev pub AddedWrite : Tape → ℕ → List ℕ → Tape → Type 0
AddedWrite before at bytes now = (piece : _) × (piece.items ≡ bytes) × Added before (Wrote at piece) now
