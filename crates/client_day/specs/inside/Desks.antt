-- What private functions and proofs alone say of the clients' desks, beside `specs/Desks.antt`.
use Rattle.std.specs.Prelude.{ℕ, ◌≡◌, ◌<◌, List, length, slice_index_or}
use Rattle.fx_rules.specs.Session.{Header}
use Rattle.reply_lines.specs.Desks.{DeskSoFar, nothing_yet}
use Rattle.client_day.specs.Desks.{with_notes}
use Rattle.client_day.specs.Notes.{Note}

-- each client's desk got some more notes
pub record HaveNoted (h : Header) (more : ℕ → List Note) (before after : List DeskSoFar) : Type 0 where
  pub count : length after ≡ length before
  pub each : (c : ℕ) → c < length before → slice_index_or after c nothing_yet ≡ with_notes h (slice_index_or before c nothing_yet) (more c)
