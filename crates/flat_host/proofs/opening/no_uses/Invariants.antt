use Rattle.std.proofs.Common.{ℕ, ◌≡◌, slice_index, vec_len}
use Rattle.flat_host.proofs.opening.no_uses.Given as goal

-- nothing is used so far
abbrev pub invariant-loop-place : goal.invariant-loop-place
invariant-loop-place l = ((place : ℕ) → slice_index l.uses.items place ≡ 0) × (vec_len l.uses ≡ l._place)
