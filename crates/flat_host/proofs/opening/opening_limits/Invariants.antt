use Rattle.std.proofs.Common.{ℕ, ◌≡◌, ◌<◌, slice_index, vec_len}
use Rattle.flat_host.specs.inside.Opening.{limit_at}
use Rattle.flat_host.proofs.opening.opening_limits.Given as goal

-- the limits at the places that were passed
abbrev pub invariant-loop-place : goal.invariant-loop-place
invariant-loop-place l =
    ((place : ℕ) → place < l.place → slice_index l.limits.items place ≡ limit_at l.session place) × (vec_len l.limits ≡ l.place)
