use Rattle.std.proofs.Common.{ℕ, ◌≡◌, ◌<◌, None, slice_index_or, vec_len}
use Rattle.fx_rules.specs.Session.{opening_total}
use Rattle.flat_host.proofs.opening.opening_totals.Given as goal

-- the totals at the places that were passed
abbrev pub invariant-loop-place : goal.invariant-loop-place
invariant-loop-place l =
    ((bank : ℕ) → bank < l.place → slice_index_or l.totals.items bank None ≡ opening_total l.session bank) × (vec_len l.totals ≡ l.place)
