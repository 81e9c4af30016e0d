use Rattle.std.proofs.Common.{ℕ, ◌≡◌, ◌≤◌, ◌<◌, ◌^◌, slice_index, length}
use Rattle.flat_host.specs.FlatState.{line_in}
use Rattle.flat_host.proofs.credit.lines_of.Given as goal

-- the lines with the banks that were passed
abbrev pub invariant-loop-place : goal.invariant-loop-place
invariant-loop-place l = record {
  lines : (other : ℕ) → other < l.place → slice_index l.lines other ≡ line_in l.credit l.bank other;
  small : (other : ℕ) → slice_index l.lines other ≤ 10 ^ 15;
  full : length l.lines ≡ 65;
}
