use Rattle.std.proofs.Common.{ℕ, ◌≡◌, ◌≤◌, ◌<◌, ◌*◌, vec_len, get_or}
use Rattle.std.specs.Vec.{vec_capacity}
use Rattle.credit_lines.proofs.OpeningLemmas.{lesser_at}
use Rattle.credit_lines.proofs.lines.opening_lines.Given as goal

-- the lines before `at`, and room for all
abbrev pub invariant-loop-at : goal.invariant-loop-at
invariant-loop-at l = record {
  lines : (k : ℕ) → k < l.at → get_or l.lines.items k 0 ≡ lesser_at l.session l.banks k;
  count : vec_len l.lines ≡ l.at;
  room : l.banks * l.banks ≤ vec_capacity l.lines;
}
