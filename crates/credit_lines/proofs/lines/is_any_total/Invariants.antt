use Rattle.std.proofs.Common.{ℕ, ◌≡◌, ◌<◌, get_or, None}
use Rattle.credit_lines.proofs.lines.is_any_total.Given as goal

-- no bank that was passed has a total
abbrev pub invariant-loop-total : goal.invariant-loop-total
invariant-loop-total l = (i : ℕ) → i < l.total-index → get_or l.totals i None ≡ None
