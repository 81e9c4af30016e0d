use Rattle.std.proofs.Common.{ℕ, ◌≡◌, ◌≤◌, ◌-◌, ◌++◌, ◌∷◌, List, length}
use Rattle.fx_amounts.specs.Numeral.{numeral}
use Rattle.reply_lines.proofs.desk.behind_number.Given as goal

-- the digits have not ended before
abbrev pub invariant-loop-at : goal.invariant-loop-at
invariant-loop-at l = (number : ℕ) (rest : List ℕ) → l.line ≡ numeral number ++ 32 ∷ rest → l.at ≤ length (numeral number)

abbrev pub decreases-loop-at : goal.decreases-loop-at
decreases-loop-at l = length l.line - l.at
