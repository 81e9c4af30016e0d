use Rattle.std.proofs.Common.{ℕ, ◌≡◌, ◌*◌, ◌≤◌, ◌<◌}
use Rattle.price_levels.specs.inside.Bits.{bit_of}
use Rattle.price_levels.proofs.bit_row.first_in.Given as goal

-- no tick of the words that were passed is marked
abbrev pub invariant-loop-word : goal.invariant-loop-word
invariant-loop-word l = (at : ℕ) → 64 * l.fn.first ≤ at → at < 64 * l.word → bit_of l.words at ≡ 0
