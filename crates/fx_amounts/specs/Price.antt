use Rattle.std.specs.Prelude.{ℕ, ◌≤◌, ◌^◌, Bool, nat_le}
use Rattle.fx_amounts.specs.declared.side.Side.{Side}
use Rattle.fx_amounts.specs.declared.side.Side.TheVariants.{Buy, Sell}

-- a number of ticks that a price can have
abbrev pub IsPrice : ℕ → Type 0
IsPrice ticks = (1 ≤ ticks) × (ticks ≤ 10 ^ 9)

-- whether an order of this side at `price` may trade with a resting order of the other side at `other`
abbrev pub crosses : Side → ℕ → ℕ → Bool
crosses Buy price other = nat_le other price
crosses Sell price other = nat_le price other
