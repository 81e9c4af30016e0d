-- The order in which a taker prefers what rests: by price, and at one price by arrival.
use Rattle.std.specs.Prelude.{ℕ, Bool, ◌&&◌, ◌||◌, ◌==◌, nat_lt}
use Rattle.fx_amounts.specs.declared.side.Side.{Side}
use Rattle.fx_amounts.specs.declared.side.Side.TheVariants.{Buy, Sell}

-- the first price is better than the second for a taker of this side: who buys prefers the lower one, who sells the higher
abbrev pub is_better : Side → ℕ → ℕ → Bool
is_better Buy price other = nat_lt price other
is_better Sell price other = nat_lt other price

-- a taker of this side comes first to what rests at the first price and arrival, and then to what rests at the second: its
-- price is better, or it is the same and it arrived earlier
abbrev pub comes_first : Side → ℕ → ℕ → ℕ → ℕ → Bool
comes_first side price arrival other_price other_arrival =
    is_better side price other_price || (price == other_price && nat_lt arrival other_arrival)
