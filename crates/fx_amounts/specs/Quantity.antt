use Rattle.std.specs.Prelude.{ℕ, ◌≤◌, ◌^◌}

-- a number of lots that an order can have
abbrev pub IsLots : ℕ → Type 0
IsLots lots = (1 ≤ lots) × (lots ≤ 10 ^ 6)

-- a number of credit units that a limit or a use can have
abbrev pub IsUnits : ℕ → Type 0
IsUnits units = units ≤ 10 ^ 15

-- a weight that a pair can have, in credit units a lot
abbrev pub IsWeight : ℕ → Type 0
IsWeight weight = (1 ≤ weight) × (weight ≤ 10 ^ 6)

-- a lot that a pair can have, in units of the base currency
abbrev pub IsLot : ℕ → Type 0
IsLot lot = (1 ≤ lot) × (lot ≤ 10 ^ 9)

-- a number of decimals that a pair's price can have
abbrev pub IsDecimals : ℕ → Type 0
IsDecimals decimals = decimals ≤ 6
