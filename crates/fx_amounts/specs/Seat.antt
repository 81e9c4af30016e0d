use Rattle.std.specs.Prelude.{ℕ, ◌<◌}

-- a number that a sender can have: a bank's is below 64, and 64 is the operator's
abbrev pub IsBank : ℕ → Type 0
IsBank number = number < 65

-- a number that a pair can have
abbrev pub IsPair : ℕ → Type 0
IsPair number = number < 32
