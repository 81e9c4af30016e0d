-- What a fill moves, in units of its currencies.
use Rattle.std.specs.Prelude.{ℕ, ◌*◌, ◌/◌, ◌^◌}

-- the base currency that so many lots of this lot are
abbrev pub base_amount : ℕ → ℕ → ℕ
base_amount lots lot = lots * lot

-- the quote currency that they cost at so many ticks, of which one is the last of so many decimals
abbrev pub quote_amount : ℕ → ℕ → ℕ → ℕ → ℕ
quote_amount lots lot ticks decimals = lots * (lot / 10 ^ decimals) * ticks
