-- What fills take of the lines.
use Rattle.std.specs.Prelude.{ℕ, ◌*◌, ◌==◌, Bool, not, ◌&&◌, nat_le, nat_lt, if◌then◌else◌, List, [], ◌∷◌}
use Rattle.fx_rules.specs.declared.orders.Fill.{Fill}
use Rattle.credit_lines.specs.Credit.{Credit, line_in, taken}

-- the line between a fill's two banks pays for it, where a lot costs this weight
abbrev pub pays : ℕ → Credit → Fill → Bool
pays weight credit fill =
    nat_lt fill.taker credit.banks && nat_lt fill.maker credit.banks && not (fill.taker == fill.maker)
    && nat_le (fill.lots * weight) (line_in credit fill.taker fill.maker)

-- the credit once a fill is paid for, where its line pays for it
abbrev pub paid_by : ℕ → Credit → Fill → Credit
paid_by weight credit fill = if pays weight credit fill then taken credit fill.taker fill.maker (fill.lots * weight) else credit

-- and once some fills are, in order
abbrev pub paid_all : ℕ → Credit → List Fill → Credit
paid_all weight credit [] = credit
paid_all weight credit (fill ∷ fills) = paid_all weight (paid_by weight credit fill) fills
