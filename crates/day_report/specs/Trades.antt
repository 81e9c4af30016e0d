-- Fills of a day.
use Rattle.std.specs.Prelude.{ℕ, List}
use Rattle.fx_rules.specs.declared.orders.Fill.{Fill}
use Rattle.fx_rules.specs.Lists.{total}
use Rattle.fx_rules.specs.Session.{Header}
use Rattle.fx_rules.specs.State.{State, opening}

-- the lots of some fills
abbrev pub lots_in : List Fill → ℕ
lots_in fills = total (λ fill. fill.lots) fills

-- a state with these fills
abbrev pub with_fills : Header → List Fill → State
with_fills h fills = record (opening h) { fills = fills }
