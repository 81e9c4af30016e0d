-- What private functions and proofs alone say of it, beside `specs/Market.antt`.
use Rattle.std.specs.Prelude.{ℕ, ◌≢◌, ◌<◌}
use Rattle.fx_rules.specs.declared.command.Command.{Command}
use Rattle.fx_rules.specs.declared.command.Command.TheVariants.{Line, Total, Settle}
use Rattle.fx_rules.specs.declared.orders.Fill.{Fill}
use Rattle.fx_rules.specs.Session.{Header, bank_count}
use Rattle.credit_lines.specs.Credit.{Credit}

-- a fill is between two different banks of the session
pub record IsBetweenBanks (h : Header) (fill : Fill) : Type 0 where
  pub taker : fill.taker < bank_count h
  pub maker : fill.maker < bank_count h
  pub differ : fill.taker ≢ fill.maker

-- a command changes no credit by itself, or it asks for a limit that its bank can set on another, for a total that its bank can set,
-- or for units back that two banks can have used
abbrev pub CanSet : Credit → ℕ → Command → Type 0
CanSet credit bank (Line other asked) = (bank < credit.banks) × (other < credit.banks) × (bank ≢ other)
CanSet credit bank (Total asked) = bank < credit.banks
CanSet credit sender (Settle a b asked) = (a < credit.banks) × (b < credit.banks) × (a ≢ b)
CanSet credit bank _ = Unit {0}
