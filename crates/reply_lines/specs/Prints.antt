-- What a printed entry names of its session.
use Rattle.std.specs.Prelude.{◌<◌}
use Rattle.fx_rules.specs.Session.{Header, bank_count, pair_count}
use Rattle.fx_rules.specs.declared.command.Command.{Command}
use Rattle.fx_rules.specs.declared.orders.Fill.{Fill}
use Rattle.fx_rules.specs.declared.outcome.Outcome.{Outcome}
use Rattle.fx_rules.specs.declared.outcome.Outcome.TheVariants.{Depth}
use Rattle.reply_lines.specs.Notices.{booked_pair}

-- a local book is one of the session's pairs
abbrev pub IsAnswerOf : Header → Command → Outcome → Type 0
IsAnswerOf h command (Depth bids asks) = booked_pair command < pair_count h
IsAnswerOf h command _ = Unit {0}

-- a fill of the session's pairs and banks
pub record IsFillOf (h : Header) (fill : Fill) : Type 0 where
  pub pair : fill.pair < pair_count h
  pub taker : fill.taker < bank_count h
  pub maker : fill.maker < bank_count h
