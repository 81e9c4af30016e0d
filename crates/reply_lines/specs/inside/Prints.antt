-- What writing an entry out needs of it.
use Rattle.fx_rules.specs.Lists.{Each}
use Rattle.fx_rules.specs.Session.{Header}
use Rattle.fx_rules.specs.Step.{fills_of, IsCommand}
use Rattle.fx_rules.specs.declared.outcome.Entry.{Entry}
use Rattle.reply_lines.specs.Prints.{IsAnswerOf, IsFillOf}

-- an entry that can be printed for the session: a sender's command, with an answer and fills that name what the session has
pub record IsEntryOf (h : Header) (entry : Entry) : Type 0 where
  pub command : IsCommand h entry.bank entry.command
  pub answer : IsAnswerOf h entry.command entry.outcome
  pub fills : Each (IsFillOf h) (fills_of entry.outcome)
