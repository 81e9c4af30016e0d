-- What a round is made of.
use Rattle.std.specs.Prelude.{◌≡◌, List}
use Rattle.fx_rules.specs.declared.outcome.Entry.{Entry}
use Rattle.fx_rules.specs.Session.{Header}
use Rattle.reply_lines.specs.Telling.{told_text}
use Rattle.keep_disk.specs.declared.rounds.Round.{Round}
use Rattle.kept_call.specs.KeptRounds.{block_of}

-- the round of these entries, behind a history
pub record IsRoundOf (h : Header) (before entries : List Entry) (round : Round) : Type 0 where
  pub body : round.body.items ≡ block_of h entries
  pub text : round.text.items ≡ told_text h before entries
