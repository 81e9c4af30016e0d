-- A command that is served: what the history and the pass of its bank then are.
use Rattle.std.specs.Prelude.{◌≡◌, List, [], ◌∷◌, ◌++◌}
use mathlib.Core.List.{IsPrefix}
use Rattle.fx_rules.specs.declared.command.Command.{Command}
use Rattle.fx_rules.specs.declared.outcome.Outcome.{Outcome}
use Rattle.fx_rules.specs.declared.outcome.Entry.{Entry}
use Rattle.fx_rules.specs.Session.{Header}
use Rattle.fx_rules.specs.History.{IsLegal, own}
use Rattle.fx_chronicle.specs.Faces.{Witness, witness}
use Rattle.fx_chronicle.specs.Submitting.{next_own}

-- The bank's command goes behind a history, which begins with all that the pass had seen and has just the commands of its bank
-- that the pass had met. With it the history is legal, and the pass has met all of it.
pub record IsServed (h : Header) (before : List Entry) (pass : Witness Entry) (command : Command) (after : List Entry) (pass' : Witness Entry) (outcome : Outcome) : Type 0 where
  pub begins : IsPrefix pass.seen before
  pub owns : own pass.key before ≡ own pass.key pass.met
  pub ends : after ≡ before ++ next_own pass.key (own pass.key pass.met) command outcome ∷ []
  pub legal : IsLegal h after
  pub meets : pass' ≡ witness pass.key after
