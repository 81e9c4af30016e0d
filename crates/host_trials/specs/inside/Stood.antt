-- A market that a legal history led to where it stands.
use Rattle.std.specs.Prelude.{List}
use Rattle.fx_rules.specs.declared.outcome.Entry.{Entry}
use Rattle.fx_rules.specs.Session.{Header}
use Rattle.fx_rules.specs.State.{State}
use Rattle.fx_rules.specs.History.{IsLegal, state}

-- a legal history of the session led to a state that the market stands for
pub record IsLed {M : Type 0} (stands : M → Header → State → Type 0) (h : Header) (market : M) : Type 0 where
  pub history : List Entry
  pub legal : IsLegal h history
  pub stood : stands market h (state h history)
