-- The history as a pass sees it.
use Rattle.std.specs.Prelude.{◌≡◌}
use mathlib.Core.List.{IsPrefix}
use Rattle.fx_rules.specs.declared.outcome.Entry.{Entry}
use Rattle.fx_rules.specs.Session.{Header}
use Rattle.fx_rules.specs.History.{IsLegal, own}
use Rattle.fx_chronicle.specs.Faces.{Witness, witness}

-- A pass has met a legal history, which begins with all that it had seen. Of its bank that history has just the commands that the pass
-- had met before.
pub record HasCaughtUp (h : Header) (pass pass' : Witness Entry) : Type 0 where
  pub meets : pass' ≡ witness pass.key pass'.seen
  pub begins : IsPrefix pass.seen pass'.seen
  pub owns : own pass.key pass'.seen ≡ own pass.key pass.met
  pub legal : IsLegal h pass'.seen
