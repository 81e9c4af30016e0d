-- What private functions and proofs alone say of it, beside `specs/Steps.antt`.
use Rattle.std.specs.Prelude.{ℕ}
use Rattle.fx_rules.specs.declared.command.Command.{Command}
use Rattle.fx_rules.specs.declared.outcome.Outcome.{Outcome}
use Rattle.fx_rules.specs.Session.{Header, IsSession}
use Rattle.fx_rules.specs.State.{State}
use Rattle.fx_rules.specs.Step.{IsOutcome, changed, after}
use Rattle.fx_rules.specs.Sound.{IsSound}
use Rattle.flat_host.specs.FlatState.{FlatState, StandsFor}

-- Each sound state that the host stood for and of which this is an outcome: the host stands for the state that it makes,
-- but for the sender's count.
abbrev pub ChangesEach : FlatState → FlatState → ℕ → Command → Outcome → Type 0
ChangesEach old new bank command outcome =
    (h : Header) (S : State) → IsSession h → IsSound h S → StandsFor h S old →
    IsOutcome h S bank command outcome → StandsFor h (changed S bank command outcome) new

-- the same, with the sender's count
abbrev pub FollowsEach : FlatState → FlatState → ℕ → Command → Outcome → Type 0
FollowsEach old new bank command outcome =
    (h : Header) (S : State) → IsSession h → IsSound h S → StandsFor h S old →
    IsOutcome h S bank command outcome → StandsFor h (after S bank command outcome) new
