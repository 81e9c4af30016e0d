-- What the plain host tells a bank rests on what that bank sees alone, and its local books are truthful.
use Rattle.std.specs.Prelude.{ℕ, ◌≡◌, ◌<◌, List, map}
use Rattle.fx_amounts.specs.declared.side.Side.TheVariants.{Buy, Sell}
use Rattle.fx_rules.specs.declared.command.Command.{Command}
use Rattle.fx_rules.specs.declared.command.Command.TheVariants.{Line, Total}
use Rattle.fx_rules.specs.declared.orders.Fill.{Fill}
use Rattle.fx_rules.specs.declared.orders.Level.{Level}
use Rattle.fx_rules.specs.declared.outcome.Outcome.{Outcome}
use Rattle.fx_rules.specs.declared.outcome.Outcome.TheVariants.{LineSet, TotalSet, Depth}
use Rattle.fx_rules.specs.Session.{Header, IsSession, bank_count}
use Rattle.fx_rules.specs.State.{State}
use Rattle.fx_rules.specs.Raise.{limited, totalled}
use Rattle.fx_rules.specs.Depth.{IsDepth}
use Rattle.fx_rules.specs.Step.{IsOutcome}
use Rattle.fx_rules.specs.Sound.{IsSound}
use Rattle.fx_rules.specs.NoCross.{NoCross}
use Rattle.fx_rules.specs.View.{view, told, fill_seen}
use Rattle.fx_rules.specs.Truthful.{IsTruthful}
use Rattle.flat_host.specs.FlatState.{FlatState, StandsFor}

-- Each sound state that looks to the bank as one does that the host stands for: of the command the bank is told there what
-- the host tells it. The operator sees no state.
abbrev pub TellsByView : FlatState → ℕ → Command → Outcome → Type 0
TellsByView l bank command outcome =
    (h : Header) (S T : State) (other : Outcome) → IsSession h → IsSound h S → IsSound h T → bank < bank_count h → StandsFor h S l →
    view h S bank ≡ view h T bank → IsOutcome h T bank command other → told outcome ≡ told other

-- The same of the fills of the bank's own credit change, where the two states look alike once its limit or its total is set: but for
-- the numbers of the other banks' orders they are the same.
abbrev pub FillsByView : FlatState → ℕ → Command → Outcome → Type 0
FillsByView l bank (Line other asked) (LineSet limit fills) =
    (h : Header) (S T : State) (others : List Fill) → IsSession h → IsSound h S → IsSound h T → NoCross h S → NoCross h T →
    StandsFor h S l → view h (limited bank other limit S) bank ≡ view h (limited bank other limit T) bank →
    IsOutcome h T bank (Line other asked) (LineSet limit others) → map (fill_seen bank) fills ≡ map (fill_seen bank) others
FillsByView l bank (Total asked) (TotalSet most fills) =
    (h : Header) (S T : State) (others : List Fill) → IsSession h → IsSound h S → IsSound h T → NoCross h S → NoCross h T →
    StandsFor h S l → view h (totalled bank most S) bank ≡ view h (totalled bank most T) bank →
    IsOutcome h T bank (Total asked) (TotalSet most others) → map (fill_seen bank) fills ≡ map (fill_seen bank) others
FillsByView _ _ _ _ = Unit {0}

-- And of a local book: it is the one that the bank has there.
abbrev pub ShowsByView : FlatState → ℕ → ℕ → Outcome → Type 0
ShowsByView l bank pair (Depth bids asks) =
    (h : Header) (S T : State) (others offers : List Level) → IsSession h → IsSound h S → IsSound h T → StandsFor h S l →
    view h S bank ≡ view h T bank → IsDepth h T bank pair others offers → (bids ≡ others) × (asks ≡ offers)
ShowsByView _ _ _ _ = Unit {0}

-- Both sides of a local book are truthful in each sound state that the host stands for.
abbrev pub ShowsTruly : FlatState → ℕ → ℕ → Outcome → Type 0
ShowsTruly l bank pair (Depth bids asks) =
    (h : Header) (S : State) → IsSession h → IsSound h S → StandsFor h S l →
    IsTruthful h S bank pair Sell bids × IsTruthful h S bank pair Buy asks
ShowsTruly _ _ _ _ = Unit {0}
