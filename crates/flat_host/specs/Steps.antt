-- What a call of the plain host does to each state that the host stands for.
use Rattle.std.specs.Prelude.{ℕ, ◌≡◌, List, [], ◌∷◌, ◌++◌, length, map}
use Rattle.fx_rules.specs.declared.command.Command.{Command}
use Rattle.fx_rules.specs.declared.outcome.Outcome.{Outcome}
use Rattle.fx_rules.specs.declared.outcome.Outcome.TheVariants.{Depth}
use Rattle.fx_rules.specs.declared.outcome.Entry.{Entry}
use Rattle.fx_rules.specs.Session.{Header, IsSession, bank_count, sender_places}
use Rattle.fx_rules.specs.State.{State, Within}
use Rattle.fx_rules.specs.NoCross.{NoCross}
use Rattle.fx_rules.specs.Depth.{IsDepth}
use Rattle.fx_rules.specs.Step.{IsCommand, IsOutcome, after}
use Rattle.fx_rules.specs.History.{IsLegal, state}
use Rattle.fx_rules.specs.Sound.{IsSound}
use Rattle.fx_rules.specs.Market.{next_entry}
use Rattle.flat_host.specs.FlatState.{FlatState, StandsFor}

-- the command is one that a sender may send in a valid session of the host's banks, senders and weights
pub record IsCommandOf (l : FlatState) (bank : ℕ) (command : Command) : Type 0 where
  pub session : Header
  pub banks : l.credit.banks ≡ bank_count session
  pub senders : length l.counts ≡ sender_places session
  pub weights : l.weights ≡ map (λ rule. rule.weight) session.pairs
  pub valid : IsSession session
  pub may_send : IsCommand session bank command

-- the outcome is one of each sound state that the host stands for
abbrev pub AnswersEach : FlatState → ℕ → Command → Outcome → Type 0
AnswersEach l bank command outcome =
    (h : Header) (S : State) → IsSession h → IsSound h S → StandsFor h S l → IsOutcome h S bank command outcome

-- Each sound state that the host stood for: the outcome is one of it, and the host stands for the state after it.
abbrev pub StepsEach : FlatState → FlatState → ℕ → Command → Outcome → Type 0
StepsEach old new bank command outcome =
    (h : Header) (S : State) → IsSession h → IsSound h S → StandsFor h S old →
    IsOutcome h S bank command outcome × StandsFor h (after S bank command outcome) new

-- what the host stands for, as a market does
abbrev pub stands : FlatState → Header → State → Type 0
stands l h S = StandsFor h S l

-- Each legal history whose state the host stood for: in the state after the entry that the call adds no line is exceeded,
abbrev pub KeepsLines : FlatState → ℕ → Command → Outcome → Type 0
KeepsLines old bank command outcome =
    (h : Header) (H : List Entry) → IsLegal h H → StandsFor h (state h H) old →
    Within h (state h (H ++ next_entry (state h H) bank command outcome ∷ []))

-- and no orders rest crossed that can reach each other.
abbrev pub StaysUncrossed : FlatState → ℕ → Command → Outcome → Type 0
StaysUncrossed old bank command outcome =
    (h : Header) (H : List Entry) → IsLegal h H → StandsFor h (state h H) old →
    NoCross h (state h (H ++ next_entry (state h H) bank command outcome ∷ []))

-- the outcome is the bank's local book of the pair in each sound state that the host stands for
abbrev pub ShowsEach : FlatState → ℕ → ℕ → Outcome → Type 0
ShowsEach l bank pair (Depth bids asks) =
    (h : Header) (S : State) → IsSession h → IsSound h S → StandsFor h S l → IsDepth h S bank pair bids asks
ShowsEach _ _ _ _ = ⊥

-- the entry goes on a legal history whose state the host stands for
abbrev pub IsNextOf : FlatState → Entry → Type 0
IsNextOf l entry =
    (h : Header) × (H : List Entry) × IsLegal h (H ++ entry ∷ []) × StandsFor h (state h H) l

-- Each legal history that goes on with the entry, and whose state the host stood for: the host stands for the state after
-- it.
abbrev pub FollowsOn : FlatState → FlatState → Entry → Type 0
FollowsOn old new entry =
    (h : Header) (H : List Entry) → IsLegal h (H ++ entry ∷ []) → StandsFor h (state h H) old →
    StandsFor h (state h (H ++ entry ∷ [])) new
