-- A credit change under way: some of the pairs have had their turns, in the order of the header.
use Rattle.std.specs.Prelude.{ℕ, ◌≡◌, ◌≢◌, ◌+◌, ◌≤◌, ◌<◌, min, max, Bool, true, false, List, [], ◌∷◌, ◌++◌, length}
use Rattle.fx_rules.specs.declared.orders.Fill.{Fill}
use Rattle.fx_rules.specs.declared.orders.Plan.{Plan}
use Rattle.fx_rules.specs.declared.outcome.Outcome.{Outcome}
use Rattle.fx_rules.specs.declared.outcome.Outcome.TheVariants.{LineSet, TotalSet, Settled}
use Rattle.fx_rules.specs.declared.command.Command.{Command}
use Rattle.fx_rules.specs.declared.command.Command.TheVariants.{Line, Total, Settle}
use Rattle.fx_rules.specs.Lists.{EachPair}
use Rattle.fx_rules.specs.Session.{Header, bank_count, weight_of}
use Rattle.fx_rules.specs.State.{State, orders_in}
use Rattle.fx_rules.specs.Step.{credit_changed}
use Rattle.fx_rules.specs.Sweep.{filled_all}
use Rattle.fx_rules.specs.Raise.{limit_set, total_set, given_back, PairsTurned}
use Rattle.fx_rules.specs.Sound.{IsSound, Rises}
use Rattle.global_book.specs.Book.{Book}
use Rattle.credit_lines.specs.Credit.{Credit, line_in, spent_in, used_in}
use Rattle.credit_lines.specs.Market.{line_set}
use Rattle.match_sweep.specs.Sweeps.{Fits}
use Rattle.credit_raise.specs.declared.course.Course.{Course}
use Rattle.credit_raise.specs.declared.course.Course.TheVariants.{Raised, Swept}
use Rattle.credit_raise.specs.Two.{IsRaised}

-- a command that is a credit change: a limit or a total is set, or used credit is given back
abbrev pub is_change : Command → Bool
is_change (Line other asked) = true
is_change (Total asked) = true
is_change (Settle a b asked) = true
is_change _ = false

-- it is one that this sender can send, by its number and those that it names, among so many banks
abbrev pub IsChange : ℕ → ℕ → Command → Type 0
IsChange banks sender (Line other asked) = (sender < banks) × (other < banks) × (sender ≢ other)
IsChange banks sender (Total asked) = sender < banks
IsChange banks sender (Settle a b asked) = (a < banks) × (b < banks) × (a ≢ b)
IsChange _ _ _ = ⊥

-- who sends it, its command, its course, and the plan of each pair that had its turn
pub record Change : Type 0 where
  pub sender : ℕ
  pub command : Command
  pub course : Course
  pub plans : List Plan

-- the limit or the total that is set, or the units that are given back
abbrev pub set_of : Course → ℕ
set_of (Raised other limit line) = limit
set_of (Swept lines set) = set

-- the fills of some plans, in order
abbrev pub fills_of_all : List Plan → List Fill
fills_of_all [] = []
fills_of_all (plan ∷ plans) = plan.fills ++ fills_of_all plans

-- what a credit change answers that sets this, or gives it back, and makes these fills
abbrev pub answer_of : Command → ℕ → List Fill → Outcome
answer_of (Total asked) set fills = TotalSet set fills
answer_of (Settle a b asked) set fills = Settled set fills
answer_of _ set fills = LineSet set fills

-- what it answers once all pairs had their turns
abbrev pub outcome_of : Change → Outcome
outcome_of change = answer_of change.command (set_of change.course) (fills_of_all change.plans)

-- a command's course before the first turn, by the credit: a limit or a total is what is asked, or what is used where that is more,
-- and as much is given back as is asked, or all that is used where that is less
abbrev pub course_of : Credit → ℕ → Command → Course
course_of credit sender (Line other asked) =
    Raised other (max asked (used_in credit sender other)) (line_in (line_set credit sender (Line other asked)) sender other)
course_of credit sender (Total asked) = Swept (line_set credit sender (Total asked)) (max asked (spent_in credit sender))
course_of credit sender (Settle a b asked) = Swept (line_set credit sender (Settle a b asked)) (min asked (used_in credit a b))
course_of credit sender _ = Swept credit 0

-- a sender's command before the first turn, by the credit
abbrev pub opened : Credit → ℕ → Command → Change
opened credit sender command = record { sender = sender; command = command; course = course_of credit sender command; plans = [] }

-- a state with the limit or the total set, or the units given back, and then with the fills so far
abbrev pub begun : Change → State → State
begun change S = credit_changed S change.sender change.command (answer_of change.command (set_of change.course) [])

abbrev pub reached : Change → State → State
reached change S = filled_all (begun change S) (fills_of_all change.plans)

-- a pair's book, and what a lot costs there, as they are in a state
pub record IsPairOf (h : Header) (S : State) (book : Book) (weight : ℕ) : Type 0 where
  pub orders : book.orders ≡ orders_in book.pair S.orders
  pub weighs : weight ≡ weight_of h book.pair

-- Fills that are made in a pair as it is in one state leave it as it is in another. (Which state the pair's turn came in
-- nobody has to know: the pair's orders were those of the first.)
pub record Makes (S T : State) (pair : ℕ) (fills : List Fill) : Type 0 where
  pub turn : State
  pub rising : EachPair Rises turn.orders
  pub orders : orders_in pair turn.orders ≡ orders_in pair S.orders
  pub leaves : orders_in pair (filled_all turn fills).orders ≡ orders_in pair T.orders

-- so does each of some plans in its pair, from a pair on
abbrev pub EachMakes : State → State → ℕ → List Plan → Type 0
EachMakes S T pair [] = Unit {0}
EachMakes S T pair (plan ∷ plans) = Makes S T pair plan.fills × EachMakes S T (pair + 1) plans

-- the limit or the total is what the market sets, or the units are what it gives back
abbrev pub IsSetBy : Header → State → ℕ → Command → ℕ → Type 0
IsSetBy h S sender (Line other asked) limit = limit ≡ limit_set h S sender other asked
IsSetBy h S sender (Total asked) most = most ≡ total_set h S sender asked
IsSetBy h S sender (Settle a b asked) given = given ≡ given_back h S a b asked
IsSetBy h S sender _ set = ⊥

-- a pair's turn can come, with its book, in a state that the change has reached
abbrev pub IsReady : Header → State → Book → ℕ → ℕ → Course → Type 0
IsReady h S book weight sender (Raised other limit line) = IsRaised h S book weight sender other line
IsReady h S book weight sender (Swept lines set) = IsSound h S × Fits h S book lines weight

-- a book for so many banks has as many as the lines on which its orders are swept
abbrev pub HasBanks : Course → ℕ → Type 0
HasBanks (Raised other limit line) banks = Unit {0}
HasBanks (Swept lines set) banks = banks ≡ lines.banks

-- a course among so many banks: the two banks of a limit are two of them, and all other lines are between them
abbrev pub IsAmong : ℕ → ℕ → Course → Type 0
IsAmong banks sender (Raised other limit line) = (sender < banks) × (other < banks) × (sender ≢ other)
IsAmong banks sender (Swept lines set) = lines.banks ≡ banks

-- The credit change of a state is under way. Each pair whose turn is still to come can have it, with what is left of the line or of
-- all lines. Whatever fills the turns still to come make, make, behind those so far, the fills of all turns. And the plans make in
-- their pairs what the fills so far make of the market.
pub record IsUnderWay (h : Header) (S : State) (change : Change) : Type 0 where
  pub set : IsSetBy h S change.sender change.command (set_of change.course)
  pub banks : IsAmong (bank_count h) change.sender change.course
  pub waits : (book : Book) (weight : ℕ) → length change.plans ≤ book.pair → 1 ≤ weight → IsPairOf h S book weight →
      IsReady h (reached change S) book weight change.sender change.course
  pub goes_on : (pairs : ℕ) (more : List Fill) → PairsTurned h pairs (length change.plans) (reached change S) more →
      PairsTurned h (length change.plans + pairs) 0 (begun change S) (fills_of_all change.plans ++ more)
  pub makes : EachMakes S (reached change S) 0 change.plans
