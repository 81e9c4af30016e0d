-- What credit has to do with a state of the market.
use Rattle.std.specs.Prelude.{ℕ, ◌≡◌, ◌≢◌, ◌≤◌, ◌<◌, min, max, List, [], ◌∷◌}
use Rattle.fx_rules.specs.declared.command.Command.{Command}
use Rattle.fx_rules.specs.declared.command.Command.TheVariants.{Line, Total, Settle}
use Rattle.fx_rules.specs.declared.orders.Fill.{Fill}
use Rattle.fx_rules.specs.declared.outcome.Entry.{Entry}
use Rattle.fx_rules.specs.Session.{Header, IsSession, bank_count, pair_count}
use Rattle.fx_rules.specs.State.{State, cost, used}
use Rattle.fx_rules.specs.Step.{fills_of}
use Rattle.fx_rules.specs.History.{IsStep, after_entry}
use Rattle.fx_rules.specs.Sound.{IsSound}
use Rattle.credit_lines.specs.Credit.{Credit, limit_in, used_in, total_in, spent_in, line_in, taken, given_back, limited, totalled}

-- The credit is that of a state: of each two different banks it has the limits and what they have used, and of each bank the total.
pub record StandsFor (h : Header) (S : State) (credit : Credit) : Type 0 where
  pub banks : credit.banks ≡ bank_count h
  pub limits : (i j : ℕ) → i < bank_count h → j < bank_count h → i ≢ j → limit_in credit i j ≡ S.limits i j
  pub uses : (i j : ℕ) → i < bank_count h → j < bank_count h → i ≢ j → used_in credit i j ≡ used h S i j
  pub totals : (i : ℕ) → i < bank_count h → total_in credit i ≡ S.totals i

-- the credit that a fill leaves: its cost is used between its two banks
abbrev pub taken_by : Header → Credit → Fill → Credit
taken_by h credit fill = taken credit fill.taker fill.maker (cost h fill)

-- the credit that fills leave in order
abbrev pub taken_by_all : Header → Credit → List Fill → Credit
taken_by_all h credit [] = credit
taken_by_all h credit (fill ∷ fills) = taken_by_all h (taken_by h credit fill) fills

-- a fill of one of the session's pairs, between two banks whose line pays for it
pub record IsPaid (h : Header) (credit : Credit) (fill : Fill) : Type 0 where
  pub pair : fill.pair < pair_count h
  pub taker : fill.taker < credit.banks
  pub maker : fill.maker < credit.banks
  pub differ : fill.taker ≢ fill.maker
  pub pays : cost h fill ≤ line_in credit fill.taker fill.maker

-- so is each of some fills, as those before it leave the credit
abbrev pub ArePaid : Header → Credit → List Fill → Type 0
ArePaid h credit [] = Unit {0}
ArePaid h credit (fill ∷ fills) = IsPaid h credit fill × ArePaid h (taken_by h credit fill) fills

-- the credit once a command has done what it asks for, before its fills: a limit is set to what is asked, or to what the two banks
-- have used where that is more, a total to what is asked, or to what the bank has spent where that is more, and of what two banks
-- have used as much is given back as is asked, or all of it where that is less
abbrev pub line_set : Credit → ℕ → Command → Credit
line_set credit bank (Line other asked) = limited credit bank other (max asked (used_in credit bank other))
line_set credit bank (Total asked) = totalled credit bank (max asked (spent_in credit bank))
line_set credit sender (Settle a b asked) = given_back credit a b (min asked (used_in credit a b))
line_set credit bank _ = credit

-- the credit that an entry leaves: first what its command asks for, and then the cost of each of its fills
abbrev pub followed : Header → Credit → Entry → Credit
followed h credit entry = taken_by_all h (line_set credit entry.bank entry.command) (fills_of entry.outcome)

-- the entry is a step of a sound state of the session that the credit stands for, as the state of a legal history is which
-- goes on by it
pub record IsNextOf (h : Header) (credit : Credit) (entry : Entry) : Type 0 where
  pub session : IsSession h
  pub before : State
  pub sound : IsSound h before
  pub stands : StandsFor h before credit
  pub step : IsStep h before entry

-- Each sound state that the credit stood for and of which the entry is a step: it stands for the state after it.
abbrev pub FollowsOn : Header → Credit → Credit → Entry → Type 0
FollowsOn h old new entry =
    (S : State) → IsSound h S → StandsFor h S old → IsStep h S entry → StandsFor h (after_entry S entry) new
