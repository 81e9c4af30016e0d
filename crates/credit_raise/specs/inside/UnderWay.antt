-- What private functions and proofs alone say of it, beside `specs/UnderWay.antt`.
use Rattle.std.specs.Prelude.{ℕ, ◌≢◌, ◌-◌, ◌*◌, List, [], ◌∷◌, ◌++◌, replicate}
use Rattle.fx_amounts.specs.Quantity.{IsUnits}
use Rattle.fx_rules.specs.declared.command.Command.{Command}
use Rattle.fx_rules.specs.declared.command.Command.TheVariants.{Line, Total, Settle}
use Rattle.fx_rules.specs.declared.orders.Fill.{Fill}
use Rattle.fx_rules.specs.declared.orders.Plan.{Plan}
use Rattle.fx_rules.specs.Lists.{Each}
use Rattle.credit_lines.specs.Credit.{IsCredit}
use Rattle.global_book.specs.Book.{Book}
use Rattle.credit_raise.specs.Two.{IsFillOf, lots_of}
use Rattle.credit_raise.specs.inside.Two.{turns}
use Rattle.credit_raise.specs.inside.Playing.{Played}
use Rattle.credit_raise.specs.inside.Paying.{paid_all}
use Rattle.credit_raise.specs.declared.course.Course.{Course}
use Rattle.credit_raise.specs.declared.course.Course.TheVariants.{Raised, Swept}
use Rattle.credit_raise.specs.UnderWay.{Change}

-- the course once fills in a pair are paid for, where a lot costs this weight
abbrev pub course_behind : ℕ → List Fill → Course → Course
course_behind weight fills (Raised other limit line) = Raised other limit (line - lots_of fills * weight)
course_behind weight fills (Swept lines set) = Swept (paid_all weight lines fills) set

-- once the next pair had its turn, by its plan and what a lot costs there
abbrev pub with_plan : Change → Plan → ℕ → Change
with_plan change plan weight = record change {
  course = course_behind weight plan.fills change.course;
  plans = change.plans ++ plan ∷ [];
}

-- what a pair is to make that makes nothing
abbrev pub idle_plan : Plan
idle_plan = record { fills = []; left = 0 }

-- some plans, and behind them those of so many pairs that make nothing
abbrev pub with_idle : List Plan → ℕ → List Plan
with_idle plans idle = plans ++ replicate idle idle_plan

-- the lines of a course are lines of a market
abbrev pub HasCredit : Course → Type 0
HasCredit (Raised other limit line) = Unit {0}
HasCredit (Swept lines set) = IsCredit lines

-- a course that a sender can take: the two banks of a limit differ
abbrev pub IsCourse : ℕ → Course → Type 0
IsCourse sender (Raised other limit line) = sender ≢ other
IsCourse sender (Swept lines set) = IsCredit lines

-- what a total sets or a settlement gives back
abbrev pub IsSwept : Command → ℕ → Type 0
IsSwept (Total asked) most = Unit {0}
IsSwept (Settle a b asked) given = IsUnits given
IsSwept _ _ = ⊥

-- a course that a command takes
abbrev pub IsCourseOf : Command → Course → Type 0
IsCourseOf (Line named asked) (Raised other limit line) = Unit {0}
IsCourseOf (Line named asked) (Swept lines set) = ⊥
IsCourseOf command (Raised other limit line) = ⊥
IsCourseOf command (Swept lines set) = IsSwept command set

-- the fills of a limit's course are between its two banks
abbrev pub AreParties : ℕ → ℕ → Course → List Fill → Type 0
AreParties pair sender (Raised other limit line) fills = Each (IsFillOf pair sender other) fills
AreParties pair sender (Swept lines set) fills = Unit {0}

-- The orders in a pair, where a lot costs this weight, make nothing of a limit's line, whatever the state. Of a total or a settlement
-- that is not known without a look at its lines.
abbrev pub MakesNone : Book → ℕ → ℕ → Course → Type 0
MakesNone book weight sender (Raised other limit line) = Played book.pair weight sender other line [] (turns sender other book.orders) []
MakesNone book weight sender (Swept lines set) = ⊥
