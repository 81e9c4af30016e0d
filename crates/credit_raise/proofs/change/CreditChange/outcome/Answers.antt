use Rattle.std.proofs.Common.{◌≡◌, Result, Ok, Err, IfOk, length, sym, subst}
use Rattle.fx_amounts.specs.declared.memory.Memory.{Memory}
use Rattle.fx_rules.specs.declared.outcome.Outcome.{Outcome}
use Rattle.fx_rules.specs.Session.{Header, pair_count}
use Rattle.fx_rules.specs.State.{State}
use Rattle.fx_rules.specs.Step.{IsOutcome}
use Rattle.credit_raise.specs.UnderWay.{IsUnderWay, outcome_of}
use Rattle.credit_raise.proofs.Pairs.{answered}
use Rattle.credit_raise.proofs.change.CreditChange.outcome.Goals as goal

if_ok : (r : Result Outcome Memory) (P Q : Outcome → Type 0) → ((outcome : Outcome) → P outcome → Q outcome) → IfOk r P → IfOk r Q
if_ok (Ok outcome) P Q step h = step outcome h
if_ok (Err e) P Q step h = tt

pub returns-clause-answers : goal.returns-clause-answers
returns-clause-answers c =
    if_ok c.told.result (λ outcome. outcome ≡ outcome_of c.args.self.now)
    (λ outcome. (h : Header) (S : State) → IsUnderWay h S c.args.self.now → length c.args.self.now.plans ≡ pair_count h → IsOutcome h S c.args.self.now.sender c.args.self.now.command outcome)
    (λ outcome is h S under all. subst (IsOutcome h S c.args.self.now.sender c.args.self.now.command) (sym is) (answered h S c.args.self.now under all))
    c.told.ensures.value
