use Rattle.std.proofs.Common.{◌≡◌, Result, Ok, Err, OnOk, sym, subst}
use Rattle.fx_amounts.specs.declared.memory.Memory.{Memory}
use Rattle.fx_rules.specs.Session.{Header}
use Rattle.fx_rules.specs.State.{State}
use Rattle.credit_raise.specs.UnderWay.{IsPairOf, IsUnderWay}
use Rattle.credit_raise.specs.inside.UnderWay.{with_plan}
use Rattle.credit_raise.proofs.Pairs.{goes_on}
use Rattle.credit_raise.proofs.change.CreditChange.turn.Goals as goal

on_ok : (r : Result (Unit {0}) Memory) (P Q : Type 0) → (P → Q) → OnOk r P → OnOk r Q
on_ok (Ok u) P Q step h = step h
on_ok (Err e) P Q step h = tt

pub returns-clause-goes_on : goal.returns-clause-goes_on
returns-clause-goes_on c =
    on_ok c.add.result (c.add.new.self ≡ with_plan c.args.self.now c.in_ok-plan.plan c.args.weight)
    ((h : Header) (S : State) → IsUnderWay h S c.args.self.now → IsPairOf h S c.args.book.now c.args.weight → IsUnderWay h S c.add.new.self)
    (λ added h S under of. subst (IsUnderWay h S) (sym added)
    (goes_on h S c.args.self.now c.args.book.now c.args.weight c.in_ok-plan.plan c.plan_next.ensures.valid c.requires.weight.0 c.requires.next
    (λ T. c.in_ok-plan.ensures.fills h T) c.in_ok-plan.ensures.parties under of))
    c.add.ensures.added
