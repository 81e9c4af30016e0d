use Rattle.std.proofs.Common.{rules, ◌≡◌, [], inl, inr, sym, subst, arith}
use Rattle.std.proofs.lemmas.List.{nil_from_length}
use Rattle.fx_rules.specs.Lists.{Among}
use Rattle.flat_host.proofs.floor.Floor.close.Goals as goal

pub returns-clause-passes : goal.returns-clause-passes
returns-clause-passes g c = λ pass among.
    let none : c.loop-pass.pass-iterator.rest.items ≡ [] = nil_from_length _ (omega (arith, c.in-None.ensures.steps.0, c.loop-pass.pass-iterator.rest.ok)) in
    let all : c.into_iter-pass-iterator.result.rest.items ≡ c.args.passes.items = search rules in
    elim (c.loop-pass.invariant.passes pass (subst (Among pass) (sym all) among)) [
      | inl left ↦ absurd (subst (Among pass) none left)
      | inr is ↦ rw (← c.self.view_is) is
    ]
