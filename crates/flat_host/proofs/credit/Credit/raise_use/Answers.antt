-- What the line pays for keeps the uses within the limits and the totals.
use Rattle.std.proofs.Common.{ℕ, ◌≡◌, ◌+◌, ◌≤◌, Option, Some, IfSome, sym, ap, subst, ◌∙◌}
use Rattle.std.proofs.Math.ListN.{set}
use Rattle.flat_host.specs.FlatState.{FlatCredit, use_place, use_in, line_in}
use Rattle.flat_host.specs.inside.Credit.{flat_credit_of}
use Rattle.flat_host.specs.inside.FlatState.{IsCredit}
use Rattle.flat_host.proofs.Within.{raised-credit}
use Rattle.flat_host.proofs.credit.Credit.raise_use.Goals as goal

-- the number that is written
written : (made : Option ℕ) (number is : ℕ) → made ≡ Some number → IfSome made (λ units. units ≡ is) → number ≡ is
written made number is found says = subst (λ (o : Option ℕ). IfSome o (λ units. units ≡ is)) found says

pub invariant_of-self : goal.invariant_of-self
invariant_of-self c =
    let credit : FlatCredit = flat_credit_of c.self.inside in
    let i : ℕ = c.args.i in
    let j : ℕ = c.args.j in
    let fits : c.args.units ≤ line_in credit i j =
    subst (λ n. c.args.units ≤ n) (c.line.ensures.value ∙ ap (λ (k : FlatCredit). line_in k i j) (sym c.self.view_is)) c.if-units-line.true in
    let had : c.get.result ≡ use_in credit.uses i j = c.get.ensures.value ∙ c.used.ensures.value ∙ ap (λ (k : FlatCredit). use_in k.uses i j) (sym c.self.view_is) in
    let now : c.unwrap.result ≡ use_in credit.uses i j + c.args.units =
    written c.new.result c.unwrap.result (c.get.result + c.args.units) c.unwrap.ensures c.new.ensures.value ∙ ap (λ n. n + c.args.units) had in
    subst (λ p. IsCredit (record credit { uses = set credit.uses p c.unwrap.result })) (sym c.use_place.ensures.value)
    (subst (λ n. IsCredit (record credit { uses = set credit.uses (use_place i j) n })) (sym now)
    (raised-credit credit i j c.args.units c.self.invariant c.use_place.ensures.banks.0 c.use_place.ensures.banks.1 fits))
