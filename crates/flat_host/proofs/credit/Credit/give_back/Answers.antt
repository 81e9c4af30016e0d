-- What is given back keeps the uses within the limits and the totals.
use Rattle.std.proofs.Common.{ℕ, ◌≡◌, ◌-◌, Option, Some, IfSome, sym, ap, subst, ◌∙◌}
use Rattle.std.proofs.Math.ListN.{set}
use Rattle.flat_host.specs.FlatState.{FlatCredit, use_place, use_in}
use Rattle.flat_host.specs.inside.Credit.{flat_credit_of}
use Rattle.flat_host.specs.inside.FlatState.{IsCredit}
use Rattle.flat_host.proofs.Within.{settled-credit}
use Rattle.flat_host.proofs.credit.Credit.give_back.Goals as goal

-- the number that is written
written : (made : Option ℕ) (number is : ℕ) → made ≡ Some number → IfSome made (λ units. units ≡ is) → number ≡ is
written made number is found says = subst (λ (o : Option ℕ). IfSome o (λ units. units ≡ is)) found says

pub invariant_of-self : goal.invariant_of-self
invariant_of-self c =
    let credit : FlatCredit = flat_credit_of c.self.inside in
    let a : ℕ = c.args.a in
    let b : ℕ = c.args.b in
    let given : ℕ = c.min-given.result in
    let had : c.get.result ≡ use_in credit.uses a b = c.get.ensures.value ∙ c.used-used.ensures.value ∙ ap (λ (k : FlatCredit). use_in k.uses a b) (sym c.self.view_is) in
    let now : c.unwrap.result ≡ use_in credit.uses a b - given =
    written c.new.result c.unwrap.result (c.get.result - c.get-2.result) c.unwrap.ensures c.new.ensures.value
    ∙ ap (λ n. n - c.get-2.result) had ∙ ap (λ n. use_in credit.uses a b - n) c.get-2.ensures.value in
    subst (λ p. IsCredit (record credit { uses = set credit.uses p c.unwrap.result })) (sym c.use_place.ensures.value)
    (subst (λ n. IsCredit (record credit { uses = set credit.uses (use_place a b) n })) (sym now)
    (settled-credit credit a b given c.self.invariant c.use_place.ensures.banks.0 c.use_place.ensures.banks.1))
