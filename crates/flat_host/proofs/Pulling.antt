-- A bank's resting orders are no more than its commands.
use Rattle.std.proofs.Common.{ℕ, ◌≡◌, ◌+◌, ◌≤◌, ◌<◌, true, false, ◌||◌, eqb, List, [], ◌∷◌, inl, inr, refl, arith, ap, sym, subst, ◌∙◌, length, map, get_or}
use Rattle.std.proofs.lemmas.Bool.{cases_Bool, eqb-true, false_from_ne_true, false≢true}
use Rattle.std.proofs.lemmas.List.{length-map}
use Rattle.std.proofs.lemmas.Map.Steps.{length-le_from_distinct_below}
use Rattle.std.specs.List.{list_any, IsDistinct}
use Rattle.fx_rules.specs.declared.orders.Resting.{Resting}
use Rattle.fx_rules.specs.Lists.{Among, Each, EachPair}
use Rattle.fx_rules.specs.Session.{Header}
use Rattle.fx_rules.specs.State.{State, orders_in}
use Rattle.fx_rules.specs.inside.Orders.{orders_by}
use Rattle.fx_rules.specs.Sound.{IsSound, IsKept, ArrivesBefore}
use Rattle.fx_rules.proofs.ListLemmas.{Each-among, Each-map, EachPair-filter, Among-filter}
use Rattle.fx_rules.proofs.Opens.{orders_in-among}
use Rattle.fx_rules.proofs.Planning.{orders_in-rising}

-- an order of a bank, of one of so many commands
record IsOne (bank most : ℕ) (o : Resting) : Type 0 where
  pub owner : o.bank ≡ bank
  pub number : o.number < most

each_from : (P : Resting → Type 0) (os : List Resting) → ((o : Resting) → Among o os → P o) → Each P os
each_from P [] all = tt
each_from P (o ∷ os) all = (all o (inl refl), each_from P os (λ q there. all q (inr there)))

differing : (bank most : ℕ) (o : Resting) (os : List Resting) → o.bank ≡ bank → Each (ArrivesBefore o) os → Each (IsOne bank most) os → Each (λ q. eqb o.number q.number ≡ false) os
differing bank most o [] own before all = tt
differing bank most o (q ∷ os) own before all = (
  false_from_ne_true (eqb o.number q.number) (λ same. before.0.number (own ∙ sym all.0.owner) (eqb-true o.number q.number same)),
  differing bank most o os own before.1 all.1,
)

distinct : (bank most : ℕ) (os : List Resting) → EachPair ArrivesBefore os → Each (IsOne bank most) os → IsDistinct eqb (map (λ (o : Resting). o.number) os)
unfolding IsDistinct
distinct bank most [] rising all = tt
distinct bank most (o ∷ os) rising all = (
  Each-map (λ n. eqb o.number n ≡ false) (λ (q : Resting). q.number) os (differing bank most o os all.0.owner rising.0 all.1),
  distinct bank most os rising.1 all.1,
)

below : (bank most : ℕ) (os : List Resting) → Each (IsOne bank most) os → (q : ℕ) → list_any (eqb q) (map (λ (o : Resting). o.number) os) ≡ true → q < most
below bank most [] all q found = absurd (false≢true found)
below bank most (o ∷ os) all q found =
    elim (cases_Bool (eqb q o.number)) [
      | inl is ↦ omega (arith, eqb-true q o.number is, all.0.number)
      | inr is_not ↦ below bank most os all.1 q (subst (λ b. (b || list_any (eqb q) (map (λ (p : Resting). p.number) os)) ≡ true) is_not found)
    ]

pub pulled-most : (h : Header) (S : State) (pair bank : ℕ) → IsSound h S → length (orders_by S pair bank) ≤ get_or S.counts bank 0 + 1
pulled-most h S pair bank sound =
    let os : List Resting = orders_by S pair bank in
    let own : Each (IsOne bank (get_or S.counts bank 0 + 1)) os =
    each_from (IsOne bank (get_or S.counts bank 0 + 1)) os (λ o there.
    let kept' = Among-filter (λ (q : Resting). eqb q.bank bank) (orders_in pair S.orders) o there in
    let found = orders_in-among pair S.orders o kept'.0 in
    let kept : IsKept h S.counts found.0 = Each-among (IsKept h S.counts) S.orders found.0 sound.kept found.1 in
    let owner : o.bank ≡ bank = eqb-true o.bank bank kept'.1 in
    let number : o.number ≡ found.0.order.number = ap (λ (q : Resting). q.number) found.3 in
    let sent : found.0.order.number ≤ get_or S.counts bank 0 =
    subst (λ b. found.0.order.number ≤ get_or S.counts b 0) (ap (λ (q : Resting). q.bank) (sym found.3) ∙ owner) kept.number_most in
    record { owner = owner; number = omega arith }) in
    let rising : EachPair ArrivesBefore os = EachPair-filter ArrivesBefore (λ (q : Resting). eqb q.bank bank) (orders_in pair S.orders) (orders_in-rising pair S.orders sound.rising) in
    let most = length-le_from_distinct_below (map (λ (o : Resting). o.number) os) (get_or S.counts bank 0 + 1)
    (distinct bank (get_or S.counts bank 0 + 1) os rising own) (below bank (get_or S.counts bank 0 + 1) os own) in
    omega (arith, most, length-map os (λ (o : Resting). o.number))
