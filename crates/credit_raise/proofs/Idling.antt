-- Plans, and behind them those of pairs that make nothing.
use Rattle.std.proofs.Common.{ℕ, zero, suc, ◌≡◌, ◌+◌, ◌<◌, List, [], ◌∷◌, ◌++◌, length, replicate, slice_get, Some, None, refl, ap, sym, ◌∙◌, arith, append_assoc}
use Rattle.std.proofs.lemmas.List.{length-append, length-replicate, replicate_more}
use Rattle.fx_rules.specs.declared.orders.Fill.{Fill}
use Rattle.fx_rules.specs.declared.orders.Plan.{Plan}
use Rattle.fx_rules.specs.State.{State, orders_in}
use Rattle.credit_raise.specs.UnderWay.{EachMakes, Makes, fills_of_all}
use Rattle.credit_raise.specs.inside.UnderWay.{idle_plan, with_idle}
use Rattle.credit_raise.proofs.Pairs.{plan_makes}

-- one more of them
pub idle-push : (plans : List Plan) (idle : ℕ) → with_idle plans (idle + 1) ≡ with_idle plans idle ++ idle_plan ∷ []
idle-push plans idle =
    ap (λ (more : List Plan). plans ++ more) (sym (replicate_more idle idle_plan)) ∙ sym (append_assoc plans (replicate idle idle_plan) (idle_plan ∷ []))

pub idle-length : (plans : List Plan) (idle : ℕ) → length (with_idle plans idle) ≡ length plans + idle
idle-length plans idle = length-append plans (replicate idle idle_plan) ∙ ap (λ n. length plans + n) (length-replicate idle idle_plan)

-- they have no fills
pub idle-fills : (plans : List Plan) (idle : ℕ) → fills_of_all (with_idle plans idle) ≡ fills_of_all plans
idle-fills [] zero = refl
idle-fills [] (suc idle) = idle-fills [] idle
idle-fills (plan ∷ plans) idle = ap (λ (fills : List Fill). plan.fills ++ fills) (idle-fills plans idle)

none_is : (plan : Plan) → None ≡ Some plan → ⊥
none_is plan is = cc

some_is : (plan : Plan) → Some plan ≡ None → ⊥
some_is plan is = cc

-- a pair's plan is the one at its place, or it makes nothing
pub idle-before : (plans : List Plan) (idle k : ℕ) (plan : Plan) → slice_get plans k ≡ Some plan → slice_get (with_idle plans idle) k ≡ Some plan
idle-before [] idle k plan is = absurd (none_is plan is)
idle-before (p ∷ plans) idle zero plan is = is
idle-before (p ∷ plans) idle (suc k) plan is = idle-before plans idle k plan is

within_idle : (idle k : ℕ) → k < length (replicate idle idle_plan) → slice_get (replicate idle idle_plan) k ≡ Some idle_plan
within_idle zero k below = absurd (omega (arith, below))
within_idle (suc idle) zero below = refl
within_idle (suc idle) (suc k) below = within_idle idle k (omega (arith, below))

pub idle-behind : (plans : List Plan) (idle k : ℕ) → slice_get plans k ≡ None → k < length (with_idle plans idle) → slice_get (with_idle plans idle) k ≡ Some idle_plan
idle-behind [] idle k is below = within_idle idle k below
idle-behind (p ∷ plans) idle zero is below = absurd (some_is p is)
idle-behind (p ∷ plans) idle (suc k) is below = idle-behind plans idle k is (omega (arith, below))

-- where there are no others, each pair is as it was
pub idle-stays : (S T : State) (plans : List Plan) (idle pair : ℕ) → plans ≡ [] → pair < length (with_idle plans idle) → EachMakes S T 0 (with_idle plans idle)
    → orders_in pair T.orders ≡ orders_in pair S.orders
idle-stays S T plans idle pair none below all =
    let makes : Makes S T pair [] = plan_makes S T (with_idle plans idle) pair idle_plan
    (idle-behind plans idle pair (ap (λ (ps : List Plan). slice_get ps pair) none) below) all in
    sym makes.leaves ∙ makes.orders
