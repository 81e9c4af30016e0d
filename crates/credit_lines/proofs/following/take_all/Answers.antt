-- The next fill is paid; the others are, as it leaves the credit.
use Rattle.std.proofs.Common.{ℕ, ◌≡◌, ◌+◌, ◌*◌, ◌<◌, List, ◌∷◌, ap, sym, subst, ◌∙◌, length, get_or, drop}
use Rattle.std.proofs.lemmas.List.{drop_more}
use Rattle.fx_rules.specs.declared.orders.Fill.{Fill}
use Rattle.fx_rules.specs.Session.{Header, weight_of}
use Rattle.fx_rules.specs.State.{cost}
use Rattle.credit_lines.specs.Credit.{Credit, taken}
use Rattle.credit_lines.specs.Market.{ArePaid, IsPaid, taken_by}
use Rattle.credit_lines.proofs.following.take_all.Goals as goal

rest_is : (fills : List Fill) (i : ℕ) (f : Fill) → i < length fills → f ≡ get_or fills i f → drop i fills ≡ f ∷ drop (i + 1) fills
rest_is fills i f within is = drop_more fills i f within ∙ ap (λ (g : Fill). g ∷ drop (i + 1) fills) (sym is)

next-paid : (h : Header) (c : Credit) (fills : List Fill) (i : ℕ) (f : Fill) → i < length fills → f ≡ get_or fills i f → ArePaid h c (drop i fills) → IsPaid h c f × ArePaid h (taken_by h c f) (drop (i + 1) fills)
next-paid h c fills i f within is paid = subst (ArePaid h c) (rest_is fills i f within is) paid

cost_is : (h : Header) (f : Fill) (weight units : ℕ) → weight ≡ weight_of h f.pair → units ≡ f.lots * weight → units ≡ cost h f
cost_is h f weight units weighs is = is ∙ ap (λ n. f.lots * n) weighs

-- the next fill taken
took : (h : Header) (c now : Credit) (f : Fill) (units : ℕ) → now ≡ taken c f.taker f.maker units → units ≡ cost h f → now ≡ taken_by h c f
took h c now f units is units_are = is ∙ ap (taken c f.taker f.maker) units_are

pub weight-requires : goal.weight-requires
weight-requires c =
    (next-paid c.args.session.now c.loop-fill.lines c.args.fills.now c.loop-fill.fill-index c.fill-item.result c.loop-fill-test.true c.fill-item.is c.loop-fill.invariant.paid).0.pair
