-- One step of a planned sweep, over the flat list and the table of lines.
use Rattle.std.proofs.Common.{ℕ, ◌≡◌, ◌-◌, ◌*◌, ◌/◌, ◌≤◌, ◌<◌, Bool, true, false, ◌&&◌, eqb, List, [], ◌∷◌, inl, inr, refl, ap, sym, subst, ◌∙◌, length, get_or, map, Option, Some, get_or-set_same, get_or-set_other}
use Rattle.std.proofs.Math.ListN.{set}
use Rattle.std.proofs.Math.Path.{fun_ext}
use Rattle.std.proofs.lemmas.Bool.{cases_Bool, cond-true, cond-false, and_parts, and_left, eqb-true, eqb-false}
use Rattle.std.specs.List.{filter}
use Rattle.fx_rules.specs.declared.orders.ActiveOrder.{ActiveOrder}
use Rattle.fx_rules.specs.declared.orders.Resting.{Resting}
use Rattle.fx_rules.specs.declared.orders.Fill.{Fill}
use Rattle.fx_rules.specs.Lists.{Among}
use Rattle.fx_rules.specs.State.{orders_in}
use Rattle.fx_rules.specs.Sweep.{Taker, is_open, IsBest, amount, fill_with, less}
use Rattle.fx_rules.specs.Plan.{Planned, is_behind, open_behind, spend}
use Rattle.fx_rules.proofs.ListLemmas.{filter_cons_true, filter_cons_false, Among-filter}
use Rattle.fx_rules.proofs.Opens.{is_open-says}
use Rattle.flat_host.specs.inside.Search.{is_candidate, candidates}

true_and : (a b : Bool) → a ≡ true → (a && b) ≡ b
true_and true b is = refl
true_and false b is = absurd (cc)

and_assoc_true : (a b c : Bool) → a ≡ true → (a && b && c) ≡ (b && c)
and_assoc_true a b c is = ap (λ v. v && c) (true_and a b is)

-- the candidates of the flat list are those of the pair's book
pub candidates-open : (weight : ℕ) (lines : List ℕ) (t : Taker) (last : Option Resting) (orders : List ActiveOrder) → candidates weight lines t last orders ≡ open_behind (λ bank. get_or lines bank 0 / weight) t last (orders_in t.pair orders)
candidates-open weight lines t last [] = refl
candidates-open weight lines t last (a ∷ orders) =
    let cand : ActiveOrder → Bool = is_candidate weight lines t last in
    let here : ActiveOrder → Bool = λ b. eqb b.pair t.pair in
    let order : ActiveOrder → Resting = λ b. b.order in
    let test : Resting → Bool = λ o. is_open t (get_or lines o.bank 0 / weight) o && is_behind t.side last o in
    let rest : map order (filter cand orders) ≡ filter test (map order (filter here orders)) = candidates-open weight lines t last orders in
    elim (cases_Bool (here a)) [
      | inl is ↦
          let same : cand a ≡ test a.order = and_assoc_true (here a) (is_open t (get_or lines a.order.bank 0 / weight) a.order) (is_behind t.side last a.order) is in
          elim (cases_Bool (test a.order)) [
            | inl passes ↦ ap (map order) (filter_cons_true cand a orders (same ∙ passes)) ∙ ap (λ os. a.order ∷ os) rest
                ∙ sym (filter_cons_true test a.order (map order (filter here orders)) passes)
                ∙ sym (ap (λ (kept : List ActiveOrder). filter test (map order kept)) (filter_cons_true here a orders is))
            | inr fails ↦ ap (map order) (filter_cons_false cand a orders (same ∙ fails)) ∙ rest
                ∙ sym (filter_cons_false test a.order (map order (filter here orders)) fails)
                ∙ sym (ap (λ (kept : List ActiveOrder). filter test (map order kept)) (filter_cons_true here a orders is))
          ]
      | inr is_not ↦
          ap (map order) (filter_cons_false cand a orders
          (and_left (here a && is_open t (get_or lines a.order.bank 0 / weight) a.order) (is_behind t.side last a.order)
          (and_left (here a) (is_open t (get_or lines a.order.bank 0 / weight) a.order) is_not)))
          ∙ rest ∙ sym (ap (λ (kept : List ActiveOrder). filter test (map order kept)) (filter_cons_false here a orders is_not))
    ]

-- a best candidate is in reach
pub best_reach : (weight : ℕ) (lines : List ℕ) (t : Taker) (last : Option Resting) (orders : List ActiveOrder) (best : Resting) → IsBest t.side (candidates weight lines t last orders) best → 1 ≤ get_or lines best.bank 0 / weight
best_reach weight lines t last orders best is =
    let there : Among best (open_behind (λ bank. get_or lines bank 0 / weight) t last (orders_in t.pair orders)) =
    subst (Among best) (candidates-open weight lines t last orders) is.there in
    let found = Among-filter (λ (o : Resting). is_open t (get_or lines o.bank 0 / weight) o && is_behind t.side last o) (orders_in t.pair orders) best there in
    (is_open-says t (get_or lines best.bank 0 / weight) best (and_parts (is_open t (get_or lines best.bank 0 / weight) best) (is_behind t.side last best) found.1).0).reach

spent_here : (lines : List ℕ) (bank units other : ℕ) → bank < length lines → other ≡ bank → get_or (set lines bank (get_or lines bank 0 - units)) other 0 ≡ get_or lines other 0 - units
spent_here lines bank units other within same =
    ap (λ b. get_or (set lines bank (get_or lines bank 0 - units)) b 0) same ∙ get_or-set_same lines bank (get_or lines bank 0 - units) 0 within
    ∙ ap (λ b. get_or lines b 0 - units) (sym same)

-- one line of a table spent
pub spend-set : (lines : List ℕ) (bank units : ℕ) → bank < length lines → (λ other. get_or (set lines bank (get_or lines bank 0 - units)) other 0) ≡ spend (λ other. get_or lines other 0) bank units
spend-set lines bank units within =
    fun_ext
    (λ other. elim (cases_Bool (eqb other bank)) [
      | inl is ↦ spent_here lines bank units other within (eqb-true other bank is) ∙ sym (cond-true (eqb other bank) (get_or lines other 0 - units) (get_or lines other 0) is)
      | inr is_not ↦ get_or-set_other lines bank other (get_or lines bank 0 - units) 0 (eqb-false other bank is_not)
          ∙ sym (cond-false (eqb other bank) (get_or lines other 0 - units) (get_or lines other 0) is_not)
    ])

-- a fill, and then a sweep from where it leads, are a sweep
pub plan-step : (weight : ℕ) (lines : List ℕ) (orders : List ActiveOrder) (t : Taker) (last : Option Resting) (best : Resting) (lots : ℕ) (more : List Fill) (left : ℕ) → 1 ≤ t.left → IsBest t.side (candidates weight lines t last orders) best → lots ≡ amount t best (get_or lines best.bank 0 / weight) → best.bank < length lines → Planned weight (λ bank. get_or (set lines best.bank (get_or lines best.bank 0 - lots * weight)) bank 0) (orders_in t.pair orders) (less t lots) (Some best) more left → Planned weight (λ bank. get_or lines bank 0) (orders_in t.pair orders) t last (fill_with t best lots ∷ more) left
plan-step weight lines orders t last best lots more left some is lots_are within planned = (
  best,
  some,
  subst (λ os. IsBest t.side os best) (candidates-open weight lines t last orders) is,
  ap (fill_with t best) lots_are,
  subst (λ (l : ℕ → ℕ). Planned weight l (orders_in t.pair orders) (less t lots) (Some best) more left)
      (spend-set lines best.bank (lots * weight) within) planned,
)

-- nothing more to take
pub plan-end : (weight : ℕ) (lines : List ℕ) (orders : List ActiveOrder) (t : Taker) (last : Option Resting) → candidates weight lines t last orders ≡ [] → Planned weight (λ bank. get_or lines bank 0) (orders_in t.pair orders) t last [] t.left
plan-end weight lines orders t last none = (refl, inr (sym (candidates-open weight lines t last orders) ∙ none))
