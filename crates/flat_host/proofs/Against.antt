-- A sweep goes through the orders against its taker alone.
use Rattle.std.proofs.Common.{ℕ, ◌≡◌, ◌/◌, ◌*◌, ◌⊎◌, eqb, Bool, true, false, ◌&&◌, Result, Ok, Err, IfOk, List, [], ◌∷◌, map, slice_index, refl, ap, sym, subst, ◌∙◌, inl, inr, None}
use Rattle.std.specs.Prelude.{Option, Some}
use Rattle.std.specs.List.{filter}
use Rattle.std.proofs.lemmas.Bool.{and_parts, and_from}
use Rattle.fx_rules.specs.declared.orders.ActiveOrder.{ActiveOrder}
use Rattle.fx_rules.specs.declared.orders.Fill.{Fill}
use Rattle.fx_rules.specs.declared.orders.Level.{Level}
use Rattle.fx_amounts.specs.declared.memory.Memory.{Memory}
use Rattle.fx_rules.specs.declared.orders.Resting.{Resting}
use Rattle.fx_rules.specs.State.{orders_in}
use Rattle.fx_rules.specs.Sweep.{Taker, is_open, is_opposite, IsBest, less}
use Rattle.fx_rules.specs.Plan.{Planned, is_behind, open_behind, spend}
use Rattle.fx_rules.proofs.ListLemmas.{filter_filter, filter_agree_on}
use Rattle.fx_rules.proofs.Opens.{is_open-says}
use Rattle.flat_host.specs.Walks.{IsLevelled}
use Rattle.flat_host.specs.inside.Walks.{against_in}
use Rattle.flat_host.proofs.Searching.{chosen-both}

-- a test that follows from another adds nothing to it
implied : (a b : Bool) → (a ≡ true → b ≡ true) → (a && b) ≡ a
implied true b follows = follows refl
implied false b follows = refl

-- the same orders are open among them
open-against : (reaches : ℕ → ℕ) (t : Taker) (last : Option Resting) (orders : List ActiveOrder) → open_behind reaches t last (orders_in t.pair (against_in t.pair t.side orders)) ≡ open_behind reaches t last (orders_in t.pair orders)
open-against reaches t last orders =
    let here : ActiveOrder → Bool = λ (a : ActiveOrder). eqb a.pair t.pair in
    let opens : Resting → Bool = λ (o : Resting). is_open t (reaches o.bank) o && is_behind t.side last o in
    let both : ActiveOrder → Bool = λ (a : ActiveOrder). here a && opens a.order in
    let test : ActiveOrder → Bool = λ (a : ActiveOrder). here a && is_opposite t.side a.order.side in
    sym (chosen-both here opens (filter test orders))
    ∙ ap (map (λ (a : ActiveOrder). a.order))
    (filter_filter both test orders
    ∙ filter_agree_on (λ (a : ActiveOrder). both a && test a) both orders
    (λ a _. implied (both a) (test a) (λ is.
    let parts = and_parts (here a) (opens a.order) is in
    let opened = and_parts (is_open t (reaches a.order.bank) a.order) (is_behind t.side last a.order) parts.1 in
    and_from (here a) (is_opposite t.side a.order.side) parts.0 (is_open-says t (reaches a.order.bank) a.order opened.0).opposite)))
    ∙ chosen-both here opens orders

-- so a plan over them is one over all
planned-against : (weight : ℕ) (orders : List ActiveOrder) (lines : ℕ → ℕ) (t : Taker) (last : Option Resting) (fills : List Fill) (left : ℕ) → Planned weight lines (orders_in t.pair (against_in t.pair t.side orders)) t last fills left → Planned weight lines (orders_in t.pair orders) t last fills left
planned-against weight orders lines t last [] left planned = (planned.0, at_end planned.1)
  where
    at_end : (t.left ≡ 0) ⊎ (open_behind (λ bank. lines bank / weight) t last (orders_in t.pair (against_in t.pair t.side orders)) ≡ []) → (t.left ≡ 0) ⊎ (open_behind (λ bank. lines bank / weight) t last (orders_in t.pair orders) ≡ [])
    at_end (inl none) = inl none
    at_end (inr nothing) = inr (sym (open-against (λ bank. lines bank / weight) t last orders) ∙ nothing)
planned-against weight orders lines t last (f ∷ fills) left planned = (
  planned.0,
  planned.1,
  subst (λ (os : List Resting). IsBest t.side os planned.0) (open-against (λ bank. lines bank / weight) t last orders) planned.2,
  planned.3,
  planned-against weight orders (spend lines planned.0.bank (f.lots * weight)) (less t f.lots) (Some planned.0) fills left planned.4,
)

pub levelled-against : (weight : ℕ) (lines : List ℕ) (orders against : List ActiveOrder) (t : Taker) (r : Result (List Level) Memory) → against ≡ against_in t.pair t.side orders → IfOk r (IsLevelled weight lines against t) → IfOk r (IsLevelled weight lines orders t)
levelled-against weight lines orders against t (Ok levels) against_is is =
    let so : IsLevelled weight lines (against_in t.pair t.side orders) t levels = subst (λ (os : List ActiveOrder). IsLevelled weight lines os t levels) against_is is in
    (so.0, so.1, planned-against weight orders (slice_index lines) t None so.0 so.1 so.2, so.3)
levelled-against weight lines orders against t (Err e) against_is is = tt
