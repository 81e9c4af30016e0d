-- A cancel, a reduction and a pull keep a state sound.
use Rattle.std.proofs.Common.{ℕ, ◌≡◌, Bool, cond, List, [], ◌∷◌, Option, Some, None}
use Rattle.std.proofs.lemmas.Bool.{cond_both}
use Rattle.std.specs.Prelude.{nat_lt}
use Rattle.std.specs.List.{filter}
use Rattle.fx_amounts.specs.Quantity.{IsLots}
use Rattle.fx_rules.specs.declared.orders.ActiveOrder.{ActiveOrder}
use Rattle.fx_rules.specs.declared.orders.Resting.{Resting}
use Rattle.fx_rules.specs.declared.outcome.Outcome.{Outcome}
use Rattle.fx_rules.specs.declared.outcome.Outcome.TheVariants.{Reduced, NotLess}
use Rattle.fx_rules.specs.Lists.{Each, EachPair}
use Rattle.fx_rules.specs.Session.{Header}
use Rattle.fx_rules.specs.State.{State}
use Rattle.fx_rules.specs.Sweep.{is_order, with_left}
use Rattle.fx_rules.specs.Step.{reduced, reduce_answer}
use Rattle.fx_rules.specs.Sound.{IsSound, IsKept, Rises}
use Rattle.fx_rules.proofs.ListLemmas.{Each-filter, Each-weaker, EachPair-filter}

-- fewer orders
pub fewer-sound : (h : Header) (S : State) (stays : ActiveOrder → Bool) → IsSound h S → IsSound h (record S { orders = filter stays S.orders })
fewer-sound h S stays sound = record {
  counts = sound.counts;
  kept = Each-filter (IsKept h S.counts) stays S.orders sound.kept;
  rising = EachPair-filter Rises stays S.orders sound.rising;
  within = record { lines = sound.within.lines; totals = sound.within.totals };
  limits = sound.limits;
  totals = sound.totals;
  covered = sound.covered;
  version_least = sound.version_least;
  version_most = sound.version_most;
  plain = λ first. let plain = sound.plain first in record { totals = plain.totals; settlements = plain.settlements };
}

-- what is true of each order, whatever it has left, stays true of each
pub Each-reduced : (P : ActiveOrder → Type 0) (bank number left : ℕ) → ((a : ActiveOrder) → P a → P (with_left a left)) → (orders : List ActiveOrder) → Each P orders → Each P (reduced bank number left orders)
Each-reduced P bank number left keeps [] all = tt
Each-reduced P bank number left keeps (a ∷ orders) all = (
  cond_both (is_order bank number a.order) (with_left a left) a P (λ _. keeps a all.0) (λ _. all.0),
  Each-reduced P bank number left keeps orders all.1,
)

pub rising-reduced : (bank number left : ℕ) (orders : List ActiveOrder) → EachPair Rises orders → EachPair Rises (reduced bank number left orders)
rising-reduced bank number left [] rising = tt
rising-reduced bank number left (a ∷ orders) rising = (
  Each-reduced (Rises (cond (is_order bank number a.order) (with_left a left) a)) bank number left
      (λ b before. record { arrival = before.arrival; number = before.number }) orders
      (cond_both (is_order bank number a.order) (with_left a left) a (λ c. Each (Rises c) orders)
      (λ _. Each-weaker (Rises a) (Rises (with_left a left)) (λ b before. record { arrival = before.arrival; number = before.number }) orders rising.0)
      (λ _. rising.0)),
  rising-reduced bank number left orders rising.1,
)

-- what an order is reduced to is what was asked
pub reduced_to : (lots left : ℕ) (o : Option Resting) → Reduced left ≡ reduce_answer lots o → left ≡ lots
reduced_to lots left None is = cc
reduced_to lots left (Some order) is =
    cond_both (nat_lt lots order.left) (Reduced lots) (NotLess order.left) (λ (r : Outcome). Reduced left ≡ r → left ≡ lots)
    (λ _ same. cc) (λ _ same. cc) is

pub reduced-sound : (h : Header) (S : State) (bank number left : ℕ) → IsSound h S → IsLots left → IsSound h (record S { orders = reduced bank number left S.orders })
reduced-sound h S bank number left sound lots = record {
  counts = sound.counts;
  kept = Each-reduced (IsKept h S.counts) bank number left (λ a kept. record {
    pair = kept.pair;
    bank = kept.bank;
    number_least = kept.number_least;
    number_most = kept.number_most;
    price = kept.price;
    left = lots;
    arrival = kept.arrival;
  }) S.orders sound.kept;
  rising = rising-reduced bank number left S.orders sound.rising;
  within = record { lines = sound.within.lines; totals = sound.within.totals };
  limits = sound.limits;
  totals = sound.totals;
  covered = sound.covered;
  version_least = sound.version_least;
  version_most = sound.version_most;
  plain = λ first. let plain = sound.plain first in record { totals = plain.totals; settlements = plain.settlements };
}
