-- A sweep keeps a state sound.
use Rattle.std.proofs.Common.{ℕ, zero, suc, ◌≡◌, ◌≤◌, ◌<◌, List, [], ◌∷◌, ◌++◌, refl, sym, subst, arith, map, length, get_or}
use Rattle.std.proofs.lemmas.List.Elements.{recursion_from_All}
use Rattle.fx_rules.specs.declared.orders.ActiveOrder.{ActiveOrder}
use Rattle.fx_rules.specs.declared.orders.Resting.{Resting}
use Rattle.fx_rules.specs.declared.orders.Fill.{Fill}
use Rattle.fx_rules.specs.declared.session.PairRule.{PairRule}
use Rattle.fx_rules.specs.Lists.{Each}
use Rattle.fx_rules.specs.Session.{Header, IsSession, IsPairRule, bank_count, pair_count, weight_of}
use Rattle.fx_rules.specs.State.{State, reach}
use Rattle.fx_rules.specs.Sweep.{Taker, Swept, filled, filled_all, less, lowered, with_left, fill_with, amount}
use Rattle.fx_rules.specs.Sound.{IsSound, IsKept}
use Rattle.fx_rules.proofs.Lowering.{Each-lowered, rising-lowered}
use Rattle.fx_rules.proofs.Credit.{IsAllowed, Within-filled, covered-filled}
use Rattle.fx_rules.proofs.Opens.{allowed-open}

kept_less : (h : Header) (counts : List ℕ) (a : ActiveOrder) (left : ℕ) → IsKept h counts a → 1 ≤ left → left ≤ a.order.left → IsKept h counts (with_left a left)
kept_less h counts a left kept least most = record {
  pair = kept.pair;
  bank = kept.bank;
  number_least = kept.number_least;
  number_most = kept.number_most;
  price = kept.price;
  left = (least, omega (arith, kept.left.1));
  arrival = kept.arrival;
}

pub filled-sound : (h : Header) (S : State) (f : Fill) → IsSound h S → IsAllowed h S f → IsSound h (filled S f)
filled-sound h S f sound allowed = record {
  counts = sound.counts;
  kept = Each-lowered (IsKept h S.counts) (kept_less h S.counts) f.taker f.taker_number f.lots (lowered f.maker f.maker_number f.lots S.orders)
      (Each-lowered (IsKept h S.counts) (kept_less h S.counts) f.maker f.maker_number f.lots S.orders sound.kept);
  rising = rising-lowered f.taker f.taker_number f.lots (lowered f.maker f.maker_number f.lots S.orders)
      (rising-lowered f.maker f.maker_number f.lots S.orders sound.rising);
  within = Within-filled h S f sound.covered sound.within allowed;
  limits = sound.limits;
  totals = sound.totals;
  covered = covered-filled h S f sound.covered;
  version_least = sound.version_least;
  version_most = sound.version_most;
  plain = λ first. let plain = sound.plain first in record { totals = plain.totals; settlements = plain.settlements };
}

-- a sweep keeps a state sound, and takes no more than the taker has
pub swept-sound : (h : Header) (S : State) (t : Taker) (fills : List Fill) (left : ℕ) → IsSound h S → t.bank < bank_count h → 0 < weight_of h t.pair → Swept h S t fills left → IsSound h (filled_all S fills) × (left ≤ t.left)
swept-sound h S t [] left sound bank some swept = (sound, omega (arith, swept.0))
swept-sound h S t (f ∷ fills) left sound bank some swept =
    let best : Resting = swept.0 in
    let allowed : IsAllowed h S (fill_with t best (amount t best (reach h S t.bank best.bank t.pair))) =
    allowed-open h S t best sound bank some swept.1 swept.2.there in
    let next = swept-sound h (filled S f) (less t f.lots) fills left
    (filled-sound h S f sound (subst (IsAllowed h S) (sym swept.3) allowed)) bank some swept.4 in
    (next.0, omega (arith, next.1))

pub counts-filled_all : (S : State) (fills : List Fill) → (filled_all S fills).counts ≡ S.counts
counts-filled_all S [] = refl
counts-filled_all S (f ∷ fills) = counts-filled_all (filled S f) fills

pub filled_all-append : (S : State) (xs ys : List Fill) → filled_all S (xs ++ ys) ≡ filled_all (filled_all S xs) ys
filled_all-append S [] ys = refl
filled_all-append S (f ∷ xs) ys = filled_all-append (filled S f) xs ys

-- each pair's weight is above 0
pub weight-least : (rules : List PairRule) (pair : ℕ) → Each IsPairRule rules → pair < length rules → 0 < get_or (map (λ (rule : PairRule). rule.weight) rules) pair 0
weight-least [] pair all within = absurd (omega arith)
weight-least (rule ∷ rules) zero all within = omega (arith, all.0.weight_least)
weight-least (rule ∷ rules) (suc pair) all within = weight-least rules pair all.1 (omega arith)

pub weight_of-least : (h : Header) (pair : ℕ) → IsSession h → pair < pair_count h → 0 < weight_of h pair
weight_of-least h pair session within = weight-least h.pairs pair (recursion_from_All IsPairRule h.pairs session.rules) within
