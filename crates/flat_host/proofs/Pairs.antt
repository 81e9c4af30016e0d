-- The orders of one pair, when orders are lowered.
use Rattle.std.proofs.Common.{ℕ, ◌≡◌, ◌-◌, ◌<◌, ltb, eqb, Bool, true, false, ◌&&◌, cond, List, [], ◌∷◌, inl, inr, refl, ap, sym, subst, ◌∙◌, map}
use Rattle.std.proofs.lemmas.Bool.{cases_Bool, cond-true, cond-false, and_parts, eqb-true, eq-eqb}
use Rattle.fx_rules.specs.declared.orders.ActiveOrder.{ActiveOrder}
use Rattle.fx_rules.specs.declared.orders.Resting.{Resting}
use Rattle.fx_rules.specs.declared.orders.Fill.{Fill}
use Rattle.fx_rules.specs.Lists.{Among, Each, EachPair}
use Rattle.fx_rules.specs.Session.{Header, bank_count, weight_of}
use Rattle.fx_rules.specs.State.{State, orders_in}
use Rattle.fx_rules.specs.Sweep.{Taker, Swept, is_order, lowered, with_left, less, filled, filled_all}
use Rattle.fx_rules.specs.Sound.{IsSound, Rises}
use Rattle.fx_rules.specs.inside.Orders.{in_pair}
use Rattle.fx_rules.proofs.Credit.{IsAllowed}
use Rattle.fx_rules.proofs.ListLemmas.{Each-among, Each-weaker, filter_filter, filter_agree_on}
use Rattle.fx_rules.proofs.Lowering.{Each-lowered}
use Rattle.fx_rules.proofs.Opens.{open-among, allowed-open}
use Rattle.fx_rules.proofs.SweepSound.{filled-sound}
use Rattle.fx_rules.proofs.RaiseSound.{IsTurn}
use Rattle.fx_rules.proofs.Staying.{in_pair-here, in_pair-there}
use Rattle.flat_host.specs.Parts.{both_lowered}
use Rattle.flat_host.proofs.Lowered.{lowered_here, lowered_later}

-- an order, where it is this command's, rests in this pair
abbrev pub OfPair : ℕ → ℕ → ℕ → ActiveOrder → Type 0
OfPair pair bank number a = is_order bank number a.order ≡ true → a.pair ≡ pair

idempotent : (a : Bool) → (a && a) ≡ a
idempotent true = refl
idempotent false = refl

pub orders_in-in_pair : (pair : ℕ) (orders : List ActiveOrder) → orders_in pair (in_pair pair orders) ≡ orders_in pair orders
orders_in-in_pair pair orders =
    let test : ActiveOrder → Bool = λ (a : ActiveOrder). eqb a.pair pair in
    ap (map (λ (a : ActiveOrder). a.order))
    (filter_filter test test orders ∙ filter_agree_on (λ a. test a && test a) test orders (λ a _. idempotent (test a)))

-- an order lowered or gone, in its pair
cut_here : (pair : ℕ) (a : ActiveOrder) (lots : ℕ) (rest : List ActiveOrder) → eqb a.pair pair ≡ true → in_pair pair (cond (ltb lots a.order.left) (with_left a (a.order.left - lots) ∷ rest) rest) ≡ cond (ltb lots a.order.left) (with_left a (a.order.left - lots) ∷ in_pair pair rest) (in_pair pair rest)
cut_here pair a lots rest is =
    elim (cases_Bool (ltb lots a.order.left)) [
      | inl more ↦ ap (in_pair pair) (cond-true (ltb lots a.order.left) (with_left a (a.order.left - lots) ∷ rest) rest more)
          ∙ in_pair-here pair (with_left a (a.order.left - lots)) rest is
          ∙ sym (cond-true (ltb lots a.order.left) (with_left a (a.order.left - lots) ∷ in_pair pair rest) (in_pair pair rest) more)
      | inr gone ↦ ap (in_pair pair) (cond-false (ltb lots a.order.left) (with_left a (a.order.left - lots) ∷ rest) rest gone)
          ∙ sym (cond-false (ltb lots a.order.left) (with_left a (a.order.left - lots) ∷ in_pair pair rest) (in_pair pair rest) gone)
    ]

-- an order of the pair is lowered among the orders of the pair
pub in_pair-lowered : (pair bank number lots : ℕ) (orders : List ActiveOrder) → Each (OfPair pair bank number) orders → in_pair pair (lowered bank number lots orders) ≡ lowered bank number lots (in_pair pair orders)
in_pair-lowered pair bank number lots [] all = refl
in_pair-lowered pair bank number lots (a ∷ rest) all =
    let later : in_pair pair (lowered bank number lots rest) ≡ lowered bank number lots (in_pair pair rest) = in_pair-lowered pair bank number lots rest all.1 in
    elim (cases_Bool (is_order bank number a.order)) [
      | inl is ↦
          let of_pair : eqb a.pair pair ≡ true = eq-eqb a.pair pair (all.0 is) in
          ap (in_pair pair) (lowered_here bank number lots a rest is) ∙ cut_here pair a lots rest of_pair
          ∙ sym (lowered_here bank number lots a (in_pair pair rest) is) ∙ ap (lowered bank number lots) (sym (in_pair-here pair a rest of_pair))
      | inr is_not ↦ elim (cases_Bool (eqb a.pair pair)) [
        | inl of_pair ↦
            ap (in_pair pair) (lowered_later bank number lots a rest is_not) ∙ in_pair-here pair a (lowered bank number lots rest) of_pair
            ∙ ap (λ (os : List ActiveOrder). a ∷ os) later
            ∙ sym (lowered_later bank number lots a (in_pair pair rest) is_not) ∙ ap (lowered bank number lots) (sym (in_pair-here pair a rest of_pair))
        | inr other ↦
            ap (in_pair pair) (lowered_later bank number lots a rest is_not) ∙ in_pair-there pair a (lowered bank number lots rest) other
            ∙ later ∙ ap (lowered bank number lots) (sym (in_pair-there pair a rest other))
      ]
    ]

same_command : (a b : ActiveOrder) → Rises a b → is_order a.order.bank a.order.number b.order ≡ true → ⊥
same_command a b rises is =
    let both = and_parts (eqb b.order.bank a.order.bank) (eqb b.order.number a.order.number) is in
    rises.number (sym (eqb-true b.order.bank a.order.bank both.0)) (sym (eqb-true b.order.number a.order.number both.1))

same_command' : (a b : ActiveOrder) → Rises a b → is_order b.order.bank b.order.number a.order ≡ true → ⊥
same_command' a b rises is =
    let both = and_parts (eqb a.order.bank b.order.bank) (eqb a.order.number b.order.number) is in
    rises.number (eqb-true a.order.bank b.order.bank both.0) (eqb-true a.order.number b.order.number both.1)

-- one order alone is of a command, so that it tells the pair
pub one_command : (orders : List ActiveOrder) (a : ActiveOrder) → EachPair Rises orders → Among a orders → Each (OfPair a.pair a.order.bank a.order.number) orders
one_command [] a rising among = absurd among
one_command (x ∷ orders) a rising (inl is) = (
  (λ _. ap (λ (b : ActiveOrder). b.pair) (sym is)),
  subst (λ (b : ActiveOrder). Each (OfPair b.pair b.order.bank b.order.number) orders) (sym is)
      (Each-weaker (Rises x) (OfPair x.pair x.order.bank x.order.number) (λ b rises same. absurd (same_command x b rises same)) orders rising.0),
)
one_command (x ∷ orders) a rising (inr later) = (
  (λ same. absurd (same_command' x a (Each-among (Rises x) orders a rising.0 later) same)),
  one_command orders a rising.1 later,
)

key_moved : (pair bank number bank' number' : ℕ) (orders : List ActiveOrder) → bank ≡ bank' → number ≡ number' → Each (OfPair pair bank number) orders → Each (OfPair pair bank' number') orders
key_moved pair bank number bank' number' orders b n all =
    subst (λ k. Each (OfPair pair bank' k) orders) n (subst (λ k. Each (OfPair pair k number) orders) b all)

-- a sweep lowers orders among those of its pair
pub swept-in_pair : (h : Header) (S : State) (t : Taker) (fills : List Fill) (left : ℕ) → IsSound h S → t.bank < bank_count h → 0 < weight_of h t.pair → Each (OfPair t.pair t.bank t.number) S.orders → Swept h S t fills left → in_pair t.pair (filled_all S fills).orders ≡ both_lowered (in_pair t.pair S.orders) fills
swept-in_pair h S t [] left sound bank some own swept = refl
swept-in_pair h S t (f ∷ fills) left sound bank some own swept =
    let best : Resting = swept.0 in
    let allowed : IsAllowed h S f = subst (IsAllowed h S) (sym swept.3) (allowed-open h S t best sound bank some swept.1 swept.2.there) in
    let maker = (open-among h S t best swept.2.there).1 in
    let a : ActiveOrder = maker.0 in
    let makers : Each (OfPair t.pair f.maker f.maker_number) S.orders =
    key_moved t.pair a.order.bank a.order.number f.maker f.maker_number S.orders
    (ap (λ (o : Resting). o.bank) (sym maker.3) ∙ ap (λ (g : Fill). g.maker) (sym swept.3))
    (ap (λ (o : Resting). o.number) (sym maker.3) ∙ ap (λ (g : Fill). g.maker_number) (sym swept.3))
    (subst (λ p. Each (OfPair p a.order.bank a.order.number) S.orders) maker.2 (one_command S.orders a sound.rising maker.1)) in
    let once : List ActiveOrder = lowered f.maker f.maker_number f.lots S.orders in
    let takers : Each (OfPair t.pair f.taker f.taker_number) once =
    key_moved t.pair t.bank t.number f.taker f.taker_number once
    (ap (λ (g : Fill). g.taker) (sym swept.3)) (ap (λ (g : Fill). g.taker_number) (sym swept.3))
    (Each-lowered (OfPair t.pair t.bank t.number) (λ b n is _ _. is) f.maker f.maker_number f.lots S.orders own) in
    let after : Each (OfPair t.pair t.bank t.number) (filled S f).orders =
    Each-lowered (OfPair t.pair t.bank t.number) (λ b n is _ _. is) f.taker f.taker_number f.lots once
    (Each-lowered (OfPair t.pair t.bank t.number) (λ b n is _ _. is) f.maker f.maker_number f.lots S.orders own) in
    let rest : in_pair t.pair (filled_all (filled S f) fills).orders ≡ both_lowered (in_pair t.pair (filled S f).orders) fills =
    swept-in_pair h (filled S f) (less t f.lots) fills left (filled-sound h S f sound allowed) bank some after swept.4 in
    let first : in_pair t.pair (filled S f).orders ≡ lowered f.taker f.taker_number f.lots (lowered f.maker f.maker_number f.lots (in_pair t.pair S.orders)) =
    in_pair-lowered t.pair f.taker f.taker_number f.lots once takers
    ∙ ap (lowered f.taker f.taker_number f.lots) (in_pair-lowered t.pair f.maker f.maker_number f.lots S.orders makers) in
    rest ∙ ap (λ (os : List ActiveOrder). both_lowered os fills) first

-- the order whose turn comes is the only one of its command
pub turn-only : (h : Header) (S : State) (pair bank number : ℕ) (now : Resting) → IsSound h S → IsTurn h S pair bank number now → Each (OfPair pair now.bank now.number) S.orders
turn-only h S pair bank number now sound turn =
    key_moved pair turn.active.order.bank turn.active.order.number now.bank now.number S.orders
    (ap (λ (o : Resting). o.bank) (sym turn.order)) (ap (λ (o : Resting). o.number) (sym turn.order))
    (subst (λ p. Each (OfPair p turn.active.order.bank turn.active.order.number) S.orders) turn.of_pair
    (one_command S.orders turn.active sound.rising turn.rests))
