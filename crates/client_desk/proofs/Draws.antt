-- The fills of a sweep and of a credit change draw on orders that rest.
use Rattle.std.proofs.Common.{ℕ, zero, suc, ◌≡◌, ◌≢◌, ◌+◌, ◌-◌, ◌≤◌, ◌<◌, min, true, false, ltb, cond, List, [], ◌∷◌, ◌++◌, ◌⊎◌, inl, inr, refl, ap, sym, subst, ◌∙◌, arith, get_or, length, take, append-nil}
use Rattle.std.proofs.lemmas.Bool.{cases_Bool, cond_both, both_ways, ltb-true, ltb-false, cond-true, cond-false, lt-ltb, le-ltb, false_from_ne_true}
use Rattle.fx_rules.specs.declared.orders.ActiveOrder.{ActiveOrder}
use Rattle.fx_rules.specs.declared.orders.Resting.{Resting}
use Rattle.fx_rules.specs.declared.orders.Fill.{Fill}
use Rattle.fx_rules.specs.declared.command.Command.{Command}
use Rattle.fx_rules.specs.declared.command.Command.TheVariants.{Order, Cancel, Reduce, Pull, Line, Total, Settle, Show, Book, Bad}
use Rattle.fx_amounts.specs.declared.side.Side.{Side}
use Rattle.fx_rules.specs.declared.command.Life.{Life}
use Rattle.fx_rules.specs.declared.command.Life.TheVariants.{Day, Ioc, Fok}
use Rattle.fx_rules.specs.declared.outcome.Outcome.{Outcome}
use Rattle.fx_rules.specs.declared.outcome.Outcome.TheVariants.{Ordered, Killed, LineSet, TotalSet, Settled, Depth}
use Rattle.fx_rules.specs.Lists.{Among, Each, EachPair}
use Rattle.fx_rules.specs.Session.{Header, IsSession, bank_count, pair_count, weight_of}
use Rattle.fx_rules.specs.State.{State, reach, orders_in, count_of}
use Rattle.fx_rules.specs.Sweep.{Taker, Swept, is_order, lowered, with_left, amount, fill_with, less, filled, filled_all, at_rest, taker_of}
use Rattle.fx_rules.specs.Raise.{limited, totalled, settled, order_of, taker_of_resting, Turned, PairsTurned}
use Rattle.fx_rules.specs.Step.{IsCommand, IsOrdered, IsOutcome, fills_of}
use Rattle.fx_rules.specs.Sound.{IsSound, IsKept, Rises}
use Rattle.fx_rules.proofs.ListLemmas.{Each-among, Each-weaker}
use Rattle.fx_rules.proofs.Credit.{IsAllowed}
use Rattle.fx_rules.proofs.Opens.{IsMaker, maker_of, allowed-open}
use Rattle.fx_rules.proofs.Lowering.{is_order-says, is_order-from, Each-lowered}
use Rattle.fx_rules.proofs.SweepSound.{filled-sound, weight_of-least}
use Rattle.fx_rules.proofs.RaiseSound.{turns-walk, turned-sound, limited-sound, totalled-sound, settled-sound, turn-sender}
use Rattle.fx_rules.proofs.Falling.{cancel_fills, reduce_fills}
use Rattle.client_desk.specs.Draws.{Offers, drawn, drawn_all, IsDrawn, AreDrawn, coming_in, FillsAreDrawn}

-- ---- offers, head by head

abbrev pub NoneIs : ℕ → ℕ → List ActiveOrder → Type 0
NoneIs bank number orders = Each (λ (a : ActiveOrder). is_order bank number a.order ≡ false) orders

offers-here : (a : ActiveOrder) (orders : List ActiveOrder) (pair bank number lots : ℕ) → is_order bank number a.order ≡ true → a.pair ≡ pair → lots ≤ a.order.left → Offers (a ∷ orders) pair bank number lots
offers-here a orders pair bank number lots is of_pair most = ((λ _. (of_pair, most)), λ is_not. absurd (both_ways (is_order bank number a.order) is_not is))

offers-later : (a : ActiveOrder) (orders : List ActiveOrder) (pair bank number lots : ℕ) → is_order bank number a.order ≡ false → Offers orders pair bank number lots → Offers (a ∷ orders) pair bank number lots
offers-later a orders pair bank number lots is_not offers = ((λ is. absurd (both_ways (is_order bank number a.order) is_not is)), λ _. offers)

pub offers-cases : (a : ActiveOrder) (orders : List ActiveOrder) (pair bank number lots : ℕ) → Offers (a ∷ orders) pair bank number lots → ((is_order bank number a.order ≡ true) × (a.pair ≡ pair) × (lots ≤ a.order.left)) ⊎ ((is_order bank number a.order ≡ false) × Offers orders pair bank number lots)
offers-cases a orders pair bank number lots offers =
    elim (cases_Bool (is_order bank number a.order)) [
      | inl is ↦ inl (is, (offers.0 is).0, (offers.0 is).1)
      | inr is_not ↦ inr (is_not, offers.1 is_not)
    ]

pub lowered-here : (bank number lots : ℕ) (a : ActiveOrder) (orders : List ActiveOrder) → is_order bank number a.order ≡ true → lowered bank number lots (a ∷ orders) ≡ cond (ltb lots a.order.left) (with_left a (a.order.left - lots) ∷ orders) orders
lowered-here bank number lots a orders is = rw is

pub lowered-later : (bank number lots : ℕ) (a : ActiveOrder) (orders : List ActiveOrder) → is_order bank number a.order ≡ false → lowered bank number lots (a ∷ orders) ≡ a ∷ lowered bank number lots orders
lowered-later bank number lots a orders is = rw is

-- an order that rests is offered, where orders have numbers of their own
pub offers-among : (orders : List ActiveOrder) (a : ActiveOrder) (pair bank number lots : ℕ) → EachPair Rises orders → Among a orders → a.pair ≡ pair → is_order bank number a.order ≡ true → lots ≤ a.order.left → Offers orders pair bank number lots
offers-among [] a pair bank number lots rising there of_pair is most = absurd there
offers-among (b ∷ orders) a pair bank number lots rising (inl same) of_pair is most =
    subst (λ (c : ActiveOrder). Offers (c ∷ orders) pair bank number lots) same (offers-here a orders pair bank number lots is of_pair most)
offers-among (b ∷ orders) a pair bank number lots rising (inr there) of_pair is most =
    elim (cases_Bool (is_order bank number b.order)) [
      | inl also ↦
          let one = is_order-says bank number b.order also in
          let other = is_order-says bank number a.order is in
          let before : Rises b a = Each-among (Rises b) orders a rising.0 there in
          absurd (before.number (one.0 ∙ sym other.0) (one.1 ∙ sym other.1))
      | inr not' ↦ offers-later b orders pair bank number lots not' (offers-among orders a pair bank number lots rising.1 there of_pair is most)
    ]

-- for less too
offers-less : (orders : List ActiveOrder) (pair bank number lots fewer : ℕ) → fewer ≤ lots → Offers orders pair bank number lots → Offers orders pair bank number fewer
offers-less [] pair bank number lots fewer le offers = offers
offers-less (a ∷ orders) pair bank number lots fewer le offers =
    elim (offers-cases a orders pair bank number lots offers) [
      | inl here ↦ offers-here a orders pair bank number fewer here.0 here.1 (omega (arith, here.2))
      | inr later ↦ offers-later a orders pair bank number fewer later.0 (offers-less orders pair bank number lots fewer le later.1)
    ]

-- and with others behind
offers-append : (orders more : List ActiveOrder) (pair bank number lots : ℕ) → Offers orders pair bank number lots → Offers (orders ++ more) pair bank number lots
offers-append [] more pair bank number lots offers = absurd offers
offers-append (a ∷ orders) more pair bank number lots offers =
    elim (offers-cases a orders pair bank number lots offers) [
      | inl here ↦ offers-here a (orders ++ more) pair bank number lots here.0 here.1 here.2
      | inr later ↦ offers-later a (orders ++ more) pair bank number lots later.0 (offers-append orders more pair bank number lots later.1)
    ]

-- the last of some orders, where none before it is of its bank and number
offers-last : (orders : List ActiveOrder) (a : ActiveOrder) (pair bank number lots : ℕ) → NoneIs bank number orders → is_order bank number a.order ≡ true → a.pair ≡ pair → lots ≤ a.order.left → Offers (orders ++ a ∷ []) pair bank number lots
offers-last [] a pair bank number lots none is of_pair most = offers-here a [] pair bank number lots is of_pair most
offers-last (b ∷ orders) a pair bank number lots none is of_pair most =
    offers-later b (orders ++ a ∷ []) pair bank number lots none.0 (offers-last orders a pair bank number lots none.1 is of_pair most)

-- another bank's order lowered leaves it
offers-other : (orders : List ActiveOrder) (pair bank number lots other which taken : ℕ) → other ≢ bank → Offers orders pair bank number lots → Offers (lowered other which taken orders) pair bank number lots
offers-other [] pair bank number lots other which taken differ offers = absurd offers
offers-other (a ∷ orders) pair bank number lots other which taken differ offers =
    elim (cases_Bool (is_order other which a.order)) [
      | inl is ↦
          let says = is_order-says other which a.order is in
          let later : Offers orders pair bank number lots =
          elim (offers-cases a orders pair bank number lots offers) [
            | inl here ↦ absurd (differ (sym says.0 ∙ (is_order-says bank number a.order here.0).0))
            | inr later ↦ later.1
          ] in
          let apart : is_order bank number a.order ≡ false =
          elim (offers-cases a orders pair bank number lots offers) [
            | inl here ↦ absurd (differ (sym says.0 ∙ (is_order-says bank number a.order here.0).0))
            | inr later ↦ later.0
          ] in
          subst (λ (os : List ActiveOrder). Offers os pair bank number lots) (sym (lowered-here other which taken a orders is))
          (cond_both (ltb taken a.order.left) (with_left a (a.order.left - taken) ∷ orders) orders (λ (os : List ActiveOrder). Offers os pair bank number lots)
          (λ _. offers-later (with_left a (a.order.left - taken)) orders pair bank number lots apart later)
          (λ _. later))
      | inr is_not ↦ subst (λ (os : List ActiveOrder). Offers os pair bank number lots) (sym (lowered-later other which taken a orders is_not))
          (elim (offers-cases a orders pair bank number lots offers) [
            | inl here ↦ offers-here a (lowered other which taken orders) pair bank number lots here.0 here.1 here.2
            | inr later ↦ offers-later a (lowered other which taken orders) pair bank number lots later.0 (offers-other orders pair bank number lots other which taken differ later.1)
          ])
    ]

-- lowered itself, it has that much less
offers-lowered : (orders : List ActiveOrder) (pair bank number lots taken : ℕ) → taken < lots → Offers orders pair bank number lots → Offers (lowered bank number taken orders) pair bank number (lots - taken)
offers-lowered [] pair bank number lots taken some offers = absurd offers
offers-lowered (a ∷ orders) pair bank number lots taken some offers =
    elim (offers-cases a orders pair bank number lots offers) [
      | inl here ↦
          let more : ltb taken a.order.left ≡ true = lt-ltb taken a.order.left (omega (arith, here.2)) in
          subst (λ (os : List ActiveOrder). Offers os pair bank number (lots - taken))
          (sym (lowered-here bank number taken a orders here.0 ∙ cond-true (ltb taken a.order.left) (with_left a (a.order.left - taken) ∷ orders) orders more))
          (offers-here (with_left a (a.order.left - taken)) orders pair bank number (lots - taken) here.0 here.1 (omega (arith, here.2)))
      | inr later ↦ subst (λ (os : List ActiveOrder). Offers os pair bank number (lots - taken)) (sym (lowered-later bank number taken a orders later.0))
          (offers-later a (lowered bank number taken orders) pair bank number (lots - taken) later.0 (offers-lowered orders pair bank number lots taken some later.1))
    ]

-- ---- drawing

pub drawn-append : (orders : List ActiveOrder) (xs ys : List Fill) → AreDrawn orders xs → AreDrawn (drawn_all orders xs) ys → AreDrawn orders (xs ++ ys)
drawn-append orders [] ys first later = later
drawn-append orders (f ∷ xs) ys first later = (first.0, drawn-append (drawn orders f) xs ys first.1 later)

pub filled_all-drawn : (S : State) (fills : List Fill) → (filled_all S fills).orders ≡ drawn_all S.orders fills
filled_all-drawn S [] = refl
filled_all-drawn S (f ∷ fills) = filled_all-drawn (filled S f) fills

-- what is known of a sweep's first fill
record IsFirst (h : Header) (S : State) (t : Taker) (f : Fill) : Type 0 where
  pair : f.pair ≡ t.pair
  taker : f.taker ≡ t.bank
  number : f.taker_number ≡ t.number
  differ : f.maker ≢ t.bank
  least : 1 ≤ f.lots
  most : f.lots ≤ t.left
  maker : Offers S.orders f.pair f.maker f.maker_number f.lots
  allowed : IsAllowed h S f

amount_first : (a b r : ℕ) → min a (min b r) ≤ a
amount_first a b r = omega arith

amount_second : (a b r : ℕ) → min a (min b r) ≤ b
amount_second a b r = omega arith

first_of : (h : Header) (S : State) (t : Taker) (f : Fill) (fills : List Fill) (left : ℕ) → IsSound h S → t.bank < bank_count h → 0 < weight_of h t.pair → Swept h S t (f ∷ fills) left → IsFirst h S t f
first_of h S t f fills left sound bank some swept =
    let best : Resting = swept.0 in
    let r : ℕ = reach h S t.bank best.bank t.pair in
    let m : IsMaker h S t best = maker_of h S t best sound swept.2.there in
    let is : f ≡ fill_with t best (amount t best r) = swept.3 in
    let allowed : IsAllowed h S f = subst (IsAllowed h S) (sym is) (allowed-open h S t best sound bank some swept.1 swept.2.there) in
    let lots : f.lots ≡ amount t best r = ap (λ (g : Fill). g.lots) is in
    let maker : f.maker ≡ best.bank = ap (λ (g : Fill). g.maker) is in
    let number : f.maker_number ≡ best.number = ap (λ (g : Fill). g.maker_number) is in
    let order : best ≡ m.active.order = m.order in
    let left_is : best.left ≡ m.active.order.left = ap (λ (o : Resting). o.left) order in
    record {
      pair = ap (λ (g : Fill). g.pair) is;
      taker = ap (λ (g : Fill). g.taker) is;
      number = ap (λ (g : Fill). g.taker_number) is;
      differ = λ same. m.is_open.other (sym maker ∙ same);
      least = allowed.least;
      most = subst (λ n. n ≤ t.left) (sym lots) (amount_first t.left best.left r);
      maker = offers-among S.orders m.active f.pair f.maker f.maker_number f.lots sound.rising m.among (m.pair ∙ sym (ap (λ (g : Fill). g.pair) is))
          (is_order-from f.maker f.maker_number m.active.order (sym (maker ∙ ap (λ (o : Resting). o.bank) order)) (sym (number ∙ ap (λ (o : Resting). o.number) order)))
          (subst (λ n. f.lots ≤ n) left_is (subst (λ n. n ≤ best.left) (sym lots) (amount_second t.left best.left r)));
      allowed = allowed;
    }

-- the fills of a taker that rests itself
pub turn-drawn : (h : Header) (S : State) (t : Taker) (fills : List Fill) (left : ℕ) → IsSound h S → t.bank < bank_count h → 0 < weight_of h t.pair → (1 ≤ t.left → Offers S.orders t.pair t.bank t.number t.left) → Swept h S t fills left → AreDrawn S.orders fills
turn-drawn h S t [] left sound bank some rests swept = tt
turn-drawn h S t (f ∷ fills) left sound bank some rests swept =
    let first : IsFirst h S t f = first_of h S t f fills left sound bank some swept in
    let once : List ActiveOrder = lowered f.maker f.maker_number f.lots S.orders in
    let whole : Offers once t.pair t.bank t.number t.left = offers-other S.orders t.pair t.bank t.number t.left f.maker f.maker_number f.lots first.differ (rests swept.1) in
    let mine : Offers once f.pair f.taker f.taker_number t.left =
    subst (λ p. Offers once p f.taker f.taker_number t.left) (sym first.pair)
    (subst (λ b. Offers once t.pair b f.taker_number t.left) (sym first.taker)
    (subst (λ n. Offers once t.pair t.bank n t.left) (sym first.number) whole)) in
    let next : 1 ≤ t.left - f.lots → Offers (filled S f).orders t.pair t.bank t.number (t.left - f.lots) = λ more.
    let lower : Offers (drawn S.orders f) f.pair f.taker f.taker_number (t.left - f.lots) =
    offers-lowered once f.pair f.taker f.taker_number t.left f.lots (omega arith) mine in
    subst (λ p. Offers (drawn S.orders f) p t.bank t.number (t.left - f.lots)) first.pair
    (subst (λ b. Offers (drawn S.orders f) f.pair b t.number (t.left - f.lots)) first.taker
    (subst (λ n. Offers (drawn S.orders f) f.pair f.taker n (t.left - f.lots)) first.number lower)) in (
      record { maker = first.maker; taker = offers-less once f.pair f.taker f.taker_number t.left f.lots first.most mine },
      turn-drawn h (filled S f) (less t f.lots) fills left (filled-sound h S f sound first.allowed) bank some next swept.4,
    )

-- ---- an order that comes in

-- what a taker has left rests behind the others, where anything is left
abbrev pub tail : Taker → ℕ → List ActiveOrder
tail t left = cond (ltb 0 left) (at_rest t left ∷ []) []

pub tail-some : (t : Taker) (left : ℕ) → 1 ≤ left → tail t left ≡ at_rest t left ∷ []
tail-some t left some = cond-true (ltb 0 left) (at_rest t left ∷ []) [] (lt-ltb 0 left (omega arith))

pub none-lowered : (bank number other which lots : ℕ) (orders : List ActiveOrder) → NoneIs bank number orders → NoneIs bank number (lowered other which lots orders)
none-lowered bank number other which lots orders none =
    Each-lowered (λ (a : ActiveOrder). is_order bank number a.order ≡ false) (λ a left is _ _. is) other which lots orders none

pub lowered-none : (bank number lots : ℕ) (orders more : List ActiveOrder) → NoneIs bank number orders → lowered bank number lots (orders ++ more) ≡ orders ++ lowered bank number lots more
lowered-none bank number lots [] more none = refl
lowered-none bank number lots (a ∷ orders) more none =
    lowered-later bank number lots a (orders ++ more) none.0 ∙ ap (λ (os : List ActiveOrder). a ∷ os) (lowered-none bank number lots orders more none.1)

pub none-filled : (bank number : ℕ) (fills : List Fill) (S : State) → NoneIs bank number S.orders → NoneIs bank number (filled_all S fills).orders
none-filled bank number [] S none = none
none-filled bank number (f ∷ fills) S none =
    none-filled bank number fills (filled S f)
    (none-lowered bank number f.taker f.taker_number f.lots (lowered f.maker f.maker_number f.lots S.orders) (none-lowered bank number f.maker f.maker_number f.lots S.orders none))

lowered-self : (bank number lots : ℕ) (orders : List ActiveOrder) → NoneIs bank number orders → lowered bank number lots orders ≡ orders
lowered-self bank number lots [] none = refl
lowered-self bank number lots (a ∷ orders) none =
    lowered-later bank number lots a orders none.0 ∙ ap (λ (os : List ActiveOrder). a ∷ os) (lowered-self bank number lots orders none.1)

-- an order that is offered is lowered alike with others behind
lowered-append : (pair bank number lots least : ℕ) (orders more : List ActiveOrder) → Offers orders pair bank number least → lowered bank number lots (orders ++ more) ≡ lowered bank number lots orders ++ more
lowered-append pair bank number lots least [] more offers = absurd offers
lowered-append pair bank number lots least (a ∷ orders) more offers =
    elim (offers-cases a orders pair bank number least offers) [
      | inl here ↦ lowered-here bank number lots a (orders ++ more) here.0
          ∙ cond_both (ltb lots a.order.left) (with_left a (a.order.left - lots) ∷ orders) orders
          (λ (os : List ActiveOrder). cond (ltb lots a.order.left) (with_left a (a.order.left - lots) ∷ (orders ++ more)) (orders ++ more) ≡ os ++ more)
          (λ yes'. cond-true (ltb lots a.order.left) (with_left a (a.order.left - lots) ∷ (orders ++ more)) (orders ++ more) yes')
          (λ no'. cond-false (ltb lots a.order.left) (with_left a (a.order.left - lots) ∷ (orders ++ more)) (orders ++ more) no')
          ∙ ap (λ (os : List ActiveOrder). os ++ more) (sym (lowered-here bank number lots a orders here.0))
      | inr later ↦ lowered-later bank number lots a (orders ++ more) later.0
          ∙ ap (λ (os : List ActiveOrder). a ∷ os) (lowered-append pair bank number lots least orders more later.1)
          ∙ ap (λ (os : List ActiveOrder). os ++ more) (sym (lowered-later bank number lots a orders later.0))
    ]

own_order : (t : Taker) (left : ℕ) → is_order t.bank t.number (at_rest t left).order ≡ true
own_order t left = is_order-from t.bank t.number (at_rest t left).order refl refl

-- the taker's order lowered
tail-lowered : (t : Taker) (left lots : ℕ) → 1 ≤ left → lots ≤ left → lowered t.bank t.number lots (tail t left) ≡ tail t (left - lots)
tail-lowered t left lots some most =
    ap (lowered t.bank t.number lots) (tail-some t left some) ∙ lowered-here t.bank t.number lots (at_rest t left) [] (own_order t left)
    ∙ cond_both (ltb lots left) (at_rest t (left - lots) ∷ []) [] (λ (os : List ActiveOrder). os ≡ tail t (left - lots))
    (λ more. let lt : lots < left = ltb-true lots left more in sym (tail-some t (left - lots) (omega arith)))
    (λ none. let le : left ≤ lots = ltb-false lots left none in
    sym (cond-false (ltb 0 (left - lots)) (at_rest t (left - lots) ∷ []) [] (le-ltb 0 (left - lots) (omega arith))))

pub record IsDrawnTo (S : State) (t : Taker) (fills : List Fill) (left : ℕ) : Type 0 where
  pub drawn_on : AreDrawn (S.orders ++ tail t t.left) fills
  pub leaves : drawn_all (S.orders ++ tail t t.left) fills ≡ (filled_all S fills).orders ++ tail t left

pub order-drawn : (h : Header) (S : State) (t : Taker) (fills : List Fill) (left : ℕ) → IsSound h S → t.bank < bank_count h → 0 < weight_of h t.pair → NoneIs t.bank t.number S.orders → Swept h S t fills left → IsDrawnTo S t fills left
order-drawn h S t [] left sound bank some none swept = record { drawn_on = tt; leaves = ap (λ n. S.orders ++ tail t n) (sym swept.0) }
order-drawn h S t (f ∷ fills) left sound bank some none swept =
    let first : IsFirst h S t f = first_of h S t f fills left sound bank some swept in
    let once : List ActiveOrder = lowered f.maker f.maker_number f.lots S.orders in
    let none' : NoneIs t.bank t.number once = none-lowered t.bank t.number f.maker f.maker_number f.lots S.orders none in
    let makers : lowered f.maker f.maker_number f.lots (S.orders ++ tail t t.left) ≡ once ++ tail t t.left =
    lowered-append f.pair f.maker f.maker_number f.lots f.lots S.orders (tail t t.left) first.maker in
    let mine : Offers (once ++ tail t t.left) t.pair t.bank t.number f.lots =
    subst (λ (os : List ActiveOrder). Offers (once ++ os) t.pair t.bank t.number f.lots) (sym (tail-some t t.left swept.1))
    (offers-last once (at_rest t t.left) t.pair t.bank t.number f.lots none' (own_order t t.left) refl first.most) in
    let named : Offers (once ++ tail t t.left) f.pair f.taker f.taker_number f.lots =
    subst (λ p. Offers (once ++ tail t t.left) p f.taker f.taker_number f.lots) (sym first.pair)
    (subst (λ b. Offers (once ++ tail t t.left) t.pair b f.taker_number f.lots) (sym first.taker)
    (subst (λ n. Offers (once ++ tail t t.left) t.pair t.bank n f.lots) (sym first.number) mine)) in
    let takers : (orders : List ActiveOrder) → lowered f.taker f.taker_number f.lots orders ≡ lowered t.bank t.number f.lots orders = λ (orders : List ActiveOrder).
    ap (λ b. lowered b f.taker_number f.lots orders) first.taker ∙ ap (λ n. lowered t.bank n f.lots orders) first.number in
    let market : (filled S f).orders ≡ once = takers once ∙ lowered-self t.bank t.number f.lots once none' in
    let both : drawn (S.orders ++ tail t t.left) f ≡ (filled S f).orders ++ tail t (t.left - f.lots) =
    ap (lowered f.taker f.taker_number f.lots) makers ∙ takers (once ++ tail t t.left)
    ∙ lowered-none t.bank t.number f.lots once (tail t t.left) none'
    ∙ ap (λ (os : List ActiveOrder). once ++ os) (tail-lowered t t.left f.lots swept.1 first.most)
    ∙ ap (λ (os : List ActiveOrder). os ++ tail t (t.left - f.lots)) (sym market) in
    let rest : IsDrawnTo (filled S f) (less t f.lots) fills left =
    order-drawn h (filled S f) (less t f.lots) fills left (filled-sound h S f sound first.allowed) bank some
    (subst (NoneIs t.bank t.number) (sym market) none') swept.4 in
    record {
      drawn_on = (
        record {
          maker = offers-append S.orders (tail t t.left) f.pair f.maker f.maker_number f.lots first.maker;
          taker = subst (λ (os : List ActiveOrder). Offers os f.pair f.taker f.taker_number f.lots) (sym makers) named;
        },
        subst (λ (os : List ActiveOrder). AreDrawn os fills) (sym both) rest.drawn_on,
      );
      leaves = ap (λ (os : List ActiveOrder). drawn_all os fills) both ∙ rest.leaves;
    }

-- ---- a credit change

turned-drawn : (h : Header) (pair : ℕ) (S : State) (orders : List Resting) (fills : List Fill) → 0 < weight_of h pair → IsSound h S → Turned h pair S orders fills → AreDrawn S.orders fills
turned-drawn h pair =
    turns-walk h pair (λ S fills. AreDrawn S.orders fills) (λ S sound. tt)
    (λ S own more first later. drawn-append S.orders own more first (subst (λ (os : List ActiveOrder). AreDrawn os more) (filled_all-drawn S own) later))
    (λ S bank number now fills left sound turn some swept.
    turn-drawn h S (taker_of_resting pair now) fills left sound (turn-sender h S pair bank number now turn) some
    (λ _. offers-among S.orders turn.active pair now.bank now.number now.left sound.rising turn.rests turn.of_pair
    (is_order-from now.bank now.number turn.active.order (sym (ap (λ (o : Resting). o.bank) turn.order)) (sym (ap (λ (o : Resting). o.number) turn.order)))
    (let same : now.left ≡ turn.active.order.left = ap (λ (o : Resting). o.left) turn.order in omega arith))
    swept)

pairs-drawn : (h : Header) (pairs pair : ℕ) (S : State) (fills : List Fill) → IsSession h → pair + pairs ≤ pair_count h → IsSound h S → PairsTurned h pairs pair S fills → AreDrawn S.orders fills
pairs-drawn h zero pair S fills session within sound turned = subst (AreDrawn S.orders) (sym turned) tt
pairs-drawn h (suc pairs) pair S fills session within sound turned =
    let own : List Fill = turned.0 in
    let more : List Fill = turned.1 in
    let some : 0 < weight_of h pair = weight_of-least h pair session (omega arith) in
    let next : IsSound h (filled_all S own) = turned-sound h pair S (orders_in pair S.orders) own some sound turned.2 in
    subst (AreDrawn S.orders) (sym turned.3)
    (drawn-append S.orders own more (turned-drawn h pair S (orders_in pair S.orders) own some sound turned.2)
    (subst (λ (os : List ActiveOrder). AreDrawn os more) (filled_all-drawn S own)
    (pairs-drawn h pairs (pair + 1) (filled_all S own) more session (omega arith) next turned.4)))

-- ---- a step

-- no order has the next number of a bank
pub none-next : (h : Header) (S : State) (bank : ℕ) → IsSound h S → NoneIs bank (count_of S bank + 1) S.orders
none-next h S bank sound =
    Each-weaker (IsKept h S.counts) (λ (a : ActiveOrder). is_order bank (count_of S bank + 1) a.order ≡ false)
    (λ a kept. false_from_ne_true (is_order bank (count_of S bank + 1) a.order)
    (λ is.
    let says = is_order-says bank (count_of S bank + 1) a.order is in
    let most : a.order.number ≤ count_of S bank = subst (λ b. a.order.number ≤ get_or S.counts b 0) says.0 kept.number_most in
    omega (arith, says.1)))
    S.orders sound.kept

-- an order that comes in, swept
pub ordered-to : (h : Header) (S : State) (bank : ℕ) (side : Side) (pair price lots : ℕ) (life : Life) (fills : List Fill) (left : ℕ) → IsSession h → IsSound h S → IsCommand h bank (Order side pair price lots life) → Swept h S (taker_of S bank side pair price lots) fills left → IsDrawnTo S (taker_of S bank side pair price lots) fills left
ordered-to h S bank side pair price lots life fills left session sound command swept =
    order-drawn h S (taker_of S bank side pair price lots) fills left sound command.sends (weight_of-least h pair session command.values.0) (none-next h S bank sound) swept

pub comes-in : (S : State) (bank : ℕ) (side : Side) (pair price lots : ℕ) → 1 ≤ lots → S.orders ++ tail (taker_of S bank side pair price lots) lots ≡ S.orders ++ at_rest (taker_of S bank side pair price lots) lots ∷ []
comes-in S bank side pair price lots some = ap (λ (os : List ActiveOrder). S.orders ++ os) (tail-some (taker_of S bank side pair price lots) lots some)

nothing-drawn : (orders : List ActiveOrder) (outcome : Outcome) → fills_of outcome ≡ [] → AreDrawn orders (fills_of outcome)
nothing-drawn orders outcome none = subst (AreDrawn orders) (sym none) tt

ordered-drawn : (h : Header) (S : State) (bank : ℕ) (side : Side) (pair price lots : ℕ) (life : Life) (outcome : Outcome) → IsSession h → IsSound h S → IsCommand h bank (Order side pair price lots life) → IsOrdered h S (taker_of S bank side pair price lots) life outcome → AreDrawn (S.orders ++ at_rest (taker_of S bank side pair price lots) lots ∷ []) (fills_of outcome)
ordered-drawn h S bank side pair price lots Day (Ordered done rests fills) session sound command ordered =
    subst (λ (os : List ActiveOrder). AreDrawn os fills) (comes-in S bank side pair price lots command.values.2.0)
    (ordered-to h S bank side pair price lots Day fills rests session sound command ordered.0).drawn_on
ordered-drawn h S bank side pair price lots Ioc (Ordered done rests fills) session sound command ordered =
    subst (λ (os : List ActiveOrder). AreDrawn os fills) (comes-in S bank side pair price lots command.values.2.0)
    (ordered-to h S bank side pair price lots Ioc fills (lots - done) session sound command ordered.0).drawn_on
ordered-drawn h S bank side pair price lots Fok (Ordered done rests fills) session sound command ordered =
    subst (λ (os : List ActiveOrder). AreDrawn os fills) (comes-in S bank side pair price lots command.values.2.0)
    (ordered-to h S bank side pair price lots Fok fills 0 session sound command ordered.0).drawn_on
ordered-drawn h S bank side pair price lots Fok Killed session sound command ordered = tt
ordered-drawn h S bank side pair price lots life outcome session sound command ordered = absurd ordered

line-drawn : (h : Header) (S : State) (bank other asked : ℕ) (outcome : Outcome) → IsSession h → IsSound h S → IsCommand h bank (Line other asked) → IsOutcome h S bank (Line other asked) outcome → AreDrawn S.orders (fills_of outcome)
line-drawn h S bank other asked (LineSet limit fills) session sound command is =
    pairs-drawn h (pair_count h) 0 (limited bank other limit S) fills session (omega arith)
    (limited-sound h S bank other asked limit sound command.sends command.values.0 command.values.1 command.values.2 is.0) is.1
line-drawn h S bank other asked outcome session sound command is = absurd is

total-drawn : (h : Header) (S : State) (bank asked : ℕ) (outcome : Outcome) → IsSession h → IsSound h S → IsCommand h bank (Total asked) → IsOutcome h S bank (Total asked) outcome → AreDrawn S.orders (fills_of outcome)
total-drawn h S bank asked (TotalSet most fills) session sound command is =
    pairs-drawn h (pair_count h) 0 (totalled bank most S) fills session (omega arith)
    (totalled-sound h S bank asked most session sound command.sends.0 command.sends.1 command.values is.0) is.1
total-drawn h S bank asked outcome session sound command is = absurd is

settle-drawn : (h : Header) (S : State) (sender a b asked : ℕ) (outcome : Outcome) → IsSession h → IsSound h S → IsCommand h sender (Settle a b asked) → IsOutcome h S sender (Settle a b asked) outcome → AreDrawn S.orders (fills_of outcome)
settle-drawn h S sender a b asked (Settled given fills) session sound command is =
    pairs-drawn h (pair_count h) 0 (settled a b given S) fills session (omega arith) (settled-sound h S a b asked given sound command.sends.0 is.0) is.1
settle-drawn h S sender a b asked outcome session sound command is = absurd is

book-drawn : (h : Header) (S : State) (bank pair : ℕ) (outcome : Outcome) → IsOutcome h S bank (Book pair) outcome → AreDrawn S.orders (fills_of outcome)
book-drawn h S bank pair (Depth bids asks) is = tt
book-drawn h S bank pair outcome is = absurd is

plain : (S : State) (fills : List Fill) → AreDrawn S.orders fills → AreDrawn (S.orders ++ []) fills
plain S fills are = subst (λ (os : List ActiveOrder). AreDrawn os fills) (sym (append-nil S.orders)) are

pub outcome-drawn : (h : Header) (S : State) (bank : ℕ) (command : Command) (outcome : Outcome) → IsSession h → IsSound h S → IsCommand h bank command → IsOutcome h S bank command outcome → AreDrawn (S.orders ++ coming_in S bank command) (fills_of outcome)
outcome-drawn h S bank (Order side pair price lots life) outcome session sound command is = ordered-drawn h S bank side pair price lots life outcome session sound command is
outcome-drawn h S bank (Cancel pair number) outcome session sound command is =
    nothing-drawn (S.orders ++ []) outcome (ap fills_of is ∙ cancel_fills (order_of S pair bank number))
outcome-drawn h S bank (Reduce pair number lots) outcome session sound command is =
    nothing-drawn (S.orders ++ []) outcome (ap fills_of is ∙ reduce_fills lots (order_of S pair bank number))
outcome-drawn h S bank (Pull pair) outcome session sound command is = nothing-drawn (S.orders ++ []) outcome (ap fills_of is)
outcome-drawn h S bank (Line other asked) outcome session sound command is = plain S (fills_of outcome) (line-drawn h S bank other asked outcome session sound command is)
outcome-drawn h S bank (Total asked) outcome session sound command is = plain S (fills_of outcome) (total-drawn h S bank asked outcome session sound command is)
outcome-drawn h S bank (Settle a b asked) outcome session sound command is = plain S (fills_of outcome) (settle-drawn h S bank a b asked outcome session sound command is)
outcome-drawn h S bank (Show other) outcome session sound command is = nothing-drawn (S.orders ++ []) outcome (ap fills_of is)
outcome-drawn h S bank (Book pair) outcome session sound command is = plain S (fills_of outcome) (book-drawn h S bank pair outcome is)
outcome-drawn h S bank (Bad reason) outcome session sound command is = nothing-drawn (S.orders ++ []) outcome (ap fills_of is)

pub fills-drawn : FillsAreDrawn
fills-drawn h S e session sound step = outcome-drawn h S e.bank e.command e.outcome session sound step.command step.outcome

-- ---- fills, one by one

pub drawn_all-push : (orders : List ActiveOrder) (fills : List Fill) (f : Fill) → drawn_all orders (fills ++ f ∷ []) ≡ drawn (drawn_all orders fills) f
drawn_all-push orders [] f = refl
drawn_all-push orders (x ∷ fills) f = drawn_all-push (drawn orders x) fills f

pub drawn-at : (orders : List ActiveOrder) (fills : List Fill) (k : ℕ) (f : Fill) → AreDrawn orders fills → k < length fills → f ≡ get_or fills k f → IsDrawn (drawn_all orders (take k fills)) f
drawn-at orders [] k f are within is = absurd (omega arith)
drawn-at orders (x ∷ fills) zero f are within is = subst (IsDrawn orders) (sym is) are.0
drawn-at orders (x ∷ fills) (suc k) f are within is = drawn-at (drawn orders x) fills k f are.1 (omega arith) is
