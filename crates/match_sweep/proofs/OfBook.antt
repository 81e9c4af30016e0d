-- The fills of a sweep and of a credit change are those of their pair's book.
use Rattle.std.proofs.Common.{ℕ, ◌≡◌, ◌≢◌, ◌-◌, ◌≤◌, ◌<◌, min, true, false, ltb, List, [], ◌∷◌, ◌++◌, inl, inr, refl, ap, sym, subst, ◌∙◌, arith}
use Rattle.std.proofs.lemmas.Bool.{cases_Bool, cond_both, both_ways}
use Rattle.fx_rules.specs.declared.orders.ActiveOrder.{ActiveOrder}
use Rattle.fx_rules.specs.declared.orders.Resting.{Resting}
use Rattle.fx_rules.specs.declared.orders.Fill.{Fill}
use Rattle.fx_rules.specs.Lists.{Among, Each, EachPair}
use Rattle.fx_rules.specs.Session.{Header, bank_count, weight_of}
use Rattle.fx_rules.specs.State.{State, orders_in, reach}
use Rattle.fx_rules.specs.Sweep.{Taker, Swept, is_open, is_order, lowered, fill_with, amount, less, filled, filled_all}
use Rattle.fx_rules.specs.Raise.{order_of, taker_of_resting, Turned}
use Rattle.fx_rules.specs.Sound.{IsSound, ArrivesBefore}
use Rattle.fx_rules.proofs.ListLemmas.{Each-of, Each-weaker, Among-filter}
use Rattle.fx_rules.proofs.Credit.{IsAllowed}
use Rattle.fx_rules.proofs.Opens.{is_open-says, allowed-open}
use Rattle.fx_rules.proofs.Lowering.{rising-lowered, is_order-says, is_order-from}
use Rattle.fx_rules.proofs.Planning.{orders_in-rising}
use Rattle.fx_rules.proofs.Preference.{command_same}
use Rattle.fx_rules.proofs.RaiseSound.{match_cases, turn_of, turn-sender, IsTurn}
use Rattle.fx_rules.proofs.SweepSound.{filled-sound, swept-sound}
use Rattle.match_sweep.specs.Carries.{lowered_in, filled_in, carried, IsOfBook, AreOfBook}
use Rattle.match_sweep.specs.Laws.{SweepsAreCarried, TurnsAreCarried}
use Rattle.global_book.proofs.Lowered.{relot, NoneIs, lowered-here, lowered-later, none_later}
use Rattle.match_sweep.proofs.Lowering.{orders_in-lowered, orders_in-filled, carried-market}

-- What is true of each order stays true, where it stays true of the one that is lowered.
each-lowered : (P : Resting → Type 0) (bank number lots : ℕ) (orders : List Resting) → ((o : Resting) (left : ℕ) → is_order bank number o ≡ true → P o → P (relot o left)) → Each P orders → Each P (lowered_in bank number lots orders)
each-lowered P bank number lots [] keeps all = tt
each-lowered P bank number lots (o ∷ orders) keeps all =
    elim (cases_Bool (is_order bank number o)) [
      | inl is ↦ subst (Each P) (sym (lowered-here bank number lots o orders is))
          (cond_both (ltb lots o.left) (relot o (o.left - lots) ∷ orders) orders (Each P)
          (λ _. (keeps o (o.left - lots) is all.0, all.1)) (λ _. all.1))
      | inr is_not ↦ subst (Each P) (sym (lowered-later bank number lots o orders is_not))
          (all.0, each-lowered P bank number lots orders keeps all.1)
    ]

-- an order of this bank and number that rests has so many lots left
abbrev Leaves : ℕ → ℕ → ℕ → Resting → Type 0
Leaves bank number left o = is_order bank number o ≡ true → o.left ≡ left

none-leaves : (bank number left : ℕ) (orders : List Resting) → NoneIs bank number orders → Each (Leaves bank number left) orders
none-leaves bank number left orders none =
    Each-weaker (λ (o : Resting). is_order bank number o ≡ false) (Leaves bank number left)
    (λ o is_not is. absurd (both_ways (is_order bank number o) is_not is)) orders none

leaves-lowered : (bank number left lots : ℕ) (orders : List Resting) → EachPair ArrivesBefore orders → Each (Leaves bank number left) orders → Each (Leaves bank number (left - lots)) (lowered_in bank number lots orders)
leaves-lowered bank number left lots [] rising all = tt
leaves-lowered bank number left lots (o ∷ orders) rising all =
    elim (cases_Bool (is_order bank number o)) [
      | inl is ↦
          let rest : Each (Leaves bank number (left - lots)) orders =
          none-leaves bank number (left - lots) orders (none_later bank number o orders rising.0 is) in
          subst (Each (Leaves bank number (left - lots))) (sym (lowered-here bank number lots o orders is))
          (cond_both (ltb lots o.left) (relot o (o.left - lots) ∷ orders) orders (Each (Leaves bank number (left - lots)))
          (λ _. ((λ _. ap (λ n. n - lots) (all.0 is)), rest)) (λ _. rest))
      | inr is_not ↦ subst (Each (Leaves bank number (left - lots))) (sym (lowered-later bank number lots o orders is_not))
          ((λ is. absurd (both_ways (is_order bank number o) is_not is)), leaves-lowered bank number left lots orders rising.1 all.1)
    ]

-- another bank's order lowered leaves this one's
leaves-other : (bank number left other which lots : ℕ) (orders : List Resting) → other ≢ bank → Each (Leaves bank number left) orders → Each (Leaves bank number left) (lowered_in other which lots orders)
leaves-other bank number left other which lots orders differ all =
    each-lowered (Leaves bank number left) other which lots orders
    (λ o _ is _ same. absurd (differ (sym (is_order-says other which o is).0 ∙ (is_order-says bank number o same).0))) all

-- the fill of a taker with a resting order, for no more than both have left, is one of the book's
fill-of_book : (t : Taker) (best : Resting) (lots : ℕ) (orders : List Resting) → EachPair ArrivesBefore orders → Among best orders → lots ≤ best.left → lots ≤ t.left → Each (Leaves t.bank t.number t.left) orders → IsOfBook orders (fill_with t best lots)
fill-of_book t best lots orders rising there maker taker leaves = record {
  maker = (best, there, is_order-from best.bank best.number best refl refl);
  maker_lots = Each-of (λ (o : Resting). is_order best.bank best.number o ≡ true → lots ≤ o.left) orders
      (λ o among is.
      let says = is_order-says best.bank best.number o is in
      subst (λ (p : Resting). lots ≤ p.left) (sym (command_same orders o best rising among there says.0 says.1)) maker);
  taker_lots = Each-weaker (Leaves t.bank t.number t.left) (λ (o : Resting). is_order t.bank t.number o ≡ true → lots ≤ o.left)
      (λ o left is. let same : o.left ≡ t.left = left is in omega arith) orders leaves;
}

least_first : (a b r : ℕ) → min a (min b r) ≤ a
least_first a b r = omega arith

least_second : (a b r : ℕ) → min a (min b r) ≤ b
least_second a b r = omega arith

-- a sweep's fills are of the book, where what rests of the taker has what it has left
swept-of_book : (h : Header) (S : State) (t : Taker) (fills : List Fill) (left : ℕ) → IsSound h S → t.bank < bank_count h → 0 < weight_of h t.pair → Each (Leaves t.bank t.number t.left) (orders_in t.pair S.orders) → Swept h S t fills left → AreOfBook (orders_in t.pair S.orders) fills
swept-of_book h S t [] left sound bank some leaves swept = tt
swept-of_book h S t (f ∷ fills) left sound bank some leaves swept =
    let best : Resting = swept.0 in
    let r : ℕ = reach h S t.bank best.bank t.pair in
    let lots_are : f.lots ≡ amount t best r = ap (λ (g : Fill). g.lots) swept.3 in
    let is_fill : f ≡ fill_with t best f.lots = swept.3 ∙ ap (fill_with t best) (sym lots_are) in
    let found = Among-filter (λ (o : Resting). is_open t (reach h S t.bank o.bank t.pair) o) (orders_in t.pair S.orders) best swept.2.there in
    let other : best.bank ≢ t.bank = (is_open-says t r best found.1).other in
    let allowed : IsAllowed h S f = subst (IsAllowed h S) (sym swept.3) (allowed-open h S t best sound bank some swept.1 swept.2.there) in
    let once : List ActiveOrder = lowered f.maker f.maker_number f.lots S.orders in
    let rising : EachPair ArrivesBefore (lowered_in f.maker f.maker_number f.lots (orders_in t.pair S.orders)) =
    subst (EachPair ArrivesBefore) (orders_in-lowered t.pair f.maker f.maker_number f.lots S.orders sound.rising)
    (orders_in-rising t.pair once (rising-lowered f.maker f.maker_number f.lots S.orders sound.rising)) in
    let makers : f.maker ≢ t.bank = λ same. other (sym (ap (λ (g : Fill). g.maker) swept.3) ∙ same) in
    let lower : Each (Leaves t.bank t.number (t.left - f.lots)) (lowered_in t.bank t.number f.lots (lowered_in f.maker f.maker_number f.lots (orders_in t.pair S.orders))) =
    leaves-lowered t.bank t.number t.left f.lots (lowered_in f.maker f.maker_number f.lots (orders_in t.pair S.orders)) rising
    (leaves-other t.bank t.number t.left f.maker f.maker_number f.lots (orders_in t.pair S.orders) makers leaves) in
    let next : Each (Leaves t.bank t.number (t.left - f.lots)) (filled_in (orders_in t.pair S.orders) f) =
    subst (λ (b : ℕ). Each (Leaves t.bank t.number (t.left - f.lots)) (lowered_in b f.taker_number f.lots (lowered_in f.maker f.maker_number f.lots (orders_in t.pair S.orders))))
    (sym (ap (λ (g : Fill). g.taker) swept.3))
    (subst (λ (n : ℕ). Each (Leaves t.bank t.number (t.left - f.lots)) (lowered_in t.bank n f.lots (lowered_in f.maker f.maker_number f.lots (orders_in t.pair S.orders))))
    (sym (ap (λ (g : Fill). g.taker_number) swept.3)) lower) in
    let same : orders_in t.pair (filled S f).orders ≡ filled_in (orders_in t.pair S.orders) f = orders_in-filled t.pair S f sound.rising in (
      subst (IsOfBook (orders_in t.pair S.orders)) (sym is_fill)
          (fill-of_book t best f.lots (orders_in t.pair S.orders) (orders_in-rising t.pair S.orders sound.rising) found.0
          (subst (λ n. n ≤ best.left) (sym lots_are) (least_second t.left best.left r))
          (subst (λ n. n ≤ t.left) (sym lots_are) (least_first t.left best.left r)) leaves),
      subst (λ (os : List Resting). AreOfBook os fills) same
          (swept-of_book h (filled S f) (less t f.lots) fills left (filled-sound h S f sound allowed) bank some
          (subst (Each (Leaves t.bank t.number (t.left - f.lots))) (sym same) next) swept.4),
    )

of_book-append : (orders : List Resting) (xs ys : List Fill) → AreOfBook orders xs → AreOfBook (carried orders xs) ys → AreOfBook orders (xs ++ ys)
of_book-append orders [] ys first later = later
of_book-append orders (f ∷ xs) ys first later = (first.0, of_book-append (filled_in orders f) xs ys first.1 later)

-- so are the fills of turns
turned-of_book : (h : Header) (pair : ℕ) (S : State) (orders : List Resting) (fills : List Fill) → IsSound h S → 0 < weight_of h pair → Turned h pair S orders fills → AreOfBook (orders_in pair S.orders) fills
turned-of_book h pair S [] fills sound some turned = subst (AreOfBook (orders_in pair S.orders)) (sym turned) tt
turned-of_book h pair S (order ∷ orders) fills sound some turned =
    elim (match_cases (order_of S pair order.bank order.number) (Turned h pair S orders fills)
    (λ now. (own more : List Fill) × (left : ℕ) × Swept h S (taker_of_resting pair now) own left × (fills ≡ own ++ more) × Turned h pair (filled_all S own) orders more)
    turned) [
      | inl gone ↦ turned-of_book h pair S orders fills sound some gone.1
      | inr found ↦
          let now : Resting = found.0 in
          let own : List Fill = found.2.0 in
          let more : List Fill = found.2.1 in
          let left : ℕ = found.2.2 in
          let turn : IsTurn h S pair order.bank order.number now = turn_of h S pair order.bank order.number now sound found.1 in
          let sender : now.bank < bank_count h = turn-sender h S pair order.bank order.number now turn in
          let next : IsSound h (filled_all S own) = (swept-sound h S (taker_of_resting pair now) own left sound sender some found.2.3).0 in
          let leaves : Each (Leaves now.bank now.number now.left) (orders_in pair S.orders) =
          Each-of (Leaves now.bank now.number now.left) (orders_in pair S.orders)
          (λ o among is.
          let says = is_order-says now.bank now.number o is in
          ap (λ (p : Resting). p.left) (command_same (orders_in pair S.orders) o now (orders_in-rising pair S.orders sound.rising) among turn.among says.0 says.1)) in
          subst (AreOfBook (orders_in pair S.orders)) (sym found.2.4)
          (of_book-append (orders_in pair S.orders) own more
          (swept-of_book h S (taker_of_resting pair now) own left sound sender some leaves found.2.3)
          (subst (λ (os : List Resting). AreOfBook os more) (sym (carried-market pair S own sound.rising))
          (turned-of_book h pair (filled_all S own) orders more next some found.2.5)))
    ]

pub sweeps_carried : SweepsAreCarried
sweeps_carried h S t fills left sound bank some none swept = (
  swept-of_book h S t fills left sound bank some (none-leaves t.bank t.number t.left (orders_in t.pair S.orders) none) swept,
  carried-market t.pair S fills sound.rising,
)

pub turns_carried : TurnsAreCarried
turns_carried h pair S orders fills sound some turned = (
  turned-of_book h pair S orders fills sound some turned,
  carried-market pair S fills sound.rising,
)
