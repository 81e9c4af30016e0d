-- What is made in the book is what the market makes of the pair.
use Rattle.std.proofs.Common.{ℕ, ◌≡◌, ◌+◌, ◌-◌, ◌≤◌, ◌<◌, ◌^◌, Bool, true, false, not, ◌&&◌, eqb, ltb, cond, List, [], ◌∷◌, ◌++◌, map, find, Option, Some, None, inl, inr, refl, ap, sym, subst, ◌∙◌, arith, get_or}
use Rattle.std.proofs.lemmas.Bool.{cases_Bool, cond_both, cond-true, cond-false, eq-eqb, eqb-true, ltb-true, false_from_ne_true}
use Rattle.std.specs.List.{filter}
use Rattle.fx_amounts.specs.declared.side.Side.{Side}
use Rattle.fx_rules.specs.declared.command.Command.{Command}
use Rattle.fx_rules.specs.declared.command.Command.TheVariants.{Order, Cancel, Reduce, Pull, Line, Total, Settle}
use Rattle.fx_rules.specs.declared.command.Life.{Life}
use Rattle.fx_rules.specs.declared.command.Life.TheVariants.{Day, Ioc, Fok}
use Rattle.fx_rules.specs.declared.orders.ActiveOrder.{ActiveOrder}
use Rattle.fx_rules.specs.declared.orders.Resting.{Resting}
use Rattle.fx_rules.specs.declared.orders.Fill.{Fill}
use Rattle.fx_rules.specs.declared.outcome.Outcome.{Outcome}
use Rattle.fx_rules.specs.declared.outcome.Outcome.TheVariants.{Ordered, Cancelled, Reduced, NotLess, Pulled}
use Rattle.fx_rules.specs.declared.taker.SweptOrder.{SweptOrder}
use Rattle.fx_rules.specs.Lists.{Among, Each, EachPair, total}
use Rattle.fx_rules.specs.Session.{Header, IsSession, bank_count, pair_count}
use Rattle.fx_rules.specs.State.{State, orders_in, count_of, arrivals}
use Rattle.fx_rules.specs.Sweep.{Swept, is_order, at_rest, with_left, filled_all, taker_of}
use Rattle.fx_rules.specs.Raise.{order_of}
use Rattle.fx_rules.specs.Step.{IsCommand, IsOrdered, IsOutcome, cancel_answer, reduce_answer, rested, changed, reduced}
use Rattle.fx_rules.specs.Sound.{IsSound, IsKept, Rises}
use Rattle.fx_rules.proofs.ListLemmas.{Each-of, Each-among, filter_cons_true, filter_cons_false}
use Rattle.fx_rules.proofs.Lowering.{is_order-says}
use Rattle.fx_rules.proofs.Opens.{orders_in-among}
use Rattle.fx_rules.proofs.Planning.{orders_in-here, orders_in-there}
use Rattle.fx_rules.proofs.PlainSound.{reduced_to}
use Rattle.fx_rules.proofs.SweepSound.{swept-sound, counts-filled_all, weight_of-least}
use Rattle.global_book.specs.Book.{Book, Rests, RestsAbove, is_of, relotted}
use Rattle.global_book.specs.Room.{HasRoom}
use Rattle.match_sweep.specs.Carries.{carried}
use Rattle.match_sweep.proofs.Lowering.{carried-market, found-among}
use Rattle.fx_rules.specs.declared.sender.Sender.{Sender}
use Rattle.fx_rules.specs.Sending.{pair_of, IsNextIn}
use Rattle.pair_host.specs.Carries.{HasRoomFor, IsStepOf, IsStepOfSome, FollowsOn, order_at_rest, with_rest, orders_after}
use Rattle.fx_rules.proofs.Senders.{one_pair}
use Rattle.credit_raise.proofs.Turning.{find-first}

-- ---- the orders of one pair

orders_in-append : (pair : ℕ) (xs : List ActiveOrder) (a : ActiveOrder) → a.pair ≡ pair → orders_in pair (xs ++ a ∷ []) ≡ orders_in pair xs ++ a.order ∷ []
orders_in-append pair [] a is = orders_in-here pair a [] (eq-eqb a.pair pair is)
orders_in-append pair (x ∷ xs) a is =
    elim (cases_Bool (eqb x.pair pair)) [
      | inl here ↦ orders_in-here pair x (xs ++ a ∷ []) here ∙ ap (λ (os : List Resting). x.order ∷ os) (orders_in-append pair xs a is)
          ∙ ap (λ (os : List Resting). os ++ a.order ∷ []) (sym (orders_in-here pair x xs here))
      | inr there ↦ orders_in-there pair x (xs ++ a ∷ []) there ∙ orders_in-append pair xs a is
          ∙ ap (λ (os : List Resting). os ++ a.order ∷ []) (sym (orders_in-there pair x xs there))
    ]

-- some of them kept
orders_in-filter : (pair : ℕ) (p : Resting → Bool) (q : ActiveOrder → Bool) (xs : List ActiveOrder) → ((a : ActiveOrder) → a.pair ≡ pair → q a ≡ p a.order) → filter p (orders_in pair xs) ≡ orders_in pair (filter q xs)
orders_in-filter pair p q [] same = refl
orders_in-filter pair p q (x ∷ xs) same =
    let rest : filter p (orders_in pair xs) ≡ orders_in pair (filter q xs) = orders_in-filter pair p q xs same in
    elim (cases_Bool (eqb x.pair pair)) [
      | inl here ↦
          let it : q x ≡ p x.order = same x (eqb-true x.pair pair here) in
          let head : filter p (orders_in pair (x ∷ xs)) ≡ filter p (x.order ∷ orders_in pair xs) = ap (filter p) (orders_in-here pair x xs here) in
          elim (cases_Bool (q x)) [
            | inl keeps ↦
                head ∙ filter_cons_true p x.order (orders_in pair xs) (sym it ∙ keeps) ∙ ap (λ (os : List Resting). x.order ∷ os) rest
                ∙ sym (ap (orders_in pair) (filter_cons_true q x xs keeps) ∙ orders_in-here pair x (filter q xs) here)
            | inr drops ↦
                head ∙ filter_cons_false p x.order (orders_in pair xs) (sym it ∙ drops) ∙ rest ∙ sym (ap (orders_in pair) (filter_cons_false q x xs drops))
          ]
      | inr there ↦
          let head : filter p (orders_in pair (x ∷ xs)) ≡ filter p (orders_in pair xs) = ap (filter p) (orders_in-there pair x xs there) in
          elim (cases_Bool (q x)) [
            | inl keeps ↦ head ∙ rest ∙ sym (ap (orders_in pair) (filter_cons_true q x xs keeps) ∙ orders_in-there pair x (filter q xs) there)
            | inr drops ↦ head ∙ rest ∙ sym (ap (orders_in pair) (filter_cons_false q x xs drops))
          ]
    ]

-- one of them lowered
orders_in-reduced : (pair bank number left : ℕ) (xs : List ActiveOrder) → map (relotted bank number left) (orders_in pair xs) ≡ orders_in pair (reduced bank number left xs)
orders_in-reduced pair bank number left [] = refl
orders_in-reduced pair bank number left (x ∷ xs) =
    let y : ActiveOrder = cond (is_order bank number x.order) (with_left x left) x in
    let its_pair : y.pair ≡ x.pair = cond_both (is_order bank number x.order) (with_left x left) x (λ (a : ActiveOrder). a.pair ≡ x.pair) (λ _. refl) (λ _. refl) in
    let its_order : y.order ≡ relotted bank number left x.order =
    elim (cases_Bool (is_order bank number x.order)) [
      | inl is ↦ ap (λ (a : ActiveOrder). a.order) (cond-true (is_order bank number x.order) (with_left x left) x is)
          ∙ sym (cond-true (is_order bank number x.order) (record x.order { left = left }) x.order is)
      | inr is_not ↦ ap (λ (a : ActiveOrder). a.order) (cond-false (is_order bank number x.order) (with_left x left) x is_not)
          ∙ sym (cond-false (is_order bank number x.order) (record x.order { left = left }) x.order is_not)
    ] in
    let rest : map (relotted bank number left) (orders_in pair xs) ≡ orders_in pair (reduced bank number left xs) = orders_in-reduced pair bank number left xs in
    elim (cases_Bool (eqb x.pair pair)) [
      | inl here ↦
          ap (map (relotted bank number left)) (orders_in-here pair x xs here)
          ∙ ap (λ (o : Resting). o ∷ map (relotted bank number left) (orders_in pair xs)) (sym its_order)
          ∙ ap (λ (os : List Resting). y.order ∷ os) rest
          ∙ sym (orders_in-here pair y (reduced bank number left xs) (ap (λ p. eqb p pair) its_pair ∙ here))
      | inr there ↦
          ap (map (relotted bank number left)) (orders_in-there pair x xs there) ∙ rest
          ∙ sym (orders_in-there pair y (reduced bank number left xs) (ap (λ p. eqb p pair) its_pair ∙ there))
    ]

-- and one more at their end
orders_in-rested : (t : SweptOrder) (rests : ℕ) (T : State) → with_rest (at_rest t rests).order (orders_in t.pair T.orders) ≡ orders_in t.pair (rested t rests T).orders
orders_in-rested t rests T =
    let more : State = record T { orders = T.orders ++ at_rest t rests ∷ [] } in
    elim (cases_Bool (ltb 0 rests)) [
      | inl some ↦
          cond-true (ltb 0 rests) (orders_in t.pair T.orders ++ (at_rest t rests).order ∷ []) (orders_in t.pair T.orders) some
          ∙ sym (orders_in-append t.pair T.orders (at_rest t rests) refl)
          ∙ sym (ap (λ (U : State). orders_in t.pair U.orders) (cond-true (ltb 0 rests) more T some))
      | inr none ↦
          cond-false (ltb 0 rests) (orders_in t.pair T.orders ++ (at_rest t rests).order ∷ []) (orders_in t.pair T.orders) none
          ∙ sym (ap (λ (U : State). orders_in t.pair U.orders) (cond-false (ltb 0 rests) more T none))
    ]

rest_same : (S : State) (sender : Sender) (side : Side) (pair price lots rests : ℕ) → IsNextIn S sender → order_at_rest sender side price rests ≡ (at_rest (taker_of S sender.bank side pair price lots) rests).order
rest_same S sender side pair price lots rests next =
    let made : ℕ → ℕ → Resting = λ number arrival. record {
      bank = sender.bank;
      number = number;
      side = side;
      price = price;
      left = rests;
      arrival = arrival;
    } in
    ap (λ n. made n sender.arrival) next.number ∙ ap (made (count_of S sender.bank + 1)) next.arrival

-- ---- what a command leaves of the pair's orders

order_follows : (S : State) (sender : Sender) (side : Side) (pair price lots : ℕ) (life : Life) (done rests : ℕ) (fills : List Fill) (orders : List Resting) → EachPair Rises S.orders → IsNextIn S sender → orders ≡ orders_in pair S.orders → orders_after sender (Order side pair price lots life) (Ordered done rests fills) orders ≡ orders_in pair (changed S sender.bank (Order side pair price lots life) (Ordered done rests fills)).orders
order_follows S sender side pair price lots life done rests fills orders rising next is =
    let t : SweptOrder = taker_of S sender.bank side pair price lots in
    let book : carried orders fills ≡ orders_in pair (filled_all S fills).orders = ap (λ (os : List Resting). carried os fills) is ∙ carried-market pair S fills rising in
    ap (λ (o : Resting). with_rest o (carried orders fills)) (rest_same S sender side pair price lots rests next)
    ∙ ap (with_rest (at_rest t rests).order) book
    ∙ orders_in-rested t rests (filled_all S fills)

none_some : (pair : ℕ) → None ≡ Some pair → ⊥
none_some pair same = cc

steps_follow : (S : State) (sender : Sender) (pair : ℕ) (command : Command) (outcome : Outcome) (orders : List Resting) → EachPair Rises S.orders → IsNextIn S sender → orders ≡ orders_in pair S.orders → pair_of command ≡ Some pair → orders_after sender command outcome orders ≡ orders_in pair (changed S sender.bank command outcome).orders
steps_follow S sender pair (Order side its price lots life) (Ordered done rests fills) orders rising next is pair_is =
    let same : its ≡ pair = one_pair its pair pair_is in
    order_follows S sender side its price lots life done rests fills orders rising next (is ∙ ap (λ p. orders_in p S.orders) (sym same))
    ∙ ap (λ p. orders_in p (changed S sender.bank (Order side its price lots life) (Ordered done rests fills)).orders) same
steps_follow S sender pair (Cancel its number) (Cancelled left) orders rising next is pair_is =
    ap (filter (λ (o : Resting). not (is_order sender.bank number o))) is
    ∙ orders_in-filter pair (λ (o : Resting). not (is_order sender.bank number o)) (λ (a : ActiveOrder). not (is_order sender.bank number a.order)) S.orders (λ a _. refl)
steps_follow S sender pair (Reduce its number lots) (Reduced left) orders rising next is pair_is =
    ap (map (relotted sender.bank number left)) is ∙ orders_in-reduced pair sender.bank number left S.orders
steps_follow S sender pair (Pull its) (Pulled count) orders rising next is pair_is =
    let same : its ≡ pair = one_pair its pair pair_is in
    ap (filter (λ (o : Resting). not (is_of sender.bank o))) is
    ∙ orders_in-filter pair (λ (o : Resting). not (is_of sender.bank o)) (λ (a : ActiveOrder). not (eqb a.pair its && eqb a.order.bank sender.bank)) S.orders
    (λ a here. ap (λ (b : Bool). not (b && eqb a.order.bank sender.bank)) (eq-eqb a.pair its (here ∙ sym same)))
steps_follow S sender pair (Line other asked) outcome orders rising next is pair_is = absurd (none_some pair pair_is)
steps_follow S sender pair (Total asked) outcome orders rising next is pair_is = absurd (none_some pair pair_is)
steps_follow S sender pair (Settle a b asked) outcome orders rising next is pair_is = absurd (none_some pair pair_is)
steps_follow S sender pair command outcome orders rising next is pair_is = is

pub follows : (old new : Book) (sender : Sender) (command : Command) (outcome : Outcome) → pair_of command ≡ Some old.pair → new.pair ≡ old.pair → new.orders ≡ orders_after sender command outcome old.orders → FollowsOn old new sender command outcome
follows old new sender command outcome pair_is same made h S of =
    made ∙ steps_follow S sender old.pair command outcome old.orders of.sound.rising of.next of.orders pair_is
    ∙ ap (λ p. orders_in p (changed S sender.bank command outcome).orders) (sym same)

-- ---- what can be carried out

-- an order's outcome, by its life
record IsSwept (h : Header) (S : State) (t : SweptOrder) (life : Life) (rests : ℕ) (fills : List Fill) : Type 0 where
  pub left : ℕ
  pub swept : Swept h S t fills left
  pub most : rests ≤ t.left
  pub day : 0 < rests → life ≡ Day

swept_by : (h : Header) (S : State) (t : SweptOrder) (life : Life) (done rests : ℕ) (fills : List Fill) → IsOrdered h S t life (Ordered done rests fills) → IsSwept h S t life rests fills
swept_by h S t Day done rests fills is = record { left = rests; swept = is.0; most = is.2; day = λ _. refl }
swept_by h S t Ioc done rests fills is = record { left = t.left - done; swept = is.0; most = omega (arith, is.2); day = λ some. absurd (omega (arith, is.2, some)) }
swept_by h S t Fok done rests fills is = record { left = 0; swept = is.0; most = omega (arith, is.2); day = λ some. absurd (omega (arith, is.2, some)) }

-- what a sweep leaves of the pair's orders came before its order, and is no order of its command
record CameBefore (sender : Sender) (order : Resting) : Type 0 where
  pub arrival : order.arrival < sender.arrival
  pub number : is_order sender.bank sender.number order ≡ false

came_before : (h : Header) (S : State) (sender : Sender) (t : SweptOrder) (fills : List Fill) (left : ℕ) → IsSession h → IsSound h S → IsNextIn S sender → t.bank < bank_count h → t.pair < pair_count h → Swept h S t fills left → (o : Resting) → Among o (orders_in t.pair (filled_all S fills).orders) → CameBefore sender o
came_before h S sender t fills left session sound next bank pair swept o there =
    let T : State = filled_all S fills in
    let after : IsSound h T = (swept-sound h S t fills left sound bank (weight_of-least h t.pair session pair) swept).0 in
    let counts : T.counts ≡ S.counts = counts-filled_all S fills in
    let found = orders_in-among t.pair T.orders o there in
    let kept : IsKept h T.counts found.0 = Each-among (IsKept h T.counts) T.orders found.0 after.kept found.1 in
    let arrived : o.arrival < arrivals S = subst (λ (p : Resting). p.arrival < arrivals S) (sym found.3)
    (subst (λ (cs : List ℕ). found.0.order.arrival < total (λ c. c) cs) counts kept.arrival) in
    let sent : o.number ≤ count_of S o.bank = subst (λ (p : Resting). p.number ≤ count_of S p.bank) (sym found.3)
    (subst (λ (cs : List ℕ). found.0.order.number ≤ get_or cs found.0.order.bank 0) counts kept.number_most) in
    record {
      arrival = omega (arith, arrived, next.arrival);
      number = false_from_ne_true (is_order sender.bank sender.number o) (λ is.
          let says = is_order-says sender.bank sender.number o is in
          let its : o.number ≤ count_of S sender.bank = subst (λ b. o.number ≤ count_of S b) says.0 sent in
          omega (arith, its, says.1, next.number));
    }

-- an order's fills can be carried out, and its rest has its place
pub record CanCarry (book : Book) (sender : Sender) (side : Side) (price rests : ℕ) (fills : List Fill) : Type 0 where
  pub most : rests ≤ 10 ^ 6
  pub room : 0 < rests → HasRoom book.room sender.bank side price
  pub last : Each (λ (o : Resting). o.arrival < sender.arrival) (carried book.orders fills)
  pub absent : Each (λ (o : Resting). is_order sender.bank sender.number o ≡ false) (carried book.orders fills)
  pub number : 1 ≤ sender.number

pub can_carry : (book : Book) (sender : Sender) (command : Command) (outcome : Outcome) (side : Side) (pair price lots : ℕ) (life : Life) (done rests : ℕ) (fills : List Fill) → command ≡ Order side pair price lots life → outcome ≡ Ordered done rests fills → pair_of command ≡ Some book.pair → HasRoomFor book sender.bank command → IsStepOfSome book sender command outcome → CanCarry book sender side price rests fills
can_carry book sender command outcome side pair price lots life done rests fills command_is outcome_is pair_is room some =
    let h : Header = some.session in
    let S : State = some.before in
    let of : IsStepOf h S book sender command outcome = some.step in
    let same : pair ≡ book.pair = one_pair pair book.pair (sym (ap pair_of command_is) ∙ pair_is) in
    let t : SweptOrder = taker_of S sender.bank side pair price lots in
    let asked : IsCommand h sender.bank (Order side pair price lots life) = subst (IsCommand h sender.bank) command_is of.step.command in
    let is : IsOrdered h S t life (Ordered done rests fills) =
    subst (λ (o : Outcome). IsOutcome h S sender.bank (Order side pair price lots life) o) outcome_is
    (subst (λ (c : Command). IsOutcome h S sender.bank c outcome) command_is of.step.outcome) in
    let swept : IsSwept h S t life rests fills = swept_by h S t life done rests fills is in
    let orders_are : carried book.orders fills ≡ orders_in pair (filled_all S fills).orders =
    ap (λ (os : List Resting). carried os fills) (of.orders ∙ ap (λ p. orders_in p S.orders) (sym same)) ∙ carried-market pair S fills of.sound.rising in
    let came : (o : Resting) → Among o (carried book.orders fills) → CameBefore sender o =
    λ o there. came_before h S sender t fills swept.left some.valid of.sound of.next asked.sends asked.values.0 swept.swept o (subst (Among o) orders_are there) in
    record {
      most = omega (arith, swept.most, asked.values.2.1);
      room = λ more. subst (HasRoomFor book sender.bank) (ap (Order side pair price lots) (swept.day more)) (subst (HasRoomFor book sender.bank) command_is room);
      last = Each-of (λ (o : Resting). o.arrival < sender.arrival) (carried book.orders fills) (λ o there. (came o there).arrival);
      absent = Each-of (λ (o : Resting). is_order sender.bank sender.number o ≡ false) (carried book.orders fills) (λ o there. (came o there).number);
      number = omega (arith, of.next.number);
    }

cancelled_found : (left : ℕ) (found : Option Resting) → Cancelled left ≡ cancel_answer found → (order : Resting) × (found ≡ Some order)
cancelled_found left None is = cc
cancelled_found left (Some order) is = (order, refl)

not_reduced : (left its : ℕ) → Reduced left ≡ NotLess its → ⊥
not_reduced left its same = cc

reduced_found : (left lots : ℕ) (found : Option Resting) → Reduced left ≡ reduce_answer lots found → (order : Resting) × (found ≡ Some order) × (lots < order.left)
reduced_found left lots None is = cc
reduced_found left lots (Some order) is =
    elim (cases_Bool (ltb lots order.left)) [
      | inl less ↦ (order, refl, ltb-true lots order.left less)
      | inr more ↦ absurd (not_reduced left order.left (is ∙ cond-false (ltb lots order.left) (Reduced lots) (NotLess order.left) more))
    ]

found_in : (S : State) (book : Book) (pair bank number : ℕ) (order : Resting) → book.orders ≡ orders_in book.pair S.orders → pair ≡ book.pair → order_of S pair bank number ≡ Some order → Among order book.orders × (is_order bank number order ≡ true)
found_in S book pair bank number order orders_are same found =
    found-among bank number book.orders order
    (find-first (λ (o : Resting). is_order bank number o) book.orders
    ∙ ap (find (λ (o : Resting). is_order bank number o)) (orders_are ∙ ap (λ p. orders_in p S.orders) (sym same)) ∙ found)

pub can_cancel : (book : Book) (sender : Sender) (command : Command) (outcome : Outcome) (pair number left : ℕ) → command ≡ Cancel pair number → outcome ≡ Cancelled left → pair_of command ≡ Some book.pair → IsStepOfSome book sender command outcome → Rests book.orders sender.bank number
can_cancel book sender command outcome pair number left command_is outcome_is pair_is some =
    let S : State = some.before in
    let same : pair ≡ book.pair = one_pair pair book.pair (sym (ap pair_of command_is) ∙ pair_is) in
    let is : outcome ≡ cancel_answer (order_of S pair sender.bank number) =
    subst (λ (c : Command). IsOutcome some.session S sender.bank c outcome) command_is some.step.step.outcome in
    let found = cancelled_found left (order_of S pair sender.bank number) (sym outcome_is ∙ is) in
    let there = found_in S book pair sender.bank number found.0 some.step.orders same found.1 in
    (found.0, there.0, there.1)

-- an order that is lowered has more left than it is lowered to, and that is what was asked
pub record CanLower (book : Book) (sender : Sender) (number lots left : ℕ) : Type 0 where
  pub rests : RestsAbove book.orders sender.bank number lots
  pub left_is : left ≡ lots

pub can_lower : (book : Book) (sender : Sender) (command : Command) (outcome : Outcome) (pair number lots left : ℕ) → command ≡ Reduce pair number lots → outcome ≡ Reduced left → pair_of command ≡ Some book.pair → IsStepOfSome book sender command outcome → CanLower book sender number lots left
can_lower book sender command outcome pair number lots left command_is outcome_is pair_is some =
    let S : State = some.before in
    let same : pair ≡ book.pair = one_pair pair book.pair (sym (ap pair_of command_is) ∙ pair_is) in
    let is : outcome ≡ reduce_answer lots (order_of S pair sender.bank number) =
    subst (λ (c : Command). IsOutcome some.session S sender.bank c outcome) command_is some.step.step.outcome in
    let found = reduced_found left lots (order_of S pair sender.bank number) (sym outcome_is ∙ is) in
    let there = found_in S book pair sender.bank number found.0 some.step.orders same found.1 in
    record {
      rests = (found.0, there.0, there.1, found.2);
      left_is = reduced_to lots left (order_of S pair sender.bank number) (sym outcome_is ∙ is);
    }
