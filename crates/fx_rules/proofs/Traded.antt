-- No more is traded than was sent: the lots of all fills and the lots that rest rise together by no more than one order has, since a
-- fill takes its lots from its maker.
use Rattle.std.proofs.Common.{ℕ, ◌≡◌, ◌+◌, ◌-◌, ◌*◌, ◌^◌, ◌≤◌, ◌<◌, Bool, not, ◌&&◌, eqb, ltb, cond, List, [], ◌∷◌, ◌++◌, length, inl, inr, ap, sym, subst, arith}
use Rattle.std.specs.Prelude.{nat_lt}
use Rattle.std.specs.List.{filter}
use Rattle.std.proofs.lemmas.Bool.{cond_both}
use Rattle.fx_amounts.specs.declared.side.Side.{Side}
use Rattle.fx_rules.specs.declared.orders.ActiveOrder.{ActiveOrder}
use Rattle.fx_rules.specs.declared.orders.Resting.{Resting}
use Rattle.fx_rules.specs.declared.orders.Fill.{Fill}
use Rattle.fx_rules.specs.declared.command.Command.{Command}
use Rattle.fx_rules.specs.declared.command.Command.TheVariants.{Order, Cancel, Reduce, Pull, Line, Total, Settle, Show, Book, Bad}
use Rattle.fx_rules.specs.declared.command.Life.{Life}
use Rattle.fx_rules.specs.declared.command.Life.TheVariants.{Day, Ioc, Fok}
use Rattle.fx_rules.specs.declared.outcome.Outcome.{Outcome}
use Rattle.fx_rules.specs.declared.outcome.Outcome.TheVariants.{Ordered, Killed, Cancelled, Reduced, Pulled, LineSet, TotalSet, Settled}
use Rattle.fx_rules.specs.declared.outcome.Entry.{Entry}
use Rattle.fx_rules.specs.Lists.{Among, Each, EachPair, total}
use Rattle.fx_rules.specs.Session.{Header, IsSession, bank_count, pair_count, weight_of}
use Rattle.fx_rules.specs.State.{State, opening, arrivals, count_of, reach}
use Rattle.fx_rules.specs.Sweep.{Taker, Swept, open_orders, amount, fill_with, filled, filled_all, less, lowered, with_left, is_order, taker_of, at_rest}
use Rattle.fx_rules.specs.Raise.{limited, totalled, settled, order_of, Raised}
use Rattle.fx_rules.specs.Step.{IsCommand, IsOrdered, IsOutcome, rested, reduced, changed}
use Rattle.fx_rules.specs.History.{IsStep, Steps, IsLegal, after_entry, after_all, state}
use Rattle.fx_rules.specs.Sound.{IsSound, Rises}
use Rattle.fx_rules.proofs.ListLemmas.{Each-among, total-append, total-set}
use Rattle.fx_rules.proofs.Senders.{command-place}
use Rattle.fx_rules.proofs.Lowering.{is_order-says, is_order-from}
use Rattle.fx_rules.proofs.Credit.{IsAllowed}
use Rattle.fx_rules.proofs.Opens.{IsMaker, maker_of, allowed-open}
use Rattle.fx_rules.proofs.SweepSound.{filled-sound, filled_all-append, weight_of-least}
use Rattle.fx_rules.proofs.RaiseSound.{pairs-walk, limited-sound, totalled-sound, settled-sound}
use Rattle.fx_rules.proofs.PlainSound.{reduced_to}
use Rattle.fx_rules.proofs.Soundness.{after-sound, opening-sound}
use Rattle.fx_rules.proofs.Staying.{changed-counts}
use Rattle.fx_rules.proofs.Counting.{arrivals-most}

-- the lots that orders have left
lots_left : List ActiveOrder → ℕ
lots_left orders = total (λ (a : ActiveOrder). a.order.left) orders

-- the lots of all fills, and those that rest
lots_sent : State → ℕ
lots_sent S = total (λ (f : Fill). f.lots) S.fills + lots_left S.orders

-- ---- a fill

left-lowered : (bank number lots : ℕ) (orders : List ActiveOrder) → lots_left (lowered bank number lots orders) ≤ lots_left orders
unfolding lots_left
left-lowered bank number lots [] = omega arith
left-lowered bank number lots (a ∷ rest) =
    cond_both (is_order bank number a.order) (cond (ltb lots a.order.left) (with_left a (a.order.left - lots) ∷ rest) rest)
    (a ∷ lowered bank number lots rest) (λ (os : List ActiveOrder). lots_left os ≤ a.order.left + lots_left rest)
    (λ _. cond_both (ltb lots a.order.left) (with_left a (a.order.left - lots) ∷ rest) rest
    (λ (os : List ActiveOrder). lots_left os ≤ a.order.left + lots_left rest) (λ _. omega arith) (λ _. omega arith))
    (λ _. omega (arith, left-lowered bank number lots rest))

-- an order that rests and has so many lots left gives them
left-taken : (orders : List ActiveOrder) (maker : ActiveOrder) (lots : ℕ) → EachPair Rises orders → Among maker orders → lots ≤ maker.order.left → lots_left (lowered maker.order.bank maker.order.number lots orders) + lots ≤ lots_left orders
unfolding lots_left
left-taken [] maker lots rising there has = absurd there
left-taken (a ∷ rest) maker lots rising there has =
    let bank : ℕ = maker.order.bank in
    let number : ℕ = maker.order.number in
    let P : List ActiveOrder → Type 0 = λ os. lots_left os + lots ≤ a.order.left + lots_left rest in
    cond_both (is_order bank number a.order) (cond (ltb lots a.order.left) (with_left a (a.order.left - lots) ∷ rest) rest)
    (a ∷ lowered bank number lots rest) P
    (λ is.
    let says = is_order-says bank number a.order is in
    let most : lots ≤ a.order.left = elim there [
      | inl same ↦ subst (λ (o : ActiveOrder). lots ≤ o.order.left) same has
      | inr later ↦ let before : Rises a maker = Each-among (Rises a) rest maker rising.0 later in absurd (before.number says.0 says.1)
    ] in
    cond_both (ltb lots a.order.left) (with_left a (a.order.left - lots) ∷ rest) rest P (λ _. omega (arith, most)) (λ _. omega (arith, most)))
    (λ isnt. elim there [
      | inl same ↦
          let is = is_order-from bank number a.order (ap (λ (o : ActiveOrder). o.order.bank) (sym same)) (ap (λ (o : ActiveOrder). o.order.number) (sym same)) in
          cc
      | inr later ↦ omega (arith, left-taken rest maker lots rising.1 later has)
    ])

-- a fill takes its lots from its maker
maker-gives : (h : Header) (S : State) (t : Taker) (best : Resting) (f : Fill) → IsSound h S → Among best (open_orders h S t) → f ≡ fill_with t best (amount t best (reach h S t.bank best.bank t.pair)) → lots_left (lowered f.maker f.maker_number f.lots S.orders) + f.lots ≤ lots_left S.orders
maker-gives h S t best f sound there is =
    let lots : ℕ = amount t best (reach h S t.bank best.bank t.pair) in
    let m : IsMaker h S t best = maker_of h S t best sound there in
    let has : lots ≤ m.active.order.left = omega (arith, ap (λ (o : Resting). o.left) m.order) in
    let gives : lots_left (lowered best.bank best.number lots S.orders) + lots ≤ lots_left S.orders =
    subst (λ (o : Resting). lots_left (lowered o.bank o.number lots S.orders) + lots ≤ lots_left S.orders) (sym m.order)
    (left-taken S.orders m.active lots sound.rising m.among has) in
    subst (λ (g : Fill). lots_left (lowered g.maker g.maker_number g.lots S.orders) + g.lots ≤ lots_left S.orders) (sym is) gives

sent-filled : (S : State) (f : Fill) → lots_left (lowered f.maker f.maker_number f.lots S.orders) + f.lots ≤ lots_left S.orders → lots_sent (filled S f) ≤ lots_sent S
unfolding lots_sent
sent-filled S f gives =
    omega (
      arith,
      total-append (λ (g : Fill). g.lots) S.fills (f ∷ []),
      left-lowered f.taker f.taker_number f.lots (lowered f.maker f.maker_number f.lots S.orders),
      gives,
    )

-- ---- sweeps and credit changes

swept-sent : (h : Header) (S : State) (t : Taker) (fills : List Fill) (left : ℕ) → IsSound h S → t.bank < bank_count h → 0 < weight_of h t.pair → Swept h S t fills left → lots_sent (filled_all S fills) ≤ lots_sent S
swept-sent h S t [] left sound bank some swept = omega arith
swept-sent h S t (f ∷ fills) left sound bank some swept =
    let best : Resting = swept.0 in
    let allowed : IsAllowed h S f = subst (IsAllowed h S) (sym swept.3) (allowed-open h S t best sound bank some swept.1 swept.2.there) in
    omega (
      arith,
      swept-sent h (filled S f) (less t f.lots) fills left (filled-sound h S f sound allowed) bank some swept.4,
      sent-filled S f (maker-gives h S t best f sound swept.2.there swept.3),
    )

raised-sent : (h : Header) (S : State) (fills : List Fill) → IsSession h → IsSound h S → Raised h S fills → lots_sent (filled_all S fills) ≤ lots_sent S
raised-sent h S fills session sound raised =
    pairs-walk h (λ S fills. lots_sent (filled_all S fills) ≤ lots_sent S) (λ S _. omega arith)
    (λ S own more first later. omega (arith, first, later, ap lots_sent (filled_all-append S own more)))
    (swept-sent h) (pair_count h) 0 S fills session (omega arith) sound raised

-- ---- the commands

sent-rested : (t : Taker) (rests : ℕ) (S : State) → lots_sent (rested t rests S) ≤ lots_sent S + rests
unfolding lots_sent lots_left
sent-rested t rests S =
    cond_both (nat_lt 0 rests) (record S { orders = S.orders ++ at_rest t rests ∷ [] }) S (λ (T : State). lots_sent T ≤ lots_sent S + rests)
    (λ _. omega (arith, total-append (λ (a : ActiveOrder). a.order.left) S.orders (at_rest t rests ∷ []))) (λ _. omega arith)

ordered-sent : (h : Header) (S : State) (bank : ℕ) (side : Side) (pair price lots : ℕ) (life : Life) (outcome : Outcome) → IsSound h S → bank < bank_count h → 0 < weight_of h pair → lots ≤ 1000000 → IsOrdered h S (taker_of S bank side pair price lots) life outcome → lots_sent (changed S bank (Order side pair price lots life) outcome) ≤ lots_sent S + 1000000
ordered-sent h S bank side pair price lots Day (Ordered done rests fills) sound sender some most is =
    let t : Taker = taker_of S bank side pair price lots in
    omega (arith, sent-rested t rests (filled_all S fills), swept-sent h S t fills rests sound sender some is.0, is.2)
ordered-sent h S bank side pair price lots Ioc (Ordered done rests fills) sound sender some most is =
    let t : Taker = taker_of S bank side pair price lots in
    omega (arith, sent-rested t rests (filled_all S fills), swept-sent h S t fills (lots - done) sound sender some is.0, is.2)
ordered-sent h S bank side pair price lots Fok (Ordered done rests fills) sound sender some most is =
    let t : Taker = taker_of S bank side pair price lots in
    omega (arith, sent-rested t rests (filled_all S fills), swept-sent h S t fills 0 sound sender some is.0, is.2)
ordered-sent h S bank side pair price lots Fok Killed sound sender some most is = omega arith
ordered-sent h S bank side pair price lots life outcome sound sender some most is = absurd is

-- fewer orders have no more left
left-fewer : (stays : ActiveOrder → Bool) (orders : List ActiveOrder) → lots_left (filter stays orders) ≤ lots_left orders
unfolding lots_left
left-fewer stays [] = omega arith
left-fewer stays (a ∷ orders) =
    cond_both (stays a) (a ∷ filter stays orders) (filter stays orders) (λ (os : List ActiveOrder). lots_left os ≤ a.order.left + lots_left orders)
    (λ _. omega (arith, left-fewer stays orders)) (λ _. omega (arith, left-fewer stays orders))

-- where no order is the one of this bank and number, none is reduced
left-unreduced : (first : ActiveOrder) (left : ℕ) (orders : List ActiveOrder) → Each (Rises first) orders → lots_left (reduced first.order.bank first.order.number left orders) ≤ lots_left orders
unfolding lots_left
left-unreduced first left [] rising = omega arith
left-unreduced first left (a ∷ orders) rising =
    let bank : ℕ = first.order.bank in
    let number : ℕ = first.order.number in
    let rest : lots_left (reduced bank number left orders) ≤ lots_left orders = left-unreduced first left orders rising.1 in
    cond_both (is_order bank number a.order) (with_left a left) a
    (λ (b : ActiveOrder). b.order.left + lots_left (reduced bank number left orders) ≤ a.order.left + lots_left orders)
    (λ is. let says = is_order-says bank number a.order is in absurd (rising.0.number (sym says.0) (sym says.1)))
    (λ _. omega (arith, rest))

-- one order at most is reduced
left-reduced : (bank number left : ℕ) (orders : List ActiveOrder) → EachPair Rises orders → lots_left (reduced bank number left orders) ≤ lots_left orders + left
unfolding lots_left
left-reduced bank number left [] rising = omega arith
left-reduced bank number left (a ∷ orders) rising =
    cond_both (is_order bank number a.order) (with_left a left) a
    (λ (b : ActiveOrder). b.order.left + lots_left (reduced bank number left orders) ≤ a.order.left + lots_left orders + left)
    (λ is.
    let says = is_order-says bank number a.order is in
    let others : lots_left (reduced bank number left orders) ≤ lots_left orders =
    subst (λ b. lots_left (reduced b number left orders) ≤ lots_left orders) says.0
    (subst (λ n. lots_left (reduced a.order.bank n left orders) ≤ lots_left orders) says.1 (left-unreduced a left orders rising.0)) in
    omega (arith, others))
    (λ _. omega (arith, left-reduced bank number left orders rising.1))

cancel-sent : (S : State) (bank pair number : ℕ) (outcome : Outcome) → lots_sent (changed S bank (Cancel pair number) outcome) ≤ lots_sent S
unfolding lots_sent
cancel-sent S bank pair number (Cancelled left) = omega (arith, left-fewer (λ active. not (is_order bank number active.order)) S.orders)
cancel-sent S bank pair number outcome = omega arith

reduce-sent : (h : Header) (S : State) (bank pair number lots : ℕ) (outcome : Outcome) → IsSound h S → lots ≤ 1000000 → IsOutcome h S bank (Reduce pair number lots) outcome → lots_sent (changed S bank (Reduce pair number lots) outcome) ≤ lots_sent S + 1000000
unfolding lots_sent
reduce-sent h S bank pair number lots (Reduced left) sound most is =
    omega (arith, left-reduced bank number left S.orders sound.rising, reduced_to lots left (order_of S pair bank number) is)
reduce-sent h S bank pair number lots outcome sound most is = omega arith

pull-sent : (S : State) (bank pair : ℕ) (outcome : Outcome) → lots_sent (changed S bank (Pull pair) outcome) ≤ lots_sent S
unfolding lots_sent
pull-sent S bank pair (Pulled count) = omega (arith, left-fewer (λ active. not (eqb active.pair pair && eqb active.order.bank bank)) S.orders)
pull-sent S bank pair outcome = omega arith

line-sent : (h : Header) (S : State) (bank other asked : ℕ) (outcome : Outcome) → IsSession h → IsSound h S → IsCommand h bank (Line other asked) → IsOutcome h S bank (Line other asked) outcome → lots_sent (changed S bank (Line other asked) outcome) ≤ lots_sent S
unfolding lots_sent
line-sent h S bank other asked (LineSet limit fills) session sound command is =
    raised-sent h (limited bank other limit S) fills session
    (limited-sound h S bank other asked limit sound command.sends command.values.0 command.values.1 command.values.2 is.0) is.1
line-sent h S bank other asked outcome session sound command is = absurd is

total-sent : (h : Header) (S : State) (bank asked : ℕ) (outcome : Outcome) → IsSession h → IsSound h S → IsCommand h bank (Total asked) → IsOutcome h S bank (Total asked) outcome → lots_sent (changed S bank (Total asked) outcome) ≤ lots_sent S
unfolding lots_sent
total-sent h S bank asked (TotalSet most fills) session sound command is =
    raised-sent h (totalled bank most S) fills session
    (totalled-sound h S bank asked most session sound command.sends.0 command.sends.1 command.values is.0) is.1
total-sent h S bank asked outcome session sound command is = absurd is

settle-sent : (h : Header) (S : State) (sender a b asked : ℕ) (outcome : Outcome) → IsSession h → IsSound h S → IsCommand h sender (Settle a b asked) → IsOutcome h S sender (Settle a b asked) outcome → lots_sent (changed S sender (Settle a b asked) outcome) ≤ lots_sent S
unfolding lots_sent
settle-sent h S sender a b asked (Settled given fills) session sound command is =
    raised-sent h (settled a b given S) fills session (settled-sound h S a b asked given sound command.sends.0 is.0) is.1
settle-sent h S sender a b asked outcome session sound command is = absurd is

changed-sent : (h : Header) (S : State) (bank : ℕ) (command : Command) (outcome : Outcome) → IsSession h → IsSound h S → IsCommand h bank command → IsOutcome h S bank command outcome → lots_sent (changed S bank command outcome) ≤ lots_sent S + 1000000
changed-sent h S bank (Order side pair price lots life) outcome session sound valid is =
    ordered-sent h S bank side pair price lots life outcome sound valid.sends (weight_of-least h pair session valid.values.0) valid.values.2.1 is
changed-sent h S bank (Cancel pair number) outcome session sound valid is = omega (arith, cancel-sent S bank pair number outcome)
changed-sent h S bank (Reduce pair number lots) outcome session sound valid is = reduce-sent h S bank pair number lots outcome sound valid.values.2.1 is
changed-sent h S bank (Pull pair) outcome session sound valid is = omega (arith, pull-sent S bank pair outcome)
changed-sent h S bank (Line other asked) outcome session sound valid is = omega (arith, line-sent h S bank other asked outcome session sound valid is)
changed-sent h S bank (Total asked) outcome session sound valid is = omega (arith, total-sent h S bank asked outcome session sound valid is)
changed-sent h S bank (Settle a b asked) outcome session sound valid is = omega (arith, settle-sent h S bank a b asked outcome session sound valid is)
changed-sent h S bank (Show other) outcome session sound valid is = omega arith
changed-sent h S bank (Book pair) outcome session sound valid is = omega arith
changed-sent h S bank (Bad reason) outcome session sound valid is = omega arith

-- ---- histories

arrivals-after : (h : Header) (S : State) (e : Entry) → IsSession h → IsSound h S → IsStep h S e → arrivals (after_entry S e) ≡ arrivals S + 1
arrivals-after h S e session sound step =
    let T : State = changed S e.bank e.command e.outcome in
    let counts : T.counts ≡ S.counts = changed-counts S e.bank e.command e.outcome in
    let within : e.bank < length T.counts = omega (arith, command-place h e.bank e.command session step.command, sound.counts, ap length counts) in
    omega (arith, total-set (λ (count : ℕ). count) T.counts e.bank (count_of T e.bank + 1) 0 within, ap (total (λ (count : ℕ). count)) counts)

steps-sent : (h : Header) (S : State) (entries : List Entry) → IsSession h → IsSound h S → Steps h S entries → lots_sent S ≤ 10 ^ 6 * arrivals S → lots_sent (after_all S entries) ≤ 10 ^ 6 * arrivals (after_all S entries)
unfolding lots_sent
steps-sent h S [] session sound steps so_far = so_far
steps-sent h S (e ∷ entries) session sound steps so_far =
    let step : IsStep h S e = steps.0 in
    let next : IsSound h (after_entry S e) = after-sound h S e.bank e.command e.outcome session sound step.command step.outcome in
    let rises : lots_sent (after_entry S e) ≤ lots_sent S + 1000000 = changed-sent h S e.bank e.command e.outcome session sound step.command step.outcome in
    steps-sent h (after_entry S e) entries session next steps.1 (omega (arith, rises, so_far, arrivals-after h S e session sound step))

-- the lots of all fills are at most those of so many orders of 10^6 lots as commands were sent
pub traded-sent : (h : Header) (entries : List Entry) → IsLegal h entries → total (λ (f : Fill). f.lots) (state h entries).fills ≤ 10 ^ 6 * arrivals (state h entries)
unfolding lots_sent lots_left
traded-sent h entries legal =
    omega (arith, steps-sent h (opening h) entries legal.session (opening-sound h legal.session) legal.steps (omega arith))

-- and so at most those of 65 senders' commands
pub traded-most : (h : Header) (entries : List Entry) → IsLegal h entries → total (λ (f : Fill). f.lots) (state h entries).fills ≤ 10 ^ 6 * (65 * 2 ^ 32)
traded-most h entries legal = omega (arith, traded-sent h entries legal, arrivals-most h entries legal)
