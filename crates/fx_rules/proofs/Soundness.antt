-- Every state of a legal history is sound.
use Rattle.std.proofs.Common.{get_or-set_same as get_or_set_here, ℕ, zero, suc, ◌≡◌, ◌+◌, ◌-◌, ◌*◌, ◌≤◌, ◌<◌, ltb, List, [], ◌∷◌, ◌++◌, not, ◌&&◌, eqb, cond, inl, inr, refl, ap, sym, subst, ◌∙◌, arith, length, get_or, Option, Some, None}
use Rattle.std.proofs.Math.ListN.{set, length-set}
use Rattle.std.specs.Prelude.{All, IfSome}
use Rattle.std.proofs.lemmas.Bool.{cases_lt, cond_both, ltb-true}
use Rattle.std.proofs.lemmas.List.{length-replicate}
use Rattle.std.proofs.Math.Nat.{mul-le-mul_left}
use Rattle.fx_amounts.specs.declared.side.Side.{Side}
use Rattle.fx_amounts.specs.Price.{IsPrice}
use Rattle.fx_amounts.specs.Quantity.{IsLots, IsUnits}
use Rattle.fx_rules.specs.declared.orders.ActiveOrder.{ActiveOrder}
use Rattle.fx_rules.specs.declared.orders.Fill.{Fill}
use Rattle.fx_rules.specs.declared.command.Command.{Command}
use Rattle.fx_rules.specs.declared.command.Command.TheVariants.{Order, Cancel, Reduce, Pull, Line, Total, Settle, Show, Book, Bad}
use Rattle.fx_rules.specs.declared.command.Life.{Life}
use Rattle.fx_rules.specs.declared.command.Life.TheVariants.{Day, Ioc, Fok}
use Rattle.fx_rules.specs.declared.outcome.Outcome.{Outcome}
use Rattle.fx_rules.specs.declared.outcome.Outcome.TheVariants.{Ordered, Killed, Cancelled, Reduced, Pulled, LineSet, TotalSet, Settled}
use Rattle.fx_rules.specs.declared.outcome.Entry.{Entry}
use Rattle.fx_rules.specs.Lists.{total}
use Rattle.fx_rules.specs.Session.{Header, IsSession, bank_count, pair_count, sender_places, weight_of, opening_limit, opening_total}
use Rattle.fx_rules.specs.State.{State, opening, arrivals, count_of, used}
use Rattle.fx_rules.specs.Sweep.{Taker, Swept, filled_all, is_order, taker_of}
use Rattle.fx_rules.specs.Raise.{Raised, limited, totalled, settled, order_of}
use Rattle.fx_rules.specs.Step.{IsCommand, IsOrdered, IsOutcome, rested, counted, changed, after}
use Rattle.fx_rules.specs.History.{IsStep, Steps, IsLegal, after_entry, after_all, state}
use Rattle.fx_rules.specs.Sound.{IsSound, IsKept, Rises}
use Rattle.fx_rules.proofs.ListLemmas.{Each-append, Each-weaker, EachPair-push, total-set}
use Rattle.fx_rules.proofs.Senders.{command-place}
use Rattle.fx_rules.proofs.RaiseSound.{limited-sound, totalled-sound, settled-sound, raised-sound}
use Rattle.fx_rules.proofs.Totals.{total_others-none}
use Rattle.fx_rules.proofs.PlainSound.{fewer-sound, reduced-sound, reduced_to}
pub use Rattle.fx_rules.proofs.SweepSound.{filled-sound, swept-sound, counts-filled_all, filled_all-append, weight_of-least}

-- a count that is raised lets no count fall
set_more : (counts : List ℕ) (i j : ℕ) → get_or counts j 0 ≤ get_or (set counts i (get_or counts i 0 + 1)) j 0
set_more [] i j = omega arith
set_more (c ∷ counts) zero zero = omega arith
set_more (c ∷ counts) zero (suc j) = omega arith
set_more (c ∷ counts) (suc i) zero = omega arith
set_more (c ∷ counts) (suc i) (suc j) = set_more counts i j

kept_counted : (h : Header) (counts : List ℕ) (bank : ℕ) → bank < length counts → (a : ActiveOrder) → IsKept h counts a → IsKept h (set counts bank (get_or counts bank 0 + 1)) a
kept_counted h counts bank within a kept = record {
  pair = kept.pair;
  bank = kept.bank;
  number_least = kept.number_least;
  number_most = omega (arith, kept.number_most, set_more counts bank a.order.bank);
  price = kept.price;
  left = kept.left;
  arrival = omega (arith, kept.arrival, total-set (λ c. c) counts bank (get_or counts bank 0 + 1) 0 within);
}

pub counted-sound : (h : Header) (S : State) (sender : ℕ) → IsSound h S → sender < sender_places h → IsSound h (counted sender S)
counted-sound h S sender sound within = record {
  counts = length-set S.counts sender (count_of S sender + 1) ∙ sound.counts;
  kept = Each-weaker (IsKept h S.counts) (IsKept h (set S.counts sender (count_of S sender + 1)))
      (kept_counted h S.counts sender (omega (arith, sound.counts))) S.orders sound.kept;
  rising = sound.rising;
  within = record { lines = sound.within.lines; totals = sound.within.totals };
  limits = sound.limits;
  totals = sound.totals;
  covered = sound.covered;
  version_least = sound.version_least;
  version_most = sound.version_most;
  plain = λ first. let plain = sound.plain first in record { totals = plain.totals; settlements = plain.settlements };
}

-- an order as it comes to rest
unfoldable pub resting_of : Taker → ℕ → ActiveOrder
resting_of t rests = record {
  pair = t.pair;
  order = record { bank = t.bank; number = t.number; side = t.side; price = t.price; left = rests; arrival = t.arrival };
}

-- a taker that is its bank's next command
pub record IsNext (h : Header) (S : State) (t : Taker) : Type 0 where
  pub bank : t.bank < bank_count h
  pub place : t.bank < sender_places h
  pub pair : t.pair < pair_count h
  pub number : t.number ≡ count_of S t.bank + 1
  pub arrival : t.arrival ≡ arrivals S
  pub price : IsPrice t.price

before_next : (h : Header) (S : State) (t : Taker) (rests : ℕ) → IsNext h S t → (a : ActiveOrder) → IsKept h S.counts a → Rises a (resting_of t rests)
unfolding resting_of
before_next h S t rests next a kept = record {
  arrival = omega (arith, kept.arrival, next.arrival);
  number = λ same differ.
      let most : a.order.number ≤ get_or S.counts t.bank 0 = subst (λ b. a.order.number ≤ get_or S.counts b 0) same kept.number_most in
      absurd (omega (arith, next.number, differ));
}

pub pushed-sound : (h : Header) (S : State) (t : Taker) (rests : ℕ) → IsSound h S → IsNext h S t → 0 < rests → rests ≤ 1000000 → IsSound h (counted t.bank (record S { orders = S.orders ++ resting_of t rests ∷ [] }))
unfolding resting_of
pushed-sound h S t rests sound next some most =
    let counted_sound : IsSound h (counted t.bank S) = counted-sound h S t.bank sound next.place in
    let within : t.bank < length S.counts = omega (arith, sound.counts, next.place) in
    record {
      counts = counted_sound.counts;
      kept = Each-append (IsKept h (set S.counts t.bank (count_of S t.bank + 1))) S.orders (resting_of t rests ∷ []) counted_sound.kept (
        record {
          pair = next.pair;
          bank = next.bank;
          number_least = omega (arith, next.number);
          number_most = omega (arith, next.number, get_or_set_here S.counts t.bank (count_of S t.bank + 1) 0 within);
          price = next.price;
          left = (omega arith, most);
          arrival = omega (arith, next.arrival, total-set (λ c. c) S.counts t.bank (count_of S t.bank + 1) 0 within);
        },
        tt,
      );
      rising = EachPair-push Rises S.orders (resting_of t rests) sound.rising
          (Each-weaker (IsKept h S.counts) (λ a. Rises a (resting_of t rests)) (before_next h S t rests next) S.orders sound.kept);
      within = record { lines = sound.within.lines; totals = sound.within.totals };
      limits = sound.limits;
      totals = sound.totals;
      covered = sound.covered;
      version_least = sound.version_least;
      version_most = sound.version_most;
      plain = λ first. let plain = sound.plain first in record { totals = plain.totals; settlements = plain.settlements };
    }

pub next_same : (h : Header) (S S' : State) (t : Taker) → S'.counts ≡ S.counts → IsNext h S t → IsNext h S' t
next_same h S S' t same next = record {
  bank = next.bank;
  place = next.place;
  pair = next.pair;
  number = next.number ∙ ap (λ counts. get_or counts t.bank 0 + 1) (sym same);
  arrival = next.arrival ∙ ap (total (λ c. c)) (sym same);
  price = next.price;
}

-- an order that was swept may rest with what is left
pub rested-sound : (h : Header) (S : State) (t : Taker) (rests : ℕ) → IsSound h S → IsNext h S t → rests ≤ 1000000 → IsSound h (counted t.bank (rested t rests S))
unfolding resting_of
rested-sound h S t rests sound next most =
    cond_both (ltb 0 rests) (record S { orders = S.orders ++ resting_of t rests ∷ [] }) S (λ T. IsSound h (counted t.bank T))
    (λ some. pushed-sound h S t rests sound next (ltb-true 0 rests some) most)
    (λ _. counted-sound h S t.bank sound next.place)

-- a swept order that rests leaves a sound state
swept_rested : (h : Header) (S : State) (t : Taker) (fills : List Fill) (left rests : ℕ) → IsSound h S → IsNext h S t → 0 < weight_of h t.pair → t.left ≤ 1000000 → Swept h S t fills left → rests ≤ t.left → IsSound h (counted t.bank (rested t rests (filled_all S fills)))
swept_rested h S t fills left rests sound next some most swept within =
    rested-sound h (filled_all S fills) t rests (swept-sound h S t fills left sound next.bank some swept).0
    (next_same h S (filled_all S fills) t (counts-filled_all S fills) next) (omega arith)

-- the next order command of a bank
pub taker_of-next : (h : Header) (S : State) (bank : ℕ) (side : Side) (pair price lots : ℕ) (life : Life) → IsSession h → IsCommand h bank (Order side pair price lots life) → IsNext h S (taker_of S bank side pair price lots)
taker_of-next h S bank side pair price lots life session command = record {
  bank = command.sends;
  place = command-place h bank (Order side pair price lots life) session command;
  pair = command.values.0;
  number = refl;
  arrival = refl;
  price = command.values.1;
}

pub ordered-sound : (h : Header) (S : State) (bank : ℕ) (side : Side) (pair price lots : ℕ) (life : Life) (outcome : Outcome) → IsSession h → IsSound h S → IsCommand h bank (Order side pair price lots life) → IsOrdered h S (taker_of S bank side pair price lots) life outcome → IsSound h (after S bank (Order side pair price lots life) outcome)
ordered-sound h S bank side pair price lots Day (Ordered done rests fills) session sound command ordered =
    swept_rested h S (taker_of S bank side pair price lots) fills rests rests sound (taker_of-next h S bank side pair price lots Day session command)
    (weight_of-least h pair session command.values.0) command.values.2.1 ordered.0 ordered.2
ordered-sound h S bank side pair price lots Ioc (Ordered done rests fills) session sound command ordered =
    swept_rested h S (taker_of S bank side pair price lots) fills (lots - done) rests sound (taker_of-next h S bank side pair price lots Ioc session command)
    (weight_of-least h pair session command.values.0) command.values.2.1 ordered.0 (omega (arith, ordered.2))
ordered-sound h S bank side pair price lots Fok (Ordered done rests fills) session sound command ordered =
    swept_rested h S (taker_of S bank side pair price lots) fills 0 rests sound (taker_of-next h S bank side pair price lots Fok session command)
    (weight_of-least h pair session command.values.0) command.values.2.1 ordered.0 (omega (arith, ordered.2))
ordered-sound h S bank side pair price lots Fok Killed session sound command ordered =
    counted-sound h S bank sound (command-place h bank (Order side pair price lots Fok) session command)
ordered-sound h S bank side pair price lots life outcome session sound command ordered = absurd ordered

-- what each raise leaves of a sound state, a credit change leaves too
module _ (h : Header) (P : State → Type 0) (raise : (T : State) (fills : List Fill) → IsSound h T → Raised h T fills → P (filled_all T fills)) where
  pub after-line : (S : State) (bank other asked : ℕ) (outcome : Outcome) → IsSound h S → IsCommand h bank (Line other asked) → IsOutcome h S bank (Line other asked) outcome → P (changed S bank (Line other asked) outcome)
  after-line S bank other asked (LineSet limit fills) sound command is =
      raise (limited bank other limit S) fills
      (limited-sound h S bank other asked limit sound command.sends command.values.0 command.values.1 command.values.2 is.0) is.1
  after-line S bank other asked outcome sound command is = absurd is

  pub after-total : (S : State) (bank asked : ℕ) (outcome : Outcome) → IsSession h → IsSound h S → IsCommand h bank (Total asked) → IsOutcome h S bank (Total asked) outcome → P (changed S bank (Total asked) outcome)
  after-total S bank asked (TotalSet most fills) session sound command is =
      raise (totalled bank most S) fills
      (totalled-sound h S bank asked most session sound command.sends.0 command.sends.1 command.values is.0) is.1
  after-total S bank asked outcome session sound command is = absurd is

  pub after-settle : (S : State) (sender a b asked : ℕ) (outcome : Outcome) → IsSound h S → IsCommand h sender (Settle a b asked) → IsOutcome h S sender (Settle a b asked) outcome → P (changed S sender (Settle a b asked) outcome)
  after-settle S sender a b asked (Settled given fills) sound command is =
      raise (settled a b given S) fills
      (settled-sound h S a b asked given sound command.sends.0 is.0) is.1
  after-settle S sender a b asked outcome sound command is = absurd is

raises-sound : (h : Header) → IsSession h → (T : State) (fills : List Fill) → IsSound h T → Raised h T fills → IsSound h (filled_all T fills)
raises-sound h session T fills sound raised = raised-sound h T fills session sound raised

cancel-sound : (h : Header) (S : State) (bank pair number : ℕ) (outcome : Outcome) → IsSound h S → IsSound h (changed S bank (Cancel pair number) outcome)
cancel-sound h S bank pair number (Cancelled left) sound = fewer-sound h S (λ active. not (is_order bank number active.order)) sound
cancel-sound h S bank pair number outcome sound = sound

reduce-sound : (h : Header) (S : State) (bank pair number lots : ℕ) (outcome : Outcome) → IsSound h S → IsLots lots → IsOutcome h S bank (Reduce pair number lots) outcome → IsSound h (changed S bank (Reduce pair number lots) outcome)
reduce-sound h S bank pair number lots (Reduced left) sound valid is =
    reduced-sound h S bank number left sound (subst IsLots (sym (reduced_to lots left (order_of S pair bank number) is)) valid)
reduce-sound h S bank pair number lots outcome sound valid is = sound

pull-sound : (h : Header) (S : State) (bank pair : ℕ) (outcome : Outcome) → IsSound h S → IsSound h (changed S bank (Pull pair) outcome)
pull-sound h S bank pair (Pulled count) sound = fewer-sound h S (λ active. not (eqb active.pair pair && eqb active.order.bank bank)) sound
pull-sound h S bank pair outcome sound = sound

-- each command leaves a sound state
pub after-sound : (h : Header) (S : State) (bank : ℕ) (command : Command) (outcome : Outcome) → IsSession h → IsSound h S → IsCommand h bank command → IsOutcome h S bank command outcome → IsSound h (after S bank command outcome)
after-sound h S bank (Order side pair price lots life) outcome session sound valid is =
    ordered-sound h S bank side pair price lots life outcome session sound valid is
after-sound h S bank (Cancel pair number) outcome session sound valid is =
    counted-sound h (changed S bank (Cancel pair number) outcome) bank (cancel-sound h S bank pair number outcome sound) (command-place h bank (Cancel pair number) session valid)
after-sound h S bank (Reduce pair number lots) outcome session sound valid is =
    counted-sound h (changed S bank (Reduce pair number lots) outcome) bank (reduce-sound h S bank pair number lots outcome sound valid.values.2 is) (command-place h bank (Reduce pair number lots) session valid)
after-sound h S bank (Pull pair) outcome session sound valid is =
    counted-sound h (changed S bank (Pull pair) outcome) bank (pull-sound h S bank pair outcome sound) (command-place h bank (Pull pair) session valid)
after-sound h S bank (Line other asked) outcome session sound valid is =
    counted-sound h (changed S bank (Line other asked) outcome) bank (after-line h (IsSound h) (raises-sound h session) S bank other asked outcome sound valid is) (command-place h bank (Line other asked) session valid)
after-sound h S bank (Total asked) outcome session sound valid is =
    counted-sound h (changed S bank (Total asked) outcome) bank (after-total h (IsSound h) (raises-sound h session) S bank asked outcome session sound valid is) (command-place h bank (Total asked) session valid)
after-sound h S bank (Settle a b asked) outcome session sound valid is =
    counted-sound h (changed S bank (Settle a b asked) outcome) bank (after-settle h (IsSound h) (raises-sound h session) S bank a b asked outcome sound valid is) (command-place h bank (Settle a b asked) session valid)
after-sound h S bank (Show other) outcome session sound valid is = counted-sound h S bank sound (command-place h bank (Show other) session valid)
after-sound h S bank (Book pair) outcome session sound valid is = counted-sound h S bank sound (command-place h bank (Book pair) session valid)
after-sound h S bank (Bad reason) outcome session sound valid is = counted-sound h S bank sound (command-place h bank (Bad reason) session valid)

limit_place : (n i j : ℕ) → i < n → j < n → i * n + j < n * n
limit_place n i j i_in j_in = omega (arith, mul-le-mul_left n i_in)

limit_most : (h : Header) → IsSession h → (i j : ℕ) → i < bank_count h → j < bank_count h → IsUnits (opening_limit h i j)
limit_most h session i j i_in j_in =
    session.limits_most (i * bank_count h + j) 0 (omega (arith, limit_place (bank_count h) i j i_in j_in, session.limits_full))

none_beyond : (totals : List (Option ℕ)) (i most : ℕ) → length totals ≤ i → get_or totals i None ≡ Some most → most ≤ 1000000000000000
none_beyond [] i most beyond has = cc
none_beyond (t ∷ totals) zero most beyond has = absurd (omega (arith, beyond))
none_beyond (t ∷ totals) (suc i) most beyond has = none_beyond totals i most (omega (arith, beyond)) has

none_in : (totals : List (Option ℕ)) (i : ℕ) → length totals ≡ 0 → get_or totals i None ≡ None
none_in [] i none = refl
none_in (t ∷ totals) i none = absurd (omega (arith, none))

-- the total that a bank opens with is one of the header's
total_place : (totals : List (Option ℕ)) (i most : ℕ) → All (λ total. IfSome total (λ units. units ≤ 1000000000000000)) totals → get_or totals i None ≡ Some most → most ≤ 1000000000000000
total_place totals i most each has =
    elim (cases_lt i (length totals)) [
      | inl within ↦
          let fits : IfSome (get_or totals i None) (λ units. units ≤ 1000000000000000) = each i None within in
          subst (λ (total : Option ℕ). IfSome total (λ units. units ≤ 1000000000000000)) has fits
      | inr beyond ↦ none_beyond totals i most beyond has
    ]

total_most : (h : Header) → IsSession h → (i most : ℕ) → opening_total h i ≡ Some most → most ≤ 1000000000000000
total_most h session i most has = total_place h.totals i most session.totals_most has

none_first : (h : Header) → IsSession h → h.version ≡ 1 → (i : ℕ) → opening_total h i ≡ None
none_first h session first i = none_in h.totals i (session.totals_full ∙ ap (λ v. cond (eqb v 2) (bank_count h) 0) first)

pub opening-sound : (h : Header) → IsSession h → IsSound h (opening h)
opening-sound h session = record {
  counts = length-replicate (sender_places h) 0;
  kept = tt;
  rising = tt;
  within = record {
    lines = λ i j _ _ _. omega arith;
    totals = λ i most _ _. omega (arith, total_others-none h i (used h (opening h) i) (λ k. omega arith));
  };
  limits = λ i j i_in j_in _. limit_most h session i j i_in j_in;
  totals = λ i most _ has. omega (arith, total_most h session i most has);
  covered = λ i j. omega arith;
  version_least = session.version_least;
  version_most = session.version_most;
  plain = λ first. record { totals = none_first h session first; settlements = refl };
}

pub steps-sound : (h : Header) (S : State) (entries : List Entry) → IsSession h → IsSound h S → Steps h S entries → IsSound h (after_all S entries)
steps-sound h S [] session sound steps = sound
steps-sound h S (e ∷ es) session sound steps =
    let step = steps.0 in
    steps-sound h (after_entry S e) es session (after-sound h S e.bank e.command e.outcome session sound step.command step.outcome) steps.1

pub legal-sound : (h : Header) (entries : List Entry) → IsLegal h entries → IsSound h (state h entries)
legal-sound h entries legal = steps-sound h (opening h) entries legal.session (opening-sound h legal.session) legal.steps

pub after_all-push : (S : State) (entries : List Entry) (e : Entry) → after_all S (entries ++ e ∷ []) ≡ after_entry (after_all S entries) e
after_all-push S [] e = refl
after_all-push S (x ∷ es) e = after_all-push (after_entry S x) es e

pub Steps-push : (h : Header) (S : State) (entries : List Entry) (e : Entry) → Steps h S entries → IsStep h (after_all S entries) e → Steps h S (entries ++ e ∷ [])
Steps-push h S [] e steps step = (step, tt)
Steps-push h S (x ∷ es) e steps step = (steps.0, Steps-push h (after_entry S x) es e steps.1 step)

pub legal-push : (h : Header) (entries : List Entry) (e : Entry) → IsLegal h entries → IsStep h (state h entries) e → IsLegal h (entries ++ e ∷ [])
legal-push h entries e legal step = record { session = legal.session; steps = Steps-push h (opening h) entries e legal.steps step }
