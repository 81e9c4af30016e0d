-- The fills of a step as they are made: each between two banks of the session, in one of its pairs, at a price in range, and
-- within the line that the fills before it leave.
use Rattle.std.proofs.Common.{ℕ, zero, suc, ◌<◌, ◌≤◌, ◌+◌, ◌-◌, ◌≡◌, List, [], ◌∷◌, ◌++◌, refl, ap, sym, subst, ◌∙◌, arith, length, get_or, map}
use Rattle.std.proofs.lemmas.List.{length-map}
use Rattle.fx_rules.specs.declared.session.PairRule.{PairRule}
use Rattle.fx_rules.specs.declared.command.Command.{Command}
use Rattle.fx_rules.specs.declared.command.Command.TheVariants.{Order, Cancel, Reduce, Pull, Line, Total, Settle, Show, Book, Bad}
use Rattle.fx_rules.specs.declared.command.Life.{Life}
use Rattle.fx_rules.specs.declared.command.Life.TheVariants.{Day, Ioc, Fok}
use Rattle.fx_rules.specs.declared.outcome.Outcome.{Outcome}
use Rattle.fx_rules.specs.declared.outcome.Outcome.TheVariants.{Ordered, Killed, LineSet, TotalSet, Settled, Depth}
use Rattle.fx_rules.specs.declared.orders.Fill.{Fill}
use Rattle.fx_rules.specs.declared.orders.Resting.{Resting}
use Rattle.fx_rules.specs.Session.{Header, IsSession, bank_count, pair_count, weight_of}
use Rattle.fx_rules.specs.State.{State, reach}
use Rattle.fx_rules.specs.Sweep.{Taker, Swept, filled, filled_all, less, fill_with, amount, taker_of}
use Rattle.fx_rules.specs.Raise.{order_of, limited, totalled, settled, Turned, PairsTurned}
use Rattle.fx_rules.specs.Step.{IsCommand, IsOrdered, IsOutcome, fills_of, cancel_answer, reduce_answer, credit_changed}
use Rattle.fx_rules.specs.Sound.{IsSound}
use Rattle.fx_rules.proofs.Credit.{IsAllowed}
use Rattle.fx_rules.proofs.Opens.{IsMaker, maker_of, allowed-open}
use Rattle.fx_rules.proofs.SweepSound.{filled-sound, weight_of-least}
use Rattle.fx_rules.proofs.RaiseSound.{turned-walk, pairs-walk, limited-sound, totalled-sound, settled-sound}
use Rattle.fx_rules.proofs.Falling.{cancel_fills, reduce_fills}

pub record IsMade (h : Header) (S : State) (f : Fill) : Type 0 where
  pub allowed : IsAllowed h S f
  pub pair : f.pair < pair_count h
  pub price : f.price ≤ 1000000000

-- each of some fills is, in the state as those before it leave it
abbrev pub AreMade : Header → State → List Fill → Type 0
AreMade h S [] = Unit {0}
AreMade h S (f ∷ fills) = IsMade h S f × AreMade h (filled S f) fills

made-append : (h : Header) (S : State) (xs ys : List Fill) → AreMade h S xs → AreMade h (filled_all S xs) ys → AreMade h S (xs ++ ys)
made-append h S [] ys first later = later
made-append h S (f ∷ xs) ys first later = (first.0, made-append h (filled S f) xs ys first.1 later)

-- only a pair of the session has a weight
weighed : (weights : List ℕ) (pair : ℕ) → 0 < get_or weights pair 0 → pair < length weights
weighed [] pair some = absurd (omega arith)
weighed (w ∷ weights) zero some = omega arith
weighed (w ∷ weights) (suc pair) some = omega (arith, weighed weights pair some)

weighed_pair : (h : Header) (pair : ℕ) → 0 < weight_of h pair → pair < pair_count h
weighed_pair h pair some =
    omega (arith, weighed (map (λ (rule : PairRule). rule.weight) h.pairs) pair some, length-map h.pairs (λ (rule : PairRule). rule.weight))

-- the fill of a taker with its best order
fill-made : (h : Header) (S : State) (t : Taker) (best : Resting) (f : Fill) → 0 < weight_of h t.pair → f ≡ fill_with t best (amount t best (reach h S t.bank best.bank t.pair)) → IsMaker h S t best → IsAllowed h S f → IsMade h S f
fill-made h S t best f some is m allowed =
    let priced : f.price ≡ best.price = ap (λ (g : Fill). g.price) is in
    let kept : best.price ≡ m.active.order.price = ap (λ (o : Resting). o.price) m.order in
    record {
      allowed = allowed;
      pair = omega (arith, weighed_pair h t.pair some, ap (λ (g : Fill). g.pair) is);
      price = omega (arith, m.kept.price.1);
    }

-- those of a sweep
pub swept-made : (h : Header) (S : State) (t : Taker) (fills : List Fill) (left : ℕ) → IsSound h S → t.bank < bank_count h → 0 < weight_of h t.pair → Swept h S t fills left → AreMade h S fills
swept-made h S t [] left sound bank some swept = tt
swept-made h S t (f ∷ fills) left sound bank some swept =
    let best : Resting = swept.0 in
    let allowed : IsAllowed h S f = subst (IsAllowed h S) (sym swept.3) (allowed-open h S t best sound bank some swept.1 swept.2.there) in (
      fill-made h S t best f some swept.3 (maker_of h S t best sound swept.2.there) allowed,
      swept-made h (filled S f) (less t f.lots) fills left (filled-sound h S f sound allowed) bank some swept.4,
    )

-- of orders that are swept in turn
pub turned-made : (h : Header) (pair : ℕ) (S : State) (orders : List Resting) (fills : List Fill) → IsSound h S → 0 < weight_of h pair → Turned h pair S orders fills → AreMade h S fills
turned-made h pair S orders fills sound some =
    turned-walk h (AreMade h) (λ _ _. tt) (made-append h) (swept-made h) pair S orders fills some sound

-- and of pairs that are gone through
pairs-made : (h : Header) (pairs pair : ℕ) (S : State) (fills : List Fill) → IsSession h → pair + pairs ≤ pair_count h → IsSound h S → PairsTurned h pairs pair S fills → AreMade h S fills
pairs-made h = pairs-walk h (AreMade h) (λ _ _. tt) (made-append h) (swept-made h)

-- an outcome without fills
none_made : (h : Header) (S : State) (outcome told : Outcome) → outcome ≡ told → fills_of told ≡ [] → AreMade h S (fills_of outcome)
none_made h S outcome told is none = subst (AreMade h S) (sym (ap fills_of is ∙ none)) tt

ordered-made : (h : Header) (S : State) (t : Taker) (life : Life) (outcome : Outcome) → IsSound h S → t.bank < bank_count h → 0 < weight_of h t.pair → IsOrdered h S t life outcome → AreMade h S (fills_of outcome)
ordered-made h S t Day (Ordered done rests fills) sound bank some is = swept-made h S t fills rests sound bank some is.0
ordered-made h S t Ioc (Ordered done rests fills) sound bank some is = swept-made h S t fills (t.left - done) sound bank some is.0
ordered-made h S t Fok (Ordered done rests fills) sound bank some is = swept-made h S t fills 0 sound bank some is.0
ordered-made h S t Fok Killed sound bank some is = tt
ordered-made h S t life outcome sound bank some is = absurd is

raised-made : (h : Header) (S : State) (bank other asked : ℕ) (outcome : Outcome) → IsSession h → IsSound h S → IsCommand h bank (Line other asked) → IsOutcome h S bank (Line other asked) outcome → AreMade h (credit_changed S bank (Line other asked) outcome) (fills_of outcome)
raised-made h S bank other asked (LineSet limit fills) session sound valid is =
    pairs-made h (pair_count h) 0 (limited bank other limit S) fills session (omega arith) (limited-sound h S bank other asked limit sound valid.sends valid.values.0 valid.values.1 valid.values.2 is.0) is.1
raised-made h S bank other asked outcome session sound valid is = absurd is

total-made : (h : Header) (S : State) (bank asked : ℕ) (outcome : Outcome) → IsSession h → IsSound h S → IsCommand h bank (Total asked) → IsOutcome h S bank (Total asked) outcome → AreMade h (credit_changed S bank (Total asked) outcome) (fills_of outcome)
total-made h S bank asked (TotalSet most fills) session sound valid is =
    pairs-made h (pair_count h) 0 (totalled bank most S) fills session (omega arith) (totalled-sound h S bank asked most session sound valid.sends.0 valid.sends.1 valid.values is.0) is.1
total-made h S bank asked outcome session sound valid is = absurd is

settle-made : (h : Header) (S : State) (sender a b asked : ℕ) (outcome : Outcome) → IsSession h → IsSound h S → IsCommand h sender (Settle a b asked) → IsOutcome h S sender (Settle a b asked) outcome → AreMade h (credit_changed S sender (Settle a b asked) outcome) (fills_of outcome)
settle-made h S sender a b asked (Settled given fills) session sound valid is =
    pairs-made h (pair_count h) 0 (settled a b given S) fills session (omega arith) (settled-sound h S a b asked given sound valid.sends.0 is.0) is.1
settle-made h S sender a b asked outcome session sound valid is = absurd is

book_made : (h : Header) (S : State) (bank pair : ℕ) (outcome : Outcome) → IsOutcome h S bank (Book pair) outcome → AreMade h S (fills_of outcome)
book_made h S bank pair (Depth bids asks) is = tt
book_made h S bank pair outcome is = absurd is

-- the fills of a command's outcome
pub outcome-made : (h : Header) (S : State) (bank : ℕ) (command : Command) (outcome : Outcome) → IsSession h → IsSound h S → IsCommand h bank command → IsOutcome h S bank command outcome → AreMade h (credit_changed S bank command outcome) (fills_of outcome)
outcome-made h S bank (Order side pair price lots life) outcome session sound valid is =
    ordered-made h S (taker_of S bank side pair price lots) life outcome sound valid.sends (weight_of-least h pair session valid.values.0) is
outcome-made h S bank (Cancel pair number) outcome session sound valid is =
    none_made h S outcome (cancel_answer (order_of S pair bank number)) is (cancel_fills (order_of S pair bank number))
outcome-made h S bank (Reduce pair number lots) outcome session sound valid is =
    none_made h S outcome (reduce_answer lots (order_of S pair bank number)) is (reduce_fills lots (order_of S pair bank number))
outcome-made h S bank (Pull pair) outcome session sound valid is = none_made h S outcome _ is refl
outcome-made h S bank (Line other asked) outcome session sound valid is = raised-made h S bank other asked outcome session sound valid is
outcome-made h S bank (Total asked) outcome session sound valid is = total-made h S bank asked outcome session sound valid is
outcome-made h S bank (Settle a b asked) outcome session sound valid is = settle-made h S bank a b asked outcome session sound valid is
outcome-made h S bank (Show other) outcome session sound valid is = none_made h S outcome _ is refl
outcome-made h S bank (Book pair) outcome session sound valid is = book_made h S bank pair outcome is
outcome-made h S bank (Bad reason) outcome session sound valid is = none_made h S outcome _ is refl
