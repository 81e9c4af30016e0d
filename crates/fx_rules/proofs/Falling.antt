-- The fills, the limits, the totals and the settlements after a command, and by how much an entry lets what limits and totals leave
-- fall and rise.
use Rattle.std.proofs.Common.{ℕ, ◌≡◌, ◌≢◌, ◌+◌, ◌-◌, ◌≤◌, ◌<◌, min, List, [], ◌∷◌, ◌++◌, refl, ap, sym, subst, ◌∙◌, arith, append_assoc, Option, Some, None}
use Rattle.std.proofs.lemmas.Bool.{cond_both}
use Rattle.std.proofs.lemmas.List.{append-nil}
use Rattle.std.specs.Prelude.{nat_lt}
use Rattle.fx_amounts.specs.declared.side.Side.{Side}
use Rattle.fx_rules.specs.declared.orders.Resting.{Resting}
use Rattle.fx_rules.specs.declared.orders.Fill.{Fill}
use Rattle.fx_rules.specs.declared.command.Command.{Command}
use Rattle.fx_rules.specs.declared.command.Command.TheVariants.{Order, Cancel, Reduce, Pull, Line, Total, Settle, Show, Book, Bad}
use Rattle.fx_rules.specs.declared.command.Life.{Life}
use Rattle.fx_rules.specs.declared.command.Life.TheVariants.{Day, Ioc, Fok}
use Rattle.fx_rules.specs.declared.outcome.Outcome.{Outcome}
use Rattle.fx_rules.specs.declared.outcome.Outcome.TheVariants.{Ordered, Killed, Cancelled, Reduced, NotLess, Pulled, LineSet, TotalSet, Settled, Depth}
use Rattle.fx_rules.specs.declared.outcome.Entry.{Entry}
use Rattle.fx_rules.specs.Lists.{total}
use Rattle.fx_rules.specs.Session.{Header, IsSession, bank_count}
use Rattle.fx_rules.specs.State.{State, Settlement, used, spent, others, cost_between, settled_between, left_of_limits}
use Rattle.fx_rules.specs.Sweep.{Taker, filled, filled_all, taker_of}
use Rattle.fx_rules.specs.Raise.{limited, totalled, settled, order_of}
use Rattle.fx_rules.specs.Step.{IsCommand, IsOrdered, IsOutcome, cancel_answer, reduce_answer, rested, changed, credit_changed, fills_of}
use Rattle.fx_rules.specs.History.{IsStep, after_entry, before_fills, given_by, given_between, Falls}
use Rattle.fx_rules.specs.Sound.{IsSound}
use Rattle.fx_rules.proofs.Credit.{cost_between-append, settled_between-append, used-swap}
use Rattle.fx_rules.proofs.Totals.{total_adds}
use Rattle.fx_rules.proofs.RaiseSound.{limited-sound, totalled-sound}
use Rattle.fx_rules.proofs.Soundness.{after-sound, resting_of}

pub fills-filled_all : (S : State) (fills : List Fill) → (filled_all S fills).fills ≡ S.fills ++ fills
fills-filled_all S [] = sym (append-nil S.fills)
fills-filled_all S (f ∷ fills) = fills-filled_all (filled S f) fills ∙ append_assoc S.fills (f ∷ []) fills

pub fills-rested : (t : Taker) (rests : ℕ) (S : State) → (rested t rests S).fills ≡ S.fills
unfolding resting_of
fills-rested t rests S = cond_both (nat_lt 0 rests) (record S { orders = S.orders ++ resting_of t rests ∷ [] }) S (λ (T : State). T.fills ≡ S.fills) (λ _. refl) (λ _. refl)

no_more : (fills : List Fill) (outcome : Outcome) → fills_of outcome ≡ [] → fills ≡ fills ++ fills_of outcome
no_more fills outcome none = sym (append-nil fills) ∙ ap (λ more. fills ++ more) (sym none)

pub cancel_fills : (o : Option Resting) → fills_of (cancel_answer o) ≡ []
cancel_fills None = refl
cancel_fills (Some order) = refl

pub reduce_fills : (lots : ℕ) (o : Option Resting) → fills_of (reduce_answer lots o) ≡ []
reduce_fills lots None = refl
reduce_fills lots (Some order) =
    cond_both (nat_lt lots order.left) (Reduced lots) (NotLess order.left) (λ (answer : Outcome). fills_of answer ≡ []) (λ _. refl) (λ _. refl)

cancel_adds : (S : State) (bank pair number : ℕ) (outcome : Outcome) → (changed S bank (Cancel pair number) outcome).fills ≡ S.fills
cancel_adds S bank pair number (Cancelled left) = refl
cancel_adds S bank pair number outcome = refl

reduce_adds : (S : State) (bank pair number lots : ℕ) (outcome : Outcome) → (changed S bank (Reduce pair number lots) outcome).fills ≡ S.fills
reduce_adds S bank pair number lots (Reduced left) = refl
reduce_adds S bank pair number lots outcome = refl

pull_adds : (S : State) (bank pair : ℕ) (outcome : Outcome) → (changed S bank (Pull pair) outcome).fills ≡ S.fills
pull_adds S bank pair (Pulled count) = refl
pull_adds S bank pair outcome = refl

ordered-fills : (h : Header) (S : State) (bank : ℕ) (side : Side) (pair price lots : ℕ) (life : Life) (outcome : Outcome) → IsOrdered h S (taker_of S bank side pair price lots) life outcome → (changed S bank (Order side pair price lots life) outcome).fills ≡ S.fills ++ fills_of outcome
ordered-fills h S bank side pair price lots Day (Ordered done rests fills) is =
    fills-rested (taker_of S bank side pair price lots) rests (filled_all S fills) ∙ fills-filled_all S fills
ordered-fills h S bank side pair price lots Ioc (Ordered done rests fills) is =
    fills-rested (taker_of S bank side pair price lots) rests (filled_all S fills) ∙ fills-filled_all S fills
ordered-fills h S bank side pair price lots Fok (Ordered done rests fills) is =
    fills-rested (taker_of S bank side pair price lots) rests (filled_all S fills) ∙ fills-filled_all S fills
ordered-fills h S bank side pair price lots Fok Killed is = sym (append-nil S.fills)
ordered-fills h S bank side pair price lots life outcome is = absurd is

line-fills : (h : Header) (S : State) (bank other asked : ℕ) (outcome : Outcome) → IsOutcome h S bank (Line other asked) outcome → (changed S bank (Line other asked) outcome).fills ≡ S.fills ++ fills_of outcome
line-fills h S bank other asked (LineSet limit fills) is = fills-filled_all (limited bank other limit S) fills
line-fills h S bank other asked outcome is = absurd is

total-fills : (h : Header) (S : State) (bank asked : ℕ) (outcome : Outcome) → IsOutcome h S bank (Total asked) outcome → (changed S bank (Total asked) outcome).fills ≡ S.fills ++ fills_of outcome
total-fills h S bank asked (TotalSet most fills) is = fills-filled_all (totalled bank most S) fills
total-fills h S bank asked outcome is = absurd is

settle-fills : (h : Header) (S : State) (sender a b asked : ℕ) (outcome : Outcome) → IsOutcome h S sender (Settle a b asked) outcome → (changed S sender (Settle a b asked) outcome).fills ≡ S.fills ++ fills_of outcome
settle-fills h S sender a b asked (Settled given fills) is = fills-filled_all (settled a b given S) fills
settle-fills h S sender a b asked outcome is = absurd is

book-fills : (h : Header) (S : State) (bank pair : ℕ) (outcome : Outcome) → IsOutcome h S bank (Book pair) outcome → S.fills ≡ S.fills ++ fills_of outcome
book-fills h S bank pair (Depth bids asks) is = sym (append-nil S.fills)
book-fills h S bank pair outcome is = absurd is

-- the fills after a command are those before and the outcome's
pub changed-fills : (h : Header) (S : State) (bank : ℕ) (command : Command) (outcome : Outcome) → IsOutcome h S bank command outcome → (changed S bank command outcome).fills ≡ S.fills ++ fills_of outcome
changed-fills h S bank (Order side pair price lots life) outcome is = ordered-fills h S bank side pair price lots life outcome is
changed-fills h S bank (Cancel pair number) outcome is =
    cancel_adds S bank pair number outcome ∙ no_more S.fills outcome (ap fills_of is ∙ cancel_fills (order_of S pair bank number))
changed-fills h S bank (Reduce pair number lots) outcome is =
    reduce_adds S bank pair number lots outcome ∙ no_more S.fills outcome (ap fills_of is ∙ reduce_fills lots (order_of S pair bank number))
changed-fills h S bank (Pull pair) outcome is = pull_adds S bank pair outcome ∙ no_more S.fills outcome (ap fills_of is)
changed-fills h S bank (Line other asked) outcome is = line-fills h S bank other asked outcome is
changed-fills h S bank (Total asked) outcome is = total-fills h S bank asked outcome is
changed-fills h S bank (Settle a b asked) outcome is = settle-fills h S bank a b asked outcome is
changed-fills h S bank (Show other) outcome is = no_more S.fills outcome (ap fills_of is)
changed-fills h S bank (Book pair) outcome is = book-fills h S bank pair outcome is
changed-fills h S bank (Bad reason) outcome is = no_more S.fills outcome (ap fills_of is)

-- The terms of credit: limits, totals and settlements. After a command they are those in which its fills are made.
abbrev pub Terms : Type 0
Terms = (ℕ → ℕ → ℕ) × (ℕ → Option ℕ) × List Settlement

abbrev pub terms : State → Terms
terms S = (S.limits, S.totals, S.settlements)

pub terms-filled_all : (S : State) (fills : List Fill) → terms (filled_all S fills) ≡ terms S
terms-filled_all S [] = refl
terms-filled_all S (f ∷ fills) = terms-filled_all (filled S f) fills

terms_rested : (t : Taker) (rests : ℕ) (S : State) → terms (rested t rests S) ≡ terms S
unfolding resting_of
terms_rested t rests S = cond_both (nat_lt 0 rests) (record S { orders = S.orders ++ resting_of t rests ∷ [] }) S (λ (T : State). terms T ≡ terms S) (λ _. refl) (λ _. refl)

order_terms : (S : State) (bank : ℕ) (side : Side) (pair price lots : ℕ) (life : Life) (outcome : Outcome) → terms (changed S bank (Order side pair price lots life) outcome) ≡ terms S
order_terms S bank side pair price lots life (Ordered done rests fills) = terms_rested (taker_of S bank side pair price lots) rests (filled_all S fills) ∙ terms-filled_all S fills
order_terms S bank side pair price lots life outcome = refl

cancel_terms : (S : State) (bank pair number : ℕ) (outcome : Outcome) → terms (changed S bank (Cancel pair number) outcome) ≡ terms S
cancel_terms S bank pair number (Cancelled left) = refl
cancel_terms S bank pair number outcome = refl

reduce_terms : (S : State) (bank pair number lots : ℕ) (outcome : Outcome) → terms (changed S bank (Reduce pair number lots) outcome) ≡ terms S
reduce_terms S bank pair number lots (Reduced left) = refl
reduce_terms S bank pair number lots outcome = refl

pull_terms : (S : State) (bank pair : ℕ) (outcome : Outcome) → terms (changed S bank (Pull pair) outcome) ≡ terms S
pull_terms S bank pair (Pulled count) = refl
pull_terms S bank pair outcome = refl

line_terms : (S : State) (bank other asked : ℕ) (outcome : Outcome) → terms (changed S bank (Line other asked) outcome) ≡ terms (credit_changed S bank (Line other asked) outcome)
line_terms S bank other asked (LineSet limit fills) = terms-filled_all (limited bank other limit S) fills
line_terms S bank other asked outcome = refl

total_terms : (S : State) (bank asked : ℕ) (outcome : Outcome) → terms (changed S bank (Total asked) outcome) ≡ terms (credit_changed S bank (Total asked) outcome)
total_terms S bank asked (TotalSet most fills) = terms-filled_all (totalled bank most S) fills
total_terms S bank asked outcome = refl

settle_terms : (S : State) (sender a b asked : ℕ) (outcome : Outcome) → terms (changed S sender (Settle a b asked) outcome) ≡ terms (credit_changed S sender (Settle a b asked) outcome)
settle_terms S sender a b asked (Settled given fills) = terms-filled_all (settled a b given S) fills
settle_terms S sender a b asked outcome = refl

pub changed-terms : (S : State) (bank : ℕ) (command : Command) (outcome : Outcome) → terms (changed S bank command outcome) ≡ terms (credit_changed S bank command outcome)
changed-terms S bank (Order side pair price lots life) outcome = order_terms S bank side pair price lots life outcome
changed-terms S bank (Cancel pair number) outcome = cancel_terms S bank pair number outcome
changed-terms S bank (Reduce pair number lots) outcome = reduce_terms S bank pair number lots outcome
changed-terms S bank (Pull pair) outcome = pull_terms S bank pair outcome
changed-terms S bank (Line other asked) outcome = line_terms S bank other asked outcome
changed-terms S bank (Total asked) outcome = total_terms S bank asked outcome
changed-terms S bank (Settle a b asked) outcome = settle_terms S bank a b asked outcome
changed-terms S bank (Show other) outcome = refl
changed-terms S bank (Book pair) outcome = refl
changed-terms S bank (Bad reason) outcome = refl

pub changed-limits : (S : State) (bank : ℕ) (command : Command) (outcome : Outcome) → (changed S bank command outcome).limits ≡ (credit_changed S bank command outcome).limits
changed-limits S bank command outcome = ap (λ (t : Terms). t.0) (changed-terms S bank command outcome)

pub fills-credit_changed : (S : State) (bank : ℕ) (command : Command) (outcome : Outcome) → (credit_changed S bank command outcome).fills ≡ S.fills
fills-credit_changed S bank (Line other asked) (LineSet limit fills) = refl
fills-credit_changed S bank (Total asked) (TotalSet most fills) = refl
fills-credit_changed S bank (Settle a b asked) (Settled given fills) = refl
fills-credit_changed S bank command outcome = refl

-- what was given back before and what a command gives back
given_more : (S : State) (bank : ℕ) (command : Command) (outcome : Outcome) (i j : ℕ) → settled_between i j (credit_changed S bank command outcome).settlements ≡ settled_between i j S.settlements + given_by command outcome i j
given_more S bank (Settle a b asked) (Settled given fills) i j = settled_between-append i j S.settlements (record { a = a; b = b; units = given } ∷ [])
given_more S bank (Line other asked) (LineSet limit fills) i j = omega arith
given_more S bank (Total asked) (TotalSet most fills) i j = omega arith
given_more S bank command outcome i j = omega arith

-- The use after an entry is the use before and the cost of its fills, less what it gives back.
pub used-after : (h : Header) (S : State) (e : Entry) (i j : ℕ) → IsSession h → IsSound h S → IsStep h S e → used h (after_entry S e) i j + given_between e i j ≡ used h S i j + cost_between h i j (fills_of e.outcome)
used-after h S e i j session sound step =
    let later : IsSound h (after_entry S e) = after-sound h S e.bank e.command e.outcome session sound step.command step.outcome in
    let costs : cost_between h i j (after_entry S e).fills ≡ cost_between h i j S.fills + cost_between h i j (fills_of e.outcome) =
    ap (cost_between h i j) (changed-fills h S e.bank e.command e.outcome step.outcome) ∙ cost_between-append h i j S.fills (fills_of e.outcome) in
    let given : settled_between i j (after_entry S e).settlements ≡ settled_between i j S.settlements + given_between e i j =
    ap (λ (t : Terms). settled_between i j t.2) (changed-terms S e.bank e.command e.outcome) ∙ given_more S e.bank e.command e.outcome i j in
    omega (arith, costs, given, sound.covered i j, later.covered i j)

spent-after : (h : Header) (S : State) (e : Entry) (i : ℕ) → IsSession h → IsSound h S → IsStep h S e → spent h (after_entry S e) i + total (given_between e i) (others h i) ≡ spent h S i + total (λ j. cost_between h i j (fills_of e.outcome)) (others h i)
spent-after h S e i session sound step =
    let costs : ℕ → ℕ = λ j. cost_between h i j (fills_of e.outcome) in
    let both : ℕ → ℕ = λ j. used h (after_entry S e) i j + given_between e i j in
    let one : total both (others h i) ≡ spent h (after_entry S e) i + total (given_between e i) (others h i) =
    total_adds (used h (after_entry S e) i) both (given_between e i) (others h i) (λ j. refl) in
    let two : total both (others h i) ≡ spent h S i + total costs (others h i) =
    total_adds (used h S i) both costs (others h i) (λ j. used-after h S e i j session sound step) in
    sym one ∙ two

-- What was used before an entry, and spent, is within the limits and the totals that its fills begin with.

within_limits : (h : Header) (S : State) (bank : ℕ) (command : Command) (outcome : Outcome) → IsSound h S → IsCommand h bank command → IsOutcome h S bank command outcome → (i j : ℕ) → i < bank_count h → j < bank_count h → i ≢ j → used h S i j ≤ (credit_changed S bank command outcome).limits i j
within_limits h S bank (Line other asked) (LineSet limit fills) sound valid is i j i_in j_in differ =
    (limited-sound h S bank other asked limit sound valid.sends valid.values.0 valid.values.1 valid.values.2 is.0).within.lines i j i_in j_in differ
within_limits h S bank (Total asked) (TotalSet most fills) sound valid is i j i_in j_in differ = sound.within.lines i j i_in j_in differ
within_limits h S bank (Settle a b asked) (Settled given fills) sound valid is i j i_in j_in differ = sound.within.lines i j i_in j_in differ
within_limits h S bank command outcome sound valid is i j i_in j_in differ = sound.within.lines i j i_in j_in differ

within_totals : (h : Header) (S : State) (bank : ℕ) (command : Command) (outcome : Outcome) → IsSession h → IsSound h S → IsCommand h bank command → IsOutcome h S bank command outcome → (i most : ℕ) → i < bank_count h → (credit_changed S bank command outcome).totals i ≡ Some most → spent h S i ≤ most
within_totals h S bank (Total asked) (TotalSet set fills) session sound valid is i most i_in has =
    (totalled-sound h S bank asked set session sound valid.sends.0 valid.sends.1 valid.values is.0).within.totals i most i_in has
within_totals h S bank (Line other asked) (LineSet limit fills) session sound valid is i most i_in has = sound.within.totals i most i_in has
within_totals h S bank (Settle a b asked) (Settled given fills) session sound valid is i most i_in has = sound.within.totals i most i_in has
within_totals h S bank command outcome session sound valid is i most i_in has = sound.within.totals i most i_in has

falls_numbers : (before now costs given most : ℕ) → now + given ≡ before + costs → now ≤ most → before ≤ most → (most - now) + costs ≡ (most - before) + given
falls_numbers before now costs given most more there here = omega arith

lesser : (n one other : ℕ) → n ≤ one → n ≤ other → n ≤ min one other
lesser n one other a b = omega arith

lines-fall-at : (h : Header) (S : State) (e : Entry) → IsSession h → IsSound h S → IsStep h S e → (i j : ℕ) → i < bank_count h → j < bank_count h → i ≢ j → left_of_limits h (after_entry S e) i j + cost_between h i j (fills_of e.outcome) ≡ (min ((before_fills S e).limits i j) ((before_fills S e).limits j i) - used h S i j) + given_between e i j
lines-fall-at h S e session sound step i j i_in j_in differ =
    let later : IsSound h (after_entry S e) = after-sound h S e.bank e.command e.outcome session sound step.command step.outcome in
    let set : ℕ → ℕ → ℕ = (before_fills S e).limits in
    let back : j ≢ i = λ same. differ (sym same) in
    let now : used h (after_entry S e) i j ≤ min ((after_entry S e).limits i j) ((after_entry S e).limits j i) =
    lesser (used h (after_entry S e) i j) ((after_entry S e).limits i j) ((after_entry S e).limits j i) (later.within.lines i j i_in j_in differ)
    (omega (arith, later.within.lines j i j_in i_in back, used-swap h (after_entry S e) i j)) in
    let before : used h S i j ≤ min (set i j) (set j i) =
    lesser (used h S i j) (set i j) (set j i) (within_limits h S e.bank e.command e.outcome sound step.command step.outcome i j i_in j_in differ)
    (omega (arith, within_limits h S e.bank e.command e.outcome sound step.command step.outcome j i j_in i_in back, used-swap h S i j)) in
    let same : (after_entry S e).limits ≡ set = changed-limits S e.bank e.command e.outcome in
    let most_same : min ((after_entry S e).limits i j) ((after_entry S e).limits j i) ≡ min (set i j) (set j i) = ap (λ (l : ℕ → ℕ → ℕ). min (l i j) (l j i)) same in
    ap (λ m. (m - used h (after_entry S e) i j) + cost_between h i j (fills_of e.outcome)) most_same
    ∙ falls_numbers (used h S i j) (used h (after_entry S e) i j) (cost_between h i j (fills_of e.outcome)) (given_between e i j) (min (set i j) (set j i))
    (used-after h S e i j session sound step) (subst (λ m. used h (after_entry S e) i j ≤ m) most_same now) before

totals-fall-at : (h : Header) (S : State) (e : Entry) → IsSession h → IsSound h S → IsStep h S e → (i most : ℕ) → i < bank_count h → (before_fills S e).totals i ≡ Some most → (most - spent h (after_entry S e) i) + total (λ j. cost_between h i j (fills_of e.outcome)) (others h i) ≡ (most - spent h S i) + total (given_between e i) (others h i)
totals-fall-at h S e session sound step i most i_in has =
    let later : IsSound h (after_entry S e) = after-sound h S e.bank e.command e.outcome session sound step.command step.outcome in
    let same : (after_entry S e).totals ≡ (before_fills S e).totals = ap (λ (t : Terms). t.1) (changed-terms S e.bank e.command e.outcome) in
    let has_now : (after_entry S e).totals i ≡ Some most = ap (λ (t : ℕ → Option ℕ). t i) same ∙ has in
    falls_numbers (spent h S i) (spent h (after_entry S e) i) (total (λ j. cost_between h i j (fills_of e.outcome)) (others h i)) (total (given_between e i) (others h i)) most
    (spent-after h S e i session sound step) (later.within.totals i most i_in has_now)
    (within_totals h S e.bank e.command e.outcome session sound step.command step.outcome i most i_in has)

pub lines-fall : (h : Header) (S : State) (e : Entry) → IsSession h → IsSound h S → IsStep h S e → Falls h S e
lines-fall h S e session sound step = record {
  lines = lines-fall-at h S e session sound step;
  totals = totals-fall-at h S e session sound step;
}
