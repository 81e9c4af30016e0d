-- The lines pay for the fills of a sweep, of a credit change, and of each step.
use Rattle.std.proofs.Common.{ℕ, ◌≡◌, ◌+◌, ◌-◌, ◌*◌, ◌≤◌, ◌<◌, min, max, arith, List, [], ◌∷◌, ◌++◌, refl, ap, sym, subst, ◌∙◌, length}
use Rattle.std.proofs.lemmas.List.{length-set}
use Rattle.fx_rules.specs.declared.command.Command.{Command}
use Rattle.fx_rules.specs.declared.command.Command.TheVariants.{Order, Cancel, Reduce, Pull, Line, Total, Settle, Show, Book, Bad}
use Rattle.fx_rules.specs.declared.orders.Fill.{Fill}
use Rattle.fx_rules.specs.declared.outcome.Outcome.{Outcome}
use Rattle.fx_rules.specs.declared.outcome.Outcome.TheVariants.{LineSet, TotalSet, Settled}
use Rattle.fx_rules.specs.declared.outcome.Entry.{Entry}
use Rattle.fx_rules.specs.Session.{Header, bank_count}
use Rattle.fx_rules.specs.State.{State, cost, used, line}
use Rattle.fx_rules.specs.Sweep.{filled, filled_all}
use Rattle.fx_rules.specs.Raise as raise
use Rattle.fx_rules.specs.Step.{IsCommand, IsOutcome, credit_changed, fills_of}
use Rattle.fx_rules.specs.History.{IsLegal, after_entry, state}
use Rattle.fx_rules.specs.Sound.{IsSound, IsCovered}
use Rattle.fx_rules.proofs.Continuing.{legal-last}
use Rattle.fx_rules.proofs.Falling.{terms, changed-terms, terms-filled_all, changed-fills, fills-filled_all, fills-credit_changed}
use Rattle.fx_rules.proofs.Credit.{covered-filled}
use Rattle.fx_rules.proofs.Made.{AreMade, swept-made, turned-made, outcome-made}
use Rattle.fx_rules.proofs.RaiseSound.{settled-sound}
use Rattle.fx_rules.proofs.Soundness.{legal-sound}
use Rattle.credit_lines.specs.Credit.{Credit, line_in, used_in, spent_in, shared_place, given_back, limited, totalled, IsCredit}
use Rattle.credit_lines.specs.Market.{StandsFor, taken_by, taken_by_all, ArePaid, line_set, followed, IsNextOf, FollowsOn}
use Rattle.credit_lines.specs.inside.Market.{IsBetweenBanks, CanSet}
use Rattle.credit_lines.specs.Laws.{SweepsArePaid, TurnsArePaid, StepsArePaid}
use Rattle.credit_lines.proofs.MarketLemmas.{line_in-line, spent_in-spent, StandsFor-same, StandsFor-taken_by, StandsFor-limited, StandsFor-totalled, StandsFor-settled}

made-paid : (h : Header) (S : State) (credit : Credit) (fills : List Fill) → length credit.uses ≡ credit.banks * credit.banks → IsCovered h S → StandsFor h S credit → AreMade h S fills → ArePaid h credit fills × StandsFor h (filled_all S fills) (taken_by_all h credit fills)
made-paid h S credit [] full covered stands made = (tt, stands)
made-paid h S credit (f ∷ fills) full covered stands made =
    let a = made.0.allowed in
    let same : line_in credit f.taker f.maker ≡ line h S f.taker f.maker = line_in-line h S credit f.taker f.maker stands a.taker a.maker a.differ in
    let between : IsBetweenBanks h f = record { taker = a.taker; maker = a.maker; differ = a.differ } in
    let banks : credit.banks ≡ bank_count h = stands.banks in
    let rest = made-paid h (filled S f) (taken_by h credit f) fills
    (length-set credit.uses (shared_place credit.banks f.taker f.maker) (used_in credit f.taker f.maker + cost h f) ∙ full)
    (covered-filled h S f covered) (StandsFor-taken_by h S credit f full covered between stands) made.1 in (
      (
        record {
          pair = made.0.pair;
          taker = subst (λ n. f.taker < n) (sym banks) a.taker;
          maker = subst (λ n. f.maker < n) (sym banks) a.maker;
          differ = a.differ;
          pays = subst (λ n. cost h f ≤ n) (sym same) a.credit;
        },
        rest.0,
      ),
      rest.1,
    )

pub sweeps_paid : SweepsArePaid
sweeps_paid h S credit t fills left sound valid stands bank some swept =
    made-paid h S credit fills valid.uses_full sound.covered stands (swept-made h S t fills left sound bank some swept)

pub turns_paid : TurnsArePaid
turns_paid h pair S credit orders fills sound valid stands some turned =
    made-paid h S credit fills valid.uses_full sound.covered stands (turned-made h pair S orders fills sound some turned)

-- The credit once a command has done what it asks for is that of the state in which its fills are made.

line-stands : (h : Header) (S : State) (bank other asked : ℕ) (outcome : Outcome) (credit : Credit) → IsCommand h bank (Line other asked) → IsOutcome h S bank (Line other asked) outcome → IsCredit credit → StandsFor h S credit
    → StandsFor h (credit_changed S bank (Line other asked) outcome) (line_set credit bank (Line other asked))
line-stands h S bank other asked (LineSet limit fills) credit valid is credit_is stands =
    let used_is : used_in credit bank other ≡ used h S bank other = stands.uses bank other valid.sends valid.values.0 (λ same. valid.values.1 (sym same)) in
    let limit_is : limit ≡ max asked (used_in credit bank other) = is.0 ∙ ap (max asked) (sym used_is) in
    subst (λ l. StandsFor h (raise.limited bank other limit S) (limited credit bank other l)) limit_is
    (StandsFor-limited h S credit bank other limit credit_is stands valid.sends valid.values.0)
line-stands h S bank other asked outcome credit valid is credit_is stands = absurd is

total-stands : (h : Header) (S : State) (bank asked : ℕ) (outcome : Outcome) (credit : Credit) → IsCommand h bank (Total asked) → IsOutcome h S bank (Total asked) outcome → IsCredit credit → StandsFor h S credit
    → StandsFor h (credit_changed S bank (Total asked) outcome) (line_set credit bank (Total asked))
total-stands h S bank asked (TotalSet most fills) credit valid is credit_is stands =
    let most_is : most ≡ max asked (spent_in credit bank) = is.0 ∙ ap (max asked) (sym (spent_in-spent h S credit bank stands valid.sends.1)) in
    subst (λ m. StandsFor h (raise.totalled bank most S) (totalled credit bank m)) most_is
    (StandsFor-totalled h S credit bank most credit_is stands valid.sends.1)
total-stands h S bank asked outcome credit valid is credit_is stands = absurd is

settle-stands : (h : Header) (S : State) (sender a b asked : ℕ) (outcome : Outcome) (credit : Credit) → IsCommand h sender (Settle a b asked) → IsOutcome h S sender (Settle a b asked) outcome → IsCredit credit → StandsFor h S credit
    → StandsFor h (credit_changed S sender (Settle a b asked) outcome) (line_set credit sender (Settle a b asked))
settle-stands h S sender a b asked (Settled given fills) credit valid is credit_is stands =
    let used_is : used_in credit a b ≡ used h S a b = stands.uses a b valid.values.0 valid.values.1 valid.values.2 in
    let given_is : given ≡ min asked (used_in credit a b) = is.0 ∙ ap (min asked) (sym used_is) in
    subst (λ g. StandsFor h (raise.settled a b given S) (given_back credit a b g)) given_is
    (StandsFor-settled h S credit a b given credit_is.uses_full stands valid.values.0 valid.values.1)
settle-stands h S sender a b asked outcome credit valid is credit_is stands = absurd is

set-stands : (h : Header) (S : State) (bank : ℕ) (command : Command) (outcome : Outcome) (credit : Credit) → IsCommand h bank command → IsOutcome h S bank command outcome → IsCredit credit → StandsFor h S credit
    → StandsFor h (credit_changed S bank command outcome) (line_set credit bank command)
set-stands h S bank (Order side pair price lots life) outcome credit valid is credit_is stands = stands
set-stands h S bank (Cancel pair number) outcome credit valid is credit_is stands = stands
set-stands h S bank (Reduce pair number lots) outcome credit valid is credit_is stands = stands
set-stands h S bank (Pull pair) outcome credit valid is credit_is stands = stands
set-stands h S bank (Line other asked) outcome credit valid is credit_is stands = line-stands h S bank other asked outcome credit valid is credit_is stands
set-stands h S bank (Total asked) outcome credit valid is credit_is stands = total-stands h S bank asked outcome credit valid is credit_is stands
set-stands h S bank (Settle a b asked) outcome credit valid is credit_is stands = settle-stands h S bank a b asked outcome credit valid is credit_is stands
set-stands h S bank (Show other) outcome credit valid is credit_is stands = stands
set-stands h S bank (Book pair) outcome credit valid is credit_is stands = stands
set-stands h S bank (Bad reason) outcome credit valid is credit_is stands = stands

-- no more was given back in that state than fills cost
changed-covered : (h : Header) (S : State) (bank : ℕ) (command : Command) (outcome : Outcome) → IsSound h S → IsCommand h bank command → IsOutcome h S bank command outcome → IsCovered h (credit_changed S bank command outcome)
changed-covered h S bank (Line other asked) (LineSet limit fills) sound valid is = sound.covered
changed-covered h S bank (Total asked) (TotalSet most fills) sound valid is = sound.covered
changed-covered h S bank (Settle a b asked) (Settled given fills) sound valid is = (settled-sound h S a b asked given sound valid.sends.0 is.0).covered
changed-covered h S bank command outcome sound valid is = sound.covered

-- the table of uses stays full, and the banks are the same
uses-line_set : (credit : Credit) (bank : ℕ) (command : Command) → length (line_set credit bank command).uses ≡ length credit.uses
uses-line_set credit bank (Line other asked) = refl
uses-line_set credit bank (Total asked) = refl
uses-line_set credit sender (Settle a b asked) = length-set credit.uses (shared_place credit.banks a b) (used_in credit a b - min asked (used_in credit a b))
uses-line_set credit bank command = refl

banks-line_set : (credit : Credit) (bank : ℕ) (command : Command) → (line_set credit bank command).banks ≡ credit.banks
banks-line_set credit bank (Line other asked) = refl
banks-line_set credit bank (Total asked) = refl
banks-line_set credit sender (Settle a b asked) = refl
banks-line_set credit bank command = refl

pub steps_paid : StepsArePaid
steps_paid h S credit e session sound valid stands step =
    let set : Credit = line_set credit e.bank e.command in
    let T : State = credit_changed S e.bank e.command e.outcome in
    let fills : List Fill = fills_of e.outcome in
    let banks : set.banks ≡ credit.banks = banks-line_set credit e.bank e.command in
    let full : length set.uses ≡ set.banks * set.banks =
    uses-line_set credit e.bank e.command ∙ valid.uses_full ∙ ap (λ n. n * n) (sym banks) in
    let paid = made-paid h T set fills full (changed-covered h S e.bank e.command e.outcome sound step.command step.outcome)
    (set-stands h S e.bank e.command e.outcome credit step.command step.outcome valid stands)
    (outcome-made h S e.bank e.command e.outcome session sound step.command step.outcome) in
    let same : terms (after_entry S e) ≡ terms (filled_all T fills) =
    changed-terms S e.bank e.command e.outcome ∙ sym (terms-filled_all T fills) in
    let made : (after_entry S e).fills ≡ (filled_all T fills).fills =
    changed-fills h S e.bank e.command e.outcome step.outcome
    ∙ ap (λ fs. fs ++ fills) (sym (fills-credit_changed S e.bank e.command e.outcome)) ∙ sym (fills-filled_all T fills) in (
      paid.0,
      StandsFor-same h (filled_all T fills) (after_entry S e) (followed h credit e) same made paid.1,
    )

-- One step followed: first what its command asks for, and then the fills taken.

can_set : (h : Header) (c : Credit) (bank : ℕ) (command : Command) → c.banks ≡ bank_count h → IsCommand h bank command → CanSet c bank command
can_set h c bank (Line other asked) banks valid =
    (omega (arith, banks, valid.sends), omega (arith, banks, valid.values.0), λ same. valid.values.1 (sym same))
can_set h c bank (Total asked) banks valid = omega (arith, banks, valid.sends.1)
can_set h c sender (Settle a b asked) banks valid = (omega (arith, banks, valid.values.0), omega (arith, banks, valid.values.1), valid.values.2)
can_set h c bank command banks valid = tt

pub can_follow : (h : Header) (c : Credit) (e : Entry) → IsNextOf h c e → CanSet c e.bank e.command
can_follow h c e next = can_set h c e.bank e.command next.stands.banks next.step.command

pub follow_paid : (h : Header) (c set : Credit) (e : Entry) (fills : List Fill) → IsCredit c → IsNextOf h c e → set ≡ line_set c e.bank e.command → fills ≡ fills_of e.outcome → ArePaid h set fills
follow_paid h c set e fills valid next set_is fills_are =
    subst (λ (now : Credit). ArePaid h now fills) (sym set_is)
    (subst (ArePaid h (line_set c e.bank e.command)) (sym fills_are) (steps_paid h next.before c e next.session next.sound valid next.stands next.step).0)

pub follow_on : (h : Header) (c set new : Credit) (e : Entry) (fills : List Fill) → IsCredit c → IsNextOf h c e → set ≡ line_set c e.bank e.command → fills ≡ fills_of e.outcome → new ≡ taken_by_all h set fills → FollowsOn h c new e
follow_on h c set new e fills valid next set_is fills_are new_is S sound stands step =
    let made : followed h c e ≡ new =
    sym (ap (λ (now : Credit). taken_by_all h now (fills_of e.outcome)) set_is) ∙ sym (ap (taken_by_all h set) fills_are) ∙ sym new_is in
    subst (StandsFor h (after_entry S e)) made (steps_paid h S c e next.session sound valid stands step).1

-- the entry by which a legal history goes on
pub next_of-legal : (h : Header) (entries : List Entry) (e : Entry) (credit : Credit) → IsLegal h (entries ++ e ∷ []) → StandsFor h (state h entries) credit → IsNextOf h credit e
next_of-legal h entries e credit legal stands =
    let last = legal-last h entries e legal in
    record { session = legal.session; before = state h entries; sound = legal-sound h entries last.0; stands = stands; step = last.1 }
