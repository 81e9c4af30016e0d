-- The walk over a legal history: what holds of each step in a sound state holds of each entry, and each fill is a trade of
-- the session.
use Rattle.std.proofs.Common.{◌≡◌, List, [], ◌∷◌, ◌++◌, sym, subst, arith}
use Rattle.fx_rules.specs.declared.outcome.Entry.{Entry}
use Rattle.fx_rules.specs.declared.orders.Fill.{Fill}
use Rattle.fx_rules.specs.Lists.{Each}
use Rattle.fx_rules.specs.Session.{Header, IsSession}
use Rattle.fx_rules.specs.State.{State, opening}
use Rattle.fx_rules.specs.Sweep.{filled}
use Rattle.fx_rules.specs.Step.{fills_of, credit_changed}
use Rattle.fx_rules.specs.History.{IsStep, Steps, IsLegal, after_entry, after_all, state}
use Rattle.fx_rules.specs.Sound.{IsSound}
use Rattle.fx_rules.specs.inside.Trade.{IsTrade}
use Rattle.fx_rules.proofs.ListLemmas.{Each-append}
use Rattle.fx_rules.proofs.Soundness.{after-sound, opening-sound}
use Rattle.fx_rules.proofs.Falling.{changed-fills}
use Rattle.fx_rules.proofs.Made.{IsMade, AreMade, outcome-made}

-- fills as they are made are trades
trades-made : (h : Header) (S : State) (fills : List Fill) → AreMade h S fills → Each (IsTrade h) fills
trades-made h S [] made = tt
trades-made h S (f ∷ fills) made =
    let first : IsMade h S f = made.0 in (
      record {
        pair = first.pair;
        taker = first.allowed.taker;
        maker = first.allowed.maker;
        differ = first.allowed.differ;
        least = first.allowed.least;
        price = omega (arith, first.price);
      },
      trades-made h (filled S f) fills made.1,
    )

pub step-trades : (h : Header) (S : State) (e : Entry) → IsSession h → IsSound h S → IsStep h S e → Each (IsTrade h) (fills_of e.outcome)
step-trades h S e session sound step =
    trades-made h (credit_changed S e.bank e.command e.outcome) (fills_of e.outcome)
    (outcome-made h S e.bank e.command e.outcome session sound step.command step.outcome)

-- the fills after a step are those before and the outcome's
pub step-fills : (h : Header) (S : State) (e : Entry) → IsStep h S e → (after_entry S e).fills ≡ S.fills ++ fills_of e.outcome
step-fills h S e step = changed-fills h S e.bank e.command e.outcome step.outcome

steps-trades : (h : Header) (S : State) (entries : List Entry) → IsSession h → IsSound h S → Steps h S entries → Each (IsTrade h) S.fills → Each (IsTrade h) (after_all S entries).fills
steps-trades h S [] session sound steps so_far = so_far
steps-trades h S (e ∷ entries) session sound steps so_far =
    let step : IsStep h S e = steps.0 in
    steps-trades h (after_entry S e) entries session (after-sound h S e.bank e.command e.outcome session sound step.command step.outcome) steps.1
    (subst (Each (IsTrade h)) (sym (step-fills h S e step)) (Each-append (IsTrade h) S.fills (fills_of e.outcome) so_far (step-trades h S e session sound step)))

-- each fill of a legal history's state is a trade
pub legal-trades : (h : Header) (entries : List Entry) → IsLegal h entries → Each (IsTrade h) (state h entries).fills
legal-trades h entries legal = steps-trades h (opening h) entries legal.session (opening-sound h legal.session) legal.steps tt
