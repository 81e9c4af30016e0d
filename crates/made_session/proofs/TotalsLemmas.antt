-- The totals of a legal history fit.
use Rattle.std.proofs.Common.{ℕ, ◌≡◌, ◌≤◌, ◌<◌, ◌+◌, List, [], ◌∷◌, ◌++◌, length, take, drop, get_or, ap, sym, subst, ◌∙◌, arith}
use Rattle.std.proofs.lemmas.List.{take_more, take-append-drop, length-append}
use Rattle.fx_rules.specs.declared.outcome.Entry.{Entry}
use Rattle.fx_rules.specs.declared.orders.Fill.{Fill}
use Rattle.fx_rules.specs.Lists.{Each}
use Rattle.fx_rules.specs.Session.{Header}
use Rattle.fx_rules.specs.State.{State, opening}
use Rattle.fx_rules.specs.Step.{fills_of}
use Rattle.fx_rules.specs.History.{IsLegal, Steps, after_entry, after_all, state}
use Rattle.fx_rules.specs.inside.Trade.{IsTrade}
use Rattle.fx_rules.proofs.ListLemmas.{total-append}
use Rattle.fx_rules.proofs.Trading.{step-fills}
use Rattle.day_report.specs.Trades.{lots_in}
use Rattle.day_report.proofs.Sums.{total_push}
use Rattle.day_report.proofs.Trading.{legal-fits, legal-to}
use Rattle.made_session.specs.Totals.{fills_told, lots_told}

-- the fills of a state are those that the entries before it told
lots_after : (h : Header) (S : State) (entries : List Entry) → Steps h S entries → lots_in (after_all S entries).fills ≡ lots_in S.fills + lots_told entries
lots_after h S [] steps = omega arith
lots_after h S (e ∷ entries) steps =
    let rest = lots_after h (after_entry S e) entries steps.1 in
    let first : lots_in (after_entry S e).fills ≡ lots_in S.fills + lots_in (fills_of e.outcome) = ap lots_in (step-fills h S e steps.0) ∙ total-append (λ (f : Fill). f.lots) S.fills (fills_of e.outcome) in
    omega (arith, rest, first)

count_after : (h : Header) (S : State) (entries : List Entry) → Steps h S entries → length (after_all S entries).fills ≡ length S.fills + fills_told entries
count_after h S [] steps = omega arith
count_after h S (e ∷ entries) steps =
    let rest = count_after h (after_entry S e) entries steps.1 in
    let first : length (after_entry S e).fills ≡ length S.fills + length (fills_of e.outcome) = ap length (step-fills h S e steps.0) ∙ length-append S.fills (fills_of e.outcome) in
    omega (arith, rest, first)

count_most : (h : Header) (fills : List Fill) → Each (IsTrade h) fills → length fills ≤ lots_in fills
count_most h [] each = omega arith
count_most h (f ∷ fills) each = omega (arith, each.0.least, count_most h fills each.1)

pub record Fits (entries : List Entry) : Type 0 where
  pub fills : fills_told entries ≤ 4096000000000000000
  pub lots : lots_told entries ≤ 4096000000000000000

pub legal_fits : (h : Header) (entries : List Entry) → IsLegal h entries → Fits entries
legal_fits h entries legal =
    let trades = legal-fits h entries legal in
    let lots = lots_after h (opening h) entries legal.steps in
    let fills = count_after h (opening h) entries legal.steps in
    let few = count_most h (state h entries).fills trades.each in
    record { fills = omega (arith, trades.lots, few, fills); lots = omega (arith, trades.lots, lots) }

-- one entry more
pub record More (entries : List Entry) (k : ℕ) (e : Entry) : Type 0 where
  pub fills : fills_told (take (k + 1) entries) ≡ fills_told (take k entries) + length (fills_of e.outcome)
  pub lots : lots_told (take (k + 1) entries) ≡ lots_told (take k entries) + lots_in (fills_of e.outcome)
  pub fits : Fits (take (k + 1) entries)

pub one_more : (h : Header) (entries : List Entry) (k : ℕ) (e : Entry) → IsLegal h entries → k < length entries → e ≡ get_or entries k e → More entries k e
one_more h entries k e legal within is =
    let front : take (k + 1) entries ≡ take k entries ++ e ∷ [] = take_more entries k e within ∙ ap (λ (x : Entry). take k entries ++ x ∷ []) (sym is) in
    record {
      fills = ap fills_told front ∙ total_push (λ (x : Entry). length (fills_of x.outcome)) (take k entries) e;
      lots = ap lots_told front ∙ total_push (λ (x : Entry). lots_in (fills_of x.outcome)) (take k entries) e;
      fits = subst Fits (sym front) (legal_fits h (take k entries ++ e ∷ []) (legal-to h entries k e legal within is));
    }

-- one fill more
pub record MoreLots (fills : List Fill) (k lots : ℕ) : Type 0 where
  pub sum : lots_in (take (k + 1) fills) ≡ lots_in (take k fills) + lots
  pub most : lots_in (take k fills) + lots ≤ lots_in fills

pub more_lots : (fills : List Fill) (k : ℕ) (f : Fill) → k < length fills → f ≡ get_or fills k f → MoreLots fills k f.lots
more_lots fills k f within is =
    let front : take (k + 1) fills ≡ take k fills ++ f ∷ [] = take_more fills k f within ∙ ap (λ (x : Fill). take k fills ++ x ∷ []) (sym is) in
    let sum : lots_in (take (k + 1) fills) ≡ lots_in (take k fills) + f.lots = ap lots_in front ∙ total_push (λ (x : Fill). x.lots) (take k fills) f in
    let all : lots_in fills ≡ lots_in (take (k + 1) fills) + lots_in (drop (k + 1) fills) =
    ap lots_in (sym (take-append-drop (k + 1) fills)) ∙ total-append (λ (x : Fill). x.lots) (take (k + 1) fills) (drop (k + 1) fills) in
    record { sum = sum; most = omega (arith, sum, all) }
