-- The fills of a legal history fit, and so do those of its beginnings.
use Rattle.std.proofs.Common.{ℕ, zero, suc, ◌<◌, ◌+◌, ◌≡◌, List, [], ◌∷◌, ◌++◌, ap, sym, subst, ◌∙◌, take, length, get_or, arith}
use Rattle.std.proofs.lemmas.List.{take_more}
use Rattle.fx_rules.specs.declared.outcome.Entry.{Entry}
use Rattle.fx_rules.specs.Session.{Header}
use Rattle.fx_rules.specs.State.{State, opening}
use Rattle.fx_rules.specs.History.{Steps, IsLegal, after_entry, state}
use Rattle.fx_rules.proofs.Trading.{legal-trades}
use Rattle.fx_rules.proofs.Traded.{traded-most}
use Rattle.day_report.specs.inside.Trades.{AreTrades}

pub legal-fits : (h : Header) (entries : List Entry) → IsLegal h entries → AreTrades h (state h entries).fills
legal-fits h entries legal = record {
  session = legal.session;
  each = legal-trades h entries legal;
  lots = omega (arith, traded-most h entries legal);
}

-- The beginnings of a legal history.

steps-taken : (h : Header) (S : State) (entries : List Entry) (n : ℕ) → Steps h S entries → Steps h S (take n entries)
steps-taken h S entries zero steps = tt
steps-taken h S [] (suc n) steps = tt
steps-taken h S (e ∷ entries) (suc n) steps = (steps.0, steps-taken h (after_entry S e) entries n steps.1)

pub taken : (entries : List Entry) (i : ℕ) (e : Entry) → i < length entries → e ≡ get_or entries i e → take (i + 1) entries ≡ take i entries ++ e ∷ []
taken entries i e within is = take_more entries i e within ∙ ap (λ (f : Entry). take i entries ++ f ∷ []) (sym is)

pub legal-to : (h : Header) (entries : List Entry) (i : ℕ) (e : Entry) → IsLegal h entries → i < length entries → e ≡ get_or entries i e → IsLegal h (take i entries ++ e ∷ [])
legal-to h entries i e legal within is =
    subst (IsLegal h) (taken entries i e within is) (record { session = legal.session; steps = steps-taken h (opening h) entries (i + 1) legal.steps })

pub state-to : (h : Header) (entries : List Entry) (i : ℕ) (e : Entry) → i < length entries → e ≡ get_or entries i e → state h (take i entries ++ e ∷ []) ≡ state h (take (i + 1) entries)
state-to h entries i e within is = ap (state h) (sym (taken entries i e within is))
