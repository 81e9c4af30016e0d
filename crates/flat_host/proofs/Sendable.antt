-- What a sender may send in the session of the host.
use Rattle.std.proofs.Common.{ℕ, ◌≡◌, ◌+◌, ◌<◌, eqb, List, inl, inr, sym, subst, ap, ◌∙◌, arith, length, map}
use Rattle.std.proofs.lemmas.Bool.{cases_eq, cond-true, cond-false, eq-eqb, ne_eqb}
use Rattle.std.proofs.lemmas.List.{length-map}
use Rattle.fx_amounts.specs.declared.side.Side.{Side}
use Rattle.fx_rules.specs.declared.command.Command.{Command}
use Rattle.fx_rules.specs.declared.command.Command.TheVariants.{Order, Cancel, Reduce, Pull, Line, Total, Settle, Show, Book, Bad}
use Rattle.fx_rules.specs.declared.command.Life.{Life}
use Rattle.fx_rules.specs.declared.session.PairRule.{PairRule}
use Rattle.fx_rules.specs.declared.command.Reject.TheVariants.{Units}
use Rattle.fx_rules.specs.Session.{Header, IsSession, IsSender, bank_count, host, pair_count, sender_places}
use Rattle.fx_rules.specs.State.{State}
use Rattle.fx_rules.specs.Sound.{IsSound}
use Rattle.fx_rules.proofs.Senders.{command-place}
use Rattle.fx_rules.specs.Step.{IsCommand, Suits, AreValues}
use Rattle.flat_host.specs.FlatState.{FlatState, StandsFor}
use Rattle.flat_host.specs.Steps.{IsCommandOf}

-- what may be sent rests on how many banks, senders and pairs the session has; where two have as many senders' places, both are of
-- version 2 or neither is
two-same : (h g : Header) → IsSession g → sender_places h ≡ sender_places g → h.version ≡ 2 → g.version ≡ 2
two-same h g session places second =
    elim (cases_eq g.version 2) [
      | inl same ↦ same
      | inr other ↦ absurd (omega (
        arith,
        places,
        session.banks_most,
        cond-true (eqb h.version 2) (host + 1) (bank_count h) (eq-eqb h.version 2 second),
        cond-false (eqb g.version 2) (host + 1) (bank_count g) (ne_eqb g.version 2 other),
      ))
    ]

same-sender : (h g : Header) (sender : ℕ) → IsSession g → bank_count h ≡ bank_count g → sender_places h ≡ sender_places g → IsSender h sender → IsSender g sender
same-sender h g sender session banks places (inl bank) = inl (omega (arith, banks, bank))
same-sender h g sender session banks places (inr operator) = inr (two-same h g session places operator.0, operator.1)

same-suits : (h g : Header) (sender : ℕ) (command : Command) → IsSession g → bank_count h ≡ bank_count g → sender_places h ≡ sender_places g → Suits h sender command → Suits g sender command
same-suits h g sender (Total limit) session banks places is = (two-same h g session places is.0, omega (arith, banks, is.1))
same-suits h g sender (Settle a b units) session banks places is = (two-same h g session places is.0, is.1)
same-suits h g sender (Bad Units) session banks places is = (two-same h g session places is.0, is.1)
same-suits h g sender (Bad reason) session banks places is = same-sender h g sender session banks places is
same-suits h g sender command session banks places is = omega (arith, banks, is)

same-values : (h g : Header) (bank : ℕ) (command : Command) → bank_count h ≡ bank_count g → pair_count h ≡ pair_count g → AreValues h bank command → AreValues g bank command
same-values h g bank (Order side pair price lots life) banks pairs is = (omega (arith, pairs, is.0), is.1, is.2)
same-values h g bank (Cancel pair number) banks pairs is = (omega (arith, pairs, is.0), is.1)
same-values h g bank (Reduce pair number lots) banks pairs is = (omega (arith, pairs, is.0), is.1, is.2)
same-values h g bank (Pull pair) banks pairs is = omega (arith, pairs, is)
same-values h g bank (Line other limit) banks pairs is = (omega (arith, banks, is.0), is.1, is.2)
same-values h g bank (Total limit) banks pairs is = is
same-values h g bank (Settle a b units) banks pairs is = (omega (arith, banks, is.0), omega (arith, banks, is.1), is.2, is.3, is.4)
same-values h g bank (Show other) banks pairs is = (omega (arith, banks, is.0), is.1)
same-values h g bank (Book pair) banks pairs is = omega (arith, pairs, is)
same-values h g bank (Bad reason) banks pairs is = is

same-session : (h g : Header) (sender : ℕ) (command : Command) → IsSession g → bank_count h ≡ bank_count g → sender_places h ≡ sender_places g → pair_count h ≡ pair_count g → IsCommand h sender command → IsCommand g sender command
same-session h g sender command session banks places pairs is = record {
  sends = same-suits h g sender command session banks places is.sends;
  values = same-values h g sender command banks pairs is.values;
}

pub pairs_of : (h : Header) (l : FlatState) → l.weights ≡ map (λ rule. rule.weight) h.pairs → length l.weights ≡ pair_count h
pairs_of h l weights = ap length weights ∙ length-map h.pairs (λ (rule : PairRule). rule.weight)

-- there is a place for each sender of a sound state
pub places_of : (h : Header) (S : State) (l : FlatState) → IsSound h S → StandsFor h S l → length l.counts ≡ sender_places h
places_of h S l sound stands = ap (λ (cs : List ℕ). length cs) stands.counts ∙ sound.counts

-- in the session of each state that the host stands for
pub sendable : (h : Header) (S : State) (l : FlatState) (bank : ℕ) (command : Command) → IsSession h → IsSound h S → StandsFor h S l → IsCommandOf l bank command → IsCommand h bank command
sendable h S l bank command session sound stands of =
    same-session of.session h bank command session (sym of.banks ∙ stands.banks) (sym of.senders ∙ places_of h S l sound stands)
    (sym (pairs_of of.session l of.weights) ∙ pairs_of h l stands.weights) of.may_send

pub sendable-of : (h : Header) (S : State) (l : FlatState) (bank : ℕ) (command : Command) → IsSession h → IsSound h S → StandsFor h S l → IsCommand h bank command → IsCommandOf l bank command
sendable-of h S l bank command session sound stands is = record {
  session = h;
  banks = stands.banks;
  senders = places_of h S l sound stands;
  weights = stands.weights;
  valid = session;
  may_send = is;
}

-- the sender has a place
pub sender-place : (l : FlatState) (bank : ℕ) (command : Command) → IsCommandOf l bank command → bank < length l.counts
sender-place l bank command of = omega (arith, of.senders, command-place of.session bank command of.valid of.may_send)

-- a command's bank and its pair are the host's
pub order-pair : (l : FlatState) (bank : ℕ) (command : Command) (side : Side) (pair price lots : ℕ) (life : Life) → IsCommandOf l bank command → command ≡ Order side pair price lots life → pair < length l.weights
order-pair l bank command side pair price lots life of is =
    let sent : IsCommand of.session bank (Order side pair price lots life) = subst (IsCommand of.session bank) is of.may_send in
    omega (arith, pairs_of of.session l of.weights, sent.values.0)

pub book-pair : (l : FlatState) (bank : ℕ) (command : Command) (pair : ℕ) → IsCommandOf l bank command → command ≡ Book pair → pair < length l.weights
book-pair l bank command pair of is =
    let sent : IsCommand of.session bank (Book pair) = subst (IsCommand of.session bank) is of.may_send in
    omega (arith, pairs_of of.session l of.weights, sent.values)

pub book-bank : (l : FlatState) (bank : ℕ) (command : Command) (pair : ℕ) → IsCommandOf l bank command → command ≡ Book pair → bank < l.credit.banks
book-bank l bank command pair of is =
    let sent : IsCommand of.session bank (Book pair) = subst (IsCommand of.session bank) is of.may_send in
    omega (arith, of.banks, sent.sends)
