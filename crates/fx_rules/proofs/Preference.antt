-- The order in which a taker prefers resting orders.
use Rattle.std.proofs.Common.{◌≡◌, ◌≢◌, true, false, List, [], ◌∷◌, inl, inr, ap, sym, ◌∙◌, arith}
use Rattle.fx_amounts.specs.declared.side.Side.{Side}
pub use Rattle.fx_amounts.proofs.Preference.{better_self}
use Rattle.fx_amounts.proofs.Preference.{first_self, first_trans, first_neither, first_either}
use Rattle.fx_rules.specs.declared.orders.Resting.{Resting}
use Rattle.fx_rules.specs.Lists.{Among, EachPair}
use Rattle.fx_rules.specs.Sweep.{is_preferred, IsBest}
use Rattle.fx_rules.specs.Sound.{ArrivesBefore}
use Rattle.fx_rules.proofs.ListLemmas.{Each-among}

pub preferred_self : (side : Side) (a : Resting) → is_preferred side a a ≡ true → ⊥
preferred_self side a = first_self side a.price a.arrival

pub preferred_trans : (side : Side) (a b c : Resting) → is_preferred side a b ≡ true → is_preferred side b c ≡ true → is_preferred side a c ≡ true
preferred_trans side a b c = first_trans side a.price a.arrival b.price b.arrival c.price c.arrival

-- two orders of which neither is preferred arrived as one
pub preferred_neither : (side : Side) (a b : Resting) → is_preferred side a b ≡ false → is_preferred side b a ≡ false → a.arrival ≡ b.arrival
preferred_neither side a b f g = (first_neither side a.price a.arrival b.price b.arrival f g).1

-- of two orders with different arrivals one is preferred
pub preferred_either : (side : Side) (a b : Resting) → a.arrival ≢ b.arrival → is_preferred side a b ≡ false → is_preferred side b a ≡ true
preferred_either side a b = first_either side a.price a.arrival b.price b.arrival

-- orders that arrive one after another: two with one arrival are one, and so are two of one command
pub rising_same : (orders : List Resting) (a b : Resting) → EachPair ArrivesBefore orders → Among a orders → Among b orders → a.arrival ≡ b.arrival → a ≡ b
rising_same [] a b rising here there same = absurd here
rising_same (o ∷ orders) a b rising (inl a_is) (inl b_is) same = a_is ∙ sym b_is
rising_same (o ∷ orders) a b rising (inl a_is) (inr there) same =
    let before : ArrivesBefore o b = Each-among (ArrivesBefore o) orders b rising.0 there in
    absurd (omega (arith, before.arrival, ap (λ (q : Resting). q.arrival) a_is))
rising_same (o ∷ orders) a b rising (inr here) (inl b_is) same =
    let before : ArrivesBefore o a = Each-among (ArrivesBefore o) orders a rising.0 here in
    absurd (omega (arith, before.arrival, ap (λ (q : Resting). q.arrival) b_is))
rising_same (o ∷ orders) a b rising (inr here) (inr there) same = rising_same orders a b rising.1 here there same

pub command_same : (orders : List Resting) (a b : Resting) → EachPair ArrivesBefore orders → Among a orders → Among b orders → a.bank ≡ b.bank → a.number ≡ b.number → a ≡ b
command_same [] a b rising here there bank number = absurd here
command_same (o ∷ orders) a b rising (inl a_is) (inl b_is) bank number = a_is ∙ sym b_is
command_same (o ∷ orders) a b rising (inl a_is) (inr there) bank number =
    let before : ArrivesBefore o b = Each-among (ArrivesBefore o) orders b rising.0 there in
    absurd (before.number (ap (λ (q : Resting). q.bank) (sym a_is) ∙ bank) (ap (λ (q : Resting). q.number) (sym a_is) ∙ number))
command_same (o ∷ orders) a b rising (inr here) (inl b_is) bank number =
    let before : ArrivesBefore o a = Each-among (ArrivesBefore o) orders a rising.0 here in
    absurd (before.number (ap (λ (q : Resting). q.bank) (sym b_is) ∙ sym bank) (ap (λ (q : Resting). q.number) (sym b_is) ∙ sym number))
command_same (o ∷ orders) a b rising (inr here) (inr there) bank number = command_same orders a b rising.1 here there bank number

-- there is one best order
pub best_same : (side : Side) (orders book : List Resting) (a b : Resting) → ((o : Resting) → Among o orders → Among o book) → EachPair ArrivesBefore book → IsBest side orders a → IsBest side orders b → a ≡ b
best_same side orders book a b inside rising best_a best_b =
    rising_same book a b rising (inside a best_a.there) (inside b best_b.there)
    (preferred_neither side a b
    (Each-among (λ other. is_preferred side other b ≡ false) orders a best_b.first best_a.there)
    (Each-among (λ other. is_preferred side other a ≡ false) orders b best_a.first best_b.there))
