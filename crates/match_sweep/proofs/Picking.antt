-- What a taker prefers in a book.
use Rattle.std.proofs.Common.{◌≡◌, Bool, true, false, List, [], ◌∷◌, ◌⊎◌, inl, inr, refl, sym, subst, Option, Some, None}
use Rattle.std.proofs.lemmas.Bool.{cases_eq, both_ways, false_from_ne_true}
use Rattle.fx_amounts.specs.declared.side.Side.{Side}
use Rattle.fx_rules.specs.declared.orders.Resting.{Resting}
use Rattle.fx_rules.specs.Lists.{Among, EachPair}
use Rattle.fx_rules.specs.Sound.{ArrivesBefore}
use Rattle.fx_rules.specs.Sweep.{is_preferred}
use Rattle.fx_rules.specs.Plan.{is_behind}
use Rattle.fx_rules.proofs.Preference.{preferred_self, preferred_trans, preferred_either, rising_same}

pub not_back : (side : Side) (a b : Resting) → is_preferred side a b ≡ true → is_preferred side b a ≡ false
not_back side a b above = false_from_ne_true (is_preferred side b a) (λ back. preferred_self side a (preferred_trans side a b a above back))

-- an order to which another is not preferred is that one, or is preferred to it
pub same_or_before : (side : Side) (book : List Resting) (a b : Resting) → EachPair ArrivesBefore book → Among a book → Among b book → is_preferred side b a ≡ false → (a ≡ b) ⊎ (is_preferred side a b ≡ true)
same_or_before side book a b rising here there below =
    elim (cases_eq b.arrival a.arrival) [
      | inl same ↦ inl (rising_same book a b rising here there (sym same))
      | inr differ ↦ inr (preferred_either side b a differ below)
    ]

pub not_before_first : (side : Side) (book : List Resting) (o h m : Resting) → EachPair ArrivesBefore book → Among o book → Among h book → Among m book → is_preferred side o h ≡ false → is_preferred side h m ≡ false → is_preferred side o m ≡ false
not_before_first side book o h m rising o_in h_in m_in below above =
    elim (same_or_before side book h o rising h_in o_in below) [
      | inl same ↦ subst (λ (q : Resting). is_preferred side q m ≡ false) same above
      | inr h_first ↦
          elim (same_or_before side book m h rising m_in h_in above) [
            | inl same ↦ not_back side m o (subst (λ (q : Resting). is_preferred side q o ≡ true) (sym same) h_first)
            | inr m_first ↦ not_back side m o (preferred_trans side m h o m_first h_first)
          ]
    ]

pub none_among : (orders : List Resting) → ((o : Resting) → Among o orders → ⊥) → orders ≡ []
none_among [] none = refl
none_among (o ∷ orders) none = absurd (none o (inl refl))

pub still_behind : (side : Side) (last : Option Resting) (best o : Resting) → is_behind side last best ≡ true → is_preferred side best o ≡ true → is_behind side last o ≡ true
still_behind side None best o behind later = refl
still_behind side (Some last) best o behind later = preferred_trans side last best o behind later

pub same_tests : (p q : Bool) → (p ≡ true → q ≡ true) → (q ≡ true → p ≡ true) → p ≡ q
same_tests true true there back = refl
same_tests true false there back = absurd (both_ways false refl (there refl))
same_tests false true there back = absurd (both_ways false refl (back refl))
same_tests false false there back = refl
