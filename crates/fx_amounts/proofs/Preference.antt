-- The laws of the order in which a taker prefers what rests. Here `p` and `a` are a price and an arrival, and so are `q` and `b`,
-- and `r` and `c`.
use Rattle.std.proofs.Common.{ℕ, ◌≡◌, ◌≢◌, ◌≤◌, ◌<◌, true, false, ◌&&◌, eqb, ltb, ◌⊎◌, inl, inr, sym, subst, ◌∙◌, arith}
use Rattle.std.proofs.lemmas.Bool.{cases_Bool, and_parts, and_from, or_parts, or_cases, or_left, or_right, eqb-true, ltb-true, ltb-false, lt-ltb, le-ltb, eq-eqb, and_cases, both_ways}
use Rattle.fx_amounts.specs.declared.side.Side.{Side}
use Rattle.fx_amounts.specs.declared.side.Side.TheVariants.{Buy, Sell}
use Rattle.fx_amounts.specs.Preference.{is_better, comes_first}

-- ---- prices

pub better_self : (side : Side) (p : ℕ) → is_better side p p ≡ false
better_self Buy p = le-ltb p p (omega arith)
better_self Sell p = le-ltb p p (omega arith)

pub better_trans : (side : Side) (p q r : ℕ) → is_better side p q ≡ true → is_better side q r ≡ true → is_better side p r ≡ true
better_trans Buy p q r f g = lt-ltb p r (omega (arith, ltb-true p q f, ltb-true q r g))
better_trans Sell p q r f g = lt-ltb r p (omega (arith, ltb-true q p f, ltb-true r q g))

-- prices of which neither is better are equal
pub better_neither : (side : Side) (p q : ℕ) → is_better side p q ≡ false → is_better side q p ≡ false → p ≡ q
better_neither Buy p q f g = omega (arith, ltb-false p q f, ltb-false q p g)
better_neither Sell p q f g = omega (arith, ltb-false q p f, ltb-false p q g)

-- ---- prices and arrivals

-- what it says that one comes first
pub first_cases : (side : Side) (p a q b : ℕ) → comes_first side p a q b ≡ true → (is_better side p q ≡ true) ⊎ ((p ≡ q) × (a < b))
first_cases side p a q b h =
    elim (or_cases (is_better side p q) (eqb p q && ltb a b) h) [
      | inl better ↦ inl better
      | inr both ↦ let parts = and_parts (eqb p q) (ltb a b) both in inr (eqb-true p q parts.0, ltb-true a b parts.1)
    ]

pub first-better : (side : Side) (p a q b : ℕ) → is_better side p q ≡ true → comes_first side p a q b ≡ true
first-better side p a q b h = or_left (is_better side p q) (eqb p q && ltb a b) h

pub first-earlier : (side : Side) (p a q b : ℕ) → p ≡ q → a < b → comes_first side p a q b ≡ true
first-earlier side p a q b same earlier =
    or_right (is_better side p q) (eqb p q && ltb a b) (and_from (eqb p q) (ltb a b) (eq-eqb p q same) (lt-ltb a b earlier))

pub first_self : (side : Side) (p a : ℕ) → comes_first side p a p a ≡ true → ⊥
first_self side p a h =
    elim (first_cases side p a p a h) [
      | inl better ↦ both_ways (is_better side p p) (better_self side p) better
      | inr same ↦ omega (arith, same.1)
    ]

pub first_trans : (side : Side) (p a q b r c : ℕ) → comes_first side p a q b ≡ true → comes_first side q b r c ≡ true → comes_first side p a r c ≡ true
first_trans side p a q b r c f g =
    elim (first_cases side p a q b f) [
      | inl pq ↦ first-better side p a r c
          (elim (first_cases side q b r c g) [
            | inl qr ↦ better_trans side p q r pq qr
            | inr qr ↦ subst (λ x. is_better side p x ≡ true) qr.0 pq
          ])
      | inr pq ↦
          elim (first_cases side q b r c g) [
            | inl qr ↦ first-better side p a r c (subst (λ x. is_better side x r ≡ true) (sym pq.0) qr)
            | inr qr ↦ first-earlier side p a r c (pq.0 ∙ qr.0) (omega (arith, pq.1, qr.1))
          ]
    ]

not_earlier : (p q a b : ℕ) → p ≡ q → (eqb p q && ltb a b) ≡ false → b ≤ a
not_earlier p q a b same none =
    elim (and_cases (eqb p q) (ltb a b) none) [
      | inl differ ↦ absurd (both_ways (eqb p q) differ (eq-eqb p q same))
      | inr later ↦ ltb-false a b later
    ]

-- where neither comes first, price and arrival are the same
pub first_neither : (side : Side) (p a q b : ℕ) → comes_first side p a q b ≡ false → comes_first side q b p a ≡ false → (p ≡ q) × (a ≡ b)
first_neither side p a q b f g =
    let one = or_parts (is_better side p q) (eqb p q && ltb a b) f in
    let other = or_parts (is_better side q p) (eqb q p && ltb b a) g in
    let same : p ≡ q = better_neither side p q one.0 other.0 in
    (same, omega (arith, not_earlier p q a b same one.1, not_earlier q p b a (sym same) other.1))

-- of two with different arrivals one comes first
pub first_either : (side : Side) (p a q b : ℕ) → a ≢ b → comes_first side p a q b ≡ false → comes_first side q b p a ≡ true
first_either side p a q b differ f =
    elim (cases_Bool (comes_first side q b p a)) [
      | inl yes' ↦ yes'
      | inr no' ↦ absurd (differ (first_neither side p a q b f no').1)
    ]
