-- Where a sender stands among all of a session.
use Rattle.std.proofs.Common.{ℕ, ◌≡◌, ◌≢◌, ◌+◌, ◌-◌, ◌≤◌, ◌<◌, ◌⊎◌, eqb, [], ◌∷◌, ◌++◌, length, get_or, inl, inr, ap, sym, ◌∙◌, arith, append-nil}
use Rattle.std.proofs.Math.Nat.{min-eq_left, min-eq_right}
use Rattle.std.proofs.lemmas.Bool.{cases_eq, cases_lt, cond-true, cond-false, eq-eqb, ne_eqb}
use Rattle.std.proofs.lemmas.List.{get_or_append_left, get_or_push, length_push, map-id}
use Rattle.fx_rules.specs.Lists.{below}
use Rattle.fx_rules.specs.Session.{Header, IsSession, IsSender, bank_count, host, senders}
use Rattle.fx_rules.proofs.Below.{length_below, get_or_below}
use Rattle.fx_chronicle.specs.Passes.{sender_at, place_among}

-- the senders of version 2, and of any other
pub second-senders : (h : Header) → h.version ≡ 2 → senders h ≡ below (bank_count h) ++ host ∷ []
second-senders h second = ap (λ more. below (bank_count h) ++ more) (cond-true (eqb h.version 2) (host ∷ []) [] (eq-eqb h.version 2 second))

pub other-senders : (h : Header) → h.version ≢ 2 → senders h ≡ below (bank_count h)
other-senders h other =
    ap (λ more. below (bank_count h) ++ more) (cond-false (eqb h.version 2) (host ∷ []) [] (ne_eqb h.version 2 other)) ∙ append-nil (below (bank_count h))

-- how many they are
second-count : (h : Header) → h.version ≡ 2 → length (senders h) ≡ bank_count h + 1
second-count h second =
    ap (λ numbers. length numbers) (second-senders h second) ∙ length_push (below (bank_count h)) host ∙ ap (λ n. n + 1) (length_below (bank_count h))

other-count : (h : Header) → h.version ≢ 2 → length (senders h) ≡ bank_count h
other-count h other = ap (λ numbers. length numbers) (other-senders h other) ∙ length_below (bank_count h)

banks-among : (h : Header) → bank_count h ≤ length (senders h)
banks-among h = elim (cases_eq h.version 2) [ inl second ↦ omega (arith, second-count h second) | inr other ↦ omega (arith, other-count h other) ]

pub some-senders : (h : Header) → IsSession h → 0 < length (senders h)
some-senders h session = omega (arith, session.banks_least, banks-among h)

-- a number is a sender's or it is not
pub sender-or-not : (h : Header) (number : ℕ) → IsSender h number ⊎ (IsSender h number → ⊥)
sender-or-not h number = elim (cases_lt number (bank_count h)) [
  | inl bank ↦ inl (inl bank)
  | inr past ↦ elim (cases_eq h.version 2) [
    | inl second ↦ elim (cases_eq number host) [
      | inl operator ↦ inl (inr (second, operator))
      | inr none ↦ inr (λ is. elim is [ inl bank ↦ omega (arith, bank, past) | inr operator ↦ none operator.1 ])
    ]
    | inr other ↦ inr (λ is. elim is [ inl bank ↦ omega (arith, bank, past) | inr operator ↦ other operator.0 ])
  ]
]

-- ---- at which place, and who is there

number-at : (n k d : ℕ) → k < n → get_or (below n) k d ≡ k
number-at n k d within = ap (λ numbers. get_or numbers k d) (sym (map-id (below n))) ∙ get_or_below (λ (i : ℕ). i) n k d within

bank-at : (h : Header) (k : ℕ) → k < bank_count h → sender_at h k ≡ k
bank-at h k within = get_or_append_left (below (bank_count h)) _ 0 k (omega (arith, within, length_below (bank_count h))) ∙ number-at (bank_count h) k 0 within

operator-at : (h : Header) → h.version ≡ 2 → sender_at h (bank_count h) ≡ host
operator-at h second =
    ap (λ numbers. get_or numbers (bank_count h) 0) (second-senders h second)
    ∙ get_or_push (below (bank_count h)) host 0 (bank_count h) (length_below (bank_count h))

bank-place : (count bank : ℕ) → bank < count → place_among count bank ≡ bank
bank-place count bank within = let most : bank ≤ count - 1 = omega (arith, within) in min-eq_left most

last-place : (count number : ℕ) → count - 1 ≤ number → place_among count number ≡ count - 1
last-place count number past = min-eq_right past

operator-place : (h : Header) → IsSession h → h.version ≡ 2 → place_among (length (senders h)) host ≡ bank_count h
operator-place h session second =
    let banks_most : bank_count h ≤ 64 = session.banks_most in
    let long : length (senders h) ≡ bank_count h + 1 = second-count h second in
    let back : length (senders h) - 1 ≡ bank_count h = omega (arith, long) in
    last-place (length (senders h)) host (omega (arith, long, banks_most)) ∙ back

-- a sender stands at its place
pub sender-there : (h : Header) (sender : ℕ) → IsSession h → IsSender h sender → sender_at h (place_among (length (senders h)) sender) ≡ sender
sender-there h sender session (inl bank) =
    ap (sender_at h) (bank-place (length (senders h)) sender (omega (arith, bank, banks-among h))) ∙ bank-at h sender bank
sender-there h sender session (inr operator) =
    ap (λ number. sender_at h (place_among (length (senders h)) number)) operator.1
    ∙ ap (sender_at h) (operator-place h session operator.0) ∙ operator-at h operator.0 ∙ sym operator.1

-- and there is one for it
pub place-within : (h : Header) (sender : ℕ) → IsSession h → place_among (length (senders h)) sender < length (senders h)
place-within h sender session = let some : 0 < length (senders h) = some-senders h session in elim (cases_lt sender (length (senders h))) [
  | inl less ↦ omega (arith, bank-place (length (senders h)) sender less, less)
  | inr past ↦ omega (arith, last-place (length (senders h)) sender (omega (arith, past)), some)
]

-- the place of who stands at one is that one
pub place-back : (h : Header) (k : ℕ) → IsSession h → k < length (senders h) → place_among (length (senders h)) (sender_at h k) ≡ k
place-back h k session within =
    let count = length (senders h) in
    elim (cases_lt k (bank_count h)) [
      | inl bank ↦ ap (place_among count) (bank-at h k bank) ∙ bank-place count k within
      | inr past ↦ elim (cases_eq h.version 2) [
        | inl second ↦
            let last : k ≡ bank_count h = omega (arith, past, within, second-count h second) in
            ap (λ place. place_among count (sender_at h place)) last ∙ ap (place_among count) (operator-at h second) ∙ operator-place h session second ∙ sym last
        | inr other ↦ absurd (omega (arith, past, within, other-count h other))
      ]
    ]
