-- Who sends at a desk, and the fronts that the passes are made of.
use Rattle.std.proofs.Common.{ℕ, zero, suc, ◌≡◌, ◌≤◌, ◌<◌, eqb, ltb, Bool, true, false, ◌&&◌, ◌||◌, List, [], ◌∷◌, ◌++◌, map, length, slice_get, Some, option_map, inl, inr, refl, ap, sym, ◌∙◌, arith, append-nil}
use Rattle.std.specs.List.{filter}
use Rattle.std.proofs.Math.Bool.{and-true, and-false}
use Rattle.std.proofs.lemmas.Bool.{cases_eq, cases_lt, eq-eqb, ne_eqb, lt-ltb, le-ltb}
use Rattle.std.proofs.lemmas.List.{same_lists, map_push}
use Rattle.std.proofs.lemmas.List.Elements.{filter-append}
use Rattle.std.proofs.lemmas.Option.{get_or_from_slice_get, slice_get-get_or, slice_get-map}
use Rattle.fx_rules.specs.declared.outcome.Entry.{Entry}
use Rattle.fx_rules.specs.Lists.{below}
use Rattle.fx_rules.specs.Session.{Header, IsSession, bank_count, host, senders}
use Rattle.fx_rules.proofs.Below.{length-map_below, get_or_below}
use Rattle.fx_rules.proofs.ListLemmas.{filter_cons_true, filter_cons_false}
use Rattle.fx_chronicle.specs.Faces.{Witness, witness, AreNew}
use Rattle.fx_chronicle.specs.Passes.{new_passes, sender_at}
use Rattle.fx_chronicle.proofs.Places.{second-senders, other-senders}

-- the pass of a sender that has seen nothing
abbrev pub new_pass : ℕ → Witness Entry
new_pass sender = witness sender []

abbrev key_of : Witness Entry → ℕ
key_of pass = pass.key

-- new passes have the senders' keys
keys-back : (numbers : List ℕ) → map key_of (map new_pass numbers) ≡ numbers
keys-back [] = refl
keys-back (n ∷ numbers) = ap (λ rest. n ∷ rest) (keys-back numbers)

pub new-senders : (h : Header) (passes : List (Witness Entry)) → passes ≡ new_passes h → map (λ (pass : Witness Entry). pass.key) passes ≡ senders h
new-senders h passes new = ap (map key_of) new ∙ keys-back (senders h)

-- ---- the fronts that passes are made of

-- whether a number is a sender's
abbrev pub is_sender : Header → ℕ → Bool
is_sender h number = ltb number (bank_count h) || (eqb h.version 2 && eqb number host)

-- those of fronts whose keys are senders'
abbrev pub of_senders : Header → List (Witness Entry) → List (Witness Entry)
of_senders h fronts = filter (λ (front : Witness Entry). is_sender h front.key) fronts

module _ (h : Header) where
  -- those of the fronts of all keys below a number
  kept : ℕ → List (Witness Entry)
  kept n = of_senders h (map new_pass (below n))

  one-kept : (n : ℕ) → is_sender h n ≡ true → kept (suc n) ≡ kept n ++ new_pass n ∷ []
  unfolding kept
  one-kept n is =
      ap (of_senders h) (map_push new_pass (below n) n) ∙ filter-append _ (map new_pass (below n)) (new_pass n ∷ [])
      ∙ ap (λ more. kept n ++ more) (filter_cons_true (λ (front : Witness Entry). is_sender h front.key) (new_pass n) [] is)

  one-left : (n : ℕ) → is_sender h n ≡ false → kept (suc n) ≡ kept n
  unfolding kept
  one-left n not =
      ap (of_senders h) (map_push new_pass (below n) n) ∙ filter-append _ (map new_pass (below n)) (new_pass n ∷ [])
      ∙ ap (λ more. kept n ++ more) (filter_cons_false (λ (front : Witness Entry). is_sender h front.key) (new_pass n) [] not)
      ∙ append-nil (kept n)

  bank-sends : (n : ℕ) → n < bank_count h → is_sender h n ≡ true
  bank-sends n bank = ap (λ is. is || (eqb h.version 2 && eqb n host)) (lt-ltb n (bank_count h) bank)

  -- all of the banks
  banks-kept : (n : ℕ) → n ≤ bank_count h → kept n ≡ map new_pass (below n)
  unfolding kept
  banks-kept zero most = refl
  banks-kept (suc n) most =
      one-kept n (bank-sends n (omega arith)) ∙ ap (λ front. front ++ new_pass n ∷ []) (banks-kept n (omega arith)) ∙ sym (map_push new_pass (below n) n)

  none-between : (n : ℕ) → bank_count h ≤ n → n < 64 → is_sender h n ≡ false
  none-between n past less =
      let not : eqb n host ≡ false = ne_eqb n 64 (λ same. omega (arith, same, less)) in
      ap (λ is. is || (eqb h.version 2 && eqb n host)) (le-ltb n (bank_count h) past) ∙ ap (λ is. eqb h.version 2 && is) not ∙ and-false (eqb h.version 2)

  -- and none between them and the operator
  between-kept : (n : ℕ) → bank_count h ≤ n → n ≤ 64 → kept n ≡ map new_pass (below (bank_count h))
  between-kept zero past most = let none : zero ≡ bank_count h = omega (arith, past) in banks-kept zero (omega arith) ∙ ap (λ k. map new_pass (below k)) none
  between-kept (suc n) past most = elim (cases_lt n (bank_count h)) [
    | inl last ↦ let all : suc n ≡ bank_count h = omega (arith, last, past) in banks-kept (suc n) (omega (arith, last)) ∙ ap (λ k. map new_pass (below k)) all
    | inr before ↦ one-left n (none-between n before (omega arith)) ∙ between-kept n before (omega arith)
  ]

-- the fronts of the keys of all senders that there can be are in order
all-fronts : (fronts : List (Witness Entry)) → AreNew 65 fronts → fronts ≡ map new_pass (below 65)
all-fronts fronts new =
    same_lists fronts (map new_pass (below 65)) (new.0 ∙ sym (length-map_below new_pass 65))
    (λ k d within.
    let below_it : k < 65 = omega (arith, within, new.0) in
    get_or_from_slice_get fronts k (new_pass k) d (new.1 k below_it) ∙ sym (get_or_below new_pass 65 k d below_it))

-- so those of the senders are the passes of a desk that opens
pub new-kept : (h : Header) (fronts : List (Witness Entry)) → IsSession h → AreNew 65 fronts → of_senders h fronts ≡ new_passes h
unfolding kept
new-kept h fronts session new =
    let banks : List (Witness Entry) = map new_pass (below (bank_count h)) in
    let before : kept h 64 ≡ banks = between-kept h 64 session.banks_most (omega arith) in
    let sends : is_sender h 64 ≡ eqb h.version 2 =
    ap (λ is. is || (eqb h.version 2 && true)) (le-ltb 64 (bank_count h) session.banks_most) ∙ and-true (eqb h.version 2) in
    ap (of_senders h) (all-fronts fronts new)
    ∙ elim (cases_eq h.version 2) [
      | inl second ↦
          let is : eqb h.version 2 ≡ true = eq-eqb h.version 2 second in
          one-kept h 64 (sends ∙ is) ∙ ap (λ front. front ++ new_pass 64 ∷ []) before
          ∙ sym (map_push new_pass (below (bank_count h)) 64) ∙ ap (map new_pass) (sym (second-senders h second))
      | inr other ↦
          let not : eqb h.version 2 ≡ false = ne_eqb h.version 2 other in
          one-left h 64 (sends ∙ not) ∙ before ∙ ap (map new_pass) (sym (other-senders h other))
    ]

-- the pass at a place is that of the sender there
pub pass-at : (h : Header) (k : ℕ) → k < length (senders h) → slice_get (new_passes h) k ≡ Some (new_pass (sender_at h k))
pass-at h k within = slice_get-map new_pass (senders h) k ∙ ap (option_map new_pass) (slice_get-get_or (senders h) k 0 within)
