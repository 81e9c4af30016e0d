-- The banks that a walk over some has passed, and those of some that pass a test.
use Rattle.std.proofs.Common.{ℕ, zero, suc, ◌≡◌, ◌+◌, ◌-◌, ◌≤◌, ◌<◌, Bool, true, List, [], ◌∷◌, ◌⊎◌, inl, inr, ap, sym, subst, ◌∙◌, arith, length, take, get_or}
use Rattle.std.proofs.lemmas.Bool.{cases_Bool, cases_eq, cases_lt}
use Rattle.std.proofs.lemmas.List.{get_or-take, get_or_default, length-take}
use Rattle.std.proofs.lemmas.List.Kept.{AllPairs-from_increasing}
use Rattle.std.specs.List.{Contains, filter}
use Rattle.std.specs.List.Sorted.{IsStrictlyIncreasing}
use Rattle.fx_rules.proofs.ListLemmas.{filter_cons_false, filter_cons_true}

-- a number is one of some, or not
pub contains_or : (xs : List ℕ) (x : ℕ) → Contains xs x ⊎ (Contains xs x → ⊥)
contains_or [] x = inr (λ there. absurd (omega (arith, there.1)))
contains_or (y ∷ ys) x =
    elim (cases_eq y x) [
      | inl same ↦ inl (0, omega arith, same)
      | inr differ ↦
          elim (contains_or ys x) [
            | inl there ↦ inl (suc there.0, omega (arith, there.1), there.2)
            | inr apart ↦ inr (later differ apart)
          ]
    ]
  where
    later : (y ≡ x → ⊥) → (Contains ys x → ⊥) → Contains (y ∷ ys) x → ⊥
    later differ apart (zero, within, is) = differ is
    later differ apart (suc k, within, is) = apart (k, omega arith, is)

-- what comes next was not passed, where each is above those before it
pub not_passed : (xs : List ℕ) (k d : ℕ) → IsStrictlyIncreasing xs → k < length xs → Contains (take k xs) (get_or xs k d) → ⊥
not_passed xs k d rises within there =
    let x : ℕ = get_or xs k d in
    let below : there.0 < k = omega (arith, there.1, length-take k xs) in
    let here : get_or xs there.0 x ≡ x = sym (get_or-take k xs there.0 x below) ∙ there.2 in
    omega (arith, AllPairs-from_increasing xs rises there.0 k x below within, here, get_or_default xs k x d within)

-- what passes a test among some is one of them
pub kept-of : (test : ℕ → Bool) (xs : List ℕ) (x : ℕ) → Contains (filter test xs) x → Contains xs x × (test x ≡ true)
kept-of test [] x there = absurd (omega (arith, there.1))
kept-of test (y ∷ ys) x there =
    elim (cases_Bool (test y)) [
      | inl kept ↦ here (kept-of test ys x) kept (subst (λ (zs : List ℕ). Contains zs x) (filter_cons_true test y ys kept) there)
      | inr dropped ↦
          let it = kept-of test ys x (subst (λ (zs : List ℕ). Contains zs x) (filter_cons_false test y ys dropped) there) in
          ((suc it.0.0, omega (arith, it.0.1), it.0.2), it.1)
    ]
  where
    here : (Contains (filter test ys) x → Contains ys x × (test x ≡ true)) → test y ≡ true → Contains (y ∷ filter test ys) x → Contains (y ∷ ys) x × (test x ≡ true)
    here behind kept (zero, within, is) = ((0, omega arith, is), ap test (sym is) ∙ kept)
    here behind kept (suc k, within, is) = let it = behind (k, omega (arith, within), is) in ((suc it.0.0, omega (arith, it.0.1), it.0.2), it.1)

-- of numbers below another one, each above those before it, there are fewer than that where one is left out
pub few-apart : (xs : List ℕ) (n own : ℕ) → IsStrictlyIncreasing xs → ((x : ℕ) → Contains xs x → x < n) → own < n → (Contains xs own → ⊥) → length xs + 1 ≤ n
few-apart xs n own rises low within absent =
    elim (cases_lt 0 (length xs)) [
      | inr none ↦ omega (arith, none, within)
      | inl some ↦
          let last : ℕ = length xs - 1 in
          let at_last : last < length xs = omega (arith, some) in
          let most : get_or xs last 0 < n = low (get_or xs last 0) (last, at_last, get_or_default xs last (get_or xs last 0) 0 at_last) in
          elim (above last at_last) [
            | inl before ↦ omega (arith, before.0, before.1, within, some)
            | inr behind ↦ omega (arith, behind, most, some)
          ]
    ]
  where
    apart : (k : ℕ) → k < length xs → get_or xs k 0 ≡ own → ⊥
    apart k inside same = absent (k, inside, get_or_default xs k own 0 inside ∙ same)

    -- the numbers before the one left out are at their places at least, and those behind it above these
    above : (k : ℕ) → k < length xs → ((get_or xs k 0 < own) × (k ≤ get_or xs k 0)) ⊎ (k + 1 ≤ get_or xs k 0)
    above zero inside =
        elim (cases_lt (get_or xs 0 0) own) [
          | inl less ↦ inl (less, omega arith)
          | inr upto ↦ inr (let differ = apart 0 inside in omega (arith, upto, differ))
        ]
    above (suc k) inside =
        let next : k + 1 ≡ suc k = omega arith in
        let rise : get_or xs k 0 < get_or xs (suc k) 0 = subst (λ (j : ℕ). get_or xs k 0 < get_or xs j 0) next (rises k (omega (arith, inside))) in
        elim (above k (omega (arith, inside))) [
          | inr behind ↦ inr (omega (arith, behind, rise))
          | inl before ↦
              elim (cases_lt (get_or xs (suc k) 0) own) [
                | inl less ↦ inl (less, omega (arith, before.1, rise))
                | inr upto ↦ inr (let differ = apart (suc k) inside in omega (arith, upto, differ, before.0, before.1))
              ]
        ]
