-- The credit with which a session opens.
use Rattle.std.proofs.Common.{ℕ, ◌≡◌, ◌+◌, ◌*◌, ◌/◌, ◌%◌, ◌≤◌, ◌<◌, min, Bool, false, List, [], ◌∷◌, ◌++◌, length, map, replicate, get_or, ap, sym, subst, ◌∙◌, arith, below_more, Option, None}
use Rattle.std.proofs.lemmas.List.{get_or_append_left, get_or_push, length-replicate, get_or-replicate}
use Rattle.std.proofs.lemmas.Nat.{div-mul-add, mod-mul-add}
use Rattle.fx_rules.specs.Lists.{below}
use Rattle.fx_rules.specs.Session.{Header, IsSession, bank_count, opening_limit, opening_total}
use Rattle.fx_rules.proofs.Below.{get_or_below, length-map_below}
use Rattle.credit_lines.specs.Credit.{Credit, place, shared_place, used_in, total_in, spent_in, left_in, opened, IsCredit}
use Rattle.credit_lines.specs.inside.Credit.{AreLines, AreSpent, IsBounded, AreKept}
use Rattle.credit_lines.proofs.CreditLemmas.{place_below, shared_below}
use Rattle.credit_lines.proofs.Sums.{others-most}

pub used_in-opened : (h : Header) (i j : ℕ) → i < bank_count h → j < bank_count h → used_in (opened h) i j ≡ 0
used_in-opened h i j p q = get_or-replicate (bank_count h * bank_count h) (shared_place (bank_count h) i j) 0 0 (shared_below (bank_count h) i j p q)

pub left_in-opened : (h : Header) (i j : ℕ) → i < bank_count h → j < bank_count h → left_in (opened h) i j ≡ min (opening_limit h i j) (opening_limit h j i)
left_in-opened h i j p q = let unused : used_in (opened h) i j ≡ 0 = used_in-opened h i j p q in omega arith

pub total_in-opened : (h : Header) (i : ℕ) → i < bank_count h → total_in (opened h) i ≡ opening_total h i
total_in-opened h i p = get_or_below (opening_total h) (bank_count h) i None p

pub spent_in-opened : (h : Header) (i : ℕ) → i < bank_count h → spent_in (opened h) i ≡ 0
spent_in-opened h i p = omega (arith, others-most (bank_count h) i 0 (used_in (opened h) i) (λ k k_in _. omega (arith, used_in-opened h i k p k_in)))

pub IsCredit-opened : (h : Header) → IsSession h → IsCredit (opened h)
IsCredit-opened h session = record {
  banks_most = session.banks_most;
  limits_full = session.limits_full;
  uses_full = length-replicate (bank_count h * bank_count h) 0;
  totals_full = length-map_below (opening_total h) (bank_count h);
  limits_most = λ i j p q. session.limits_most (place (bank_count h) i j) 0 (omega (arith, session.limits_full, place_below (bank_count h) i j p q));
  within = λ i j p q. let unused : used_in (opened h) i j ≡ 0 = used_in-opened h i j p q in omega arith;
  within_total = λ i most p has. omega (arith, spent_in-opened h i p);
}

-- no bank has spent anything
pub AreSpent-opened : (h : Header) (spent : List ℕ) → spent ≡ replicate (bank_count h) 0 → AreSpent (opened h) spent
AreSpent-opened h spent none = subst (AreSpent (opened h)) (sym none) (record {
  full = length-replicate (bank_count h) 0;
  spent_are = λ i p. get_or-replicate (bank_count h) i 0 0 p ∙ sym (spent_in-opened h i p);
})

-- where no opening total is found, none is there
pub IsBounded-opened : (h : Header) (totals : List (Option ℕ)) (bounded : Bool) → totals ≡ map (opening_total h) (below (bank_count h)) → (bounded ≡ false → (i : ℕ) → i < length totals → get_or totals i None ≡ None) → IsBounded (opened h) bounded
IsBounded-opened h totals bounded are none unbounded i p =
    ap (λ (ts : List (Option ℕ)). get_or ts i None) (sym are)
    ∙ none unbounded i (omega (arith, p, ap length are, length-map_below (opening_total h) (bank_count h)))

-- the lesser of the limits of the two banks of a place
abbrev pub lesser_at : Header → ℕ → ℕ → ℕ
lesser_at h banks at = min (opening_limit h (at / banks) (at % banks)) (opening_limit h (at % banks) (at / banks))

-- one line more
pub opening_more : (h : Header) (banks at value i j first second : ℕ) (old new : List ℕ) → length old ≡ at → new ≡ old ++ value ∷ [] → value ≡ min first second → first ≡ opening_limit h i j → second ≡ opening_limit h j i → i ≡ at / banks → j ≡ at % banks
    → ((k : ℕ) → k < at → get_or old k 0 ≡ lesser_at h banks k) → (k : ℕ) → k < at + 1 → get_or new k 0 ≡ lesser_at h banks k
opening_more h banks at value i j first second old new count pushed is_value is_first is_second row column before =
    let last : value ≡ lesser_at h banks at =
    is_value ∙ ap (λ x. min x second) is_first ∙ ap (min (opening_limit h i j)) is_second
    ∙ ap (λ x. min (opening_limit h x j) (opening_limit h j x)) row ∙ ap (λ y. min (opening_limit h (at / banks) y) (opening_limit h y (at / banks))) column in
    below_more (λ k. get_or new k 0 ≡ lesser_at h banks k) at
    (λ k below. ap (λ (xs : List ℕ). get_or xs k 0) pushed ∙ get_or_append_left old (value ∷ []) 0 k (omega arith) ∙ before k below)
    (ap (λ (xs : List ℕ). get_or xs at 0) pushed ∙ get_or_push old value 0 at count ∙ last)

pub AreLines-opened : (h : Header) (lines : List ℕ) → length lines ≡ bank_count h * bank_count h → ((k : ℕ) → k < bank_count h * bank_count h → get_or lines k 0 ≡ lesser_at h (bank_count h) k) → AreLines (opened h) lines
AreLines-opened h lines full each = record {
  full = full;
  lines_are = λ i j p q.
      let row : place (bank_count h) i j / bank_count h ≡ i = div-mul-add i (bank_count h) j q in
      let column : place (bank_count h) i j % bank_count h ≡ j = mod-mul-add i (bank_count h) j q in
      each (place (bank_count h) i j) (place_below (bank_count h) i j p q)
      ∙ ap (λ x. min (opening_limit h x (place (bank_count h) i j % bank_count h)) (opening_limit h (place (bank_count h) i j % bank_count h) x)) row
      ∙ ap (λ y. min (opening_limit h i y) (opening_limit h y i)) column
      ∙ sym (left_in-opened h i j p q);
}

-- the lines are made once a place was visited for each
pub opening_done : (h : Header) (banks at : ℕ) (lines : List ℕ) → banks ≡ bank_count h → length lines ≡ at → at ≤ banks * banks → banks * banks ≤ at → ((k : ℕ) → k < at → get_or lines k 0 ≡ lesser_at h banks k) → AreLines (opened h) lines
opening_done h banks at lines is_banks count upto all each =
    let Made : ℕ → Type 0 = λ b. (length lines ≡ b * b) × ((k : ℕ) → k < b * b → get_or lines k 0 ≡ lesser_at h b k) in
    let made : Made (bank_count h) = subst Made is_banks (omega arith, λ k below. each k (omega arith)) in
    AreLines-opened h lines made.0 made.1

-- what is made as lines open
pub opened_kept : (h : Header) (names : List (List ℕ)) (limits uses : List ℕ) (totals : List (Option ℕ)) (lines spent : List ℕ) (bounded : Bool) → IsSession h → names ≡ h.banks → limits ≡ h.limits → uses ≡ replicate (length names * length names) 0 → totals ≡ map (opening_total h) (below (bank_count h)) → AreLines (opened h) lines
    → spent ≡ replicate (length names) 0 → (bounded ≡ false → (i : ℕ) → i < length totals → get_or totals i None ≡ None)
    → AreKept (record { banks = length names; limits = limits; uses = uses; totals = totals }) lines spent bounded
opened_kept h names limits uses totals lines spent bounded session names_are limits_are uses_are totals_are lines_are spent_are none =
    let Of : List (List ℕ) → List ℕ → List ℕ → List (Option ℕ) → Credit = λ n l u t. record { banks = length n; limits = l; uses = u; totals = t } in
    let same : Of names limits uses totals ≡ opened h =
    ap (λ n. Of n limits uses totals) names_are ∙ ap (λ l. Of h.banks l uses totals) limits_are
    ∙ ap (λ u. Of h.banks h.limits u totals) (uses_are ∙ ap (λ (n : List (List ℕ)). replicate (length n * length n) 0) names_are)
    ∙ ap (Of h.banks h.limits (replicate (bank_count h * bank_count h) 0)) totals_are in
    subst (λ (c : Credit). AreKept c lines spent bounded) (sym same) (
      IsCredit-opened h session,
      lines_are,
      AreSpent-opened h spent (spent_are ∙ ap (λ (n : List (List ℕ)). replicate (length n) 0) names_are),
      IsBounded-opened h totals bounded totals_are none,
    )
