-- Where what two banks set or use stands, and what a take or a new limit leaves at each place.
use Rattle.std.proofs.Common.{ℕ, ◌≡◌, ◌≢◌, ◌+◌, ◌-◌, ◌*◌, ◌^◌, ◌≤◌, ◌<◌, min, max, List, length, get_or, set, ◌⊎◌, inl, inr, refl, ap, sym, subst, ◌∙◌, arith, Option, Some, None}
use Rattle.std.specs.Option.{option_map}
use Rattle.std.proofs.lemmas.Bool.{cases_eq}
use Rattle.std.proofs.lemmas.List.{length-set, get_or-set_same, get_or-set_other}
use Rattle.std.proofs.lemmas.Nat.{mul-add-lt, same_from_place}
use Rattle.fx_amounts.specs.Quantity.{IsUnits}
use Rattle.fx_rules.specs.State.{at_most}
use Rattle.credit_lines.specs.Credit.{Credit, place, shared_place, limit_in, used_in, total_in, spent_in, room_in, left_in, line_in, with_used, taken, given_back, limited, totalled, IsCredit}
use Rattle.credit_lines.specs.inside.Credit.{lined, AreLines, both_set, AreSpent}
use Rattle.credit_lines.proofs.Sums.{others-agree, others-more, others-most}

pub place_below : (banks i j : ℕ) → i < banks → j < banks → place banks i j < banks * banks
place_below banks i j first second = mul-add-lt i banks j banks first second

pub shared_below : (banks i j : ℕ) → i < banks → j < banks → shared_place banks i j < banks * banks
shared_below banks i j first second = mul-add-lt (min i j) banks (max i j) banks (omega arith) (omega arith)

pub shared_place-swap : (banks i j : ℕ) → shared_place banks i j ≡ shared_place banks j i
shared_place-swap banks i j =
    let lower : min i j ≡ min j i = omega arith in
    let higher : max i j ≡ max j i = omega arith in
    ap (λ row. place banks row (max i j)) lower ∙ ap (λ column. place banks (min j i) column) higher

-- two places are one only where both banks are
pub place_apart : (banks i j a b : ℕ) → j < banks → b < banks → (a ≡ i → b ≡ j → ⊥) → place banks a b ≢ place banks i j
place_apart banks i j a b second second' differ same =
    let parts = same_from_place a b i j banks second' second same in differ parts.0 parts.1

-- the banks of one shared place are the same two
pub same_two : (banks i j a b : ℕ) → i < banks → j < banks → a < banks → b < banks → shared_place banks a b ≡ shared_place banks i j → ((a ≡ i) × (b ≡ j)) ⊎ ((a ≡ j) × (b ≡ i))
same_two banks i j a b p q r s same =
    let parts : (min a b ≡ min i j) × (max a b ≡ max i j) = same_from_place (min a b) (max a b) (min i j) (max i j) banks (omega arith) (omega arith) same in
    let rows : min a b ≡ min i j = parts.0 in
    let columns : max a b ≡ max i j = parts.1 in
    elim (cases_eq a i) [
      | inl first ↦ let second : b ≡ j = omega arith in inl (first, second)
      | inr other ↦ let first : a ≡ j = omega arith in let second : b ≡ i = omega arith in inr (first, second)
    ]

-- what holds of two banks either way round holds wherever they are the banks of a shared place
at_two : (P : ℕ → ℕ → Type 0) (banks i j a b : ℕ) → i < banks → j < banks → a < banks → b < banks → P i j → P j i → shared_place banks a b ≡ shared_place banks i j → P a b
at_two P banks i j a b p q r s here back same =
    elim (same_two banks i j a b p q r s same) [
      | inl as_named ↦ subst (λ x. P x b) (sym as_named.0) (subst (P i) (sym as_named.1) here)
      | inr turned ↦ subst (λ x. P x b) (sym turned.0) (subst (P j) (sym turned.1) back)
    ]

-- two banks are these in this order, or they are not
pub same_banks : (i j a b : ℕ) → ((a ≡ i) × (b ≡ j)) ⊎ (a ≡ i → b ≡ j → ⊥)
same_banks i j a b =
    elim (cases_eq a i) [
      | inl row ↦ elim (cases_eq b j) [ inl column ↦ inl (row, column) | inr other ↦ inr (λ _ same. other same) ]
      | inr other ↦ inr (λ same _. other same)
    ]

-- a table of what each two banks have in common, in the rows of both, where that of two banks changes
lined-changed : (banks : ℕ) (old new : ℕ → ℕ → ℕ) (cells : List ℕ) (i j cell : ℕ) → length cells ≡ banks * banks → i < banks → j < banks
    → ((a b : ℕ) → a < banks → b < banks → get_or cells (place banks a b) 0 ≡ old a b)
    → cell ≡ new i j → cell ≡ new j i → ((a b : ℕ) → a < banks → b < banks → shared_place banks a b ≢ shared_place banks i j → new a b ≡ old a b)
    → (a b : ℕ) → a < banks → b < banks → get_or (lined banks cells i j cell) (place banks a b) 0 ≡ new a b
lined-changed banks old new cells i j cell full p q before here back others a b r s =
    let first : List ℕ = set cells (place banks i j) cell in
    elim (same_banks j i a b) [
      | inl turned ↦
          subst (λ x. get_or (lined banks cells i j cell) (place banks x b) 0 ≡ new x b) (sym turned.0)
          (subst (λ y. get_or (lined banks cells i j cell) (place banks j y) 0 ≡ new j y) (sym turned.1)
          (get_or-set_same first (place banks j i) cell 0 (omega (arith, full, length-set cells (place banks i j) cell, place_below banks j i q p)) ∙ back))
      | inr not_turned ↦
          get_or-set_other first (place banks j i) (place banks a b) cell 0 (place_apart banks j i a b p s not_turned)
          ∙ elim (same_banks i j a b) [
            | inl named ↦
                subst (λ x. get_or first (place banks x b) 0 ≡ new x b) (sym named.0)
                (subst (λ y. get_or first (place banks i y) 0 ≡ new i y) (sym named.1)
                (get_or-set_same cells (place banks i j) cell 0 (omega (arith, full, place_below banks i j p q)) ∙ here))
            | inr not_named ↦
                let apart : shared_place banks a b ≢ shared_place banks i j = λ same.
                elim (same_two banks i j a b p q r s same) [ inl as_named ↦ not_named as_named.0 as_named.1 | inr turned ↦ not_turned turned.0 turned.1 ] in
                get_or-set_other cells (place banks i j) (place banks a b) cell 0 (place_apart banks i j a b q s not_named) ∙ before a b r s ∙ sym (others a b r s apart)
          ]
    ]

length-lined : (banks : ℕ) (cells : List ℕ) (i j cell : ℕ) → length (lined banks cells i j cell) ≡ length cells
length-lined banks cells i j cell = length-set (set cells (place banks i j) cell) (place banks j i) cell ∙ length-set cells (place banks i j) cell

pub used_in-swap : (c : Credit) (i j : ℕ) → used_in c i j ≡ used_in c j i
used_in-swap c i j = ap (λ at. get_or c.uses at 0) (shared_place-swap c.banks i j)

pub left_in-swap : (c : Credit) (i j : ℕ) → left_in c i j ≡ left_in c j i
left_in-swap c i j = let same : used_in c i j ≡ used_in c j i = used_in-swap c i j in omega arith

-- a number that a bound cuts is at most the number, and at most what a total leaves where that bounds it
cut_within : (bound : Option ℕ) (n : ℕ) → at_most bound n ≤ n
cut_within None n = omega arith
cut_within (Some most) n = omega arith

cut_by : (total : Option ℕ) (most spent n : ℕ) → total ≡ Some most → at_most (option_map (λ m. m - spent) total) n ≤ most - spent
cut_by None most spent n has = cc
cut_by (Some m) most spent n has = let same : m ≡ most = cc in omega (arith, same)

-- a line is at most what the limits leave, and at most what the total of either bank leaves
pub line_in-within : (c : Credit) (i j : ℕ) → line_in c i j ≤ left_in c i j
line_in-within c i j = omega (arith, cut_within (room_in c i) (at_most (room_in c j) (left_in c i j)), cut_within (room_in c j) (left_in c i j))

line_in-first : (c : Credit) (i j most : ℕ) → total_in c i ≡ Some most → line_in c i j ≤ most - spent_in c i
line_in-first c i j most has = cut_by (total_in c i) most (spent_in c i) (at_most (room_in c j) (left_in c i j)) has

line_in-second : (c : Credit) (i j most : ℕ) → total_in c j ≡ Some most → line_in c i j ≤ most - spent_in c j
line_in-second c i j most has =
    omega (arith, cut_within (room_in c i) (at_most (room_in c j) (left_in c i j)), cut_by (total_in c j) most (spent_in c j) (left_in c i j) has)

-- where no bank has a total, a line is what the limits leave
pub line_in-unbounded : (c : Credit) (i j : ℕ) → total_in c i ≡ None → total_in c j ≡ None → line_in c i j ≡ left_in c i j
line_in-unbounded c i j first second =
    ap (λ o. at_most (option_map (λ most. most - spent_in c i) o) (at_most (room_in c j) (left_in c i j))) first
    ∙ ap (λ o. at_most (option_map (λ most. most - spent_in c j) o) (left_in c i j)) second

-- What two banks have used changes.

pub used_in-here : (c : Credit) (i j used : ℕ) → length c.uses ≡ c.banks * c.banks → i < c.banks → j < c.banks → used_in (with_used c i j used) i j ≡ used
used_in-here c i j used full p q = get_or-set_same c.uses (shared_place c.banks i j) used 0 (omega (arith, full, shared_below c.banks i j p q))

pub used_in-back : (c : Credit) (i j used : ℕ) → length c.uses ≡ c.banks * c.banks → i < c.banks → j < c.banks → used_in (with_used c i j used) j i ≡ used
used_in-back c i j used full p q = used_in-swap (with_used c i j used) j i ∙ used_in-here c i j used full p q

pub used_in-other : (c : Credit) (i j used a b : ℕ) → shared_place c.banks a b ≢ shared_place c.banks i j → used_in (with_used c i j used) a b ≡ used_in c a b
used_in-other c i j used a b apart = get_or-set_other c.uses (shared_place c.banks i j) (shared_place c.banks a b) used 0 apart

-- two banks one of which is none of two
third_apart : (banks i j a b : ℕ) → i < banks → j < banks → a < banks → b < banks → a ≢ i → a ≢ j → shared_place banks a b ≢ shared_place banks i j
third_apart banks i j a b p q r s not_first not_second same =
    elim (same_two banks i j a b p q r s same) [ inl named ↦ not_first named.0 | inr turned ↦ not_second turned.0 ]

-- one of two banks and one that is none of them
mixed_apart : (banks i j k : ℕ) → i < banks → j < banks → k < banks → i ≢ j → k ≢ j → shared_place banks i k ≢ shared_place banks i j
mixed_apart banks i j k p q r differ not_other same =
    elim (same_two banks i j i k p q p r same) [ inl named ↦ not_other named.1 | inr turned ↦ differ turned.0 ]

-- each of the two has spent so much more, or so much less, and any other what it had
pub spent_in-more : (c : Credit) (i j used units : ℕ) → length c.uses ≡ c.banks * c.banks → i < c.banks → j < c.banks → i ≢ j → used ≡ used_in c i j + units → spent_in (with_used c i j used) i ≡ spent_in c i + units
spent_in-more c i j used units full p q differ more =
    others-more (used_in c i) (used_in (with_used c i j used) i) c.banks i j units q (λ same. differ (sym same)) (used_in-here c i j used full p q ∙ more)
    (λ k k_in _ other. used_in-other c i j used i k (mixed_apart c.banks i j k p q k_in differ other))

pub spent_in-less : (c : Credit) (i j used units : ℕ) → length c.uses ≡ c.banks * c.banks → i < c.banks → j < c.banks → i ≢ j → used_in c i j ≡ used + units → spent_in c i ≡ spent_in (with_used c i j used) i + units
spent_in-less c i j used units full p q differ less =
    others-more (used_in (with_used c i j used) i) (used_in c i) c.banks i j units q (λ same. differ (sym same)) (less ∙ ap (λ u. u + units) (sym (used_in-here c i j used full p q)))
    (λ k k_in _ other. sym (used_in-other c i j used i k (mixed_apart c.banks i j k p q k_in differ other)))

pub with_used-swap : (c : Credit) (i j used : ℕ) → with_used c i j used ≡ with_used c j i used
with_used-swap c i j used = ap (λ at. record c { uses = set c.uses at used }) (shared_place-swap c.banks i j)

pub spent_in-more_back : (c : Credit) (i j used units : ℕ) → length c.uses ≡ c.banks * c.banks → i < c.banks → j < c.banks → i ≢ j → used ≡ used_in c i j + units → spent_in (with_used c i j used) j ≡ spent_in c j + units
spent_in-more_back c i j used units full p q differ more =
    ap (λ d. spent_in d j) (with_used-swap c i j used)
    ∙ spent_in-more c j i used units full q p (λ same. differ (sym same)) (more ∙ ap (λ u. u + units) (used_in-swap c i j))

pub spent_in-less_back : (c : Credit) (i j used units : ℕ) → length c.uses ≡ c.banks * c.banks → i < c.banks → j < c.banks → i ≢ j → used_in c i j ≡ used + units → spent_in c j ≡ spent_in (with_used c i j used) j + units
spent_in-less_back c i j used units full p q differ less =
    spent_in-less c j i used units full q p (λ same. differ (sym same)) (used_in-swap c j i ∙ less)
    ∙ ap (λ d. spent_in d j + units) (sym (with_used-swap c i j used))

pub spent_in-other : (c : Credit) (i j used a : ℕ) → i < c.banks → j < c.banks → a < c.banks → a ≢ i → a ≢ j → spent_in (with_used c i j used) a ≡ spent_in c a
spent_in-other c i j used a p q r not_first not_second =
    others-agree (used_in (with_used c i j used) a) (used_in c a) c.banks a
    (λ k k_in _. used_in-other c i j used a k (third_apart c.banks i j a k p q r k_in not_first not_second))

-- a bank can have spent so much
pub spent_in-most : (c : Credit) (i : ℕ) → IsCredit c → i < c.banks → spent_in c i ≤ 64 * 10 ^ 15
spent_in-most c i valid p =
    omega (
      arith,
      valid.banks_most,
      others-most c.banks i 1000000000000000 (used_in c i) (λ k k_in _. omega (arith, valid.within i k p k_in, valid.limits_most i k p k_in)),
    )

-- what two banks have used is a part of what each has spent
pub used_in-spent : (c : Credit) (i j : ℕ) → length c.uses ≡ c.banks * c.banks → i < c.banks → j < c.banks → i ≢ j → used_in c i j ≤ spent_in c i
used_in-spent c i j full p q differ = omega (arith, spent_in-less c i j 0 (used_in c i j) full p q differ (omega arith))

-- what the two have spent now is within their totals: each has one that allows it, or none
fits_all : (c new : Credit) (i j : ℕ) → ((a most : ℕ) → a < c.banks → total_in c a ≡ Some most → spent_in c a ≤ most)
    → ((most : ℕ) → total_in c i ≡ Some most → spent_in new i ≤ most) → ((most : ℕ) → total_in c j ≡ Some most → spent_in new j ≤ most)
    → ((a : ℕ) → a < c.banks → a ≢ i → a ≢ j → spent_in new a ≡ spent_in c a)
    → (a most : ℕ) → a < c.banks → total_in c a ≡ Some most → spent_in new a ≤ most
fits_all c new i j before first second others a most r has =
    elim (cases_eq a i) [
      | inl own ↦ subst (λ x. spent_in new x ≤ most) (sym own) (first most (subst (λ x. total_in c x ≡ Some most) own has))
      | inr not_first ↦ elim (cases_eq a j) [
        | inl own ↦ subst (λ x. spent_in new x ≤ most) (sym own) (second most (subst (λ x. total_in c x ≡ Some most) own has))
        | inr not_second ↦ omega (arith, before a most r has, others a r not_first not_second)
      ]
    ]

-- a use between two different banks that fits both limits and both totals
pub IsCredit-used : (c : Credit) (i j used : ℕ) → IsCredit c → i < c.banks → j < c.banks → i ≢ j → used ≤ limit_in c i j → used ≤ limit_in c j i
    → ((most : ℕ) → total_in c i ≡ Some most → spent_in (with_used c i j used) i ≤ most) → ((most : ℕ) → total_in c j ≡ Some most → spent_in (with_used c i j used) j ≤ most)
    → IsCredit (with_used c i j used)
IsCredit-used c i j used valid p q differ here back first second =
    let new : Credit = with_used c i j used in
    record {
      banks_most = valid.banks_most;
      limits_full = valid.limits_full;
      uses_full = length-set c.uses (shared_place c.banks i j) used ∙ valid.uses_full;
      totals_full = valid.totals_full;
      limits_most = valid.limits_most;
      within = λ a b r s. elim (cases_eq (shared_place c.banks a b) (shared_place c.banks i j)) [
        | inl same ↦ at_two (λ x y. used_in (with_used c i j used) x y ≤ limit_in c x y) c.banks i j a b p q r s
            (omega (arith, used_in-here c i j used valid.uses_full p q, here)) (omega (arith, used_in-back c i j used valid.uses_full p q, back)) same
        | inr other ↦ omega (arith, used_in-other c i j used a b other, valid.within a b r s)
      ];
      within_total = fits_all c new i j valid.within_total first second (λ a. spent_in-other c i j used a p q);
    }

-- what the limits leave after that between the two, and between any others
pub left_in-here : (c : Credit) (i j used left : ℕ) → length c.uses ≡ c.banks * c.banks → i < c.banks → j < c.banks → left ≡ min (limit_in c i j) (limit_in c j i) - used → left ≡ left_in (with_used c i j used) i j
left_in-here c i j used left full p q is = is ∙ ap (λ u. min (limit_in c i j) (limit_in c j i) - u) (sym (used_in-here c i j used full p q))

left_in-other : (c : Credit) (i j used a b : ℕ) → shared_place c.banks a b ≢ shared_place c.banks i j → left_in (with_used c i j used) a b ≡ left_in c a b
left_in-other c i j used a b other = ap (λ u. min (limit_in c a b) (limit_in c b a) - u) (used_in-other c i j used a b other)

pub AreLines-used : (c : Credit) (lines : List ℕ) (i j used left : ℕ) → IsCredit c → AreLines c lines → i < c.banks → j < c.banks → left ≡ min (limit_in c i j) (limit_in c j i) - used
    → AreLines (with_used c i j used) (lined c.banks lines i j left)
AreLines-used c lines i j used left valid are p q is =
    let here : left ≡ left_in (with_used c i j used) i j = left_in-here c i j used left valid.uses_full p q is in
    record {
      full = length-lined c.banks lines i j left ∙ are.full;
      lines_are = lined-changed c.banks (left_in c) (left_in (with_used c i j used)) lines i j left are.full p q are.lines_are
          here (here ∙ left_in-swap (with_used c i j used) i j) (λ a b r s. left_in-other c i j used a b);
    }

-- the sums of two banks as they are set, and all others as they were
both-changed : (n : ℕ) (new : ℕ → ℕ) (spent : List ℕ) (i j first second : ℕ) → length spent ≡ n → i < n → j < n → i ≢ j → first ≡ new i → second ≡ new j
    → ((a : ℕ) → a < n → a ≢ i → a ≢ j → get_or spent a 0 ≡ new a) → (a : ℕ) → a < n → get_or (both_set spent i j first second) a 0 ≡ new a
both-changed n new spent i j first second full p q differ is_first is_second others a r =
    elim (cases_eq a j) [
      | inl own ↦
          ap (λ x. get_or (both_set spent i j first second) x 0) own
          ∙ get_or-set_same (set spent i first) j second 0 (omega (arith, full, length-set spent i first, q)) ∙ is_second ∙ ap new (sym own)
      | inr not_second ↦
          get_or-set_other (set spent i first) j a second 0 not_second ∙ elim (cases_eq a i) [
            | inl own ↦ ap (λ x. get_or (set spent i first) x 0) own ∙ get_or-set_same spent i first 0 (omega (arith, full, p)) ∙ is_first ∙ ap new (sym own)
            | inr not_first ↦ get_or-set_other spent i a first 0 not_first ∙ others a r not_first not_second
          ]
    ]

pub AreSpent-used : (c : Credit) (spent : List ℕ) (i j used first second : ℕ) → AreSpent c spent → i < c.banks → j < c.banks → i ≢ j → first ≡ spent_in (with_used c i j used) i → second ≡ spent_in (with_used c i j used) j
    → AreSpent (with_used c i j used) (both_set spent i j first second)
AreSpent-used c spent i j used first second are p q differ is_first is_second = record {
  full = length-set (set spent i first) j second ∙ length-set spent i first ∙ are.full;
  spent_are = both-changed c.banks (spent_in (with_used c i j used)) spent i j first second are.full p q differ is_first is_second
      (λ a r not_first not_second. are.spent_are a r ∙ sym (spent_in-other c i j used a p q r not_first not_second));
}

-- A take: what a line allows fits both limits and both totals.

fits_total : (spent now units line most : ℕ) → now ≡ spent + units → units ≤ line → line ≤ most - spent → spent ≤ most → now ≤ most
fits_total spent now units line most more credit cut within = omega arith

pub IsCredit-taken : (c : Credit) (i j units : ℕ) → IsCredit c → i < c.banks → j < c.banks → i ≢ j → units ≤ line_in c i j → IsCredit (taken c i j units)
IsCredit-taken c i j units valid p q differ credit =
    let now : ℕ = used_in c i j + units in
    let left : units ≤ left_in c i j = omega (arith, credit, line_in-within c i j) in
    let swap : used_in c i j ≡ used_in c j i = used_in-swap c i j in
    IsCredit-used c i j now valid p q differ (omega (arith, left, valid.within i j p q)) (omega (arith, left, swap, valid.within j i q p))
    (λ most has. fits_total (spent_in c i) (spent_in (taken c i j units) i) units (line_in c i j) most (spent_in-more c i j now units valid.uses_full p q differ refl) credit
    (line_in-first c i j most has) (valid.within_total i most p has))
    (λ most has. fits_total (spent_in c j) (spent_in (taken c i j units) j) units (line_in c i j) most (spent_in-more_back c i j now units valid.uses_full p q differ refl) credit
    (line_in-second c i j most has) (valid.within_total j most q has))

-- Units that are given back: less is used, and less is spent.

pub IsCredit-given_back : (c : Credit) (i j units : ℕ) → IsCredit c → i < c.banks → j < c.banks → i ≢ j → units ≤ used_in c i j → IsCredit (given_back c i j units)
IsCredit-given_back c i j units valid p q differ within =
    let now : ℕ = used_in c i j - units in
    let less : used_in c i j ≡ now + units = omega (arith, within) in
    IsCredit-used c i j now valid p q differ (omega (arith, valid.within i j p q)) (omega (arith, used_in-swap c i j, valid.within j i q p))
    (λ most has. omega (arith, spent_in-less c i j now units valid.uses_full p q differ less, valid.within_total i most p has))
    (λ most has. omega (arith, spent_in-less_back c i j now units valid.uses_full p q differ less, valid.within_total j most q has))

-- A new limit.

pub limit_in-limited_same : (c : Credit) (i j limit : ℕ) → IsCredit c → i < c.banks → j < c.banks → limit_in (limited c i j limit) i j ≡ limit
limit_in-limited_same c i j limit valid p q =
    get_or-set_same c.limits (place c.banks i j) limit 0 (omega (arith, valid.limits_full, place_below c.banks i j p q))

pub limit_in-limited_other : (c : Credit) (i j limit a b : ℕ) → j < c.banks → b < c.banks → (a ≡ i → b ≡ j → ⊥) → limit_in (limited c i j limit) a b ≡ limit_in c a b
limit_in-limited_other c i j limit a b q s differ =
    get_or-set_other c.limits (place c.banks i j) (place c.banks a b) limit 0 (place_apart c.banks i j a b q s differ)

-- what holds of one limit as it was set, and of the others as they were, holds of each
each_limit : (P : ℕ → ℕ → ℕ → Type 0) (c : Credit) (i j limit a b : ℕ) → IsCredit c → i < c.banks → j < c.banks → b < c.banks → P i j limit → P a b (limit_in c a b) → P a b (limit_in (limited c i j limit) a b)
each_limit P c i j limit a b valid p q s new old =
    elim (same_banks i j a b) [
      | inl same ↦
          let Q : ℕ → ℕ → Type 0 = λ x y. P x y (limit_in (limited c i j limit) x y) in
          subst (λ x. Q x b) (sym same.0) (subst (Q i) (sym same.1) (subst (P i j) (sym (limit_in-limited_same c i j limit valid p q)) new))
      | inr apart ↦ subst (P a b) (sym (limit_in-limited_other c i j limit a b q s apart)) old
    ]

pub IsCredit-limited : (c : Credit) (i j limit : ℕ) → IsCredit c → i < c.banks → j < c.banks → IsUnits limit → used_in c i j ≤ limit → IsCredit (limited c i j limit)
IsCredit-limited c i j limit valid p q units least = record {
  banks_most = valid.banks_most;
  limits_full = length-set c.limits (place c.banks i j) limit ∙ valid.limits_full;
  uses_full = valid.uses_full;
  totals_full = valid.totals_full;
  limits_most = λ a b r s. each_limit (λ x y set. IsUnits set) c i j limit a b valid p q s units (valid.limits_most a b r s);
  within = λ a b r s. each_limit (λ x y set. used_in c x y ≤ set) c i j limit a b valid p q s least (valid.within a b r s);
  within_total = valid.within_total;
}

-- what the limits leave after a new one between its banks, and between any others
pub left_in-limited_same : (c : Credit) (i j limit : ℕ) → IsCredit c → i < c.banks → j < c.banks → i ≢ j → left_in (limited c i j limit) i j ≡ min limit (limit_in c j i) - used_in c i j
left_in-limited_same c i j limit valid p q differ =
    let here : limit_in (limited c i j limit) i j ≡ limit = limit_in-limited_same c i j limit valid p q in
    let back : limit_in (limited c i j limit) j i ≡ limit_in c j i = limit_in-limited_other c i j limit j i q p (λ same _. differ (sym same)) in
    omega arith

pub left_in-limited_other : (c : Credit) (i j limit a b : ℕ) → j < c.banks → a < c.banks → b < c.banks → shared_place c.banks a b ≢ shared_place c.banks i j → left_in (limited c i j limit) a b ≡ left_in c a b
left_in-limited_other c i j limit a b q r s other =
    let here : limit_in (limited c i j limit) a b ≡ limit_in c a b =
    limit_in-limited_other c i j limit a b q s (λ first second. other (ap (λ x. shared_place c.banks x b) first ∙ ap (λ y. shared_place c.banks i y) second)) in
    let back : limit_in (limited c i j limit) b a ≡ limit_in c b a =
    limit_in-limited_other c i j limit b a q r (λ first second. other (shared_place-swap c.banks a b ∙ ap (λ x. shared_place c.banks x a) first ∙ ap (λ y. shared_place c.banks i y) second)) in
    omega arith

pub AreLines-limited : (c : Credit) (lines : List ℕ) (i j limit : ℕ) → IsCredit c → AreLines c lines → i < c.banks → j < c.banks → i ≢ j → AreLines (limited c i j limit) (lined c.banks lines i j (min limit (limit_in c j i) - used_in c i j))
AreLines-limited c lines i j limit valid are p q differ =
    let line : ℕ = min limit (limit_in c j i) - used_in c i j in
    let here : min limit (limit_in c j i) - used_in c i j ≡ left_in (limited c i j limit) i j = sym (left_in-limited_same c i j limit valid p q differ) in
    record {
      full = length-lined c.banks lines i j line ∙ are.full;
      lines_are = lined-changed c.banks (left_in c) (left_in (limited c i j limit)) lines i j line are.full p q are.lines_are
          here (here ∙ left_in-swap (limited c i j limit) i j) (λ a b. left_in-limited_other c i j limit a b q);
    }

-- no use changes with it
pub AreSpent-limited : (c : Credit) (spent : List ℕ) (i j limit : ℕ) → AreSpent c spent → AreSpent (limited c i j limit) spent
AreSpent-limited c spent i j limit are = record { full = are.full; spent_are = are.spent_are }

-- A new total.

pub total_in-totalled_same : (c : Credit) (i most : ℕ) → IsCredit c → i < c.banks → total_in (totalled c i most) i ≡ Some most
total_in-totalled_same c i most valid p = get_or-set_same c.totals i (Some most) None (omega (arith, valid.totals_full, p))

pub total_in-totalled_other : (c : Credit) (i most a : ℕ) → a ≢ i → total_in (totalled c i most) a ≡ total_in c a
total_in-totalled_other c i most a other = get_or-set_other c.totals i a (Some most) None other

some_same : (a b : ℕ) → Some a ≡ Some b → a ≡ b
some_same a b same = cc

pub IsCredit-totalled : (c : Credit) (i most : ℕ) → IsCredit c → i < c.banks → spent_in c i ≤ most → IsCredit (totalled c i most)
IsCredit-totalled c i most valid p least = record {
  banks_most = valid.banks_most;
  limits_full = valid.limits_full;
  uses_full = valid.uses_full;
  totals_full = length-set c.totals i (Some most) ∙ valid.totals_full;
  limits_most = valid.limits_most;
  within = valid.within;
  within_total = λ a set r has. elim (cases_eq a i) [
    | inl own ↦
        let same : most ≡ set = some_same most set (sym (total_in-totalled_same c i most valid p) ∙ sym (ap (total_in (totalled c i most)) own) ∙ has) in
        omega (arith, ap (spent_in c) own, least, same)
    | inr other ↦ valid.within_total a set r (sym (total_in-totalled_other c i most a other) ∙ has)
  ];
}

pub AreLines-totalled : (c : Credit) (lines : List ℕ) (i most : ℕ) → AreLines c lines → AreLines (totalled c i most) lines
AreLines-totalled c lines i most are = record { full = are.full; lines_are = are.lines_are }

pub AreSpent-totalled : (c : Credit) (spent : List ℕ) (i most : ℕ) → AreSpent c spent → AreSpent (totalled c i most) spent
AreSpent-totalled c spent i most are = record { full = are.full; spent_are = are.spent_are }
