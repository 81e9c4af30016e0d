-- What a take, units given back, a new limit and a new total need and keep, as the tables' cells are read: `now` is what callers see of the tables.
use Rattle.std.proofs.Common.{ℕ, ◌≡◌, ◌≢◌, ◌+◌, ◌-◌, ◌*◌, ◌^◌, ◌≤◌, ◌<◌, min, max, Bool, true, false, List, get_or, set, refl, ap, sym, subst, ◌∙◌, arith, Some}
use Rattle.std.proofs.lemmas.Bool.{false≢true}
use Rattle.std.proofs.lemmas.List.{get_or_read}
use Rattle.fx_amounts.specs.Quantity.{IsUnits}
use Rattle.credit_lines.specs.Credit.{Credit, place, shared_place, limit_in, used_in, spent_in, left_in, line_in, with_used, taken, given_back, IsCredit}
use Rattle.credit_lines.specs.inside.Credit.{lined, AreLines, both_set, AreSpent, AreKept}
use Rattle.credit_lines.proofs.CreditLemmas.{place_below, shared_below, used_in-swap, line_in-within, line_in-unbounded, spent_in-more, spent_in-more_back, spent_in-less, spent_in-less_back, spent_in-most, used_in-spent, IsCredit-taken, IsCredit-given_back, AreLines-used, AreSpent-used, IsCredit-limited, AreLines-limited, AreSpent-limited, IsCredit-totalled, AreLines-totalled, AreSpent-totalled}

-- the cell that was read at a shared place
pub read_used : (c : Credit) (i j at used : ℕ) → IsCredit c → i < c.banks → j < c.banks → at ≡ shared_place c.banks i j → used ≡ get_or c.uses at used → used ≡ used_in c i j
read_used c i j at used valid p q is_at read =
    get_or_read c.uses at used (omega (arith, valid.uses_full, shared_below c.banks i j p q)) read 0 ∙ ap (λ k. get_or c.uses k 0) is_at

pub read_line : (c : Credit) (lines : List ℕ) (i j at line : ℕ) → AreLines c lines → i < c.banks → j < c.banks → at ≡ place c.banks i j → line ≡ get_or lines at line → line ≡ left_in c i j
read_line c lines i j at line are p q is_at read =
    get_or_read lines at line (omega (arith, are.full, place_below c.banks i j p q)) read 0 ∙ ap (λ k. get_or lines k 0) is_at ∙ are.lines_are i j p q

pub read_limit : (c : Credit) (i j at limit : ℕ) → IsCredit c → i < c.banks → j < c.banks → at ≡ place c.banks i j → limit ≡ get_or c.limits at limit → limit ≡ limit_in c i j
read_limit c i j at limit valid p q is_at read =
    get_or_read c.limits at limit (omega (arith, valid.limits_full, place_below c.banks i j p q)) read 0 ∙ ap (λ k. get_or c.limits k 0) is_at

pub read_spent : (c : Credit) (spent : List ℕ) (i at value : ℕ) → AreSpent c spent → i < c.banks → at ≡ i → value ≡ get_or spent at value → value ≡ spent_in c i
read_spent c spent i at value are p is_at read =
    get_or_read spent at value (omega (arith, are.full, p, is_at)) read 0 ∙ ap (λ k. get_or spent k 0) is_at ∙ are.spent_are i p

-- two different banks of the session
pub record CanSet (c : Credit) (i j : ℕ) : Type 0 where
  pub setter : i < c.banks
  pub other : j < c.banks
  pub differ : i ≢ j

pub can_set : (c now : Credit) (i j : ℕ) → c ≡ now → i < now.banks → j < now.banks → i ≢ j → CanSet c i j
can_set c now i j same p q r = subst (λ x. CanSet x i j) (sym same) (record { setter = p; other = q; differ = r })

-- and units that their line allows
pub record CanTake (c : Credit) (i j units : ℕ) : Type 0 where
  pub first : i < c.banks
  pub second : j < c.banks
  pub differ : i ≢ j
  pub credit : units ≤ line_in c i j

pub can_take : (c now : Credit) (i j units : ℕ) → c ≡ now → i < now.banks → j < now.banks → i ≢ j → units ≤ line_in now i j → CanTake c i j units
can_take c now i j units same p q differ r =
    subst (λ x. CanTake x i j units) (sym same) (record { first = p; second = q; differ = differ; credit = r })

-- the sum of a bank has room for more
pub spent_most : (c : Credit) (lines spent : List ℕ) (bounded : Bool) (i : ℕ) → AreKept c lines spent bounded → i < c.banks → get_or spent i 0 ≤ 64 * 10 ^ 15
spent_most c lines spent bounded i valid p = omega (arith, valid.2.spent_are i p, spent_in-most c i valid.0 p)

pub read_most : (c now : Credit) (lines spent : List ℕ) (bounded : Bool) (i at value : ℕ) → AreKept c lines spent bounded → c ≡ now → i < now.banks → at ≡ i → value ≡ get_or spent at value → value ≤ 64 * 10 ^ 15
read_most c now lines spent bounded i at value valid same p is_at read =
    let within : i < c.banks = subst (λ (x : Credit). i < x.banks) (sym same) p in
    omega (arith, read_spent c spent i at value valid.2 within is_at read, spent_in-most c i valid.0 within)

pub take_in_range : (c : Credit) (lines spent : List ℕ) (bounded : Bool) (i j units at used : ℕ) → AreKept c lines spent bounded → CanTake c i j units → at ≡ shared_place c.banks i j → used ≡ get_or c.uses at used → IsUnits (used + units)
take_in_range c lines spent bounded i j units at used valid can is_at read =
    let is_used : used ≡ used_in c i j = read_used c i j at used valid.0 can.first can.second is_at read in
    let within : used_in c i j ≤ limit_in c i j = valid.0.within i j can.first can.second in
    let most : IsUnits (limit_in c i j) = valid.0.limits_most i j can.first can.second in
    let credit : units ≤ left_in c i j = omega (arith, can.credit, line_in-within c i j) in
    omega arith

pub take_below_line : (c : Credit) (lines spent : List ℕ) (bounded : Bool) (i j units at line : ℕ) → AreKept c lines spent bounded → CanTake c i j units → at ≡ place c.banks i j → line ≡ get_or lines at line → units ≤ line
take_below_line c lines spent bounded i j units at line valid can is_at read =
    let is_line : line ≡ left_in c i j = read_line c lines i j at line valid.1 can.first can.second is_at read in
    omega (arith, can.credit, line_in-within c i j)

pub take_keeps : (c : Credit) (lines lines' spent spent' : List ℕ) (bounded : Bool) (i j units at line_at used line sum rest : ℕ) → AreKept c lines spent bounded → CanTake c i j units → at ≡ shared_place c.banks i j → used ≡ get_or c.uses at used
    → line_at ≡ place c.banks i j → line ≡ get_or lines line_at line → sum ≡ used + units → rest ≡ line - units → lines' ≡ lined c.banks lines i j rest
    → spent' ≡ both_set spent i j (get_or spent i 0 + units) (get_or spent j 0 + units)
    → AreKept (record c { uses = set c.uses at sum }) lines' spent' bounded
take_keeps c lines lines' spent spent' bounded i j units at line_at used line sum rest valid can is_at used_read is_line_at line_read is_sum is_rest is_lines is_spent =
    let p : i < c.banks = can.first in
    let q : j < c.banks = can.second in
    let now : ℕ = used_in c i j + units in
    let is_used : used ≡ used_in c i j = read_used c i j at used valid.0 p q is_at used_read in
    let is_line : line ≡ left_in c i j = read_line c lines i j line_at line valid.1 p q is_line_at line_read in
    let new_use : now ≡ sum = omega arith in
    let new_line : rest ≡ min (limit_in c i j) (limit_in c j i) - now = omega arith in
    let made : AreKept (taken c i j units) lines' spent' bounded = (
      IsCredit-taken c i j units valid.0 p q can.differ can.credit,
      subst (AreLines (taken c i j units)) (sym is_lines) (AreLines-used c lines i j now rest valid.0 valid.1 p q new_line),
      subst (AreSpent (taken c i j units)) (sym is_spent)
          (AreSpent-used c spent i j now (get_or spent i 0 + units) (get_or spent j 0 + units) valid.2 p q can.differ
          (omega (arith, valid.2.spent_are i p, spent_in-more c i j now units valid.0.uses_full p q can.differ refl))
          (omega (arith, valid.2.spent_are j q, spent_in-more_back c i j now units valid.0.uses_full p q can.differ refl))),
      valid.3,
    ) in
    subst (λ k. AreKept (record c { uses = set c.uses k sum }) lines' spent' bounded) (sym is_at)
    (subst (λ s. AreKept (with_used c i j s) lines' spent' bounded) new_use made)

-- units that are given back are used, and both banks have spent them; the line that they add to stays in range
pub give_within : (c : Credit) (lines spent : List ℕ) (bounded : Bool) (i j units at used given : ℕ) → AreKept c lines spent bounded → CanSet c i j → at ≡ shared_place c.banks i j → used ≡ get_or c.uses at used → given ≡ min units used
    → (given ≤ get_or spent i 0) × (given ≤ get_or spent j 0)
give_within c lines spent bounded i j units at used given valid can is_at read is_given =
    let is_used : used ≡ used_in c i j = read_used c i j at used valid.0 can.setter can.other is_at read in (
      omega (arith, valid.2.spent_are i can.setter, used_in-spent c i j valid.0.uses_full can.setter can.other can.differ),
      omega (arith, valid.2.spent_are j can.other, used_in-swap c i j, used_in-spent c j i valid.0.uses_full can.other can.setter (λ same. can.differ (sym same))),
    )

pub give_in_range : (c : Credit) (lines spent : List ℕ) (bounded : Bool) (i j units at used given line_at line : ℕ) → AreKept c lines spent bounded → CanSet c i j → at ≡ shared_place c.banks i j → used ≡ get_or c.uses at used → given ≡ min units used
    → line_at ≡ place c.banks i j → line ≡ get_or lines line_at line → IsUnits (line + given)
give_in_range c lines spent bounded i j units at used given line_at line valid can is_at read is_given is_line_at line_read =
    let is_used : used ≡ used_in c i j = read_used c i j at used valid.0 can.setter can.other is_at read in
    let is_line : line ≡ left_in c i j = read_line c lines i j line_at line valid.1 can.setter can.other is_line_at line_read in
    omega (
      arith,
      valid.0.within i j can.setter can.other,
      valid.0.within j i can.other can.setter,
      used_in-swap c i j,
      valid.0.limits_most i j can.setter can.other,
    )

pub give_keeps : (c : Credit) (lines lines' spent spent' : List ℕ) (bounded : Bool) (i j units at line_at used given line left more : ℕ) → AreKept c lines spent bounded → CanSet c i j → at ≡ shared_place c.banks i j → used ≡ get_or c.uses at used → given ≡ min units used
    → left ≡ used - given → line_at ≡ place c.banks i j → line ≡ get_or lines line_at line → more ≡ line + given → lines' ≡ lined c.banks lines i j more
    → spent' ≡ both_set spent i j (get_or spent i 0 - given) (get_or spent j 0 - given)
    → AreKept (record c { uses = set c.uses at left }) lines' spent' bounded
give_keeps c lines lines' spent spent' bounded i j units at line_at used given line left more valid can is_at used_read is_given is_left is_line_at line_read is_more is_lines is_spent =
    let p : i < c.banks = can.setter in
    let q : j < c.banks = can.other in
    let now : ℕ = used_in c i j - given in
    let is_used : used ≡ used_in c i j = read_used c i j at used valid.0 p q is_at used_read in
    let is_line : line ≡ left_in c i j = read_line c lines i j line_at line valid.1 p q is_line_at line_read in
    let within : given ≤ used_in c i j = omega arith in
    let less : used_in c i j ≡ now + given = omega (arith, within) in
    let new_use : now ≡ left = omega arith in
    let new_line : more ≡ min (limit_in c i j) (limit_in c j i) - now =
    omega (arith, valid.0.within i j p q, valid.0.within j i q p, used_in-swap c i j) in
    let made : AreKept (given_back c i j given) lines' spent' bounded = (
      IsCredit-given_back c i j given valid.0 p q can.differ within,
      subst (AreLines (given_back c i j given)) (sym is_lines) (AreLines-used c lines i j now more valid.0 valid.1 p q new_line),
      subst (AreSpent (given_back c i j given)) (sym is_spent)
          (AreSpent-used c spent i j now (get_or spent i 0 - given) (get_or spent j 0 - given) valid.2 p q can.differ
          (omega (arith, valid.2.spent_are i p, spent_in-less c i j now given valid.0.uses_full p q can.differ less))
          (omega (arith, valid.2.spent_are j q, spent_in-less_back c i j now given valid.0.uses_full p q can.differ less))),
      valid.3,
    ) in
    subst (λ k. AreKept (record c { uses = set c.uses k left }) lines' spent' bounded) (sym is_at)
    (subst (λ s. AreKept (with_used c i j s) lines' spent' bounded) new_use made)

-- what two banks have used, in the table that is seen
pub used_here : (c now : Credit) (i j used : ℕ) → c ≡ now → used ≡ used_in now i j → used ≡ used_in c i j
used_here c now i j used same is = is ∙ ap (λ (x : Credit). used_in x i j) (sym same)

-- a new limit that is not below the use leaves a line
pub set_above_use : (c : Credit) (lines spent : List ℕ) (bounded : Bool) (i j limit used set back_at back least : ℕ) → AreKept c lines spent bounded → CanSet c i j → used ≡ used_in c i j → set ≡ max limit used → back_at ≡ place c.banks j i → back ≡ get_or c.limits back_at back → least ≡ min set back
    → used ≤ least
set_above_use c lines spent bounded i j limit used set back_at back least valid can is_used is_set is_back back_read is_least =
    let is_limit : back ≡ limit_in c j i = read_limit c j i back_at back valid.0 can.other can.setter is_back back_read in
    let within : used_in c j i ≤ limit_in c j i = valid.0.within j i can.other can.setter in
    let same : used_in c i j ≡ used_in c j i = used_in-swap c i j in
    omega arith

pub set_keeps : (c : Credit) (lines lines' spent : List ℕ) (bounded : Bool) (i j limit used set' back_at back least here rest : ℕ) → AreKept c lines spent bounded → CanSet c i j → used ≡ used_in c i j → set' ≡ max limit used → IsUnits set' → back_at ≡ place c.banks j i → back ≡ get_or c.limits back_at back → least ≡ min set' back → here ≡ place c.banks i j → rest ≡ least - used
    → lines' ≡ lined c.banks lines i j rest
    → AreKept (record c { limits = set c.limits here set' }) lines' spent bounded
set_keeps c lines lines' spent bounded i j limit used set' back_at back least here rest valid can is_used is_set units is_back back_read is_least is_here is_rest is_lines =
    let is_limit : back ≡ limit_in c j i = read_limit c j i back_at back valid.0 can.other can.setter is_back back_read in
    let new_line : min set' (limit_in c j i) - used_in c i j ≡ rest = omega arith in
    let above : used_in c i j ≤ set' = omega arith in
    let Holds : ℕ → List ℕ → Type 0 = λ m ls. AreKept (record c { limits = set c.limits m set' }) ls spent bounded in
    subst (λ m. Holds m lines') (sym is_here)
    (subst (λ ls. Holds (place c.banks i j) ls) (ap (lined c.banks lines i j) new_line ∙ sym is_lines) (
      IsCredit-limited c i j set' valid.0 can.setter can.other units above,
      AreLines-limited c lines i j set' valid.0 valid.1 can.setter can.other can.differ,
      AreSpent-limited c spent i j set' valid.2,
      valid.3,
    ))

-- a new total that is not below what is spent
pub total_keeps : (c now : Credit) (lines spent : List ℕ) (bounded : Bool) (i at limit sum most : ℕ) → AreKept c lines spent bounded → c ≡ now → i < now.banks → at ≡ i → sum ≡ spent_in now i → most ≡ max limit sum
    → AreKept (record c { totals = set c.totals at (Some most) }) lines spent true
total_keeps c now lines spent bounded i at limit sum most valid same p is_at is_sum is_most =
    let within : i < c.banks = subst (λ (x : Credit). i < x.banks) (sym same) p in
    let least : spent_in c i ≤ most = omega (arith, ap (λ (x : Credit). spent_in x i) same, is_sum, is_most) in
    subst (λ k. AreKept (record c { totals = set c.totals k (Some most) }) lines spent true) (sym is_at) (
      IsCredit-totalled c i most valid.0 within least,
      AreLines-totalled c lines i most valid.1,
      AreSpent-totalled c spent i most valid.2,
      λ none. absurd (false≢true (sym none)),
    )

-- the line where no bank has a total is what the limits leave
pub unbounded_line : (c now : Credit) (lines spent : List ℕ) (bounded : Bool) (i j at line : ℕ) → AreKept c lines spent bounded → c ≡ now → i < now.banks → j < now.banks → bounded ≡ false → at ≡ place c.banks i j → line ≡ get_or lines at line → line ≡ line_in now i j
unbounded_line c now lines spent bounded i j at line valid same p q unbounded is_at read =
    let first : i < c.banks = subst (λ (x : Credit). i < x.banks) (sym same) p in
    let second : j < c.banks = subst (λ (x : Credit). j < x.banks) (sym same) q in
    read_line c lines i j at line valid.1 first second is_at read
    ∙ sym (line_in-unbounded c i j (valid.3 unbounded i first) (valid.3 unbounded j second))
    ∙ ap (λ (x : Credit). line_in x i j) same
