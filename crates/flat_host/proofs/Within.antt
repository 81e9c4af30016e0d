-- Uses stay within limits and totals, whatever of the tables of credit is written.
use Rattle.std.proofs.Common.{ℕ, ◌≡◌, ◌≢◌, ◌+◌, ◌-◌, ◌≤◌, ◌<◌, min, cond, eqb, ◌&&◌, List, ◌⊎◌, inl, inr, ap, sym, subst, ◌∙◌, arith, length, get_or, get_or-set_same, get_or-set_other, Option, Some, None}
use Rattle.std.proofs.Math.ListN.{set, length-set}
use Rattle.std.proofs.lemmas.Bool.{cases_Bool, cases_eq, cond-true, cond-false, and_parts, and_from, eqb-true, eq-eqb, ne_eqb, both_ways}
use Rattle.std.specs.Option.{option_map}
use Rattle.fx_rules.specs.Lists.{total}
use Rattle.fx_rules.specs.State.{at_most}
use Rattle.fx_rules.proofs.Totals.{total_rises}
use Rattle.flat_host.specs.FlatState.{FlatCredit, limit_place, use_place, limit_in, use_in, total_in, others_of, spent_in, room_in, left_in, line_in}
use Rattle.flat_host.specs.inside.Parts.{settled_in}
use Rattle.flat_host.specs.inside.FlatState.{IsCredit}
use Rattle.flat_host.proofs.Carrying.{use_place-swap, use_place-same, raised, raised_here, raised_there}
use Rattle.flat_host.proofs.Spending.{spent-first, spent-second, spent-third}

pub most_within : (room : Option ℕ) (n : ℕ) → at_most room n ≤ n
most_within None n = omega arith
most_within (Some most) n = omega arith

room_within : (total : Option ℕ) (most spent n : ℕ) → total ≡ Some most → at_most (option_map (λ m. m - spent) total) n ≤ most - spent
room_within None most spent n has = cc
room_within (Some m) most spent n has = let same : m ≡ most = cc in omega (arith, same)

-- a line is at most what the limits leave,
pub line-limits : (credit : FlatCredit) (i j : ℕ) → line_in credit i j ≤ left_in credit i j
line-limits credit i j =
    omega (arith, most_within (room_in credit i) (at_most (room_in credit j) (left_in credit i j)), most_within (room_in credit j) (left_in credit i j))

-- and what the total of either bank leaves
line-first : (credit : FlatCredit) (i j most : ℕ) → total_in credit i ≡ Some most → line_in credit i j ≤ most - spent_in credit i
line-first credit i j most has = room_within (total_in credit i) most (spent_in credit i) (at_most (room_in credit j) (left_in credit i j)) has

line-second : (credit : FlatCredit) (i j most : ℕ) → total_in credit j ≡ Some most → line_in credit i j ≤ most - spent_in credit j
line-second credit i j most has =
    omega (arith, most_within (room_in credit i) (at_most (room_in credit j) (left_in credit i j)), room_within (total_in credit j) most (spent_in credit j) (left_in credit i j) has)

-- ---- units used

within_limit : (new old units there back limit : ℕ) → new ≡ old + units → units ≤ min there back - old → old ≤ there → old ≤ back → (limit ≡ there) ⊎ (limit ≡ back) → new ≤ limit
within_limit new old units there back limit now fits a b (inl is) = omega arith
within_limit new old units there back limit now fits a b (inr is) = omega arith

limit_same : (limits : List ℕ) (i j a b : ℕ) → i ≡ a → j ≡ b → limit_in limits i j ≡ limit_in limits a b
limit_same limits i j a b p q = cc

differ_too : (i j a b : ℕ) → i ≢ j → ((i ≡ a) × (j ≡ b)) ⊎ ((i ≡ b) × (j ≡ a)) → a ≢ b
differ_too i j a b differ (inl is) = λ same. differ (is.0 ∙ same ∙ sym is.1)
differ_too i j a b differ (inr is) = λ same. differ (is.0 ∙ sym same ∙ sym is.1)

-- what the limits pay for keeps every use within them
raised_lines : (limits uses : List ℕ) (a b units : ℕ) → length uses ≡ 4225 → a < 65 → b < 65 → ((i j : ℕ) → i < 65 → j < 65 → i ≢ j → use_in uses i j ≤ limit_in limits i j) → units ≤ min (limit_in limits a b) (limit_in limits b a) - use_in uses a b → (i j : ℕ) → i < 65 → j < 65 → i ≢ j → use_in (raised uses a b units) i j ≤ limit_in limits i j
raised_lines limits uses a b units full a_in b_in within fits i j i_in j_in i_j =
    elim (cases_eq (use_place i j) (use_place a b)) [
      | inl same ↦
          let ways : ((i ≡ a) × (j ≡ b)) ⊎ ((i ≡ b) × (j ≡ a)) = use_place-same i j a b i_in j_in a_in b_in same in
          let differ : a ≢ b = differ_too i j a b i_j ways in
          let now : use_in (raised uses a b units) i j ≡ use_in uses i j + units = raised_here uses i j a b units full a_in b_in same in
          let had : use_in uses i j ≡ use_in uses a b = ap (λ p. get_or uses p 0) same in
          let there : use_in uses a b ≤ limit_in limits a b = within a b a_in b_in differ in
          let back : use_in uses b a ≤ limit_in limits b a = within b a b_in a_in (λ e. differ (sym e)) in
          let swap : use_in uses b a ≡ use_in uses a b = ap (λ p. get_or uses p 0) (use_place-swap b a) in
          elim ways [
            | inl is ↦ within_limit (use_in (raised uses a b units) i j) (use_in uses a b) units (limit_in limits a b) (limit_in limits b a) (limit_in limits i j)
                (now ∙ ap (λ n. n + units) had) fits there (omega arith) (inl (limit_same limits i j a b is.0 is.1))
            | inr is ↦ within_limit (use_in (raised uses a b units) i j) (use_in uses a b) units (limit_in limits a b) (limit_in limits b a) (limit_in limits i j)
                (now ∙ ap (λ n. n + units) had) fits there (omega arith) (inr (limit_same limits i j b a is.0 is.1))
          ]
      | inr other ↦
          let now : use_in (raised uses a b units) i j ≡ use_in uses i j = raised_there uses i j a b units other in
          let had : use_in uses i j ≤ limit_in limits i j = within i j i_in j_in i_j in
          omega arith
    ]

total_numbers : (spent now units most line : ℕ) → now ≤ spent + units → spent ≤ most → units ≤ line → line ≤ most - spent → now ≤ most
total_numbers spent now units most line more within fits least = omega arith

-- what the line pays for keeps each bank within its total
raised_totals : (credit : FlatCredit) (a b units : ℕ) → IsCredit credit → a < 65 → b < 65 → units ≤ line_in credit a b → (bank most : ℕ) → bank < 65 → total_in credit bank ≡ Some most → spent_in (record credit { uses = raised credit.uses a b units }) bank ≤ most
raised_totals credit a b units is a_in b_in fits bank most bank_in has =
    let had : spent_in credit bank ≤ most = is.within.totals bank most bank_in has in
    let now : ℕ = spent_in (record credit { uses = raised credit.uses a b units }) bank in
    elim (cases_eq bank a) [
      | inl first ↦ total_numbers (spent_in credit bank) now units most (line_in credit a b)
          (subst (λ k. total (use_in (raised credit.uses a b units) k) (others_of credit.banks k) ≤ total (use_in credit.uses k) (others_of credit.banks k) + units) (sym first)
          (spent-first credit.uses credit.banks a b units is.uses_full is.banks a_in b_in))
          had fits
          (subst (λ k. line_in credit a b ≤ most - spent_in credit k) (sym first) (line-first credit a b most (subst (λ k. total_in credit k ≡ Some most) first has)))
      | inr not_first ↦ elim (cases_eq bank b) [
        | inl second ↦ total_numbers (spent_in credit bank) now units most (line_in credit a b)
            (subst (λ k. total (use_in (raised credit.uses a b units) k) (others_of credit.banks k) ≤ total (use_in credit.uses k) (others_of credit.banks k) + units) (sym second)
            (spent-second credit.uses credit.banks a b units is.uses_full is.banks a_in b_in))
            had fits
            (subst (λ k. line_in credit a b ≤ most - spent_in credit k) (sym second) (line-second credit a b most (subst (λ k. total_in credit k ≡ Some most) second has)))
        | inr not_second ↦ omega (arith, had, spent-third credit.uses credit.banks a b units bank is.banks a_in b_in bank_in not_first not_second)
      ]
    ]

pub raised-credit : (credit : FlatCredit) (a b units : ℕ) → IsCredit credit → a < 65 → b < 65 → units ≤ line_in credit a b → IsCredit (record credit { uses = raised credit.uses a b units })
raised-credit credit a b units is a_in b_in fits = record {
  limits_full = is.limits_full;
  uses_full = length-set credit.uses (use_place a b) (use_in credit.uses a b + units) ∙ is.uses_full;
  totals_full = is.totals_full;
  banks = is.banks;
  within = record {
    lines = raised_lines credit.limits credit.uses a b units is.uses_full a_in b_in is.within.lines (omega (arith, fits, line-limits credit a b));
    totals = raised_totals credit a b units is a_in b_in fits;
  };
}

-- ---- units given back

pub given_at : (uses : List ℕ) (i j a b units : ℕ) → length uses ≡ 4225 → a < 65 → b < 65 → use_place i j ≡ use_place a b → use_in (set uses (use_place a b) (use_in uses a b - units)) i j ≡ use_in uses i j - units
given_at uses i j a b units full a_in b_in same =
    ap (λ p. get_or (set uses (use_place a b) (use_in uses a b - units)) p 0) same
    ∙ get_or-set_same uses (use_place a b) (use_in uses a b - units) 0 (omega arith)
    ∙ ap (λ p. get_or uses p 0 - units) (sym same)

pub given_apart : (uses : List ℕ) (i j a b units : ℕ) → (use_place i j ≡ use_place a b → ⊥) → use_in (set uses (use_place a b) (use_in uses a b - units)) i j ≡ use_in uses i j
given_apart uses i j a b units differ = get_or-set_other uses (use_place a b) (use_place i j) (use_in uses a b - units) 0 differ

given_less : (uses : List ℕ) (i j a b units : ℕ) → length uses ≡ 4225 → a < 65 → b < 65 → use_in (set uses (use_place a b) (use_in uses a b - units)) i j ≤ use_in uses i j
given_less uses i j a b units full a_in b_in = elim (cases_eq (use_place i j) (use_place a b)) [
  | inl same ↦ omega (arith, given_at uses i j a b units full a_in b_in same)
  | inr other ↦ omega (arith, given_apart uses i j a b units other)
]

pub settled-credit : (credit : FlatCredit) (a b units : ℕ) → IsCredit credit → a < 65 → b < 65 → IsCredit (settled_in credit a b units)
settled-credit credit a b units is a_in b_in = record {
  limits_full = is.limits_full;
  uses_full = length-set credit.uses (use_place a b) (use_in credit.uses a b - units) ∙ is.uses_full;
  totals_full = is.totals_full;
  banks = is.banks;
  within = record {
    lines = λ i j i_in j_in differ. omega (arith, given_less credit.uses i j a b units is.uses_full a_in b_in, is.within.lines i j i_in j_in differ);
    totals = λ bank most bank_in has. omega (
      arith,
      total_rises (use_in (settled_in credit a b units).uses bank) (use_in credit.uses bank) (others_of credit.banks bank) (λ k. given_less credit.uses bank k a b units is.uses_full a_in b_in),
      is.within.totals bank most bank_in has,
    );
  };
}

-- ---- limits and totals

not_both : (i j bank other : ℕ) → i < 65 → j < 65 → bank < 65 → other < 65 → limit_place i j ≡ limit_place bank other → (i ≡ bank) × (j ≡ other)
not_both i j bank other i_in j_in bank_in other_in same = (omega arith, omega arith)

pub limits-set : (limits : List ℕ) (i j bank other limit : ℕ) → length limits ≡ 4225 → i < 65 → j < 65 → bank < 65 → other < 65 → limit_in (set limits (limit_place bank other) limit) i j ≡ cond (eqb i bank && eqb j other) limit (limit_in limits i j)
limits-set limits i j bank other limit full i_in j_in bank_in other_in =
    elim (cases_Bool (eqb i bank && eqb j other)) [
      | inl is ↦
          let both = and_parts (eqb i bank) (eqb j other) is in
          let place : limit_place i j ≡ limit_place bank other = omega (arith, eqb-true i bank both.0, eqb-true j other both.1) in
          ap (λ p. get_or (set limits (limit_place bank other) limit) p 0) place
          ∙ get_or-set_same limits (limit_place bank other) limit 0 (omega arith)
          ∙ sym (cond-true (eqb i bank && eqb j other) limit (limit_in limits i j) is)
      | inr is_not ↦
          get_or-set_other limits (limit_place bank other) (limit_place i j) limit 0
          (λ same. let both = not_both i j bank other i_in j_in bank_in other_in same in
          both_ways (eqb i bank && eqb j other) is_not (and_from (eqb i bank) (eqb j other) (eq-eqb i bank both.0) (eq-eqb j other both.1)))
          ∙ sym (cond-false (eqb i bank && eqb j other) limit (limit_in limits i j) is_not)
    ]

pub totals-set : (totals : List (Option ℕ)) (i bank most : ℕ) → length totals ≡ 65 → bank < 65 → get_or (set totals bank (Some most)) i None ≡ cond (eqb i bank) (Some most) (get_or totals i None)
totals-set totals i bank most full bank_in = elim (cases_eq i bank) [
  | inl same ↦
      ap (λ p. get_or (set totals bank (Some most)) p None) same ∙ get_or-set_same totals bank (Some most) None (omega (arith, full, bank_in))
      ∙ sym (cond-true (eqb i bank) (Some most) (get_or totals i None) (eq-eqb i bank same))
  | inr other ↦
      get_or-set_other totals bank i (Some most) None other ∙ sym (cond-false (eqb i bank) (Some most) (get_or totals i None) (ne_eqb i bank other))
]
