-- The credit between a session's banks: the limits that they set on each other, what each two of them have used, and the total that
-- a bank may have over all others. A bank is named by its place in the session's header, from 0. All amounts are credit units.
use Rattle.std.specs.Prelude.{ℕ, ◌≡◌, ◌≤◌, ◌<◌, ◌+◌, ◌-◌, ◌*◌, ◌/◌, ◌==◌, not, min, max, List, length, map, filter, replicate, slice_index, slice_index_or, slice_set, Option, Some, None, option_map}
use Rattle.fx_amounts.specs.Quantity.{IsUnits}
use Rattle.fx_rules.specs.Lists.{total, below}
use Rattle.fx_rules.specs.Session.{Header, bank_count, opening_total}
use Rattle.fx_rules.specs.State.{at_most}

-- Two tables row by row, and a list. The limit that bank i sets on bank j stands in row i and column j of `limits`. What two banks
-- have used stands once in `uses`, in the row of the lower bank and the column of the higher one. The total that bank i has, or that
-- it has none, stands at i of `totals`.
pub record Credit : Type 0 where
  pub banks : ℕ
  pub limits : List ℕ
  pub uses : List ℕ
  pub totals : List (Option ℕ)

-- where a row and a column of a table meet that has so many columns
abbrev pub place : ℕ → ℕ → ℕ → ℕ
place banks row column = row * banks + column

-- where what two banks have in common stands, whichever of them is named first
abbrev pub shared_place : ℕ → ℕ → ℕ → ℕ
shared_place banks i j = place banks (min i j) (max i j)

-- the limit that the first bank sets on the second
abbrev pub limit_in : Credit → ℕ → ℕ → ℕ
limit_in credit i j = slice_index credit.limits (place credit.banks i j)

-- what two banks have used
abbrev pub used_in : Credit → ℕ → ℕ → ℕ
used_in credit i j = slice_index credit.uses (shared_place credit.banks i j)

-- the total that a bank has, or that it has none
abbrev pub total_in : Credit → ℕ → Option ℕ
total_in credit bank = slice_index_or credit.totals bank None

-- of so many banks those other than one
abbrev pub others_of : ℕ → ℕ → List ℕ
others_of banks bank = filter (λ other. not (other == bank)) (below banks)

-- what a bank has spent: what it has used with all others
abbrev pub spent_in : Credit → ℕ → ℕ
spent_in credit bank = total (used_in credit bank) (others_of credit.banks bank)

-- what a bank's total leaves of what it has spent, where it has a total
abbrev pub room_in : Credit → ℕ → Option ℕ
room_in credit bank = option_map (λ most. most - spent_in credit bank) (total_in credit bank)

-- what the lesser of the limits that two banks set on each other leaves of what they have used
abbrev pub left_in : Credit → ℕ → ℕ → ℕ
left_in credit i j = min (limit_in credit i j) (limit_in credit j i) - used_in credit i j

-- the line between two banks: what their limits leave, and no more than the total of either leaves
abbrev pub line_in : Credit → ℕ → ℕ → ℕ
line_in credit i j = at_most (room_in credit i) (at_most (room_in credit j) (left_in credit i j))

-- the lots of so many credit units each that the line between two banks allows
abbrev pub reach_in : Credit → ℕ → ℕ → ℕ → ℕ
reach_in credit i j weight = line_in credit i j / weight

-- the credit with which a session opens: its opening limits and totals, and no use
abbrev pub opened : Header → Credit
opened h = record {
  banks = bank_count h;
  limits = h.limits;
  uses = replicate (bank_count h * bank_count h) 0;
  totals = map (opening_total h) (below (bank_count h));
}

-- what two banks have used is this
abbrev pub with_used : Credit → ℕ → ℕ → ℕ → Credit
with_used credit i j used = record credit { uses = slice_set credit.uses (shared_place credit.banks i j) used }

-- two banks have used so many units more
abbrev pub taken : Credit → ℕ → ℕ → ℕ → Credit
taken credit i j units = with_used credit i j (used_in credit i j + units)

-- so many units are given back of what two banks have used
abbrev pub given_back : Credit → ℕ → ℕ → ℕ → Credit
given_back credit i j units = with_used credit i j (used_in credit i j - units)

-- the limit that the first bank sets on the second is this
abbrev pub limited : Credit → ℕ → ℕ → ℕ → Credit
limited credit i j limit = record credit { limits = slice_set credit.limits (place credit.banks i j) limit }

-- the total that a bank has is this
abbrev pub totalled : Credit → ℕ → ℕ → Credit
totalled credit bank most = record credit { totals = slice_set credit.totals bank (Some most) }

-- The tables and the list are full, every limit is in range, and no line is exceeded: what two banks have used is at most the limit
-- that each sets on the other, and what a bank has spent is at most its total.
pub record IsCredit (credit : Credit) : Type 0 where
  pub banks_most : credit.banks ≤ 64
  pub limits_full : length credit.limits ≡ credit.banks * credit.banks
  pub uses_full : length credit.uses ≡ credit.banks * credit.banks
  pub totals_full : length credit.totals ≡ credit.banks
  pub limits_most : (i j : ℕ) → i < credit.banks → j < credit.banks → IsUnits (limit_in credit i j)
  pub within : (i j : ℕ) → i < credit.banks → j < credit.banks → used_in credit i j ≤ limit_in credit i j
  pub within_total : (i most : ℕ) → i < credit.banks → total_in credit i ≡ Some most → spent_in credit i ≤ most
