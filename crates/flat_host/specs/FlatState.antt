-- What the plain host keeps, and the states of the market that it stands for.
use Rattle.std.specs.Prelude.{ℕ, ◌≡◌, ◌≢◌, ◌≤◌, ◌<◌, ◌+◌, ◌*◌, ◌-◌, ◌^◌, ◌==◌, min, max, not, List, map, filter, slice_index, slice_index_or, Option, None, option_map}
use Rattle.fx_rules.specs.declared.orders.ActiveOrder.{ActiveOrder}
use Rattle.fx_rules.specs.Lists.{Each, total, below}
use Rattle.fx_rules.specs.Session.{Header, bank_count}
use Rattle.fx_rules.specs.State.{State, used, at_most}

-- how many banks there are; two tables by two banks, of the limits that they set and of what they have used; the total of each
-- bank, or that it has none
pub record FlatCredit : Type 0 where
  pub banks : ℕ
  pub limits : List ℕ
  pub uses : List ℕ
  pub totals : List (Option ℕ)

-- the orders that rest, in arrival order; the tables of credit; the number of commands of each sender; the weight of each pair
pub record FlatState : Type 0 where
  pub orders : List ActiveOrder
  pub credit : FlatCredit
  pub counts : List ℕ
  pub weights : List ℕ

-- the places of a limit and of a use in their tables, which have a row of 65 for each bank
abbrev pub limit_place : ℕ → ℕ → ℕ
limit_place i j = 65 * i + j

abbrev pub use_place : ℕ → ℕ → ℕ
use_place i j = 65 * min i j + max i j

-- the limit that the first bank sets on the second
abbrev pub limit_in : List ℕ → ℕ → ℕ → ℕ
limit_in limits i j = slice_index limits (limit_place i j)

-- what two banks have used
abbrev pub use_in : List ℕ → ℕ → ℕ → ℕ
use_in uses i j = slice_index uses (use_place i j)

-- the total of a bank, where it has one
abbrev pub total_in : FlatCredit → ℕ → Option ℕ
total_in credit bank = slice_index_or credit.totals bank None

-- of so many banks all but one
abbrev pub others_of : ℕ → ℕ → List ℕ
others_of banks bank = filter (λ other. not (other == bank)) (below banks)

-- what a bank has used with all others
abbrev pub spent_in : FlatCredit → ℕ → ℕ
spent_in credit bank = total (use_in credit.uses bank) (others_of credit.banks bank)

-- what a bank's total leaves of it, where it has a total
abbrev pub room_in : FlatCredit → ℕ → Option ℕ
room_in credit bank = option_map (λ most. most - spent_in credit bank) (total_in credit bank)

-- what the limits of two banks leave of what they have used
abbrev pub left_in : FlatCredit → ℕ → ℕ → ℕ
left_in credit i j = min (limit_in credit.limits i j) (limit_in credit.limits j i) - use_in credit.uses i j

-- the line between two banks
abbrev pub line_in : FlatCredit → ℕ → ℕ → ℕ
line_in credit i j = at_most (room_in credit i) (at_most (room_in credit j) (left_in credit i j))

-- numbers that weights can be
abbrev pub AreWeights : List ℕ → Type 0
AreWeights weights = Each (λ weight. (1 ≤ weight) × (weight ≤ 10 ^ 6)) weights

-- the flat state stands for a state: it has its orders and counts, the weights of its session, the limit and the use of each two
-- different banks, and so what each has spent, and each bank's total
pub record StandsFor (h : Header) (S : State) (l : FlatState) : Type 0 where
  pub banks : l.credit.banks ≡ bank_count h
  pub orders : l.orders ≡ S.orders
  pub counts : l.counts ≡ S.counts
  pub weights : l.weights ≡ map (λ rule. rule.weight) h.pairs
  pub limits : (i j : ℕ) → i < bank_count h → j < bank_count h → i ≢ j → limit_in l.credit.limits i j ≡ S.limits i j
  pub uses : (i j : ℕ) → i < bank_count h → j < bank_count h → i ≢ j → use_in l.credit.uses i j ≡ used h S i j
  pub totals : (bank : ℕ) → bank < bank_count h → total_in l.credit bank ≡ S.totals bank
