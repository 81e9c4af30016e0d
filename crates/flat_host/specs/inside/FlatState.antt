-- What private functions and proofs alone say of it, beside `specs/FlatState.antt`.
use Rattle.std.specs.Prelude.{ℕ, ◌≡◌, ◌≢◌, ◌≤◌, ◌<◌, ◌^◌, List, length, map, Some}
use Rattle.fx_rules.specs.Lists.{Each}
use Rattle.fx_rules.specs.Session.{Header, bank_count}
use Rattle.fx_rules.specs.State.{State, used}
use Rattle.flat_host.specs.FlatState.{FlatCredit, FlatState, limit_in, use_in, total_in, spent_in, AreWeights}

-- no two different banks have used more than either's limit on the other, and no bank has used more than its total with all others
pub record IsWithin (credit : FlatCredit) : Type 0 where
  pub lines : (i j : ℕ) → i < 65 → j < 65 → i ≢ j → use_in credit.uses i j ≤ limit_in credit.limits i j
  pub totals : (bank most : ℕ) → bank < 65 → total_in credit bank ≡ Some most → spent_in credit bank ≤ most

-- what holds of all tables of credit: they are full, and no use is above a limit or a total
pub record IsCredit (credit : FlatCredit) : Type 0 where
  pub limits_full : length credit.limits ≡ 4225
  pub uses_full : length credit.uses ≡ 4225
  pub totals_full : length credit.totals ≡ 65
  pub banks : credit.banks ≤ 64
  pub within : IsWithin credit

-- what holds of every flat state: numbers that fit
pub record IsFlatState (l : FlatState) : Type 0 where
  pub senders : length l.counts ≤ 65
  pub counts : Each (λ count. count < 2 ^ 32) l.counts
  pub pairs : length l.weights ≤ 32
  pub weights : AreWeights l.weights

-- weights and tables of credit that are those of a state, for each bank and for each two different ones
pub record TablesFor (h : Header) (S : State) (weights : List ℕ) (credit : FlatCredit) : Type 0 where
  pub banks : credit.banks ≡ bank_count h
  pub weighs : weights ≡ map (λ rule. rule.weight) h.pairs
  pub limit : (i j : ℕ) → i < bank_count h → j < bank_count h → i ≢ j → limit_in credit.limits i j ≡ S.limits i j
  pub uses : (i j : ℕ) → i < bank_count h → j < bank_count h → i ≢ j → use_in credit.uses i j ≡ used h S i j
  pub totals : (bank : ℕ) → bank < bank_count h → total_in credit bank ≡ S.totals bank
