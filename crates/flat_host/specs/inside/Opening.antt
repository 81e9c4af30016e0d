-- The tables of credit as a day opens.
use Rattle.std.specs.Prelude.{ℕ, ◌≡◌, ◌<◌, ◌/◌, ◌%◌, ◌&&◌, nat_lt, if◌then◌else◌, slice_index}
use Rattle.fx_rules.specs.Session.{Header, bank_count, opening_limit, opening_total}
use Rattle.flat_host.specs.FlatState.{FlatCredit, total_in}

-- the limit at a place of the table, which has a row of 65 for each bank; 0 beyond the session's banks
abbrev pub limit_at : Header → ℕ → ℕ
limit_at h place =
    if nat_lt (place / 65) (bank_count h) && nat_lt (place % 65) (bank_count h) then opening_limit h (place / 65) (place % 65) else 0

-- the tables have the limits and the totals that the banks open with, and nothing is used
pub record OpensWith (h : Header) (credit : FlatCredit) : Type 0 where
  pub banks : credit.banks ≡ bank_count h
  pub limits : (place : ℕ) → place < 4225 → slice_index credit.limits place ≡ limit_at h place
  pub uses : (place : ℕ) → slice_index credit.uses place ≡ 0
  pub totals : (bank : ℕ) → bank < 65 → total_in credit bank ≡ opening_total h bank
