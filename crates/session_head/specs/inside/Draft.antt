-- What private functions and proofs alone say of it, beside `specs/Draft.antt`.
use Rattle.std.specs.Prelude.{ℕ, ◌≡◌, ◌≢◌, ◌<◌, ◌≤◌, List, Option, length, slice_index, IsTrue, IfSome, All, AllPairs}
use Rattle.fx_rules.specs.Names.{is_name}
use Rattle.fx_rules.specs.Session.{IsPairRule, AreSamePair, newest}
use Rattle.fx_rules.specs.declared.session.PairRule.{PairRule}
use Rattle.session_head.specs.Draft.{Draft, limit_place}

-- its version
pub record IsVersion (version : ℕ) : Type 0 where
  pub least : 1 ≤ version
  pub most : version ≤ newest

-- its banks
pub record AreBanks (banks : List (List ℕ)) : Type 0 where
  pub most : length banks ≤ 64
  pub names : All (λ name. IsTrue (is_name name)) banks
  pub differ : AllPairs (λ a b. a ≢ b) banks

-- its pairs
pub record ArePairs (pairs : List PairRule) : Type 0 where
  pub most : length pairs ≤ 32
  pub rules : All IsPairRule pairs
  pub differ : AllPairs (λ a b. ¬ (AreSamePair a b)) pairs

-- its table of limits
pub record AreLimits (limits : List ℕ) : Type 0 where
  pub full : length limits ≡ 4096
  pub most : All (λ limit. limit ≤ 1000000000000000) limits
  pub own : (i : ℕ) → i < 64 → slice_index limits (limit_place i i) ≡ 0

-- its table of totals
pub record AreTotals (totals : List (Option ℕ)) : Type 0 where
  pub full : length totals ≡ 64
  pub most : All (λ most. IfSome most (λ units. units ≤ 1000000000000000)) totals

-- a draft can become a session as soon as it has two banks and a pair
pub record IsDraft (d : Draft) : Type 0 where
  pub version : IsVersion d.version
  pub banks : AreBanks d.banks
  pub pairs : ArePairs d.pairs
  pub limits : AreLimits d.limits
  pub totals : AreTotals d.totals
