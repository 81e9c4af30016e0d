-- What the lines of a header have declared before START.
use Rattle.std.specs.Prelude.{ℕ, ◌==◌, ◌+◌, ◌*◌, ◌/◌, ◌%◌, if◌then◌else◌, Option, None, List, [], map, length, replicate, slice_index, take}
use Rattle.fx_rules.specs.Lists.{below}
use Rattle.fx_rules.specs.Session.{Header}
use Rattle.fx_rules.specs.declared.session.PairRule.{PairRule}

-- the version that the first line names; the banks' names and the pairs in the order of their lines; a limit that each bank sets on
-- each, 64 limits a row; and for each bank a total, or that it has none
pub record Draft : Type 0 where
  pub version : ℕ
  pub banks : List (List ℕ)
  pub pairs : List PairRule
  pub limits : List ℕ
  pub totals : List (Option ℕ)

-- where the limit stands that the first bank sets on the second
abbrev pub limit_place : ℕ → ℕ → ℕ
limit_place from to = 64 * from + to

-- no limit is set: each is 0
unfoldable pub no_limits : List ℕ
no_limits = replicate 4096 0

-- no bank has a total
unfoldable pub no_totals : List (Option ℕ)
no_totals = replicate 64 None

abbrev pub empty_draft : ℕ → Draft
empty_draft version = record { version = version; banks = []; pairs = []; limits = no_limits; totals = no_totals }

-- the limits of so many banks row by row, without those of banks that are not declared
abbrev pub square : ℕ → List ℕ → List ℕ
square banks limits = map (λ at. slice_index limits (limit_place (at / banks) (at % banks))) (below (banks * banks))

-- the totals of so many banks in version 2, without those of banks that are not declared; version 1 has none
abbrev pub totals_kept : ℕ → ℕ → List (Option ℕ) → List (Option ℕ)
totals_kept version banks totals = if version == 2 then take banks totals else []

-- the header that a draft declares
abbrev pub header_of : Draft → Header
header_of d = record {
  version = d.version;
  banks = d.banks;
  pairs = d.pairs;
  limits = square (length d.banks) d.limits;
  totals = totals_kept d.version (length d.banks) d.totals;
}
