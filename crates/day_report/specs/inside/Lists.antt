-- The lists of a report, as they are read off the tables.
use Rattle.std.specs.Prelude.{ℕ, nat_lt, List, map, filter, length, pos, ◌-ℤ◌}
use Rattle.std.specs.List.{flat_map}
use Rattle.fx_rules.specs.Lists.{below}
use Rattle.credit_lines.specs.Credit.{Credit, limit_in, used_in, line_in}
use Rattle.day_report.specs.Table.{sum_at}
use Rattle.day_report.specs.inside.Table.{IsSmall}
use Rattle.day_report.specs.Sums.{code_at}
use Rattle.day_report.specs.declared.rows.Use.{Use}
use Rattle.day_report.specs.declared.rows.Net.{Net}
use Rattle.day_report.specs.declared.flows.Flows.{Flows}

-- two banks of the lines
abbrev pub use_in : Credit → ℕ → ℕ → Use
use_in credit i j = record {
  a = i;
  b = j;
  limit_ab = limit_in credit i j;
  limit_ba = limit_in credit j i;
  used = used_in credit i j;
  eff = line_in credit i j;
}

-- a bank with each one behind it
abbrev pub uses_behind : Credit → ℕ → List Use
uses_behind credit i = map (use_in credit i) (filter (nat_lt i) (below credit.banks))

abbrev pub uses_in : Credit → List Use
uses_in credit = flat_map (uses_behind credit) (below credit.banks)

-- a bank and a column of the flows
abbrev pub net_in : Flows → ℕ → ℕ → Net
net_in flows bank column = record {
  bank = bank;
  currency = code_at flows.currencies.codes.items column;
  amount = pos (sum_at flows.received bank column) -ℤ pos (sum_at flows.paid bank column);
}

-- a bank with each column
abbrev pub nets_at : Flows → ℕ → List Net
nets_at flows bank = map (net_in flows bank) (below (length flows.currencies.codes.items))

abbrev pub nets_in : Flows → ℕ → List Net
nets_in flows banks = flat_map (nets_at flows) (below banks)

-- flows of so many banks whose differences fit
pub record HaveNets (banks : ℕ) (flows : Flows) : Type 0 where
  pub got : IsSmall banks (length flows.currencies.codes.items) flows.received
  pub gave : IsSmall banks (length flows.currencies.codes.items) flows.paid
