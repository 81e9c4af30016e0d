use Rattle.std.proofs.Common.{ℕ, ◌≡◌, ◌<◌, length, take, slice_index_or}
use Rattle.std.specs.List.{flat_map}
use Rattle.day_report.specs.Report.{firsts, base_code, quote_code}
use Rattle.day_report.specs.Sums.{StandsAt}
use Rattle.day_report.specs.declared.currencies.Columns.{Columns}
use Rattle.day_report.proofs.Codes.{two_codes}
use Rattle.day_report.proofs.currencies.Currencies.open.Given as goal

-- the currencies of the pairs that were passed, and where theirs stand
abbrev pub invariant-loop-rule : goal.invariant-loop-rule
invariant-loop-rule l = record {
  codes_are : l.codes.items ≡ firsts (flat_map two_codes (take l.rule-index l.session.pairs));
  count : length l.columns.items ≡ l.rule-index;
  bases : (pair : ℕ) (d : Columns) → pair < l.rule-index → StandsAt l.codes.items (base_code l.session pair) (slice_index_or l.columns.items pair d).base;
  quotes : (pair : ℕ) (d : Columns) → pair < l.rule-index → StandsAt l.codes.items (quote_code l.session pair) (slice_index_or l.columns.items pair d).quote;
}
