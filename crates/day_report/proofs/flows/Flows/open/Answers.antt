use Rattle.std.proofs.Common.{ℕ, ◌*◌, ◌≤◌, ◌<◌, ◌^◌, length, ap, arith}
use Rattle.std.proofs.lemmas.Nat.{mul-le}
use Rattle.day_report.proofs.Codes.{currencies-most}
use Rattle.day_report.proofs.flows.Flows.open.Goals as goal

-- a cell for each of at most 64 banks and 64 currencies
cells_fit : (rows columns : ℕ) → rows ≤ 64 → columns ≤ 64 → rows * columns < 2 ^ 64
cells_fit rows columns p q = let most : rows * columns ≤ 64 * 64 = mul-le rows columns 64 64 p q in omega arith

pub open-requires-2 : goal.open-requires-2
open-requires-2 c =
    record {
      cells = cells_fit _ _ (omega (arith, ap length c.banks-banks.ensures.value, c.banks-banks.ensures.valid.banks_most))
          (omega (arith, c.len-columns.ensures, ap length c.in_ok-currencies.ensures.value.codes_are, currencies-most c.args.session.now c.banks-banks.ensures.valid));
    }

pub open-requires-3 : goal.open-requires-3
open-requires-3 c =
    record {
      cells = cells_fit _ _ (omega (arith, ap length c.banks-banks.ensures.value, c.banks-banks.ensures.valid.banks_most))
          (omega (arith, c.len-columns.ensures, ap length c.in_ok-currencies.ensures.value.codes_are, currencies-most c.args.session.now c.banks-banks.ensures.valid));
    }
