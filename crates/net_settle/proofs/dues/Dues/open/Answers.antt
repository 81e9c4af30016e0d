use Rattle.std.proofs.Common.{ap, length, arith}
use Rattle.day_report.proofs.Codes.{currencies-most}
use Rattle.net_settle.proofs.Adding.{cells-fit}
use Rattle.net_settle.proofs.dues.Dues.open.Goals as goal

pub open-requires-2 : goal.open-requires-2
open-requires-2 c = record {
  cells = cells-fit (length c.banks-banks.result.now) c.len.result (omega (arith, ap length c.banks-banks.ensures.value, c.banks-banks.ensures.valid.banks_most))
      (omega (arith, c.len.ensures, ap length c.in_ok-currencies.ensures.value.codes_are, currencies-most c.args.session.now c.banks-banks.ensures.valid));
}
