use Rattle.std.proofs.Common.{arith}
use Rattle.fx_amounts.specs.Quantity.{IsUnits}
use Rattle.order_lines.proofs.SpelledFields.{front_count, spelled_other}
use Rattle.order_lines.proofs.SpelledLines.{EndsWith-line}
use Rattle.order_lines.proofs.spelled.line_behind.Goals as goal

pub returns : goal.returns
returns c =
    EndsWith-line c.args.session.now c.args.sender c.in_ok-bank.bank c.in_ok-limit.limit c.args.text.now c.in_ok-name.fields.now c.in_ok-units.behind.now
    (spelled_other c.args.text.now c.in_ok-name.name.now c.in_ok-name.fields.now 32 c.in_ok-name.ensures c.args.session.now c.args.sender c.read_other.result c.in_ok-bank.bank c.in_ok-bank.ensures.value c.read_other.ensures)
    (front_count c.in_ok-name.fields.now c.in_ok-units.behind.now 10 IsUnits c.in_ok-limit.limit c.in_ok-units.units (omega arith, c.in_ok-limit.ensures.value) c.in_ok-units.ensures.spelled)
