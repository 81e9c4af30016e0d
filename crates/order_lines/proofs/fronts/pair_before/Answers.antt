use Rattle.std.proofs.Common.{take, sym, arith}
use Rattle.fx_rules.specs.Session.{pair_name}
use Rattle.order_lines.proofs.SaidFields.{pair_named-ok}
use Rattle.order_lines.proofs.SpelledLines.{text_around}
use Rattle.order_lines.proofs.fronts.pair_before.Goals as goal

pub returns-clause-spelled : goal.returns-clause-spelled
returns-clause-spelled c =
    let named = pair_named-ok c.args.session.now (take 7 c.args.text.now) c.in_ok-pair.pair (sym c.in_ok-pair.ensures.value) in
    text_around c.args.text.now (pair_name c.args.session.now c.in_ok-pair.pair) c.split_at.result.1.now 7 c.args.end
    (omega arith) (omega arith) (sym named.1) c.split_at.ensures.back
