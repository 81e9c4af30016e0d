use Rattle.order_lines.proofs.SpelledFields.{spelled_other}
use Rattle.order_lines.proofs.SpelledLines.{EndsWith-show}
use Rattle.order_lines.proofs.spelled.show_behind.Goals as goal

pub returns : goal.returns
returns c =
    EndsWith-show c.args.session.now c.args.sender c.in_ok-bank.bank c.args.text.now c.in_ok-name.behind.now
    (spelled_other c.args.text.now c.in_ok-name.name.now c.in_ok-name.behind.now 10 c.in_ok-name.ensures c.args.session.now c.args.sender c.read_other.result c.in_ok-bank.bank c.in_ok-bank.ensures.value c.read_other.ensures)
