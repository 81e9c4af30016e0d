use Rattle.std.proofs.Common.{rules}
use Rattle.order_lines.proofs.SpelledLines.{EndsWith-pull}
use Rattle.order_lines.proofs.spelled.pull_behind.Goals as goal

pub returns : goal.returns
returns c = EndsWith-pull c.args.session.now c.args.sender _ c.args.text.now _ (search rules)
