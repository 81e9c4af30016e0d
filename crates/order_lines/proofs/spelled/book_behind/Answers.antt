use Rattle.std.proofs.Common.{rules}
use Rattle.order_lines.proofs.SpelledLines.{EndsWith-book}
use Rattle.order_lines.proofs.spelled.book_behind.Goals as goal

pub returns : goal.returns
returns c = EndsWith-book c.args.session.now c.args.sender _ c.args.text.now _ (search rules)
