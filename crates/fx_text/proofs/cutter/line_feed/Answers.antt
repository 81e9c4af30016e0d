use Rattle.fx_text.proofs.FirstLines.{position-first_byte}
use Rattle.fx_text.proofs.cutter.line_feed.Goals as goal

pub returns : goal.returns
returns c = position-first_byte c.args.text.now c.memchr.result c.memchr.ensures
