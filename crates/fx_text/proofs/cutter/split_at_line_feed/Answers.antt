use Rattle.fx_text.proofs.FirstLines.{IsFirstPart-split, one_part}
use Rattle.fx_text.proofs.cutter.split_at_line_feed.Goals as goal

pub returns-in_err-at : goal.returns-in_err-at
returns-in_err-at c = rw c.from_residual.ensures (one_part c.args.text.now c.in_err-at.ensures)

pub returns : goal.returns
returns c = IsFirstPart-split c.args.text.now c.split_at.result.0.now c.split_at.result.1.now c.split_at-2.result.1.now c.in_ok-at.at c.in_ok-at.ensures c.split_at.ensures.front c.split_at.ensures.back c.split_at-2.ensures.back
