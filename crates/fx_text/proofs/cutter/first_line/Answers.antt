use Rattle.fx_text.specs.Lines.{line_seen}
use Rattle.fx_text.proofs.FirstLines.{IsFirstLine-seen, IsRest-parts}
use Rattle.fx_text.proofs.cutter.first_line.Goals as goal

pub returns-in_err-part-clause-line : goal.returns-in_err-part-clause-line
returns-in_err-part-clause-line c = rw c.from_residual.ensures (IsRest-parts c.args.text.now c.in_err-part.ensures)

pub returns-clause-line : goal.returns-clause-line
returns-clause-line c = IsFirstLine-seen c.args.text.now c.in_ok-part.part.now c.in_ok-part.behind.now (line_seen c.of.result) c.of.ensures c.in_ok-part.ensures
