-- The lines follow the journal's first line.
use Rattle.fx_edges.proofs.Gathering.{Gathered-then}
use Rattle.reply_lines.proofs.Outputs.{cut_short}
use Rattle.reply_lines.proofs.day.write_journal_text.Goals as goal

pub returns-in_err-write_journal_line : goal.returns-in_err-write_journal_line
returns-in_err-write_journal_line g c = record {
  wrote = cut_short c.from_residual.result c.args.lines.now c.from_residual.ensures.1 c.in_err-write_journal_line.ensures.wrote;
}

pub returns : goal.returns
returns g c = record { wrote = Gathered-then c.put.result c.in_ok-write_journal_line.ensures.wrote c.put.ensures.gathered }
