-- The operator's desk follows those of the banks.
use Rattle.fx_edges.proofs.Gathering.{Gathered-then}
use Rattle.reply_lines.specs.inside.Desks.{host_desk}
use Rattle.reply_lines.proofs.Gathering.{desks-parts}
use Rattle.reply_lines.proofs.Outputs.{cut_short, of_text}
use Rattle.reply_lines.proofs.desk.write_desks.Goals as goal

pub returns-in_err-write_bank_desks : goal.returns-in_err-write_bank_desks
returns-in_err-write_bank_desks g c =
    let h = c.args.session.now in
    record {
      wrote = λ entries are. of_text (desks-parts h entries)
          (cut_short c.from_residual.result (host_desk h entries) c.from_residual.ensures.1 (c.in_err-write_bank_desks.ensures.wrote entries are));
    }

pub returns : goal.returns
returns g c = record {
  wrote = λ entries are. of_text (desks-parts c.args.session.now entries)
      (Gathered-then c.write_host_desk.result (c.in_ok-write_bank_desks.ensures.wrote entries are) (c.write_host_desk.ensures.wrote entries are));
}
