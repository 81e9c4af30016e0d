-- One part of the report follows the other.
use Rattle.std.proofs.Common.{◌++◌, Ok}
use Rattle.std.specs.List.{flat_map}
use Rattle.fx_edges.proofs.Gathering.{Gathered-then}
use Rattle.reply_lines.specs.Report.{report_of, volume_line, use_line, net_line}
use Rattle.reply_lines.proofs.Outputs.{cut_short, of_items}
use Rattle.reply_lines.proofs.report.write_report.Goals as goal

pub returns-in_err-put : goal.returns-in_err-put
unfolding report_of
returns-in_err-put g c =
    let h = c.args.session.now in
    let r = c.args.report.now in
    record {
      wrote = cut_short c.from_residual.result (flat_map (volume_line h) r.volumes ++ (flat_map (use_line h) r.uses ++ flat_map (net_line h) r.nets)) c.from_residual.ensures.1
          c.in_err-put.ensures.gathered;
    }

pub returns-in_err-write_lines : goal.returns-in_err-write_lines
unfolding report_of
returns-in_err-write_lines g c =
    let h = c.args.session.now in
    let r = c.args.report.now in
    record {
      wrote = Gathered-then c.from_residual-in_err-write_lines.result c.in_ok-put.ensures.gathered
          (cut_short c.from_residual-in_err-write_lines.result (flat_map (use_line h) r.uses ++ flat_map (net_line h) r.nets) c.from_residual-in_err-write_lines.ensures.1
          (of_items (volume_line h) _ c.as_slice.ensures.items c.in_err-write_lines.ensures.wrote));
    }

pub returns-in_err-write_lines-2 : goal.returns-in_err-write_lines-2
unfolding report_of
returns-in_err-write_lines-2 g c =
    let h = c.args.session.now in
    let r = c.args.report.now in
    record {
      wrote = Gathered-then c.from_residual-in_err-write_lines-2.result c.in_ok-put.ensures.gathered
          (Gathered-then c.from_residual-in_err-write_lines-2.result (of_items (volume_line h) (Ok tt) c.as_slice.ensures.items c.in_ok-write_lines.ensures.wrote)
          (cut_short c.from_residual-in_err-write_lines-2.result (flat_map (net_line h) r.nets) c.from_residual-in_err-write_lines-2.ensures.1
          (of_items (use_line h) _ c.as_slice-2.ensures.items c.in_err-write_lines-2.ensures.wrote)));
    }

pub returns : goal.returns
unfolding report_of
returns g c =
    let h = c.args.session.now in
    record {
      wrote = Gathered-then c.write_lines-3.result c.in_ok-put.ensures.gathered
          (Gathered-then c.write_lines-3.result (of_items (volume_line h) (Ok tt) c.as_slice.ensures.items c.in_ok-write_lines.ensures.wrote)
          (Gathered-then c.write_lines-3.result (of_items (use_line h) (Ok tt) c.as_slice-2.ensures.items c.in_ok-write_lines-2.ensures.wrote)
          (of_items (net_line h) c.write_lines-3.result c.as_slice-3.ensures.items c.write_lines-3.ensures.wrote)));
    }
