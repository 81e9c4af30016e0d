use Rattle.std.proofs.Common.{take, drop}
use Rattle.std.specs.List.{flat_map}
use Rattle.fx_edges.specs.Gathered.{Kept}
use Rattle.fx_rules.specs.Lists.{Each}
use Rattle.reply_lines.proofs.lines.write_lines.Given as goal

-- the lines so far are written, and the items that are left fit
abbrev pub invariant-loop-item : goal.invariant-loop-item
invariant-loop-item g l = record {
  written : Kept g.K.Sink.written g.K.Sink.faults l.initial.pieces l.initial.out l.pieces l.out (flat_map (g.T.Print.text l.session) (take l.item-index l.items));
  fit : Each (g.T.Print.fits l.session) (drop l.item-index l.items);
}
