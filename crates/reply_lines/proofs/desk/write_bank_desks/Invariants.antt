use Rattle.std.proofs.Common.{List, flat_map}
use Rattle.fx_edges.specs.Gathered.{Kept}
use Rattle.fx_rules.specs.Lists.{below}
use Rattle.fx_rules.specs.declared.outcome.Entry.{Entry}
use Rattle.reply_lines.specs.Desks.{AreDesksOf}
use Rattle.reply_lines.specs.Notices.{desk_text}
use Rattle.reply_lines.proofs.desk.write_bank_desks.Given as goal

-- the desks of the banks so far are written
abbrev pub invariant-loop-place : goal.invariant-loop-place
invariant-loop-place g l =
    (entries : List Entry) → AreDesksOf l.session entries l.desks →
    Kept g.K.Sink.written g.K.Sink.faults l.initial.pieces l.initial.out l.pieces l.out (flat_map (desk_text l.session entries) (below l.place))
