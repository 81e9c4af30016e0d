use Rattle.std.proofs.Common.{List, flat_map}
use Rattle.fx_edges.specs.Gathered.{Kept}
use Rattle.fx_rules.specs.Lists.{below}
use Rattle.client_day.specs.inside.Days.{AreToldOf}
use Rattle.client_day.specs.Events.{Event}
use Rattle.client_day.specs.Text.{client_part}
use Rattle.client_day.proofs.text.write_all_clients.Given as goal

-- the parts of the clients so far are written
abbrev pub invariant-loop-place : goal.invariant-loop-place
invariant-loop-place g l =
    (events : List Event) → AreToldOf l.session events l.book l.desks →
    Kept g.K.Sink.written g.K.Sink.faults l.initial.pieces l.initial.out l.pieces l.out (flat_map (client_part l.session l.book.clients events) (below l.place))
