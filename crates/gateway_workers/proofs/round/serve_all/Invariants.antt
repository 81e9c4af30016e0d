use Rattle.std.proofs.Common.{◌≡◌, length, All}
use Rattle.gateway_workers.specs.inside.Serving.{AllLanesRan, HasTurned}
use Rattle.gateway_workers.proofs.round.serve_all.Given as goal

-- each lane has run, and has had so many turns
abbrev pub invariant-loop-turn : goal.invariant-loop-turn
invariant-loop-turn g l = record {
  long : length l.lanes ≡ length l.fn.lanes;
  ran : AllLanesRan g.D.Desk.session g.D.Desk.bank g.D.Desk.seen g.D.Desk.mine l.fn.lanes l.lanes;
  turned : All (HasTurned l.turn) l.lanes;
}
