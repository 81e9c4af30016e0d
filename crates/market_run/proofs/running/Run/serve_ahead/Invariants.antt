use Rattle.std.specs.Slice.Iter.{chunks_rest}
use Rattle.market_run.proofs.Parts.{ServesFront}
use Rattle.market_run.proofs.running.Run.serve_ahead.Given as goal

-- those in front of the rest were served
abbrev pub invariant-loop-next : goal.invariant-loop-next
invariant-loop-next g l = record {
  served : ServesFront g.M.Market.stands g.O.Observer.told l.session l.initial.self l.self l.sent (chunks_rest l.next-iterator);
}
