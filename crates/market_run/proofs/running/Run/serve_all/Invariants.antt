use Rattle.std.proofs.Common.{take}
use Rattle.market_run.specs.Running.{ServesOn}
use Rattle.market_run.proofs.running.Run.serve_all.Given as goal

-- those so far were served
abbrev pub invariant-loop-next : goal.invariant-loop-next
invariant-loop-next g l = record {
  served : ServesOn g.M.Market.stands g.O.Observer.told l.session l.initial.self l.self (take l.next-index l.sent);
}
