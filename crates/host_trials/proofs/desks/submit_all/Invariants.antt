use Rattle.std.proofs.Common.{◌≡◌, length}
use Rattle.host_trials.specs.inside.Passes.{AreOfSenders}
use Rattle.host_trials.proofs.desks.submit_all.Given as goal

-- each sender has submitted at most as many commands as were sent so far
abbrev pub invariant-loop-next : goal.invariant-loop-next
invariant-loop-next g l = record {
  count : length l.passes ≡ length l.fn.passes;
  passes : AreOfSenders g.D.Desk.session g.D.Desk.bank g.D.Desk.mine l.next-index l.passes;
}
