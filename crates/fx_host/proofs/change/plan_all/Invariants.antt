use Rattle.std.proofs.Common.{◌≡◌, length}
use Rattle.fx_rules.specs.History.{state}
use Rattle.credit_raise.specs.UnderWay.{IsUnderWay}
use Rattle.fx_host.proofs.change.plan_all.Given as goal

-- the pairs so far had their turns, and the credit book is as it was
abbrev pub invariant-loop-place : goal.invariant-loop-place
invariant-loop-place g l = record {
  turns : length l.change.plans ≡ l.place;
  under_way : IsUnderWay g.N.Naming.session (state g.N.Naming.session l.credit.history.entries) l.change;
  command : l.change.command ≡ l.fn.change.command;
  sender : l.change.sender ≡ l.fn.change.sender;
  same : l.credit ≡ l.fn.credit;
}
