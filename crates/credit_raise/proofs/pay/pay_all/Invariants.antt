use Rattle.std.proofs.Common.{◌≡◌, take}
use Rattle.credit_lines.specs.Credit.{IsCredit}
use Rattle.credit_raise.specs.inside.Paying.{paid_all}
use Rattle.credit_raise.proofs.pay.pay_all.Given as goal

-- the fills that were passed are paid for
abbrev pub invariant-loop-fill : goal.invariant-loop-fill
invariant-loop-fill l = record {
  value : l.lines ≡ paid_all l.weight l.initial.lines (take l.fill-index l.fills);
  banks : l.banks ≡ l.lines.banks;
  valid : IsCredit l.lines;
}
