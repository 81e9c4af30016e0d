use Rattle.std.proofs.Common.{◌≡◌, drop}
use Rattle.credit_lines.specs.Credit.{IsCredit}
use Rattle.credit_lines.specs.Market.{ArePaid, taken_by_all}
use Rattle.credit_lines.proofs.following.take_all.Given as goal

-- the fills that are left are paid, and leave what all of them would
abbrev pub invariant-loop-fill : goal.invariant-loop-fill
invariant-loop-fill l = record {
  valid : IsCredit l.lines;
  paid : ArePaid l.session l.lines (drop l.fill-index l.fills);
  leaves : taken_by_all l.session l.lines (drop l.fill-index l.fills) ≡ taken_by_all l.session l.fn.lines l.fills;
}
