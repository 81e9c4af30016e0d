use Rattle.std.proofs.Common.{◌≡◌, take}
use Rattle.credit_lines.specs.Credit.{IsCredit}
use Rattle.credit_raise.proofs.Turning.{Leads}
use Rattle.credit_raise.proofs.sweep.turn_all.Given as goal

-- the orders that were passed had their turns
abbrev pub invariant-loop-order : goal.invariant-loop-order
invariant-loop-order g l = record {
  leads : Leads l.initial.book l.initial.lines l.weight (take l.order-index l.orders) l.fills.items l.book l.lines;
  pair : l.book.pair ≡ l.initial.book.pair;
  banks : l.book.banks ≡ l.lines.banks;
  valid : IsCredit l.lines;
}
