use Rattle.std.proofs.Common.{ℕ, ◌≡◌, ◌≤◌, ◌+◌, ◌^◌, ◌++◌, true, List, length}
use Rattle.fx_rules.specs.declared.orders.Fill.{Fill}
use Rattle.fx_rules.specs.Raise.{taker_of_resting}
use Rattle.credit_raise.specs.inside.Playing.{SweptAmong, lessened_all, paid}
use Rattle.credit_raise.proofs.replay.Replay.sweep.Given as goal

-- the sweep's own fills so far, which were paid for and taken from those that wait; whatever fills make a sweep from here
-- make, behind those, a sweep from the start; one step for each fill
abbrev pub invariant-loop-left : goal.invariant-loop-left
invariant-loop-left g l = record {
  most : l.left ≤ 10 ^ 6;
  own : List Fill;
  fills : l.self.fills.items ≡ l.initial.self.fills.items ++ own;
  line : l.self.line ≡ paid l.initial.self.weight l.initial.self.line own;
  orders : l.self.waiting.orders ≡ lessened_all l.initial.self.waiting.orders own;
  weight : l.self.weight ≡ l.initial.self.weight;
  banks : l.self.waiting.banks ≡ l.initial.self.waiting.banks;
  listed : l.self.waiting.listed ≡ l.initial.self.waiting.listed;
  unlooked : l.initial.self.waiting.listed ≡ true → l.steps ≡ l.initial.steps;
  pair : l.self.pair ≡ l.initial.self.pair;
  steps : l.steps + length l.initial.self.fills.items ≤ l.initial.steps + length l.self.fills.items;
  goes_on : (more : List Fill) (left : ℕ) →
      SweptAmong l.self.weight l.other l.self.line l.self.waiting.orders (taker_of_resting l.self.pair (record l.order { left = l.left })) more left →
      SweptAmong l.initial.self.weight l.other l.initial.self.line l.initial.self.waiting.orders (taker_of_resting l.initial.self.pair l.order) (own ++ more) left;
}

abbrev pub decreases-loop-left : goal.decreases-loop-left
decreases-loop-left g l = l.left
