use Rattle.std.proofs.Common.{◌≡◌, ◌≤◌, Option}
use Rattle.fx_rules.specs.declared.orders.Resting.{Resting}
use Rattle.global_book.specs.Heads.{count_to_come}
use Rattle.match_sweep.specs.inside.Heads.{CameBefore}
use Rattle.match_sweep.specs.inside.Walks.{HasCome, IsWalk}
use Rattle.match_sweep.proofs.walk.Walk.next_open.Given as goal

-- the heads that were passed or shut were not open
abbrev pub invariant-loop-bank : goal.invariant-loop-bank
invariant-loop-bank g l = record {
  same : l.self ≡ record l.fn.self { heads = l.self.heads };
  orders : l.self.heads.orders ≡ l.fn.self.heads.orders;
  walk : IsWalk l.lines l.self;
  come : (last : Option Resting) → HasCome l.lines l.fn.self last → HasCome l.lines l.self last;
  steps : CameBefore l.fn.self.heads.orders l.fn.self.order.arrival → l.steps ≤ l.fn.steps;
}

abbrev pub decreases-loop-bank : goal.decreases-loop-bank
decreases-loop-bank g l = count_to_come l.self.heads
