use Rattle.std.proofs.Common.{◌≡◌, ◌<◌, ◌≤◌}
use Rattle.fx_rules.specs.Lists.{Each}
use Rattle.book_trials.proofs.drawn.orders.Given as goal

abbrev pub invariant-loop-arrival : goal.invariant-loop-arrival
invariant-loop-arrival l = record { banks : l.book.banks ≡ l.banks; behind : Each (λ order. (order.arrival < l.arrival) × (order.number ≤ l.arrival)) l.book.orders }
