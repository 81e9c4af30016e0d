use Rattle.std.proofs.Common.{◌≡◌, ◌≤◌, drop, vec_len, vec_capacity}
use Rattle.flat_host.specs.Parts.{both_lowered, credit_after}
use Rattle.flat_host.proofs.credit.make_fills.Given as goal

-- what is left to carry out leads where all of it leads
abbrev pub invariant-loop-fill : goal.invariant-loop-fill
invariant-loop-fill l = record {
  orders : both_lowered l.orders.items (drop l.fill-index l.fills) ≡ both_lowered l.initial.orders.items l.fills;
  len : vec_len l.orders ≤ vec_len l.initial.orders;
  room : vec_capacity l.orders ≡ vec_capacity l.initial.orders;
  credit : credit_after l.weights l.credit (drop l.fill-index l.fills) ≡ credit_after l.weights l.initial.credit l.fills;
}
