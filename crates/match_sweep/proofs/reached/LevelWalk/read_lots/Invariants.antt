use Rattle.std.proofs.Common.{ℕ, ◌≤◌, ◌*◌, ◌^◌, slice_index, take}
use Rattle.match_sweep.specs.inside.Near.{ArePaid}
use Rattle.match_sweep.proofs.reached.LevelWalk.read_lots.Given as goal

-- the lots of the banks that were passed are added up
abbrev pub invariant-loop-at : goal.invariant-loop-at
invariant-loop-at l = record {
  paid : ArePaid l.book l.self l.from l.last (take l.at l.banks) l.lots;
  few : (k : ℕ) → slice_index l.lots k ≤ l.at * 2 ^ 32;
}
