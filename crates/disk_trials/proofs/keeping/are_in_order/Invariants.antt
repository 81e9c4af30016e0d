use Rattle.std.proofs.Common.{◌≡◌, take}
use Rattle.disk_trials.specs.Numbered.{bodies}
use Rattle.disk_trials.proofs.keeping.are_in_order.Given as goal

abbrev pub invariant-loop-body : goal.invariant-loop-body
invariant-loop-body l = record {
  number : l.number ≡ l.body-index;
  read : take l.body-index l.found ≡ bodies l.dots 1 l.body-index;
}
