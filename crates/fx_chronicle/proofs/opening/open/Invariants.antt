use Rattle.std.proofs.Common.{◌≡◌, []}
use Rattle.fx_chronicle.specs.Faces.{AreNew}
use Rattle.fx_chronicle.specs.Views.{writer}
use Rattle.fx_chronicle.proofs.opening.open.Given as goal

-- the fronts of the keys below this one are dealt
abbrev pub invariant-loop-key : goal.invariant-loop-key
invariant-loop-key g l = record {
  table : l.seat.table_id ≡ l.initial.seat.table_id;
  me : l.seat.me ≡ (writer [] [] l.key, []);
  fronts : AreNew l.key l.fronts.items;
}
