use Rattle.std.proofs.Common.{◌≡◌, take}
use Rattle.global_book.specs.Room.{KeepsRoom}
use Rattle.match_sweep.specs.Carries.{carried}
use Rattle.match_sweep.proofs.carrying.carry_fills.Given as goal

-- the fills that were passed are made
abbrev pub invariant-loop-fill : goal.invariant-loop-fill
invariant-loop-fill l = record {
  orders : l.book.orders ≡ carried l.initial.book.orders (take l.fill-index l.fills);
  pair : l.book.pair ≡ l.initial.book.pair;
  banks : l.book.banks ≡ l.initial.book.banks;
  room : KeepsRoom l.initial.book.room l.book.room;
}
