use Rattle.std.proofs.Common.{◌≡◌, take}
use Rattle.global_book.specs.Room.{KeepsRoom}
use Rattle.match_sweep.specs.Carries.{carried}
use Rattle.pair_host.specs.Turns.{fills_in}
use Rattle.pair_host.proofs.turning.carry_own.Given as goal

-- the pair's fills so far are made
abbrev pub invariant-loop-at : goal.invariant-loop-at
invariant-loop-at l = record {
  orders : l.book.orders ≡ carried l.fn.book.orders (fills_in l.fn.book.pair (take l.at l.fills));
  pair : l.book.pair ≡ l.fn.book.pair;
  banks : l.book.banks ≡ l.fn.book.banks;
  room : KeepsRoom l.fn.book.room l.book.room;
}
