use Rattle.std.proofs.Common.{◌≤◌, ◌+◌, take}
use Rattle.match_sweep.specs.inside.Reaches.{AreRanked, AreTakenOf, IsLowest, price_for}
use Rattle.match_sweep.proofs.reached.LevelWalk.take_level.Given as goal

-- the lots of the banks that were passed are taken, and theirs is the lowest rank
abbrev pub invariant-loop-bank : goal.invariant-loop-bank
invariant-loop-bank g l = record {
  taken : AreTakenOf l.book l.fn.self l.self (price_for l.fn.self.taker l.rank) (take l.bank-index l.banks) l.lots;
  lowest : IsLowest l.self (take l.bank-index l.banks) l.lowest;
  ranked : AreRanked l.self;
  steps : l.steps ≤ l.fn.steps + l.bank-index;
}
