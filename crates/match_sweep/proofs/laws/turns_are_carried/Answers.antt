use Rattle.match_sweep.proofs.OfBook.{turns_carried}
use Rattle.match_sweep.proofs.laws.turns_are_carried.Goals as goal

pub returns : goal.returns
returns c = record { carried = turns_carried }
