use Rattle.match_sweep.proofs.OfBook.{sweeps_carried}
use Rattle.match_sweep.proofs.laws.sweeps_are_carried.Goals as goal

pub returns : goal.returns
returns c = record { carried = sweeps_carried }
