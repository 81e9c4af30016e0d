use Rattle.match_sweep.proofs.Listing.{HaveListed}
use Rattle.match_sweep.proofs.reached.LevelWalk.open_banks.Given as goal

-- the banks that were passed are opened, and those of them of which something can be taken are listed
abbrev pub invariant-loop-owner : goal.invariant-loop-owner
invariant-loop-owner g l = HaveListed l.book l.lines l.bank l.fn.self l.owners l.owner-index l.self l.reached l.count l.lowest
