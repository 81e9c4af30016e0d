use Rattle.std.proofs.Common.{◌≡◌, take}
use Rattle.day_report.specs.Trades.{lots_in}
use Rattle.made_session.proofs.sums.lots_of.Given as goal

-- the lots of the fills so far
abbrev pub invariant-loop-fill : goal.invariant-loop-fill
invariant-loop-fill l = l.lots ≡ lots_in (take l.fill-index l.fills)
