use Rattle.std.proofs.Common.{◌≡◌, take}
use Rattle.made_session.specs.Totals.{fills_told, lots_told}
use Rattle.made_session.proofs.sums.add_up.Given as goal

-- the totals of the entries so far
abbrev pub invariant-loop-entry : goal.invariant-loop-entry
invariant-loop-entry l =
    (l.sums.fills ≡ fills_told (take l.entry-index l.entries)) × (l.sums.lots ≡ lots_told (take l.entry-index l.entries))
