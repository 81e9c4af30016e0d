use Rattle.price_levels.specs.Ticks.{level_of}
use Rattle.price_levels.proofs.Adding.{AreAdded}
use Rattle.price_levels.proofs.window.Window.add_lots.Given as goal

-- the lots of the ranks whose marks are gone are added
abbrev pub invariant-loop-left : goal.invariant-loop-left
invariant-loop-left l = AreAdded (level_of l.self) l.from l.last l.initial.lots l.sum l.left l.lots

abbrev pub decreases-loop-left : goal.decreases-loop-left
decreases-loop-left l = l.left
