use Rattle.std.proofs.Common.{◌≡◌, ◌++◌, map, take}
use Rattle.std.specs.Arc.{arc_value}
use Rattle.view_feed.proofs.tape.Tape.add_all.Given as goal

-- the entries so far are on the tape
abbrev pub invariant-loop-entry : goal.invariant-loop-entry
invariant-loop-entry g l = l.self ≡ record { tape = l.initial.self.tape; entries = l.initial.self.entries ++ map arc_value (take l.entry-index l.entries) }
