use Rattle.std.proofs.Common.{◌≡◌, ◌-◌, ◌*◌, drop}
use Rattle.credit_raise.specs.Two.{lots_of}
use Rattle.credit_raise.proofs.course.line_left.Given as goal

-- what is left is what the fills to come leave as much of as all fills of the line
abbrev pub invariant-loop-fill : goal.invariant-loop-fill
invariant-loop-fill l = l.left - lots_of (drop l.fill-index l.fills) * l.weight ≡ l.fn.line - lots_of l.fills * l.weight
