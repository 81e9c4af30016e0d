use Rattle.std.proofs.Common.{◌≡◌, ◌++◌}
use Rattle.session_head.specs.HeadText.{lines_text}
use Rattle.session_head.specs.inside.HeadText.{limits_of}
use Rattle.session_head.proofs.text.push_limits_of.Given as goal

-- the lines of the limits on the banks up to here
abbrev pub invariant-loop-to : goal.invariant-loop-to
invariant-loop-to l = l.out.items ≡ l.fn.out.items ++ lines_text l.session.banks (limits_of l.session l.fn.from l.to)
