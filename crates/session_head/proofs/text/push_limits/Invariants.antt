use Rattle.std.proofs.Common.{◌≡◌, ◌++◌, flat_map}
use Rattle.fx_rules.specs.Lists.{below}
use Rattle.fx_rules.specs.Session.{bank_count}
use Rattle.session_head.specs.HeadText.{lines_text}
use Rattle.session_head.specs.inside.HeadText.{limits_of}
use Rattle.session_head.proofs.text.push_limits.Given as goal

-- the lines of the limits that the banks up to here set
abbrev pub invariant-loop-from : goal.invariant-loop-from
invariant-loop-from l = l.out.items ≡ l.fn.out.items ++ lines_text l.session.banks (flat_map (λ from. limits_of l.session from (bank_count l.session)) (below l.from))
