use Rattle.std.proofs.Common.{◌≡◌, ◌++◌, map, take}
use Rattle.session_head.specs.HeadText.{lines_text}
use Rattle.session_head.specs.declared.statement.Statement.TheVariants as statements
use Rattle.session_head.proofs.text.push_pairs.Given as goal

-- the lines of the pairs up to here
abbrev pub invariant-loop-rule : goal.invariant-loop-rule
invariant-loop-rule l = l.out.items ≡ l.fn.out.items ++ lines_text l.banks (map statements.Pair (take l.rule-index l.pairs))
