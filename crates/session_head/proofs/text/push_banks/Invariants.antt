use Rattle.std.proofs.Common.{◌≡◌, ◌++◌, map, take}
use Rattle.session_head.specs.HeadText.{lines_text}
use Rattle.session_head.specs.declared.statement.Statement.TheVariants as statements
use Rattle.session_head.proofs.text.push_banks.Given as goal

-- the lines of the banks up to here
abbrev pub invariant-loop-name : goal.invariant-loop-name
invariant-loop-name l = l.out.items ≡ l.fn.out.items ++ lines_text l.banks (map statements.Bank (take l.name-index l.banks))
