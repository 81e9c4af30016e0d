use Rattle.std.proofs.Common.{◌≡◌, ◌++◌}
use Rattle.session_head.specs.HeadText.{lines_text, totals_of}
use Rattle.session_head.proofs.text.push_totals.Given as goal

-- the lines of the totals of the banks up to here
abbrev pub invariant-loop-bank : goal.invariant-loop-bank
invariant-loop-bank l = l.out.items ≡ l.fn.out.items ++ lines_text l.session.banks (totals_of l.session l.bank)
