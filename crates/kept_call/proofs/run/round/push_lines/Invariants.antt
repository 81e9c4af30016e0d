use Rattle.std.proofs.Common.{◌≡◌, ◌++◌, take}
use Rattle.kept_call.specs.KeptRounds.{block_of}
use Rattle.kept_call.proofs.run.round.push_lines.Given as goal

-- the lines of the entries so far
abbrev pub invariant-loop-entry : goal.invariant-loop-entry
invariant-loop-entry l = l.body.items ≡ l.initial.body.items ++ block_of l.session (take l.entry-index l.entries)
