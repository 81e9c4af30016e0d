use Rattle.std.proofs.Common.{◌≡◌, ◌++◌, map, take}
use Rattle.fx_amounts.specs.Numeral.{numeral}
use Rattle.fx_text.specs.Fields.{fields_text}
use Rattle.program_calls.proofs.loading.lines.push_counts.Given as goal

-- the counts so far are appended
abbrev pub invariant-loop-count : goal.invariant-loop-count
invariant-loop-count l = l.text.items ≡ l.initial.text.items ++ fields_text (map numeral (take l.count-index l.counts))
