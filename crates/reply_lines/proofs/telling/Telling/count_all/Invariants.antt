use Rattle.std.proofs.Common.{◌≡◌, take, drop}
use Rattle.std.specs.List.{flat_map}
use Rattle.reply_lines.specs.Telling.{addressed_in}
use Rattle.reply_lines.specs.inside.Telling.{counts_behind, CanCount}
use Rattle.reply_lines.proofs.telling.Telling.count_all.Given as goal

-- those so far are counted, and the others can be
abbrev pub invariant-loop-entry : goal.invariant-loop-entry
invariant-loop-entry l = record {
  counted : l.self.counts.items ≡ counts_behind l.initial.self.counts.items (flat_map addressed_in (take l.entry-index l.entries));
  can : CanCount (flat_map addressed_in (drop l.entry-index l.entries)) l.self.counts.items;
}
