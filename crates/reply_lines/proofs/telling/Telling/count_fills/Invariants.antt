use Rattle.std.proofs.Common.{◌≡◌, take, drop}
use Rattle.std.specs.List.{flat_map}
use Rattle.reply_lines.specs.Telling.{fill_addressed}
use Rattle.reply_lines.specs.inside.Telling.{counts_behind, CanCount}
use Rattle.reply_lines.proofs.telling.Telling.count_fills.Given as goal

-- those so far are counted, and the others can be
abbrev pub invariant-loop-fill : goal.invariant-loop-fill
invariant-loop-fill l = record {
  counted : l.self.counts.items ≡ counts_behind l.initial.self.counts.items (flat_map fill_addressed (take l.fill-index l.fills));
  can : CanCount (flat_map fill_addressed (drop l.fill-index l.fills)) l.self.counts.items;
}
