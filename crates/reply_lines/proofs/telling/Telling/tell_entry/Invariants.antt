use Rattle.std.proofs.Common.{take, drop}
use Rattle.std.specs.List.{flat_map}
use Rattle.reply_lines.specs.Telling.{fill_addressed}
use Rattle.reply_lines.specs.inside.Telling.{CanCount, HasTold}
use Rattle.reply_lines.proofs.telling.Telling.tell_entry.Given as goal

-- behind the reply the notices of the fills so far are told, and those of the others can be
abbrev pub invariant-loop-fill : goal.invariant-loop-fill
invariant-loop-fill l = record {
  told : HasTold l.session (flat_map fill_addressed (take l.fill-index l.fill-items)) l.initial.self.counts.items l.self.counts.items l.initial.text l.text;
  can : CanCount (flat_map fill_addressed (drop l.fill-index l.fill-items)) l.self.counts.items;
}
