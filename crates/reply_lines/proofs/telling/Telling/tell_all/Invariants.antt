use Rattle.std.proofs.Common.{take, drop}
use Rattle.std.specs.List.{flat_map}
use Rattle.fx_rules.specs.Lists.{Each}
use Rattle.reply_lines.specs.inside.Prints.{IsEntryOf}
use Rattle.reply_lines.specs.Telling.{addressed_in}
use Rattle.reply_lines.specs.inside.Telling.{CanCount, HasTold}
use Rattle.reply_lines.proofs.telling.Telling.tell_all.Given as goal

-- those so far are told, and the others can be
abbrev pub invariant-loop-entry : goal.invariant-loop-entry
invariant-loop-entry l = record {
  told : HasTold l.session (flat_map addressed_in (take l.entry-index l.entries)) l.initial.self.counts.items l.self.counts.items l.initial.text l.text;
  can : CanCount (flat_map addressed_in (drop l.entry-index l.entries)) l.self.counts.items;
  each : Each (IsEntryOf l.session) (drop l.entry-index l.entries);
}
