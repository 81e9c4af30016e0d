use Rattle.std.proofs.Common.{◌≡◌, ◌+◌, ◌*◌, ◌≤◌, ◌++◌, take}
use Rattle.fx_text.specs.Fields.{fields_text}
use Rattle.reply_lines.specs.Notices.{level_fields}
use Rattle.reply_lines.proofs.notices.put_levels.Given as goal

-- the levels so far are written
abbrev pub invariant-loop-level : goal.invariant-loop-level
invariant-loop-level l = record {
  written : take l.end l.room ≡ take l.at l.initial.room ++ fields_text (level_fields l.decimals (take l.level-index l.levels));
  within : l.end ≤ l.at + 49 * l.level-index;
}
