use Rattle.std.proofs.Common.{◌≡◌, length}
use Rattle.fx_rules.specs.Lists.{Each}
use Rattle.fx_rules.specs.Sending.{IsSentOf}
use Rattle.kept_history.specs.Blocks.{behind, commands_in}
use Rattle.kept_history.proofs.lines.read_commands.Given as goal

-- the commands so far, and behind them those of the rest, are what was to be read
abbrev pub invariant-loop-line : goal.invariant-loop-line
invariant-loop-line l = record {
  reads : behind l.initial.sent.items (commands_in l.session l.body) ≡ behind l.sent.items (commands_in l.session l.rest);
  valid : Each (IsSentOf l.session) l.initial.sent.items → Each (IsSentOf l.session) l.sent.items;
}

abbrev pub decreases-loop-line : goal.decreases-loop-line
decreases-loop-line l = length l.rest
