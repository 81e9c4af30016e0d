use Rattle.std.proofs.Common.{◌≡◌, drop}
use Rattle.fx_rules.specs.Lists.{Each}
use Rattle.fx_rules.specs.Sending.{IsSentOf}
use Rattle.kept_history.specs.Blocks.{commands_from}
use Rattle.kept_history.proofs.BlockLemmas.{behind_all}
use Rattle.kept_history.proofs.blocks.read_sent.Given as goal

-- the commands of the blocks so far, and behind them those of the others, are what is to be read
abbrev pub invariant-loop-block : goal.invariant-loop-block
invariant-loop-block l = record {
  reads : commands_from l.session 1 (drop 1 l.bodies) ≡ behind_all l.sent.items (commands_from l.session l.block (drop l.block l.bodies));
  valid : Each (IsSentOf l.session) l.sent.items;
}
