use Rattle.std.proofs.Common.{take}
use Rattle.fx_rules.specs.History.{state}
use Rattle.pair_host.specs.Standing.{StandsFor}
use Rattle.pair_host.proofs.recorded.replay.Given as goal

-- the host stands for the state after the entries so far
abbrev pub invariant-loop-entry : goal.invariant-loop-entry
invariant-loop-entry l = StandsFor l.session (state l.session (take l.entry-index l.entries)) l.host
