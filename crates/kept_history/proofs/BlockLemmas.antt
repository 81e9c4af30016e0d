-- Blocks that are read one after another.
use Rattle.std.proofs.Common.{ℕ, ◌+◌, List, ◌++◌, Result, Ok, Err}
use Rattle.fx_rules.specs.declared.command.Sent.{Sent}

-- commands behind those before them, unless a block is damaged
abbrev pub behind_all : List Sent → Result (List Sent) ℕ → Result (List Sent) ℕ
behind_all before (Ok more) = Ok (before ++ more)
behind_all before (Err block) = Err block
