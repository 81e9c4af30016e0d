-- What each bank sends, and a history that has it.
use Rattle.std.specs.Prelude.{ℕ, ◌≡◌, ◌==◌, List, map, filter}
use Rattle.fx_rules.specs.declared.command.Command.{Command}
use Rattle.fx_rules.specs.declared.command.Sent.{Sent}
use Rattle.fx_rules.specs.declared.outcome.Entry.{Entry}
use Rattle.fx_rules.specs.History.{own}

-- the commands of one bank, in order
abbrev pub stream_of : ℕ → List Sent → List Command
stream_of bank sent = map (λ s. s.command) (filter (λ s. s.bank == bank) sent)

-- a history has each bank's commands once and in its order
abbrev pub HasStreams : List Sent → List Entry → Type 0
HasStreams sent entries = (bank : ℕ) → map (λ e. e.command) (own bank entries) ≡ stream_of bank sent
