-- The journal's lines of commands that were sent.
use Rattle.std.specs.Prelude.{ℕ, List, [], ◌∷◌, ◌++◌}
use Rattle.std.specs.List.{flat_map}
use Rattle.fx_rules.specs.declared.command.Sent.{Sent}
use Rattle.fx_rules.specs.Session.{Header}
use Rattle.order_lines.specs.Spelling.{command_text_of}

-- the line of a bank's command: its one spelling, with its line feed
abbrev pub sent_line : Header → Sent → List ℕ
sent_line h sent = command_text_of h sent.bank sent.command ++ 10 ∷ []

-- the lines of commands, in order
abbrev pub sent_lines : Header → List Sent → List ℕ
sent_lines h all = flat_map (sent_line h) all
