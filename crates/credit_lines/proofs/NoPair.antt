-- What holds of each command that is about no pair.
use Rattle.std.proofs.Common.{ℕ, ◌≡◌, true}
use Rattle.fx_rules.specs.declared.command.Command.{Command}
use Rattle.fx_rules.specs.declared.command.Command.TheVariants.{Order, Cancel, Reduce, Pull, Line, Total, Settle, Show, Book, Bad}
use Rattle.fx_rules.specs.declared.command.Reject.{Reject}
use Rattle.credit_lines.specs.Table.{is_of_no_pair}

pub no_pair : (P : Command → Type 0) → ((bank : ℕ) → P (Show bank)) → ((reason : Reject) → P (Bad reason)) → (command : Command) → is_of_no_pair command ≡ true → P command
no_pair P shows bads (Show bank) is = shows bank
no_pair P shows bads (Bad reason) is = bads reason
no_pair P shows bads (Order side pair price lots life) is = absurd cc
no_pair P shows bads (Cancel pair number) is = absurd cc
no_pair P shows bads (Reduce pair number lots) is = absurd cc
no_pair P shows bads (Pull pair) is = absurd cc
no_pair P shows bads (Line bank limit) is = absurd cc
no_pair P shows bads (Total limit) is = absurd cc
no_pair P shows bads (Settle a b units) is = absurd cc
no_pair P shows bads (Book pair) is = absurd cc
