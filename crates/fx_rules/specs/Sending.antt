-- Commands with their senders, as they come in and as a history has them.
use Rattle.std.specs.Prelude.{ℕ, ◌≡◌, ◌+◌, Option, Some, None}
use Rattle.fx_rules.specs.declared.command.Command.{Command}
use Rattle.fx_rules.specs.declared.command.Command.TheVariants.{Order, Cancel, Reduce, Pull, Book}
use Rattle.fx_rules.specs.declared.command.Sent.{Sent}
use Rattle.fx_rules.specs.declared.outcome.Entry.{Entry}
use Rattle.fx_rules.specs.declared.outcome.Outcome.{Outcome}
use Rattle.fx_rules.specs.declared.sender.Sender.{Sender}
use Rattle.fx_rules.specs.Session.{Header}
use Rattle.fx_rules.specs.State.{State, count_of, arrivals}
use Rattle.fx_rules.specs.Step.{IsCommand}

-- a command that its sender may send
pub record IsSentOf (h : Header) (sent : Sent) : Type 0 where
  pub command : IsCommand h sent.bank sent.command

-- what an entry's sender sent
abbrev pub sent_by : Entry → Sent
sent_by entry = record { bank = entry.bank; command = entry.command }

-- a bank and its command, as they are sent
abbrev pub sent_of : ℕ × Command → Sent
sent_of said = record { bank = said.0; command = said.1 }

-- the pair that a command is about, where it is about one alone
abbrev pub pair_of : Command → Option ℕ
pair_of (Order side pair price lots life) = Some pair
pair_of (Cancel pair number) = Some pair
pair_of (Reduce pair number lots) = Some pair
pair_of (Pull pair) = Some pair
pair_of (Book pair) = Some pair
pair_of _ = None

-- The sender's command is a state's next: it has the next number of its bank, and arrives after all commands so far.
pub record IsNextIn (S : State) (sender : Sender) : Type 0 where
  pub number : sender.number ≡ count_of S sender.bank + 1
  pub arrival : sender.arrival ≡ arrivals S

-- the entry that a command and its outcome make
abbrev pub entry_of : Sender → Command → Outcome → Entry
entry_of sender command outcome = record { bank = sender.bank; number = sender.number; command = command; outcome = outcome }
