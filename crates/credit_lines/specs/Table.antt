-- The credit side of the market, and the states that it stands for.
use Rattle.std.specs.Prelude.{ℕ, ◌≡◌, ◌+◌, Bool, true, false, List, slice_index, slice_set}
use Rattle.fx_rules.specs.declared.command.Command.{Command}
use Rattle.fx_rules.specs.declared.command.Command.TheVariants.{Show, Bad}
use Rattle.fx_rules.specs.declared.outcome.Outcome.{Outcome}
use Rattle.fx_rules.specs.declared.outcome.Entry.{Entry}
use Rattle.fx_rules.specs.Lists.{total}
use Rattle.fx_rules.specs.Session.{Header}
use Rattle.fx_rules.specs.State.{State}
use Rattle.fx_rules.specs.Step.{IsOutcome}
use Rattle.fx_rules.specs.History.{IsStep, after_entry}
use Rattle.fx_rules.specs.Sound.{IsSound}
use Rattle.credit_lines.specs.Credit.{Credit}
use Rattle.credit_lines.specs.Market as lines
use Rattle.fx_rules.specs.declared.sender.Sender.{Sender}
use Rattle.fx_rules.specs.Sending.{IsNextIn}

-- the session, the limits, uses and totals of its banks, and how many commands each sender has sent
pub record Table : Type 0 where
  pub session : Header
  pub lines : Credit
  pub counts : List ℕ

-- The table is of a state of a session: it has the session's weights, and the limits, the uses, the totals and the counts of the
-- state.
pub record Stands (h : Header) (S : State) (table : Table) : Type 0 where
  pub session : table.session ≡ h
  pub lines : lines.StandsFor h S table.lines
  pub counts : table.counts ≡ S.counts

-- a command that is about no pair: a show command, or a line that could not be read
abbrev pub is_of_no_pair : Command → Bool
is_of_no_pair (Show bank) = true
is_of_no_pair (Bad reason) = true
is_of_no_pair _ = false

-- a sender's next command, by the counts: its number, and its place among all commands
abbrev pub next_sender : Table → ℕ → Sender
next_sender table bank = record {
  bank = bank;
  number = slice_index table.counts bank + 1;
  arrival = total (λ count. count) table.counts;
}

-- in each state that the table stands for, the sender's command is the next
abbrev pub IsNextInEach : Table → Sender → Type 0
IsNextInEach table sender = (h : Header) (S : State) → Stands h S table → IsNextIn S sender

-- the outcome is the market's in each state that the table stands for
abbrev pub AnswersEach : Table → ℕ → Command → Outcome → Type 0
AnswersEach table bank command outcome = (h : Header) (S : State) → Stands h S table → IsOutcome h S bank command outcome

-- the table that an entry leaves: what its command asks for and its fills are in the lines, and its sender has one more command
abbrev pub followed : Table → Entry → Table
followed table entry = record {
  session = table.session;
  lines = lines.followed table.session table.lines entry;
  counts = slice_set table.counts entry.bank (slice_index table.counts entry.bank + 1);
}

-- the entry is a step of a sound state that the table stands for, as the state of a legal history is which goes on by it
pub record IsNextOf (table : Table) (entry : Entry) : Type 0 where
  pub session : Header
  pub before : State
  pub sound : IsSound session before
  pub stands : Stands session before table
  pub step : IsStep session before entry

-- Each sound state that the table stood for and of which the entry is a step: it stands for the state after it.
abbrev pub FollowsOn : Table → Table → Entry → Type 0
FollowsOn old new entry =
    (h : Header) (S : State) → IsSound h S → Stands h S old → IsStep h S entry → Stands h (after_entry S entry) new
