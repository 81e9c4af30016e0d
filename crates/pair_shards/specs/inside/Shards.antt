-- What private functions and proofs alone say of it, beside `specs/Shards.antt`.
use Rattle.std.specs.Prelude.{ℕ, ◌≡◌, ◌≢◌, ◌≤◌, ◌<◌, true, false, List, [], ◌∷◌, ◌++◌}
use Rattle.fx_rules.specs.declared.command.Command.{Command}
use Rattle.fx_rules.specs.declared.outcome.Outcome.{Outcome}
use Rattle.fx_rules.specs.declared.outcome.Entry.{Entry}
use Rattle.fx_rules.specs.Session.{Header, pair_count}
use Rattle.fx_rules.specs.Keyed.{pair_key}
use Rattle.fx_rules.specs.History.{IsLegal, state}
use Rattle.fx_chronicle.specs.Touching.{pends}
use Rattle.fx_rules.specs.declared.sender.Sender.{Sender}
use Rattle.fx_rules.specs.Sending.{IsNextIn, entry_of}

-- Of all keys just those of the pairs from one on have still to sign: a command over all pairs was recorded, and the pairs before
-- have signed.
pub record PairsPend (h : Header) (from : ℕ) (pending : List ℕ) : Type 0 where
  pub these : (pair : ℕ) → from ≤ pair → pair < pair_count h → pends pending (pair_key pair) ≡ true
  pub no_others : (key : ℕ) → ((pair : ℕ) → from ≤ pair → pair < pair_count h → key ≢ pair_key pair) → pends pending key ≡ false

-- A bank's command may go behind a history as this entry: it is the sender's next, and its bank is told the entry's outcome.
pub record IsPrepared (h : Header) (before : List Entry) (bank : ℕ) (command : Command) (sender : Sender) (entry : Entry) (outcome : Outcome) : Type 0 where
  pub next : IsNextIn (state h before) sender
  pub bank_is : sender.bank ≡ bank
  pub made_of : entry ≡ entry_of sender command outcome
  pub legal : IsLegal h (before ++ entry ∷ [])
