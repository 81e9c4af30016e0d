-- Commands that one market serves one after another, where an observer is told each entry. In all of these `stands` tells for
-- which states of which sessions the market stands, and `told` of which entries of which session the observer was told.
use Rattle.std.specs.Prelude.{ℕ, ◌≡◌, ◌<◌, ◌+◌, ◌^◌, List, [], ◌∷◌, ◌++◌, length, map, take}
use Rattle.fx_rules.specs.declared.command.Sent.{Sent}
use Rattle.fx_rules.specs.declared.outcome.Entry.{Entry}
use Rattle.fx_rules.specs.Lists.{Each}
use Rattle.fx_rules.specs.Session.{Header}
use Rattle.fx_rules.specs.State.{State}
use Rattle.fx_rules.specs.History.{IsLegal, state}
use Rattle.fx_rules.specs.Sending.{IsSentOf, sent_by}
use Rattle.market_run.specs.Ran.{Ran}

-- the observer was told the next entry of each legal history of which it was told before
abbrev pub ToldNext : {O : Type 0} → (Header → List Entry → O → Type 0) → Header → O → O → Entry → Type 0
ToldNext told h was now entry = (entries : List Entry) → IsLegal h (entries ++ entry ∷ []) → told h entries was → told h (entries ++ entry ∷ []) now

-- of all that the observer was told of, it is told of still
abbrev pub StillTold : {O : Type 0} → (Header → List Entry → O → Type 0) → O → O → Type 0
StillTold told was now = (h : Header) (entries : List Entry) → told h entries was → told h entries now

-- the market is as it was, and so is what the observer was told of
pub record IsAsBefore {M O : Type 0} (told : Header → List Entry → O → Type 0) (was now : Ran M O) : Type 0 where
  pub market : now.market ≡ was.market
  pub observer : StillTold told was.observer now.observer

module _ {M O : Type 0} (stands : M → Header → State → Type 0) (told : Header → List Entry → O → Type 0) (h : Header) where
  -- the entries are a legal history of the session, the market stands for the state after it, and the observer was told of it
  pub record HasServed (entries : List Entry) (run : Ran M O) : Type 0 where
    pub legal : IsLegal h entries
    pub market : stands run.market h (state h entries)
    pub observer : told h entries run.observer

  -- commands that can be served one after another: senders of the session may send them, and there are numbers for them
  pub record MayServe (run : Ran M O) (sent : List Sent) : Type 0 where
    pub entries : List Entry
    pub has_served : HasServed entries run
    pub valid : Each (IsSentOf h) sent
    pub few : length entries + length sent < 2 ^ 32

  -- each history that was served went on by this entry
  abbrev pub GoesOnBy : Ran M O → Ran M O → Entry → Type 0
  GoesOnBy was now entry = (entries : List Entry) → HasServed entries was → HasServed (entries ++ entry ∷ []) now

  -- and it is the entry of this command, of which the observer left so much
  pub record MadeEntry {L : Type 0} (leaves : L → Entry → Type 0) (was now : Ran M O) (sent : Sent) (left : L) : Type 0 where
    pub entry : Entry
    pub sent_is : sent_by entry ≡ sent
    pub left_is : leaves left entry
    pub goes_on : GoesOnBy was now entry

  -- a history that was served went on by entries of these commands, in order
  pub record WentOn (entries : List Entry) (now : Ran M O) (sent : List Sent) : Type 0 where
    pub more : List Entry
    pub sent_is : map sent_by more ≡ sent
    pub has_served : HasServed (entries ++ more) now

  -- and so did each that was served before
  abbrev pub ServesOn : Ran M O → Ran M O → List Sent → Type 0
  ServesOn was now sent = (entries : List Entry) → HasServed entries was → WentOn entries now sent

  -- each history that was served went on by the first so many of the commands, and not by all
  pub record ServesSome (was now : Ran M O) (sent : List Sent) : Type 0 where
    pub count : ℕ
    pub fewer : count < length sent
    pub served : ServesOn was now (take count sent)
