-- What a round makes of its lanes. `bank`, `seen` and `mine` are what the desk tells of a pass.
use Rattle.std.specs.Prelude.{ℕ, ◌≡◌, ◌<◌, ◌≤◌, ◌+◌, ◌^◌, ◌↔◌, List, [], ◌∷◌, ◌++◌, length, map, take, Option, None, IsSome}
use Rattle.std.specs.Option.{option_or}
use mathlib.Core.List.{IsPrefix}
use Rattle.fx_amounts.specs.declared.memory.Memory.{Memory}
use Rattle.fx_rules.specs.declared.outcome.Entry.{Entry}
use Rattle.fx_rules.specs.Lists.{Each}
use Rattle.fx_rules.specs.Session.{Header}
use Rattle.fx_rules.specs.Step.{IsCommand}
use Rattle.fx_rules.specs.History.{IsLegal, own}
use Rattle.gateway_workers.specs.declared.lane.Lane.{Lane}

-- a lane that a round may begin with
pub record IsReadyLane {P : Type 0} (h : Header) (bank : P → ℕ) (mine : P → List Entry) (lane : Lane P) : Type 0 where
  -- bank and count of commands are those of its pass
  pub bank_of_pass : lane.bank ≡ bank lane.pass
  pub sent_by_pass : lane.sent ≡ length (mine lane.pass)
  -- nothing of its stream is done, nothing stopped it, and the bank may send each command of it, with numbers for all of them
  pub none_done : lane.done ≡ 0
  pub not_stopped : lane.stopped ≡ None
  pub may_send : Each (IsCommand h lane.bank) lane.stream
  pub numbers : lane.sent + length lane.stream < 2 ^ 32

-- the entries are one bank's, numbered on from so many before
abbrev pub AreNumbered : ℕ → ℕ → List Entry → Type 0
AreNumbered bank before [] = Unit {0}
AreNumbered bank before (e ∷ es) = (e.bank ≡ bank) × (e.number ≡ before + 1) × AreNumbered bank (before + 1) es

-- What a lane has come to in a round, whatever the round answers: the first `done` commands of its stream were carried out.
pub record LaneRan {P : Type 0} (h : Header) (bank : P → ℕ) (seen mine : P → List Entry) (was now : Lane P) : Type 0 where
  -- it is the same lane, but for its pass, for how far it came and for what stopped it
  pub same_lane : now ≡ record was { pass = now.pass; done = now.done; stopped = now.stopped }
  pub same_bank : bank now.pass ≡ bank was.pass
  pub within : now.done ≤ length was.stream
  -- the bank's own entries have grown by those of the commands done, in the order of the stream
  pub entries : List Entry
  pub mine_grew : mine now.pass ≡ mine was.pass ++ entries
  pub in_order : map (λ e. e.command) entries ≡ take now.done was.stream
  pub numbered : AreNumbered was.bank was.sent entries
  -- it has forgotten nothing that it had seen, and where no command was done the pass is as it was
  pub begins : IsPrefix (seen was.pass) (seen now.pass)
  pub idle : now.done ≡ 0 → now.pass ≡ was.pass
  -- else it has seen a legal history, whose entries of the bank are its own
  pub legal : 0 < now.done → IsLegal h (seen now.pass)
  pub own_are_mine : 0 < now.done → own was.bank (seen now.pass) ≡ mine now.pass

-- all commands of its stream are done
abbrev pub IsDone : {P : Type 0} → Lane P → Type 0
IsDone lane = lane.done ≡ length lane.stream

-- some are not
abbrev pub IsBehind : {P : Type 0} → Lane P → Type 0
IsBehind lane = lane.done < length lane.stream

-- one has stopped exactly where some are not
abbrev pub StoppedWhereBehind : {P : Type 0} → Lane P → Type 0
StoppedWhereBehind lane = IsSome lane.stopped ↔ IsBehind lane

-- what stopped the first of these lanes that stopped
abbrev pub first_stop : {P : Type 0} → List (Lane P) → Option Memory
first_stop [] = None
first_stop (lane ∷ lanes) = option_or lane.stopped (first_stop lanes)
