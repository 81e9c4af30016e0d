-- What private functions and proofs alone say of it, beside `specs/Gathering.antt`.
use Rattle.std.specs.Prelude.{ℕ, ◌≡◌, ◌+◌, ◌≤◌, map, List, [], ◌∷◌, ◌++◌, length, slice_get, Some}
use mathlib.Core.List.{IsPrefix}
use Rattle.fx_rules.specs.declared.command.Command.{Command}
use Rattle.fx_rules.specs.declared.outcome.Entry.{Entry}
use Rattle.fx_rules.specs.Session.{Header}
use Rattle.fx_rules.specs.Sending.{sent_by}
use Rattle.fx_rules.specs.History.{IsLegal, own}
use Rattle.fx_chronicle.specs.Faces.{Witness}
use Rattle.gateway_workers.specs.declared.lane.Lane.{Lane}
use Rattle.gateway_workers.specs.Gathering.{HaveGathered}
use Rattle.gateway_workers.specs.SenderLanes.{HaveServed}

-- what a call makes of the item at each place of a list
pub record AreEach {X : Type 0} (P : X → X → Type 0) (was now : List X) : Type 0 where
  pub long : length now ≡ length was
  pub each : (place : ℕ) (x y : X) → slice_get was place ≡ Some x → slice_get now place ≡ Some y → P x y

-- a lane that has served the same
pub record IsStill (was now : Lane (Witness Entry)) : Type 0 where
  pub same_lane : now ≡ record was { pass = now.pass }
  pub bank : now.pass.key ≡ was.pass.key
  pub mine : own now.pass.key now.pass.met ≡ own was.pass.key was.pass.met

-- its pass has then seen these entries, and of its bank just what it submitted
pub record IsTold (entries : List Entry) (was now : Lane (Witness Entry)) : Type 0 where
  pub still : IsStill was now
  pub seen : IsPrefix entries now.pass.seen
  pub own_are_mine : own now.pass.key now.pass.seen ≡ own was.pass.key was.pass.met

-- of these entries its pass had seen a beginning before
pub record IsGathered (entries : List Entry) (was now : Lane (Witness Entry)) : Type 0 where
  pub begun : IsPrefix was.pass.seen entries
  pub told : IsTold entries was now

-- a legal history, of which each pass had seen a beginning, and which each has then seen
pub record AreGathered (h : Header) (history : List Entry) (was now : List (Lane (Witness Entry))) : Type 0 where
  pub legal : IsLegal h history
  pub lanes : AreEach (IsGathered history) was now

-- a lane once its pass has submitted a command, behind all that it was told
pub record HasSubmitted (known : List Entry) (command : Command) (was now : Lane (Witness Entry)) : Type 0 where
  pub same_lane : now ≡ record was { pass = now.pass; done = was.done + 1 }
  pub bank : now.pass.key ≡ was.pass.key
  pub before : List Entry
  pub entry : Entry
  pub sender : entry.bank ≡ was.pass.key
  pub command_is : entry.command ≡ command
  pub begins : IsPrefix known before
  pub ends : now.pass.seen ≡ before ++ entry ∷ []
  pub mine : own now.pass.key now.pass.met ≡ own was.pass.key was.pass.met ++ entry ∷ []
  pub own_are_mine : own now.pass.key now.pass.seen ≡ own now.pass.key now.pass.met

-- The commands of entries, submitted again at lanes that had served nothing. Some pass has seen what this note tells, which are at
-- least as many entries, and where they are no more they have these commands in their order.
pub record AreResubmitted (h : Header) (entries note : List Entry) (lanes : List (Lane (Witness Entry))) : Type 0 where
  pub served : HaveServed h (map sent_by entries) lanes
  pub gathered : HaveGathered [] 0 lanes
  pub place : ℕ
  pub lane : Lane (Witness Entry)
  pub there : slice_get lanes place ≡ Some lane
  pub told : lane.pass.seen ≡ note
  pub enough : length entries ≤ length note
  pub exact : length note ≤ length entries → map sent_by note ≡ map sent_by entries
