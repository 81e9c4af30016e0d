-- What was gathered of a run.
use Rattle.std.specs.Prelude.{ℕ, ◌≡◌, List, length, slice_get, Some}
use mathlib.Core.List.{IsPrefix}
use Rattle.fx_rules.specs.declared.command.Sent.{Sent}
use Rattle.fx_rules.specs.declared.outcome.Entry.{Entry}
use Rattle.fx_rules.specs.Session.{Header}
use Rattle.fx_rules.specs.History.{IsLegal, own}
use Rattle.fx_chronicle.specs.Faces.{Witness}
use Rattle.fx_chronicle.specs.Streams.{HasStreams}
use Rattle.gateway_workers.specs.declared.lane.Lane.{Lane}
use Rattle.gateway_workers.specs.SenderLanes.{HaveServed}

-- a pass has seen these entries, and of its bank it has seen just what it submitted
pub record HasSeen (entries : List Entry) (pass : Witness Entry) : Type 0 where
  pub begins : IsPrefix entries pass.seen
  pub own_are_mine : own pass.key pass.seen ≡ own pass.key pass.met

-- so many entries were gathered, and these are they: each lane's pass has seen them
pub record HaveGathered (entries : List Entry) (count : ℕ) (lanes : List (Lane (Witness Entry))) : Type 0 where
  pub counted : count ≡ length entries
  pub each : (place : ℕ) (lane : Lane (Witness Entry)) → slice_get lanes place ≡ Some lane → HasSeen entries lane.pass

-- all that the lanes have served is gathered: a legal history with the commands of each bank in their order
pub record HaveGatheredAll (h : Header) (sent : List Sent) (entries : List Entry) (count : ℕ) (lanes : List (Lane (Witness Entry))) : Type 0 where
  pub served : HaveServed h sent lanes
  pub gathered : HaveGathered entries count lanes
  pub legal : IsLegal h entries
  pub streams : HasStreams sent entries
