-- The lanes of a session's senders, from round to round.
use Rattle.std.specs.Prelude.{ℕ, ◌≡◌, ◌+◌, ◌<◌, ◌^◌, List, ◌++◌, length, map, take, slice_get, Some}
use Rattle.fx_rules.specs.declared.command.Sent.{Sent}
use Rattle.fx_rules.specs.declared.outcome.Entry.{Entry}
use Rattle.fx_rules.specs.Lists.{Each}
use Rattle.fx_rules.specs.Session.{Header, IsSession, senders}
use Rattle.fx_rules.specs.Sending.{IsSentOf}
use Rattle.fx_rules.specs.History.{own}
use Rattle.fx_chronicle.specs.Faces.{Witness}
use Rattle.fx_chronicle.specs.Passes.{sender_at}
use Rattle.fx_chronicle.specs.Streams.{stream_of}
use Rattle.gateway_workers.specs.declared.lane.Lane.{Lane}

-- a sender's lane: its pass has submitted just what the sender was to send of all this, in its order
pub record IsLaneOf (sender : ℕ) (sent : List Sent) (lane : Lane (Witness Entry)) : Type 0 where
  pub bank_is : lane.bank ≡ sender
  pub key_is : lane.pass.key ≡ sender
  pub counted : lane.sent + lane.done ≡ length (own lane.pass.key lane.pass.met)
  pub commands : map (λ e. e.command) (own lane.pass.key lane.pass.met) ≡ stream_of sender sent

-- the lanes of a session's senders, in order, which have served these commands of them
pub record HaveServed (h : Header) (sent : List Sent) (lanes : List (Lane (Witness Entry))) : Type 0 where
  pub session : IsSession h
  pub valid : Each (IsSentOf h) sent
  pub all : length lanes ≡ length (senders h)
  pub each : (place : ℕ) (lane : Lane (Witness Entry)) → slice_get lanes place ≡ Some lane → IsLaneOf (sender_at h place) sent lane

-- a sender's lane after a round that came to no end: its pass has submitted what the sender was to send before the round, and of
-- what it was to send in the round the first so many
pub record IsPartOf (sender : ℕ) (sent more : List Sent) (lane : Lane (Witness Entry)) : Type 0 where
  pub bank_is : lane.bank ≡ sender
  pub key_is : lane.pass.key ≡ sender
  pub counted : lane.sent + lane.done ≡ length (own lane.pass.key lane.pass.met)
  pub count : ℕ
  pub commands : map (λ e. e.command) (own lane.pass.key lane.pass.met) ≡ stream_of sender sent ++ take count (stream_of sender more)

-- the lanes of a session's senders, in order, after such a round
pub record HaveServedPart (h : Header) (sent more : List Sent) (lanes : List (Lane (Witness Entry))) : Type 0 where
  pub all : length lanes ≡ length (senders h)
  pub each : (place : ℕ) (lane : Lane (Witness Entry)) → slice_get lanes place ≡ Some lane → IsPartOf (sender_at h place) sent more lane

-- further commands can be served: their senders may send them, and there are numbers for them
pub record CanServe (h : Header) (lanes : List (Lane (Witness Entry))) (more : List Sent) : Type 0 where
  pub sent : List Sent
  pub served : HaveServed h sent lanes
  pub valid : Each (IsSentOf h) more
  pub few : length sent + length more < 2 ^ 32
