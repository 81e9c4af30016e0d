-- What private functions and proofs alone say of it, beside `specs/Lanes.antt`.
use Rattle.std.specs.Prelude.{ℕ, ◌≡◌, ◌+◌, List, length, slice_get, Some, None}
use Rattle.std.specs.declared.alloc.Global.{Global}
use Rattle.std.specs.declared.vec.Vec.{Vec}
use Rattle.fx_rules.specs.declared.command.Command.{Command}
use Rattle.fx_rules.specs.declared.command.Sent.{Sent}
use Rattle.fx_rules.specs.declared.outcome.Entry.{Entry}
use Rattle.fx_rules.specs.Session.{Header}
use Rattle.fx_chronicle.specs.Faces.{Witness}
use Rattle.fx_chronicle.specs.Passes.{sender_at}
use Rattle.fx_chronicle.specs.Streams.{stream_of}
use Rattle.gateway_workers.specs.declared.lane.Lane.{Lane}

-- what each of the first so many senders sends
pub record AreStreams (h : Header) (count : ℕ) (sent : List Sent) (streams : List (Vec Command Global)) : Type 0 where
  pub all : length streams ≡ count
  pub each : (place : ℕ) (stream : Vec Command Global) → slice_get streams place ≡ Some stream → stream.items ≡ stream_of (sender_at h place) sent

-- a lane in the next round, in which its sender sends this
abbrev pub next_lane : Lane (Witness Entry) → List Command → Lane (Witness Entry)
next_lane lane stream = record lane { sent = lane.sent + lane.done; stream = stream; done = 0; stopped = None }

-- each lane is in the next round, in which its sender sends what it does of these commands
pub record AreFilled (h : Header) (more : List Sent) (was now : List (Lane (Witness Entry))) : Type 0 where
  pub long : length now ≡ length was
  pub each : (place : ℕ) (lane : Lane (Witness Entry)) → slice_get was place ≡ Some lane → slice_get now place ≡ Some (next_lane lane (stream_of (sender_at h place) more))

-- nothing of a lane's stream is done, nothing stopped it, nothing was sent before it, and its bank is that of its pass
abbrev pub IsFresh : Lane (Witness Entry) → Type 0
IsFresh lane = lane ≡ record { pass = lane.pass; bank = lane.pass.key; sent = 0; stream = lane.stream; done = 0; stopped = None }
