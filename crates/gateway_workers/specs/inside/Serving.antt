-- Lanes in the midst of a round.
use Rattle.std.specs.Prelude.{ℕ, ◌≡◌, ◌<◌, List, length, slice_index_or, min, None, IsSome}
use Rattle.fx_rules.specs.declared.outcome.Entry.{Entry}
use Rattle.fx_rules.specs.Session.{Header}
use Rattle.gateway_workers.specs.declared.lane.Lane.{Lane}
use Rattle.gateway_workers.specs.Lanes.{IsReadyLane, LaneRan}

-- A lane has had so many turns: so many commands of its stream are done, or all, unless it stopped; and where it stopped, some are not.
pub record HasTurned {P : Type 0} (turns : ℕ) (lane : Lane P) : Type 0 where
  pub goes_on : lane.stopped ≡ None → lane.done ≡ min turns (length lane.stream)
  pub stops : IsSome lane.stopped → lane.done < length lane.stream

module _ {P : Type 0} (h : Header) (bank : P → ℕ) (seen mine : P → List Entry) where
  -- a lane that was ready has come to this
  pub record IsUnderWay (lane : Lane P) : Type 0 where
    pub begun : Lane P
    pub ready : IsReadyLane h bank mine begun
    pub so_far : LaneRan h bank seen mine begun lane

  -- whatever lane has come to the one has come to the other
  abbrev pub RunsOn : Lane P → Lane P → Type 0
  RunsOn was now = (begun : Lane P) → IsReadyLane h bank mine begun → LaneRan h bank seen mine begun was → LaneRan h bank seen mine begun now

  -- each lane has run on in its place
  abbrev pub AllRunOn : List (Lane P) → List (Lane P) → Type 0
  AllRunOn was now = (i : ℕ) (d : Lane P) → i < length was → RunsOn (slice_index_or was i d) (slice_index_or now i d)

  -- each lane has run, in its place
  abbrev pub AllLanesRan : List (Lane P) → List (Lane P) → Type 0
  AllLanesRan was now = (i : ℕ) (d : Lane P) → i < length was → LaneRan h bank seen mine (slice_index_or was i d) (slice_index_or now i d)
