-- A run whose rounds are kept, from round to round.
use Rattle.std.specs.Prelude.{ℕ, ◌≡◌, ◌⊎◌, List, [], ◌∷◌, ◌++◌, map, Option}
use mathlib.Core.List.{IsPrefix}
use Rattle.fx_rules.specs.declared.command.Sent.{Sent}
use Rattle.fx_rules.specs.declared.outcome.Entry.{Entry}
use Rattle.fx_rules.specs.Session.{Header}
use Rattle.fx_rules.specs.History.{IsLegal, own}
use Rattle.fx_rules.specs.Sending.{sent_by}
use Rattle.fx_chronicle.specs.Faces.{Witness}
use Rattle.fx_chronicle.specs.Streams.{stream_of}
use Rattle.gateway_workers.specs.declared.lane.Lane.{Lane}
use Rattle.session_head.specs.HeadText.{head_text_of}
use Rattle.gateway_workers.specs.Gathering.{HaveGatheredAll}
use Rattle.reply_lines.specs.Telling.{HasCounted}
use Rattle.keep_disk.specs.Keeping.{AtRest}
use Rattle.keep_disk.specs.declared.rounds.Round.{Round}
use Rattle.keep_disk.specs.Rounds.{KeptSoFar, KeptUpTo}
use Rattle.kept_call.specs.KeptRounds.{entries_of, AreRoundsOf}

-- A run stands behind a legal history of these commands: its lanes have served and gathered it, and its notices are counted.
pub record StandsBehind (h : Header) (sent : List Sent) (entries : List Entry) (gathered : ℕ) (lanes : List (Lane (Witness Entry))) (counts : List ℕ) : Type 0 where
  pub has_gathered : HaveGatheredAll h sent entries gathered lanes
  pub counted : HasCounted h entries counts

-- of these entries each sender's commands are the first so many that it sent, in their order
abbrev pub AreBegunBy : List Sent → List Entry → Type 0
AreBegunBy sent entries = (bank : ℕ) → IsPrefix (map (λ e. e.command) (own bank entries)) (stream_of bank sent)

-- Where a run began: its disk and its sink then, the kept history that it goes on from, and the blocks that it appends in front of its
-- first round's. A new session has no kept history, and its header in front.
pub record Start (D K : Type 0) : Type 0 where
  pub disk : D
  pub out : K
  pub kept : List Entry
  pub front : List (List ℕ)

-- a new session's
abbrev pub new_session : {D K : Type 0} → Header → D → K → Start D K
new_session h disk out = record { disk = disk; out = out; kept = []; front = head_text_of h ∷ [] }

module _ {D K : Type 0} (bytes : D → Option (List ℕ)) (may_leave : D → List ℕ → Type 0) (moment : D → ℕ) (left_since : D → ℕ → List ℕ → Type 0)
    (written : K → Option (List ℕ)) (faults : K → ℕ) (start : Start D K) (disk : D) (out : K) (h : Header) where
  -- These entries are kept behind the kept history, a block for each round, and each round was told of after that.
  pub record HasKept (entries : List Entry) : Type 0 where
    pub parts : List (List Entry)
    pub joined : entries ≡ entries_of parts
    pub rounds : List Round
    pub are_rounds : AreRoundsOf h start.kept start.front parts rounds
    pub so_far : KeptSoFar bytes may_leave moment left_since written faults start.disk disk start.out out rounds

  -- The run goes on: it has served, kept and told these commands, each sender's in its order.
  pub record KeepsOn (sent : List Sent) (place gathered : ℕ) (lanes : List (Lane (Witness Entry))) (counts : List ℕ) : Type 0 where
    pub entries : List Entry
    pub stands : StandsBehind h (map sent_by start.kept ++ sent) (start.kept ++ entries) gathered lanes counts
    pub has_kept : HasKept entries
    pub at_rest : AtRest bytes may_leave disk place

  -- The header of a new session may be kept or not, and nothing was told.
  pub record HasNotBegun : Type 0 where
    pub rounds : List Round
    pub at_most : (rounds ≡ []) ⊎ AreRoundsOf h start.kept start.front [] rounds
    pub up_to : KeptUpTo bytes may_leave moment left_since written faults start.disk disk start.out out rounds

  -- The run stopped. There is a legal history behind the kept one, with the first so many of each sender's commands; some first rounds of
  -- it are kept, and nothing was told of another.
  pub record HasKeptSome (sent : List Sent) : Type 0 where
    pub entries : List Entry
    pub legal : IsLegal h (start.kept ++ entries)
    pub begun : AreBegunBy sent entries
    pub parts : List (List Entry)
    pub joined : entries ≡ entries_of parts
    pub rounds : List Round
    pub are_rounds : AreRoundsOf h start.kept start.front parts rounds
    pub up_to : KeptUpTo bytes may_leave moment left_since written faults start.disk disk start.out out rounds
