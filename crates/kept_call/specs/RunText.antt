-- The text of a session that is kept round by round, and what came of it.
use Rattle.std.specs.Prelude.{ℕ, ◌≡◌, ◌≤◌, ◌^◌, List, ◌++◌, length, Option, Some, Result, Ok, Err}
use Rattle.fx_rules.specs.declared.command.Sent.{Sent}
use Rattle.fx_rules.specs.declared.outcome.Entry.{Entry}
use Rattle.fx_rules.specs.Session.{Header}
use Rattle.fx_chronicle.specs.Faces.{Witness}
use Rattle.gateway_workers.specs.declared.lane.Lane.{Lane}
use Rattle.session_script.specs.Stage.{sent_at}
use Rattle.session_script.specs.Rounds.{HasReadBehind, TookPromptlyBehind}
use Rattle.session_script.specs.Script.{HasSession, sent_in}
use Rattle.session_script.specs.declared.ends.TextEnd.{TextEnd}
use Rattle.session_script.specs.declared.reading.Reading.{Reading}
use Rattle.keep_disk.specs.declared.rounds.RunFault.{RunFault}
use Rattle.kept_call.specs.Running.{Start, KeepsOn, HasKeptSome}

module _ {D K S : Type 0} (bytes : D → Option (List ℕ)) (may_leave : D → List ℕ → Type 0) (moment : D → ℕ) (left_since : D → ℕ → List ℕ → Type 0)
    (written : K → Option (List ℕ)) (faults : K → ℕ) (left : S → Option (List ℕ)) (failed : S → ℕ)
    (front : List ℕ) (before : S) (start : Start D K) (disk : D) (out : K) (h : Header) (source : S) (reading : Reading) where
  -- what was read in former rounds is kept and told, behind a kept history that may be gone on from
  pub record IsKeeping (place gathered : ℕ) (lanes : List (Lane (Witness Entry))) (counts : List ℕ) : Type 0 where
    pub few : length start.kept ≤ 2 ^ 24
    pub sent : List Sent
    pub has_read : HasReadBehind front left failed before source reading h (sent ++ sent_at reading.intake.stage)
    pub keeps : KeepsOn bytes may_leave moment left_since written faults start disk out h sent place gathered lanes counts

  -- the text ended so, and all its commands are kept and told
  pub record HasKeptText (place gathered : ℕ) (lanes : List (Lane (Witness Entry))) (counts : List ℕ) (end : TextEnd) : Type 0 where
    pub ended : reading.end ≡ Some end
    pub sent : List Sent
    pub has_read : HasReadBehind front left failed before source reading h sent
    pub keeps : KeepsOn bytes may_leave moment left_since written faults start disk out h sent place gathered lanes counts

  -- It stopped: of the commands that were taken the first so many of each sender are in a history of which some first rounds are kept, and
  -- nothing was told of another.
  pub record HasStoppedText : Type 0 where
    pub took : TookPromptlyBehind front left failed before source
    pub session : HasSession (front ++ took.input) h
    pub stopped : HasKeptSome bytes may_leave moment left_since written faults start disk out h (sent_in h (front ++ took.input))

  abbrev pub KeptText : (place gathered : ℕ) → List (Lane (Witness Entry)) → List ℕ → Result TextEnd RunFault → Type 0
  KeptText place gathered lanes counts (Ok end) = HasKeptText place gathered lanes counts end
  KeptText place gathered lanes counts (Err fault) = HasStoppedText
