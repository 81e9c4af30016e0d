-- What private functions say of a session that is kept, from a disk on which the file is open.
use Rattle.std.specs.Prelude.{ℕ, ◌≡◌, ◌<◌, ◌⊎◌, List, [], ◌++◌, length, Option, Result, Ok, Err}
use Rattle.fx_edges.specs.Faults.{Rose}
use Rattle.fx_disk.specs.Disk.{WhereTold, LeavesOnly}
use Rattle.fx_rules.specs.declared.outcome.Entry.{Entry}
use Rattle.fx_rules.specs.Session.{Header}
use Rattle.keep_disk.specs.Blocks.{whole_blocks}
use Rattle.keep_disk.specs.declared.rounds.Round.{Round}
use Rattle.keep_disk.specs.Rounds.{bodies_of, HasFirst}
use Rattle.kept_history.specs.Blocks.{kept_in}
use Rattle.kept_history.specs.Found.{IsFull}
use Rattle.kept_call.specs.Running.{Start}
use Rattle.session_script.specs.Rounds.{TookPromptlyBehind}
use Rattle.session_script.specs.Script.{HasSession}
use Rattle.session_script.specs.declared.ends.EarlyEnd.TheVariants.{ReadFault}
use Rattle.session_script.specs.declared.ends.TextEnd.{TextEnd}
use Rattle.session_script.specs.declared.ends.TextEnd.TheVariants.{Early}
use Rattle.kept_call.specs.Kept.{AtReturn, StopsASession, KeptNothing, KeptBehind}
use Rattle.kept_call.specs.declared.fault.KeptFault.{KeptFault}
use Rattle.kept_call.specs.declared.fault.KeptFault.TheVariants.{Empty, Damaged, Full, Memory}

-- where a session goes on behind a history: it appends no header
abbrev pub gone_on : {D K : Type 0} → List Entry → D → K → Start D K
gone_on kept disk out = record { disk = disk; out = out; kept = kept; front = [] }

-- why whole blocks are none to go on from
abbrev pub IsRefusal : List (List ℕ) → KeptFault → Type 0
IsRefusal bodies Empty = bodies ≡ []
IsRefusal bodies (Damaged block) = (0 < length bodies) × (kept_in bodies ≡ Err block)
IsRefusal bodies Full = (commands : ℕ) × (0 < length bodies) × IsFull bodies commands
IsRefusal bodies (Memory memory) = Unit {0}
IsRefusal bodies _ = ⊥

module _ {D K S : Type 0} (bytes : D → Option (List ℕ)) (may_leave : D → List ℕ → Type 0) (moment : D → ℕ) (left_since : D → ℕ → List ℕ → Type 0)
    (written : K → Option (List ℕ)) (faults : K → ℕ) (left : S → Option (List ℕ)) (failed : S → ℕ)
    (front : List ℕ) (before : S) (start : Start D K) (disk : D) (out : K) (h : Header) (source : S) (result : Result TextEnd KeptFault) where
  -- The session of a text was kept and told from its start on, as far as it went.
  pub record Served : Type 0 where
    pub took : TookPromptlyBehind front left failed before source
    pub session : HasSession (front ++ took.input) h
    pub read_fault : result ≡ Ok (Early ReadFault) → Rose (failed before) (failed source)
    pub rounds : List Round
    pub count : ℕ
    pub moments : WhereTold (bytes start.disk) (λ file. LeavesOnly moment left_since start.disk disk (HasFirst (whole_blocks file) (bodies_of rounds) 0))
    pub at_return : AtReturn bytes may_leave start.disk disk rounds count
    pub told : KeptNothing written faults start.out out StopsASession result rounds
        ⊎ KeptBehind written faults start.out out h start.kept start.front front took.input (left source) result rounds count
