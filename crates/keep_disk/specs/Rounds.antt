-- A run that keeps a block for each of its rounds, and tells of a round once its block is on the disk.
use Rattle.std.specs.Prelude.{◌≡◌, ◌⊎◌, ℕ, ◌≤◌, List, [], ◌∷◌, ◌++◌, length, take, map, Option, is_some, Result, IsErrOf}
use Rattle.std.specs.List.{flat_map}
use Rattle.std.specs.Iterator.{Yields}
use Rattle.fx_amounts.specs.declared.memory.Memory.{Memory}
use Rattle.fx_edges.specs.declared.sink.SinkFault.TheVariants.{Failed}
use Rattle.fx_edges.specs.Faults.{Rose}
use Rattle.fx_edges.specs.Writing.{Appended, AppendedPart}
use Rattle.fx_disk.specs.Disk.{WhereTold, LeavesOnly}
use Rattle.fx_disk.specs.declared.disk.DiskStop.TheVariants as stops
use Rattle.keep_disk.specs.declared.rounds.Round.{Round}
use Rattle.keep_disk.specs.declared.rounds.RunFault.{RunFault}
use Rattle.keep_disk.specs.declared.rounds.RunFault.TheVariants.{Keep, Tell}
use Rattle.keep_disk.specs.Blocks.{whole_blocks}

-- no memory for a round
abbrev pub out_of_memory : Memory → RunFault
out_of_memory memory = Keep (stops.Memory memory)

-- the blocks of rounds, and all that is told of them
abbrev pub bodies_of : List Round → List (List ℕ)
bodies_of rounds = map (λ r. r.body.items) rounds

abbrev pub text_of : List Round → List ℕ
text_of rounds = flat_map (λ r. r.text.items) rounds

-- every image has the blocks that the disk had before, and then these
abbrev pub KeptBlocks : {D : Type 0} → (D → Option (List ℕ)) → (D → List ℕ → Type 0) → D → D → List (List ℕ) → Type 0
KeptBlocks bytes may_leave before now bodies =
    WhereTold (bytes before) (λ file. (image : List ℕ) → may_leave now image → whole_blocks image ≡ whole_blocks file ++ bodies)

-- A text was told of a block only where that is kept: either the sink is as it was, or every image has the block, and the sink got a prefix.
abbrev pub KeptBeforeTold : {D K : Type 0} → (D → Option (List ℕ)) → (D → List ℕ → Type 0) → (K → Option (List ℕ)) → (K → ℕ) → D → D → K → K → List ℕ → List ℕ → Type 0
KeptBeforeTold bytes may_leave written faults before now out_before out_now body text =
    (out_now ≡ out_before) ⊎ (KeptBlocks bytes may_leave before now (body ∷ []) × AppendedPart written faults out_before out_now text)

-- The image has these whole blocks, and behind them the first so many of `more`, and `least` of these at least.
pub record HasFirst (start more : List (List ℕ)) (least : ℕ) (image : List ℕ) : Type 0 where
  pub count : ℕ
  pub enough : least ≤ count
  pub within : count ≤ length more
  pub blocks : whole_blocks image ≡ start ++ take count more

-- A fault of the disk or of the sink comes only where its own count rose. Neither count falls, and the disk's rises at nothing else.
pub record RunCauses {D K T : Type 0} (disk_faults : D → ℕ) (sink_faults : K → ℕ) (before now : D) (out_before out_now : K) (result : Result T RunFault) : Type 0 where
  pub disk_count : disk_faults before ≤ disk_faults now
  pub disk : IsErrOf result (Keep stops.Failed) → Rose (disk_faults before) (disk_faults now)
  pub disk_steady : (IsErrOf result (Keep stops.Failed) → ⊥) → disk_faults now ≡ disk_faults before
  pub sink_count : sink_faults out_before ≤ sink_faults out_now
  pub sink : IsErrOf result (Tell Failed) → Rose (sink_faults out_before) (sink_faults out_now)

-- Each of these rounds is kept, and was told of after that.
pub record KeptSoFar {D K : Type 0} (bytes : D → Option (List ℕ)) (may_leave : D → List ℕ → Type 0) (moment : D → ℕ) (left_since : D → ℕ → List ℕ → Type 0)
    (written : K → Option (List ℕ)) (faults : K → ℕ) (before now : D) (out_before out_now : K) (rounds : List Round) : Type 0 where
  -- at every moment since the start a crash leaves the blocks from then, and the first so many of these
  pub every_moment : WhereTold (bytes before) (λ file. LeavesOnly moment left_since before now (HasFirst (whole_blocks file) (bodies_of rounds) 0))
  pub tells : is_some (bytes now) ≡ is_some (bytes before)
  pub kept : KeptBlocks bytes may_leave before now (bodies_of rounds)
  pub told : Appended written faults out_before out_now (text_of rounds)

-- The first so many of these rounds are kept, and no byte was told of another.
pub record KeptUpTo {D K : Type 0} (bytes : D → Option (List ℕ)) (may_leave : D → List ℕ → Type 0) (moment : D → ℕ) (left_since : D → ℕ → List ℕ → Type 0)
    (written : K → Option (List ℕ)) (faults : K → ℕ) (before now : D) (out_before out_now : K) (rounds : List Round) : Type 0 where
  pub every_moment : WhereTold (bytes before) (λ file. LeavesOnly moment left_since before now (HasFirst (whole_blocks file) (bodies_of rounds) 0))
  pub count : ℕ
  pub within : count ≤ length rounds
  pub kept : WhereTold (bytes before) (λ file. (image : List ℕ) → may_leave now image → HasFirst (whole_blocks file) (bodies_of rounds) count image)
  pub told : AppendedPart written faults out_before out_now (text_of (take count rounds))

-- Rounds came one after the other, and led from `first` to `last`. Each of them is kept, and was told of after that.
pub record KeptAll {D K N : Type 0} (bytes : D → Option (List ℕ)) (may_leave : D → List ℕ → Type 0) (moment : D → ℕ) (left_since : D → ℕ → List ℕ → Type 0)
    (written : K → Option (List ℕ)) (faults : K → ℕ) (gives : N → Option Round → N → Type 0)
    (before now : D) (out_before out_now : K) (first last : N) : Type 0 where
  pub rounds : List Round
  pub came : Yields gives first rounds last
  pub so_far : KeptSoFar bytes may_leave moment left_since written faults before now out_before out_now rounds

-- Rounds came one after the other from `first` on, and then a fault. The first so many of them are kept, and no byte was told of another.
pub record KeptPart {D K N : Type 0} (bytes : D → Option (List ℕ)) (may_leave : D → List ℕ → Type 0) (moment : D → ℕ) (left_since : D → ℕ → List ℕ → Type 0)
    (written : K → Option (List ℕ)) (faults : K → ℕ) (gives : N → Option Round → N → Type 0)
    (before now : D) (out_before out_now : K) (first : N) : Type 0 where
  pub rounds : List Round
  pub last : N
  pub came : Yields gives first rounds last
  pub up_to : KeptUpTo bytes may_leave moment left_since written faults before now out_before out_now rounds
