-- What `keep` and `restart` do: to the disk, to the source, and to what is written.
use Rattle.std.specs.Prelude.{ℕ, ◌≡◌, ◌<◌, ◌≤◌, ◌-◌, ◌⊎◌, List, [], ◌∷◌, ◌++◌, length, take, Option, Some, IfSome, Result, Ok, Err}
use Rattle.fx_amounts.specs.OutOfMemory.{refused}
use Rattle.fx_edges.specs.Faults.{Rose}
use Rattle.fx_edges.specs.Reading.{Took}
use Rattle.fx_rules.specs.declared.outcome.Entry.{Entry}
use Rattle.fx_rules.specs.Lists.{Among}
use Rattle.fx_rules.specs.Session.{Header as SessionHeader}
use Rattle.fx_disk.specs.Disk.{WhereTold}
use Rattle.keep_disk.specs.Blocks.{whole_blocks}
use Rattle.keep_disk.specs.Rounds.{bodies_of, HasFirst}
use Rattle.keep_disk.specs.declared.rounds.Round.{Round}
use Rattle.kept_history.specs.Blocks.{kept_in}
use Rattle.kept_history.specs.Found.{IsWhole, IsFull}
use Rattle.kept_call.specs.KeptRounds.{entries_of}
use Rattle.session_head.specs.HeadText.{head_text_of}
use Rattle.session_head.specs.declared.reason.HeadReason.{HeadReason}
use Rattle.session_script.specs.Input.{input_limit}
use Rattle.session_script.specs.Reading.{HasStarted, HasNotStarted, IsPromptBehind, TextEndedBehind, EndedEarlyBehind}
use Rattle.session_script.specs.Script.{HasFault}
use Rattle.session_script.specs.declared.ends.EarlyEnd.{EarlyEnd}
use Rattle.session_script.specs.declared.ends.EarlyEnd.TheVariants.{Cut, ReadFault, TooMuch}
use Rattle.session_script.specs.declared.ends.TextEnd.{TextEnd}
use Rattle.session_script.specs.declared.ends.TextEnd.TheVariants as ends
use Rattle.kept_call.specs.Fault.{Exactly, HasCauses}
use Rattle.kept_call.specs.Text.{IsSessionTextBehind}
use Rattle.kept_call.specs.Found.{IsReadBack}
use Rattle.kept_call.specs.Kept.{EveryMoment, AtReturn, StopsASession, KeptNothing, KeptBehind}
use Rattle.kept_call.specs.declared.fault.KeptFault.{KeptFault}
use Rattle.kept_call.specs.declared.fault.KeptFault.TheVariants.{Header, Early, Kept, Empty, Damaged, Full, Disk, Write, Memory}

-- the faults of a new session of which nothing is kept, and of one that does not go on
abbrev pub StopsANewSession : KeptFault → Type 0
StopsANewSession Empty = ⊥
StopsANewSession (Damaged block) = ⊥
StopsANewSession Full = ⊥
StopsANewSession _ = Unit {0}

abbrev pub StopsARestart : KeptFault → Type 0
StopsARestart (Header line reason) = ⊥
StopsARestart (Early end) = ⊥
StopsARestart Kept = ⊥
StopsARestart _ = Unit {0}

-- the answers of an early end, where START was read and where it was not, and these others
abbrev pub EndsIn : EarlyEnd → List (Result TextEnd KeptFault) → List (Result TextEnd KeptFault)
EndsIn end others = Ok (ends.Early end) ∷ Err (Early end) ∷ others

-- What the text that was read has to do with the answer. A disk fails before the text is read, or once START was read.
abbrev pub ReadSo : (front : List ℕ) → Option (List ℕ) → List ℕ → Result TextEnd KeptFault → Type 0
ReadSo front known input (Ok end) = HasStarted (front ++ input) × TextEndedBehind front known input end
ReadSo front known input (Err (Header line reason)) = HasFault (front ++ input) line reason
ReadSo front known input (Err (Early end)) = HasNotStarted (front ++ input) × EndedEarlyBehind front known input end
ReadSo front known input (Err Kept) = input ≡ []
ReadSo front known input (Err Disk) = (input ≡ []) ⊎ HasStarted (front ++ input)
ReadSo front known input (Err Write) = HasStarted (front ++ input)
ReadSo front known input (Err (Memory memory)) = Unit {0}
ReadSo front known input (Err _) = ⊥

-- Some input was taken, at most 2^26 bytes, by reads that stop where the text ends, and a read fault is the source's. An answer that tells of the
-- text comes exactly where the text is so: `read` says what each answer tells of it, and the last three which answers a text may have.
-- `first` are the answers that come before a text is read.
pub record TookText (first : List (Result TextEnd KeptFault)) (front : List ℕ) {S : Type 0} (left : S → Option (List ℕ)) (failed : S → ℕ) (source source' : S) (result : Result TextEnd KeptFault) : Type 0 where
  pub input : List ℕ
  pub took : Took left failed source source' input
  pub within : length input ≤ input_limit
  pub prompt : IsPromptBehind front input
  pub read : ReadSo front (left source') input result
  pub read_fault : (result ≡ Ok (ends.Early ReadFault)) ⊎ (result ≡ Err (Early ReadFault)) → Rose (failed source) (failed source')
  pub header : (line : ℕ) (reason : HeadReason) → HasFault (front ++ input) line reason → Among result (Err (Header line reason) ∷ Err (Memory refused) ∷ [])
  pub cut : WhereTold (left source') (λ rest. EndedEarlyBehind front (Some rest) input Cut → Among result (EndsIn Cut (EndsIn ReadFault (Err Write ∷ Err Disk ∷ Err (Memory refused) ∷ first))))
  pub too_much : WhereTold (left source') (λ rest. EndedEarlyBehind front (Some rest) input TooMuch → Among result (EndsIn TooMuch (Err Write ∷ Err Disk ∷ Err (Memory refused) ∷ [])))

-- The file could not be opened.
pub record IsUnopened {K : Type 0} (out out' : K) (result : Result TextEnd KeptFault) (rounds : List Round) : Type 0 where
  pub fault : Among result (Err Disk ∷ Err (Memory refused) ∷ [])
  pub none : rounds ≡ []
  pub unwritten : out' ≡ out

module _ {D K S : Type 0} (bytes : D → Option (List ℕ)) (may_leave : D → List ℕ → Type 0) (moment : D → ℕ) (left_since : D → ℕ → List ℕ → Type 0) (disk_faults : D → ℕ)
    (written : K → Option (List ℕ)) (faults : K → ℕ) (left : S → Option (List ℕ)) (failed : S → ℕ) (disk disk' : D) (out out' : K) (source source' : S) (result : Result TextEnd KeptFault) where
  -- The rounds of the call, in one list. At the return each image has the blocks of `count` of them at least, unless the file could not be opened.
  pub record KeptRounds : Type 0 where
    pub rounds : List Round
    pub count : ℕ
    pub every_moment : EveryMoment bytes may_leave moment left_since disk disk' rounds
    pub at_return : IsUnopened out out' result rounds ⊎ AtReturn bytes may_leave disk disk' rounds count

  -- The whole text of a session, over a disk, a source and a sink without a fault, is served to its end.
  abbrev pub Completes : (front : List ℕ) → Type 0
  Completes front = IfSome (left source) (λ text. IsSessionTextBehind front text → ¬ (Rose (disk_faults disk) (disk_faults disk'))
      → ¬ (Rose (failed source) (failed source')) → ¬ (Rose (faults out) (faults out')) → Among result (Ok ends.EndLine ∷ Err (Memory refused) ∷ []))

  -- A session that is kept and told behind a kept history. An image with the blocks of the first so many rounds is read back as the history
  -- up to the last of them.
  pub record KeptSession (h : SessionHeader) (kept : List Entry) (head : List (List ℕ)) (front input : List ℕ) (rounds : List Round) (count : ℕ) : Type 0 where
    pub behind : KeptBehind written faults out out' h kept head front input (left source') result rounds count
    pub read_back : WhereTold (bytes disk) (λ file. (image : List ℕ) (first : HasFirst (whole_blocks file) (bodies_of rounds) 0 image)
        → IsReadBack h (kept ++ entries_of (take (first.count - length head) behind.parts)) (whole_blocks image))

  -- A new session, which is kept behind a file without a whole block.
  pub record KeptNew (input : List ℕ) (rounds : List Round) (count : ℕ) : Type 0 where
    pub session : SessionHeader
    pub fresh : WhereTold (bytes disk) (λ file. whole_blocks file ≡ [])
    pub kept : KeptSession session [] (head_text_of session ∷ []) [] input rounds count

  pub record DidKeep : Type 0 where
    -- the causes of each answer
    pub took : TookText (Err Kept ∷ []) [] left failed source source' result
    pub kept : WhereTold (bytes disk) (λ file. Exactly result Kept (0 < length (whole_blocks file)))
    pub unread : result ≡ Err Kept → source' ≡ source
    pub causes : HasCauses disk_faults faults disk disk' out out' result
    pub complete : WhereTold (bytes disk) (λ file. whole_blocks file ≡ [] → Completes [])
    -- what is on the disk, and what is told
    pub on_disk : KeptRounds
    pub told : KeptNothing written faults out out' StopsANewSession result on_disk.rounds ⊎ KeptNew took.input on_disk.rounds on_disk.count

  -- The session of the file's blocks and its history, which goes on.
  pub record WentOn (rounds : List Round) (count : ℕ) : Type 0 where
    pub session : SessionHeader
    pub history : List Entry
    pub whole : WhereTold (bytes disk) (λ file. IsWhole (whole_blocks file) session history)
    pub took : TookText [] (head_text_of session) left failed source source' result
    pub told : KeptNothing written faults out out' StopsASession result rounds ⊎ KeptSession session history [] (head_text_of session) took.input rounds count

  pub record DidRestart : Type 0 where
    -- the causes of each answer
    pub empty : WhereTold (bytes disk) (λ file. Exactly result Empty (whole_blocks file ≡ []))
    pub damaged : WhereTold (bytes disk) (λ file. (block : ℕ) → Exactly result (Damaged block) ((0 < length (whole_blocks file)) × (kept_in (whole_blocks file) ≡ Err block)))
    pub full : WhereTold (bytes disk) (λ file. Exactly result Full ((commands : ℕ) × (0 < length (whole_blocks file)) × IsFull (whole_blocks file) commands))
    pub causes : HasCauses disk_faults faults disk disk' out out' result
    pub complete : WhereTold (bytes disk) (λ file. (h : SessionHeader) (history : List Entry) → IsWhole (whole_blocks file) h history → Completes (head_text_of h))
    -- what is on the disk, and what is told
    pub on_disk : KeptRounds
    pub told : (KeptNothing written faults out out' StopsARestart result on_disk.rounds × (source' ≡ source)) ⊎ WentOn on_disk.rounds on_disk.count
