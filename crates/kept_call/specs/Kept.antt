-- What a call that keeps a session leaves on the disk, and what it tells: the blocks of its rounds, and the history that they hold.
use Rattle.std.specs.Prelude.{ℕ, ◌≡◌, ◌≤◌, List, [], ◌++◌, length, take, Option, Some, None, Result, Ok, Err}
use Rattle.fx_edges.specs.Writing.{Appended, AppendedPart}
use Rattle.fx_rules.specs.declared.outcome.Entry.{Entry}
use Rattle.fx_rules.specs.Session.{Header}
use Rattle.fx_rules.specs.History.{IsLegal}
use Rattle.fx_chronicle.specs.Streams.{HasStreams}
use Rattle.fx_disk.specs.Disk.{WhereTold, Only, LeavesOnly}
use Rattle.keep_disk.specs.Blocks.{whole_blocks}
use Rattle.keep_disk.specs.declared.rounds.Round.{Round}
use Rattle.keep_disk.specs.Rounds.{bodies_of, text_of, HasFirst}
use Rattle.kept_call.specs.KeptRounds.{entries_of, AreRoundsOf}
use Rattle.kept_call.specs.Running.{AreBegunBy}
use Rattle.reply_lines.specs.Output.{IsRestOfOutput}
use Rattle.session_script.specs.Reading.{TextEndedBehind}
use Rattle.session_script.specs.Script.{HasSession, sent_in, strays_of}
use Rattle.session_script.specs.declared.ends.TextEnd.{TextEnd}
use Rattle.kept_call.specs.Ending.{ending_of}
use Rattle.kept_call.specs.declared.fault.KeptFault.{KeptFault}
use Rattle.kept_call.specs.declared.fault.KeptFault.TheVariants.{Disk, Write, Memory}

-- At every moment since the start, in a call of the disk or between two, each image that a crash may leave has the whole blocks of the
-- start, and behind them the first so many of these rounds'. This is said of a disk that has one image at the start, the bytes that it
-- reads, as it has after a crash or where it is made.
abbrev pub EveryMoment : {D : Type 0} (bytes : D → Option (List ℕ)) (may_leave : D → List ℕ → Type 0) (moment : D → ℕ) (left_since : D → ℕ → List ℕ → Type 0) → D → D → List Round → Type 0
EveryMoment bytes may_leave moment left_since disk disk' rounds =
    WhereTold (bytes disk) (λ file. Only file (may_leave disk) → LeavesOnly moment left_since disk disk' (HasFirst (whole_blocks file) (bodies_of rounds) 0))

-- At the return each image has the whole blocks that the disk read at the start, and behind them the first so many of these rounds', `count`
-- of them at least.
abbrev pub AtReturn : {D : Type 0} (bytes : D → Option (List ℕ)) (may_leave : D → List ℕ → Type 0) → D → D → List Round → ℕ → Type 0
AtReturn bytes may_leave disk disk' rounds count =
    WhereTold (bytes disk) (λ file. (image : List ℕ) → may_leave disk' image → HasFirst (whole_blocks file) (bodies_of rounds) count image)

-- a fault in which a session stops that has begun
abbrev pub StopsASession : KeptFault → Type 0
StopsASession Disk = Unit {0}
StopsASession Write = Unit {0}
StopsASession (Memory memory) = Unit {0}
StopsASession _ = ⊥

-- No round is kept, and nothing was written: the call answered one of these faults.
pub record KeptNothing {K : Type 0} (written : K → Option (List ℕ)) (faults : K → ℕ) (out out' : K) (AreFaults : KeptFault → Type 0) (result : Result TextEnd KeptFault) (rounds : List Round) : Type 0 where
  pub none : rounds ≡ []
  pub unwritten : Appended written faults out out' []
  pub fault : KeptFault
  pub answers : result ≡ Err fault
  pub among : AreFaults fault

-- the answer, by how the text ended and by what was told
abbrev pub AnsweredSo : {K : Type 0} (written : K → Option (List ℕ)) (faults : K → ℕ) → K → K → Option TextEnd → List ℕ → Result TextEnd KeptFault → Type 0
AnsweredSo written faults out out' ended text (Ok end) = (ended ≡ Some end) × Appended written faults out out' text
AnsweredSo written faults out out' ended text (Err fault) = StopsASession fault

-- The session of a text, kept and told behind a kept history. The text is the input that was taken, behind a front: with a new session that is
-- empty, and with one that goes on it is the text of its header. `known` is what the source has left then.
module _ {K : Type 0} (written : K → Option (List ℕ)) (faults : K → ℕ) (out out' : K) (h : Header) (kept : List Entry) (head : List (List ℕ)) (front input : List ℕ) (known : Option (List ℕ)) where
  -- How the text ended, where it was served to its end: each sender's commands are in the history, each round is kept and told, and then
  -- came the rest of its output, from the line `BOOKS` on.
  pub record IsWholeSession (entries : List Entry) (rounds : List Round) (count : ℕ) (rest : List ℕ) (end : TextEnd) : Type 0 where
    pub at_its_end : TextEndedBehind front known input end
    pub each_sender_in_order : HasStreams (sent_in h (front ++ input)) entries
    pub all_rounds : count ≡ length rounds
    pub from_books : IsRestOfOutput h (kept ++ entries) (strays_of h (front ++ input)) (ending_of end) rest

  abbrev pub EndedSo : List Entry → List Round → ℕ → List ℕ → Option TextEnd → Type 0
  EndedSo entries rounds count rest None = rest ≡ []
  EndedSo entries rounds count rest (Some end) = IsWholeSession entries rounds count rest end

  -- There is one legal history behind the kept one, with the first so many of each sender's commands in the text, in their order. Its entries
  -- are parted into rounds, and each round has a block with the lines of its entries' commands; with a new session the header's block stands in
  -- front of them. What is told of a round is the notices of its entries, in the order of the history, each behind its sender's name, their
  -- numbers going on from the kept history's. Of `count` rounds something may have been told, and behind all of them the rest of the output; of no other.
  pub record KeptBehind (result : Result TextEnd KeptFault) (rounds : List Round) (count : ℕ) : Type 0 where
    pub session : HasSession (front ++ input) h
    pub entries : List Entry
    pub legal : IsLegal h (kept ++ entries)
    pub begun : AreBegunBy (sent_in h (front ++ input)) entries
    pub parts : List (List Entry)
    pub joined : entries ≡ entries_of parts
    pub are_rounds : AreRoundsOf h kept head parts rounds
    pub within : count ≤ length rounds
    pub ended : Option TextEnd
    pub rest : List ℕ
    pub ended_so : EndedSo entries rounds count rest ended
    pub told : AppendedPart written faults out out' (text_of (take count rounds) ++ rest)
    pub answered : AnsweredSo written faults out out' ended (text_of (take count rounds) ++ rest) result
