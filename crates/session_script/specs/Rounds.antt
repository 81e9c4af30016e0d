-- What a reading took of its source, round by round.
use Rattle.std.specs.Prelude.{ℕ, ◌≡◌, ◌≤◌, List, [], ◌++◌, length, Option, Some, Result, Ok, Err}
use Rattle.fx_edges.specs.Faults.{Rose}
use Rattle.fx_edges.specs.Reading.{Took}
use Rattle.fx_edges.specs.Writing.{IsPrefixOf}
use Rattle.fx_rules.specs.declared.command.Sent.{Sent}
use Rattle.fx_rules.specs.Lists.{Each}
use Rattle.fx_rules.specs.Session.{Header}
use Rattle.fx_text.specs.Lines.{lines_of, rest_of}
use Rattle.session_head.specs.Head.{Begun}
use Rattle.session_script.specs.Input.{input_limit}
use Rattle.session_script.specs.Heard.{heard_in, IsHeardOf}
use Rattle.session_script.specs.Journal.{sent_lines}
use Rattle.session_script.specs.Stage.{Past, session_at, sent_at, strays_at, journal_at, heard_at}
use Rattle.session_script.specs.Intake.{StandsFor}
use Rattle.session_script.specs.Reading.{IsPrompt, IsPromptBehind, SaysBehind, ProgressedBehind, Stopped}
use Rattle.session_script.specs.Script.{lines_behind}
use Rattle.session_script.specs.declared.ends.EarlyEnd.TheVariants.{ReadFault}
use Rattle.session_script.specs.declared.ends.TextEnd.TheVariants.{Early}
use Rattle.session_script.specs.declared.ends.Stop.{Stop}
use Rattle.session_script.specs.declared.ends.Stop.TheVariants.{Early as EarlyStop}
use Rattle.session_script.specs.Heard.{Heard}
use Rattle.session_script.specs.declared.script.Keeps.TheVariants.{Journal, Strays}
use Rattle.session_script.specs.declared.reading.Reading.{Reading}

-- A front ends with a line feed, and says nothing behind START.
pub record IsFront (front : List ℕ) : Type 0 where
  pub whole : rest_of front ≡ []
  pub silent : lines_behind (Begun 0) (lines_of front) ≡ []

module _ (front : List ℕ) {S : Type 0} (left : S → Option (List ℕ)) (faults : S → ℕ) (before now : S) where
  -- some input was taken, at most the limit, by reads that stop where the text ends
  pub record TookPromptlyBehind : Type 0 where
    pub input : List ℕ
    pub took : Took left faults before now input
    pub within : length input ≤ input_limit
    pub prompt : IsPromptBehind front input

  -- and it begins with what was taken earlier
  abbrev pub TookOnBehind : List ℕ → Type 0
  TookOnBehind earlier = (took : TookPromptlyBehind) × IsPrefixOf earlier took.input

  -- The rounds so far took some input, at most the limit. The text of the front and the input says this session and, up to the
  -- END line, all these commands, the last round's at their end. How it ended is by what it says, and a read fault is the
  -- source's.
  pub record HasReadBehind (reading : Reading) (h : Header) (all : List Sent) : Type 0 where
    pub input : List ℕ
    pub took : Took left faults before now input
    pub within : length input ≤ input_limit
    pub prompt : IsPromptBehind front input
    pub session : session_at reading.intake.stage ≡ Some h
    pub says : SaysBehind front input h all (strays_at reading.intake.stage)
    pub ended : ProgressedBehind front (left now) input reading.end
    pub cause : reading.end ≡ Some (Early ReadFault) → Rose (faults before) (faults now)
    -- what the next round goes on from
    pub is_front : IsFront front
    pub former : Past
    pub all_is : all ≡ former.sent ++ sent_at reading.intake.stage
    pub stands : StandsFor reading.intake (front ++ input) former
    pub taken : reading.intake.taken ≡ length input

  -- and a reading that keeps the journal has the lines of all these commands
  pub record HasJournalBehind (reading : Reading) (h : Header) (all : List Sent) : Type 0 where
    pub has_read : HasReadBehind reading h all
    pub lines : journal_at reading.intake.stage ≡ sent_lines h all
    -- what the next round goes on from
    pub keeps : has_read.former.keeps ≡ Journal

  -- and a reading that keeps strays gave all these commands and strays of it, the last round's at their end
  pub record HasHeardBehind (reading : Reading) (h : Header) (all : List Sent) (heard : List Heard) : Type 0 where
    pub has_read : HasReadBehind reading h all
    pub says_so : heard ≡ heard_in h (front ++ has_read.input)
    pub valid : Each (IsHeardOf h) heard
    pub few : length heard ≤ length has_read.input
    -- what the next round goes on from
    pub keeps : has_read.former.keeps ≡ Strays
    pub heard_is : heard ≡ has_read.former.heard ++ heard_at reading.intake.stage

module _ {S : Type 0} (left : S → Option (List ℕ)) (faults : S → ℕ) (before now : S) where
  -- where the input is all of the text
  abbrev pub HasRead : Reading → Header → List Sent → Type 0
  HasRead = HasReadBehind [] left faults before now

  abbrev pub HasJournal : Reading → Header → List Sent → Type 0
  HasJournal = HasJournalBehind [] left faults before now

  abbrev pub HasHeard : Reading → Header → List Sent → List Heard → Type 0
  HasHeard = HasHeardBehind [] left faults before now

  -- the reading stopped before START
  pub record HasStopped (stop : Stop) : Type 0 where
    pub input : List ℕ
    pub took : Took left faults before now input
    pub within : length input ≤ input_limit
    pub prompt : IsPrompt input
    pub stopped : Stopped (left now) input stop
    pub cause : stop ≡ EarlyStop ReadFault → Rose (faults before) (faults now)

  -- the rounds up to START
  abbrev pub HasBegun : Result Reading Stop → Type 0
  HasBegun (Ok reading) = (h : Header) × HasRead reading h (sent_at reading.intake.stage)
  HasBegun (Err stop) = HasStopped stop

  -- and by a reading that keeps the journal
  abbrev pub HasBegunJournal : Result Reading Stop → Type 0
  HasBegunJournal (Ok reading) = (h : Header) × HasJournal reading h (sent_at reading.intake.stage)
  HasBegunJournal (Err stop) = HasStopped stop

  -- and by a reading that keeps strays
  abbrev pub HasBegunHearing : Result Reading Stop → Type 0
  HasBegunHearing (Ok reading) = (h : Header) × HasHeard reading h (sent_at reading.intake.stage) (heard_at reading.intake.stage)
  HasBegunHearing (Err stop) = HasStopped stop
