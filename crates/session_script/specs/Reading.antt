-- How the input of a session ended, or that it goes on.
use Rattle.std.specs.Prelude.{ℕ, ◌≡◌, ◌≤◌, ◌<◌, ◌⊎◌, List, [], ◌++◌, length, Option, Some, None}
use Rattle.std.specs.Io.KnownBytes.{IsAtEnd}
use Rattle.fx_rules.specs.declared.command.Sent.{Sent}
use Rattle.fx_rules.specs.Lists.{Each}
use Rattle.fx_rules.specs.Sending.{IsSentOf}
use Rattle.fx_rules.specs.Session.{Header as SessionHeader}
use Rattle.session_head.specs.declared.reason.HeadReason.{HeadReason}
use Rattle.session_script.specs.Input.{input_limit}
use Rattle.session_script.specs.Script.{HasSession, HasFault, HasEnd, EndsWithEnd, sent_in, strays_of}
use Rattle.session_script.specs.declared.ends.EarlyEnd.{EarlyEnd}
use Rattle.session_script.specs.declared.ends.EarlyEnd.TheVariants.{Cut, ReadFault, TooMuch}
use Rattle.session_script.specs.declared.ends.TextEnd.{TextEnd}
use Rattle.session_script.specs.declared.ends.TextEnd.TheVariants.{EndLine, Early}
use Rattle.session_script.specs.declared.ends.Stop.{Stop}
use Rattle.session_script.specs.declared.ends.Stop.TheVariants.{Header, Early as EarlyStop, Memory}

-- the header so far has no fault
abbrev pub HasNoFault : List ℕ → Type 0
HasNoFault input = (line : ℕ) (reason : HeadReason) → ¬ (HasFault input line reason)

-- the input does not end its reading: its header has no fault so far, and it has no END line
abbrev pub GoesOn : List ℕ → Type 0
GoesOn input = HasNoFault input × ¬ (HasEnd input)

-- START was read, and was not
abbrev pub HasStarted : List ℕ → Type 0
HasStarted input = (h : SessionHeader) × HasSession input h

abbrev pub HasNotStarted : List ℕ → Type 0
HasNotStarted input = (h : SessionHeader) → ¬ (HasSession input h)

-- a read met the source's end, behind this input
pub record MetEnd (known : Option (List ℕ)) (input : List ℕ) : Type 0 where
  pub met : IsAtEnd known
  pub short : length input < input_limit

-- The text that is read is the input behind a front, which stands before all that is taken. It is empty but where a reading
-- goes on behind the header of a session that is known: then it is that header's text.
module _ (front : List ℕ) where
  -- the reading stopped with the read that ended it, which asked for 4,096 bytes at most: the text before went on
  pub record IsPromptBehind (input : List ℕ) : Type 0 where
    pub before : List ℕ
    pub last : List ℕ
    pub joined : input ≡ before ++ last
    pub short : length last ≤ 4096
    pub goes_on : GoesOn (front ++ before)

  -- the text so far has this session, these commands, of which the input has each, and so many strays
  pub record SaysBehind (input : List ℕ) (h : SessionHeader) (sent : List Sent) (strays : ℕ) : Type 0 where
    pub session : HasSession (front ++ input) h
    pub sent_is : sent ≡ sent_in h (front ++ input)
    pub strays_is : strays ≡ strays_of h (front ++ input)
    pub valid : Each (IsSentOf h) sent
    pub few : length sent ≤ length input

  -- how the text ended before its END line, by what the source has left then
  abbrev pub EndedEarlyBehind : Option (List ℕ) → List ℕ → EarlyEnd → Type 0
  EndedEarlyBehind known input Cut = MetEnd known input × HasNoFault (front ++ input) × ¬ (HasEnd (front ++ input)) × ¬ (EndsWithEnd (front ++ input))
  EndedEarlyBehind known input ReadFault = (length input < input_limit) × HasNoFault (front ++ input) × ¬ (HasEnd (front ++ input))
  EndedEarlyBehind known input TooMuch = (length input ≡ input_limit) × HasNoFault (front ++ input) × ¬ (HasEnd (front ++ input))

  -- how the text ended: at its END line, where it has the line, or a read met the source's end and what is left over is that line;
  -- or early
  abbrev pub TextEndedBehind : Option (List ℕ) → List ℕ → TextEnd → Type 0
  TextEndedBehind known input EndLine = HasEnd (front ++ input) ⊎ (MetEnd known input × EndsWithEnd (front ++ input))
  TextEndedBehind known input (Early early) = EndedEarlyBehind known input early

  -- how the text ended, if it did
  abbrev pub ProgressedBehind : Option (List ℕ) → List ℕ → Option TextEnd → Type 0
  ProgressedBehind known input None = GoesOn (front ++ input)
  ProgressedBehind known input (Some end) = TextEndedBehind known input end

-- where the input is all of the text
abbrev pub IsPrompt : List ℕ → Type 0
IsPrompt = IsPromptBehind []

abbrev pub EndedEarly : Option (List ℕ) → List ℕ → EarlyEnd → Type 0
EndedEarly = EndedEarlyBehind []

abbrev pub TextEnded : Option (List ℕ) → List ℕ → TextEnd → Type 0
TextEnded = TextEndedBehind []

-- why the reading of a text stopped before START
abbrev pub Stopped : Option (List ℕ) → List ℕ → Stop → Type 0
Stopped known input (Header line reason) = HasFault input line reason
Stopped known input (EarlyStop early) = HasNotStarted input × EndedEarly known input early
Stopped known input (Memory memory) = Unit {0}
