-- What private functions and proofs alone say of it, beside `specs/Rounds.antt`.
use Rattle.std.specs.Prelude.{ℕ, List, [], ◌++◌, Option, Result, Ok, Err}
use Rattle.fx_amounts.specs.declared.memory.Memory.{Memory}
use Rattle.fx_rules.specs.declared.command.Sent.{Sent}
use Rattle.fx_rules.specs.Session.{Header}
use Rattle.session_script.specs.Rounds.{HasHeard, TookPromptlyBehind}
use Rattle.session_script.specs.Stage.{sent_at, heard_at}
use Rattle.session_script.specs.declared.ends.TextEnd.{TextEnd}
use Rattle.session_script.specs.Heard.{Heard}
use Rattle.session_script.specs.declared.reading.Reading.{Reading}
use Rattle.client_day.specs.Days.{IsDayOf}
use Rattle.client_day.specs.Rounds.{IsServed}
use Rattle.client_day.specs.declared.day.ClientDay.{ClientDay}

module _ {S : Type 0} (left : S → Option (List ℕ)) (faults : S → ℕ) (before now : S) (reading : Reading) (h : Header) where
  -- what was heard in former rounds is served
  pub record IsServing (day : ClientDay) : Type 0 where
    pub sent : List Sent
    pub heard : List Heard
    pub has_heard : HasHeard left faults before now reading h (sent ++ sent_at reading.intake.stage) (heard ++ heard_at reading.intake.stage)
    pub served : IsDayOf h heard day

  -- the text ended so, and all that was heard is served
  abbrev pub ServedRounds : ClientDay → Result TextEnd Memory → Type 0
  ServedRounds day (Ok end) = IsServed left faults before now reading h end day
  ServedRounds day (Err memory) = TookPromptlyBehind [] left faults before now
