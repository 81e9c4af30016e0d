-- A text served to its end.
use Rattle.std.specs.Prelude.{ℕ, ◌≡◌, List, [], Option, Some, Result, Ok, Err}
use Rattle.fx_amounts.specs.declared.memory.Memory.{Memory}
use Rattle.fx_rules.specs.declared.command.Sent.{Sent}
use Rattle.fx_rules.specs.Session.{Header}
use Rattle.session_script.specs.Rounds.{HasHeard, TookPromptlyBehind}
use Rattle.session_script.specs.declared.ends.TextEnd.{TextEnd}
use Rattle.session_script.specs.Heard.{Heard}
use Rattle.session_script.specs.declared.reading.Reading.{Reading}
use Rattle.client_day.specs.Days.{IsDayOf}
use Rattle.client_day.specs.declared.day.ClientDay.{ClientDay}

module _ {S : Type 0} (left : S → Option (List ℕ)) (faults : S → ℕ) (before now : S) (reading : Reading) (h : Header) where
  -- the text ended so, and all that was heard is served
  pub record IsServed (end : TextEnd) (day : ClientDay) : Type 0 where
    pub ended : reading.end ≡ Some end
    pub sent : List Sent
    pub heard : List Heard
    pub has_heard : HasHeard left faults before now reading h sent heard
    pub served : IsDayOf h heard day

  abbrev pub ServedText : Result (TextEnd × ClientDay) Memory → Type 0
  ServedText (Ok done) = IsServed done.0 done.1
  ServedText (Err memory) = TookPromptlyBehind [] left faults before now
