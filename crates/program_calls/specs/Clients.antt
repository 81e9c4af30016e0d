-- What is written of a session whose banks have clients.
use Rattle.std.specs.Prelude.{ℕ, List, Option}
use Rattle.fx_rules.specs.Session.{Header}
use Rattle.fx_chronicle.specs.Along.{IsOrderly}
use Rattle.client_desk.specs.Clients.{entries_of}
use Rattle.client_day.specs.Events.{tagged_in}
use Rattle.client_day.specs.Text.{IsClientsText}
use Rattle.kept_call.specs.Ending.{ending_of}
use Rattle.session_script.specs.Heard.{heard_in}
use Rattle.session_script.specs.Reading.{TextEnded}
use Rattle.session_script.specs.Script.{HasSession}
use Rattle.session_script.specs.declared.ends.TextEnd.{TextEnd}

-- The input that was taken, where the source has `left` still, ended so. The text is the output of a legal history of the session of
-- the input's own header, and behind it what each client has and was told. The history has the input's commands, in the order of
-- its lines, but for those of clients that were refused: each as it was answered after the entries before it. Along it no line
-- and no total is exceeded, what they leave falls by the fills and rises by what is given back, and no orders that can reach each other rest
-- crossed.
pub record IsClientsTextOf (end : TextEnd) (input : List ℕ) (left : Option (List ℕ)) (text : List ℕ) : Type 0 where
  pub at_its_end : TextEnded left input end
  pub session : Header
  pub of_its_header : HasSession input session
  pub text_is : IsClientsText session (heard_in session input) (ending_of end) text
  pub orderly : IsOrderly session (entries_of (tagged_in text_is.events))
