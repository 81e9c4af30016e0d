-- A session with clients was served, and its text was written.
use Rattle.std.proofs.Common.{◌≡◌, ℕ, List, [], Option, Some, Result, sym, subst}
use Rattle.fx_rules.specs.Session.{Header}
use Rattle.fx_chronicle.proofs.Orderly.{legal-orderly}
use Rattle.reply_lines.specs.Faults.{WroteOutput}
use Rattle.reply_lines.specs.declared.output.OutFault.{OutFault}
use Rattle.reply_lines.specs.declared.output.Ending.{Ending}
use Rattle.client_day.specs.Days.{IsDayOf}
use Rattle.client_day.specs.Rounds.{IsServed}
use Rattle.client_day.specs.Text.{IsClientsText}
use Rattle.client_day.specs.declared.day.ClientDay.{ClientDay}
use Rattle.kept_call.specs.Ending.{ending_of}
use Rattle.session_script.specs.Reading.{ProgressedBehind}
use Rattle.session_script.specs.Stage.{session_at}
use Rattle.session_script.specs.declared.ends.TextEnd.{TextEnd}
use Rattle.session_script.specs.Heard.{Heard}
use Rattle.session_script.specs.declared.reading.Reading.{Reading}
use Rattle.session_script.proofs.RoundLaws.{same_session}
use Rattle.program_calls.specs.Clients.{IsClientsTextOf}
use Rattle.program_calls.specs.Run.{Ran}
use Rattle.program_calls.specs.inside.Status.{written_status}
use Rattle.program_calls.specs.declared.status.Status.{Status}
use Rattle.program_calls.proofs.Served.{ran-text}

-- the day by the session that a reading tells
pub clients_stand : {S : Type 0} {left : S → Option (List ℕ)} {failed : S → ℕ} {a b : S} {reading : Reading} {h : Header} {end : TextEnd} {day : ClientDay} (is : IsServed left failed a b reading h end day) (session : Header) → session_at reading.intake.stage ≡ Some session
    → IsDayOf session is.heard day
clients_stand {day = day} is session session_is = subst (λ (g : Header). IsDayOf g is.heard day) (sym (same_session session is.has_heard.has_read session_is)) is.served

module _ {S K : Type 0} (left : S → Option (List ℕ)) (failed : S → ℕ) (written : K → Option (List ℕ)) (faults : K → ℕ) (a b : S) (reading : Reading) (h : Header) (end : TextEnd) (day : ClientDay) (is : IsServed left failed a b reading h end day) where
  -- the text by what the input says
  text_of : (text : List ℕ) → IsClientsText h is.heard (ending_of end) text → IsClientsTextOf end is.has_heard.has_read.input (left b) text
  text_of text so = record {
    at_its_end = subst (ProgressedBehind [] (left b) is.has_heard.has_read.input) is.ended is.has_heard.has_read.ended;
    session = h;
    of_its_header = is.has_heard.has_read.says.session;
    text_is = subst (λ (heard : List Heard). IsClientsText h heard (ending_of end) text) is.has_heard.says_so so;
    orderly = legal-orderly h _ (subst (λ (heard : List Heard). IsClientsText h heard (ending_of end) text) is.has_heard.says_so so).tagged.legal;
  }

  pub clients_ran : {T : Type 0} (result : Result T OutFault) (out out' : K) (session : Header) (ending : Ending) (status : Status) → session_at reading.intake.stage ≡ Some session → ending ≡ ending_of end
      → ((heard : List Heard) → IsDayOf session heard day → WroteOutput written faults out out' (IsClientsText session heard ending) result)
      → status ≡ written_status end result → Ran IsClientsTextOf left failed written faults a b out out' status
  clients_ran result out out' session ending status session_is ending_is wrote status_is =
      let same : session ≡ h = same_session session is.has_heard.has_read session_is in
      ran-text IsClientsTextOf left failed written faults result a b out out' reading h is.sent end status (IsClientsText h is.heard (ending_of end)) is.has_heard.has_read is.ended
      text_of
      (subst (λ (g : Header). WroteOutput written faults out out' (IsClientsText g is.heard (ending_of end)) result) same
      (subst (λ (e : Ending). WroteOutput written faults out out' (IsClientsText session is.heard e) result) ending_is
      (wrote is.heard (clients_stand is session session_is))))
      status_is
