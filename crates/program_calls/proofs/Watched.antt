-- A session that was watched, and its text was written.
use Rattle.std.proofs.Common.{◌≡◌, ℕ, ◌^◌, ◌≤◌, List, length, Option, Some, Result, sym, subst, arith}
use Rattle.fx_rules.specs.declared.command.Sent.{Sent}
use Rattle.fx_rules.specs.declared.outcome.Entry.{Entry}
use Rattle.fx_rules.specs.Session.{Header}
use Rattle.fx_rules.specs.History.{IsLegal, state}
use Rattle.pair_host.specs.Standing.{stands}
use Rattle.fx_chronicle.proofs.Streams.{streams-length}
use Rattle.reply_lines.specs.Faults.{WroteOutput}
use Rattle.reply_lines.specs.declared.output.OutFault.{OutFault}
use Rattle.reply_lines.specs.declared.output.Ending.{Ending}
use Rattle.session_script.specs.Stage.{session_at, strays_at}
use Rattle.session_script.specs.declared.reading.Reading.{Reading}
use Rattle.watched_run.specs.Watched.{HasWatched, IsWatchText, IsWatchedOutput, IsWatched}
use Rattle.watched_run.specs.declared.watching.Watched.{Watched}
use Rattle.program_calls.specs.Headline.{IsHeadline}
use Rattle.program_calls.specs.Run.{Ran}
use Rattle.kept_call.specs.Ending.{ending_of}
use Rattle.program_calls.specs.Watch.{IsWatchedOf}
use Rattle.program_calls.specs.inside.Status.{written_status}
use Rattle.program_calls.specs.declared.status.Status.{Status}
use Rattle.program_calls.proofs.HeadlineLaws.{headline_of}
use Rattle.session_script.proofs.RoundLaws.{same_session}
use Rattle.program_calls.proofs.Served.{output_of, ran-text}

module _ {S K : Type 0} (left : S → Option (List ℕ)) (failed : S → ℕ) (written : K → Option (List ℕ)) (faults : K → ℕ) (a b : S) (reading : Reading) (h : Header) (watched : Watched) (is : IsWatched left failed a b reading h watched) where
  abbrev its : List Entry
  its = watched.history.items

  few : length its ≤ 2 ^ 26
  few = omega (arith, is.has_read.says.few, is.has_read.within, streams-length is.sent its is.streams)

  -- the text by what the input says
  watched_of : (text : List ℕ) → IsWatchedOutput h is.sent its (strays_at reading.intake.stage) (ending_of watched.end) text → IsWatchedOf watched.end is.has_read.input (left b) text
  unfolding output_of
  watched_of text so = record {
    output = so.output;
    is_output = output_of IsHeadline left failed written faults a b reading h is.sent watched.end its so.output is.has_read is.ended (headline_of h is.sent its is.legal is.streams) is.legal few so.is_output;
    seen = so.seen;
    is_seen = subst (λ (all : List Sent). IsWatchText h all its so.seen) is.has_read.says.sent_is so.is_seen;
    exactly = so.exactly;
  }

  -- its history and its market, by the session that a reading tells
  pub watched_stands : (session : Header) → session_at reading.intake.stage ≡ Some session → IsLegal session its × stands watched.market session (state session its)
  watched_stands session session_is =
      let same : session ≡ h = same_session session is.has_read session_is in
      (subst (λ (g : Header). IsLegal g its) (sym same) is.legal, subst (λ (g : Header). stands watched.market g (state g its)) (sym same) is.at_the_end)

  pub watched_ran : {T : Type 0} (result : Result T OutFault) (out out' : K) (session : Header) (strays : ℕ) (ending : Ending) (status : Status) → session_at reading.intake.stage ≡ Some session → strays_at reading.intake.stage ≡ strays → ending ≡ ending_of watched.end
      → ((sent : List Sent) → HasWatched session sent its watched.rounds watched.lines.items → WroteOutput written faults out out' (IsWatchedOutput session sent its strays ending) result)
      → status ≡ written_status watched.end result → Ran IsWatchedOf left failed written faults a b out out' status
  watched_ran result out out' session strays ending status session_is strays_is ending_is wrote status_is =
      let same : session ≡ h = same_session session is.has_read session_is in
      let wrote_here = wrote is.sent (subst (λ (g : Header). HasWatched g is.sent its watched.rounds watched.lines.items) (sym same) is.watched_so) in
      ran-text IsWatchedOf left failed written faults result a b out out' reading h is.sent watched.end status (IsWatchedOutput h is.sent its (strays_at reading.intake.stage) (ending_of watched.end)) is.has_read is.ended
      watched_of
      (subst (λ (g : Header). WroteOutput written faults out out' (IsWatchedOutput g is.sent its (strays_at reading.intake.stage) (ending_of watched.end)) result) same
      (subst (λ (n : ℕ). WroteOutput written faults out out' (IsWatchedOutput session is.sent its n (ending_of watched.end)) result) (sym strays_is)
      (subst (λ (e : Ending). WroteOutput written faults out out' (IsWatchedOutput session is.sent its strays e) result) ending_is wrote_here)))
      status_is
