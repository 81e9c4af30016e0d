-- A text that is served round by round.
use Rattle.std.proofs.Common.{◌≡◌, ℕ, ◌+◌, ◌^◌, ◌<◌, ◌≤◌, List, [], ◌∷◌, ◌++◌, length, map, Option, Some, Result, Ok, Err, refl, sym, ap, ap₂, ◌∙◌, subst, arith, inl, inr, length-append}
use Rattle.std.specs.Prelude.{IsErrAnd}
use Rattle.std.specs.List.{flat_map}
use Rattle.std.proofs.lemmas.List.{length-map, map-append}
use Rattle.fx_amounts.specs.OutOfMemory.{refused}
use Rattle.fx_amounts.specs.declared.memory.Memory.{Memory as AmountsMemory}
use Rattle.fx_rules.specs.declared.command.Sent.{Sent}
use Rattle.fx_rules.specs.declared.outcome.Entry.{Entry}
use Rattle.fx_rules.specs.Lists.{Each}
use Rattle.fx_rules.specs.Session.{Header}
use Rattle.fx_rules.specs.Sending.{IsSentOf, sent_by}
use Rattle.fx_rules.specs.History.{IsLegal, state}
use Rattle.fx_chronicle.proofs.Streams.{streams-length}
use Rattle.reply_lines.specs.Output.{IsOutput, entry_line}
use Rattle.reply_lines.specs.Faults.{WroteOutput}
use Rattle.reply_lines.specs.declared.output.OutFault.{OutFault}
use Rattle.reply_lines.specs.declared.output.OutFault.TheVariants as outs
use Rattle.reply_lines.specs.declared.output.Ending.{Ending}
use Rattle.journal_check.proofs.Exactly.{outputs_list}
use Rattle.session_script.specs.Journal.{sent_lines}
use Rattle.session_script.specs.Reading.{ProgressedBehind}
use Rattle.session_script.specs.Stage.{session_at, sent_at, strays_at, journal_at}
use Rattle.session_script.specs.Rounds.{HasJournal, HasRead, HasStopped, TookPromptlyBehind}
use Rattle.session_script.specs.declared.ends.EarlyEnd.TheVariants as early
use Rattle.session_script.specs.declared.ends.TextEnd.{TextEnd}
use Rattle.session_script.specs.declared.ends.TextEnd.TheVariants.{EndLine, Early}
use Rattle.session_script.specs.declared.ends.Stop.{Stop}
use Rattle.session_script.specs.declared.ends.Stop.TheVariants as stops
use Rattle.session_script.specs.declared.reading.Reading.{Reading}
use Rattle.session_script.proofs.RoundLaws.{round_valid, round_few, same_session}
use Rattle.market_run.specs.Ran.{Ran as MarketRan}
use Rattle.market_run.specs.Running.{HasServed, MayServe, ServesOn}
use Rattle.reply_lines.specs.Day.{AreNoticesOf as tells, IsJournalOf}
use Rattle.reply_lines.specs.declared.day_notices.DayNotices.{DayNotices}
use Rattle.reply_lines.specs.declared.journal.JournalText.{JournalText}
use Rattle.pair_host.specs.Standing.{HostState, stands}
use Rattle.fx_chronicle.specs.Faces.{Witness}
use Rattle.gateway_workers.specs.declared.lane.Lane.{Lane}
use Rattle.gateway_workers.specs.SenderLanes.{HaveServed, CanServe as CanServeLanes}
use Rattle.program_calls.specs.Headline.{IsHeadline, IsSerial}
use Rattle.program_calls.specs.inside.Rounds.{IsServing, HasServedRound, IsServed, IsHistoryOfText}
use Rattle.program_calls.specs.Run.{RanText, Ran}
use Rattle.kept_call.specs.Ending.{ending_of}
use Rattle.program_calls.specs.Status.{status_at, status_of}
use Rattle.program_calls.specs.inside.Status.{written_status}
use Rattle.program_calls.specs.TopCall.{KindOfText, IsOutputOf}
use Rattle.program_calls.specs.declared.status.Status.{Status}
use Rattle.program_calls.specs.declared.status.Status.TheVariants.{ReadFault, Memory}
use Rattle.program_calls.proofs.HeadlineLaws.{headline_of, serial_of}

read_status : (end : TextEnd) → status_at end ≡ ReadFault → Some end ≡ Some (Early early.ReadFault)
read_status EndLine is = cc
read_status (Early early.Cut) is = cc
read_status (Early early.ReadFault) is = refl
read_status (Early early.TooMuch) is = cc

module _ (IsTextOf : KindOfText) {S K : Type 0} (left : S → Option (List ℕ)) (failed : S → ℕ) (written : K → Option (List ℕ)) (faults : K → ℕ) where
  -- out of memory before anything was written
  pub ran-memory : (a b : S) (out out' : K) → TookPromptlyBehind [] left failed a b → out' ≡ out → Ran IsTextOf left failed written faults a b out out' (Memory refused)
  ran-memory a b out out' took unwritten = record {
    input = took.input;
    took = took.took;
    within = took.within;
    prompt = took.prompt;
    read = Err (stops.Memory refused);
    came = tt;
    cause = λ is. absurd cc;
    followed = (refl, unwritten);
  }

  -- the reading stopped before START
  stop_fault : (stop : Stop) → status_of stop ≡ ReadFault → stop ≡ stops.Early early.ReadFault
  stop_fault (stops.Header line reason) is = absurd cc
  stop_fault (stops.Early early.Cut) is = absurd cc
  stop_fault (stops.Early early.ReadFault) is = refl
  stop_fault (stops.Early early.TooMuch) is = absurd cc
  stop_fault (stops.Memory memory) is = absurd cc

  pub ran-stopped : (a b : S) (out : K) (stop : Stop) (status : Status) → HasStopped left failed a b stop → status ≡ status_of stop → Ran IsTextOf left failed written faults a b out out status
  ran-stopped a b out stop status has is = record {
    input = has.input;
    took = has.took;
    within = has.within;
    prompt = has.prompt;
    read = Err stop;
    came = has.stopped;
    cause = λ fault. has.cause (stop_fault stop fault);
    followed = (is, refl);
  }

  -- a text was written, whole or in part
  written_so : {T : Type 0} (result : Result T OutFault) (before now : K) (end : TextEnd) (input : List ℕ) (known : Option (List ℕ)) (is_output : List ℕ → Type 0) → ((text : List ℕ) → is_output text → IsTextOf end input known text)
      → WroteOutput written faults before now is_output result → RanText IsTextOf written faults before now end input known (written_status end result)
  written_so (Ok done) before now end input known is_output outputs wrote = inl (refl, (wrote.text, outputs wrote.text wrote.is_text, wrote.ok))
  written_so (Err outs.Write) before now end input known is_output outputs wrote = inr (inl (refl, (wrote.text, outputs wrote.text wrote.is_text, wrote.fault), wrote.cause refl))
  written_so (Err (outs.Memory memory)) before now end input known is_output outputs wrote = inr (inr (refl, inr (wrote.text, outputs wrote.text wrote.is_text, wrote.fault)))

  -- a text was served to its end, and written, whole or in part
  pub ran-text : {T : Type 0} (result : Result T OutFault) (a b : S) (out out' : K) (reading : Reading) (h : Header) (sent : List Sent) (end : TextEnd) (status : Status) (is_output : List ℕ → Type 0) (has : HasRead left failed a b reading h sent) → reading.end ≡ Some end
      → ((text : List ℕ) → is_output text → IsTextOf end has.input (left b) text) → WroteOutput written faults out out' is_output result → status ≡ written_status end result → Ran IsTextOf left failed written faults a b out out' status
  ran-text result a b out out' reading h sent end status is_output has ended outputs wrote is = record {
    input = has.input;
    took = has.took;
    within = has.within;
    prompt = has.prompt;
    read = Ok end;
    came = ((h, has.says.session), subst (ProgressedBehind [] (left b) has.input) ended has.ended);
    cause = λ fault. has.cause (ended ∙ read_status end fault);
    followed = subst (RanText IsTextOf written faults out out' end has.input (left b)) (sym is) (written_so result out out' end has.input (left b) is_output outputs wrote);
  }

module _ (IsRight : Header → List Sent → List Entry → Type 0) {S K : Type 0} (left : S → Option (List ℕ)) (failed : S → ℕ) (written : K → Option (List ℕ)) (faults : K → ℕ) where
  -- the text was served to its end, and its output written
  unfoldable pub output_of : (a b : S) (reading : Reading) (h : Header) (sent : List Sent) (end : TextEnd) (history : List Entry) (text : List ℕ) (has : HasRead left failed a b reading h sent) → reading.end ≡ Some end
      → IsRight h sent history → IsLegal h history → length history ≤ 2 ^ 26 → IsOutput h history (strays_at reading.intake.stage) (ending_of end) text → IsOutputOf IsRight end has.input (left b) text
  output_of a b reading h sent end history text has ended right legal few output = record {
    at_its_end = subst (ProgressedBehind [] (left b) has.input) ended has.ended;
    session = h;
    of_its_header = has.says.session;
    history = history;
    of_its_commands = subst (λ (all : List Sent). IsRight h all history) has.says.sent_is right;
    exactly = subst (λ (strays : ℕ). IsOutput h history strays (ending_of end) text) has.says.strays_is output;
    as_listed = outputs_list h history (strays_at reading.intake.stage) (ending_of end) text legal (omega (arith, few)) output;
  }

  pub ran-written : {T : Type 0} (result : Result T OutFault) (a b : S) (out out' : K) (reading : Reading) (h : Header) (sent : List Sent) (end : TextEnd) (history : List Entry) (strays : ℕ) (status : Status) → HasRead left failed a b reading h sent → reading.end ≡ Some end
      → strays ≡ strays_at reading.intake.stage → IsRight h sent history → IsLegal h history → length history ≤ 2 ^ 26 → WroteOutput written faults out out' (IsOutput h history strays (ending_of end)) result
      → status ≡ written_status end result → Ran (IsOutputOf IsRight) left failed written faults a b out out' status
  ran-written result a b out out' reading h sent end history strays status has ended strays_is right legal few wrote is =
      ran-text (IsOutputOf IsRight) left failed written faults result a b out out' reading h sent end status (IsOutput h history strays (ending_of end)) has ended
      (λ text output. output_of a b reading h sent end history text has ended right legal few (subst (λ (n : ℕ). IsOutput h history n (ending_of end) text) strays_is output)) wrote is

-- out of memory
pub for_memory : {T : Type 0} (result : Result T AmountsMemory) (why : AmountsMemory → Type 0) (P : Result T AmountsMemory → Type 0) → IsErrAnd result why → ((memory : AmountsMemory) → P (Err memory)) → P result
for_memory (Ok end) why P is then = absurd is
for_memory (Err memory) why P is then = then memory

-- an output by the names that its parts have
wrote_of : {K T : Type 0} (written : K → Option (List ℕ)) (faults : K → ℕ) (out out' : K) (result : Result T OutFault) (session h : Header) (entries history : List Entry) (strays : ℕ) (ending named : Ending) → session ≡ h → entries ≡ history → ending ≡ named
    → WroteOutput written faults out out' (IsOutput session entries strays ending) result → WroteOutput written faults out out' (IsOutput h history strays named) result
wrote_of written faults out out' result session h entries history strays ending named same are is wrote =
    subst (λ (g : Header). WroteOutput written faults out out' (IsOutput g history strays named) result) same
    (subst (λ (es : List Entry). WroteOutput written faults out out' (IsOutput session es strays named) result) are
    (subst (λ (e : Ending). WroteOutput written faults out out' (IsOutput session entries strays e) result) is wrote))

-- In the order of the lines

-- the commands so far and those of a round are few
pub serving_few : {S : Type 0} {left : S → Option (List ℕ)} {faults : S → ℕ} {a b : S} {reading : Reading} {h : Header} {run : MarketRan HostState DayNotices} {count : ℕ} (sent : List Sent) (serving : IsServing left faults a b reading h run count)
    → sent ≡ sent_at reading.intake.stage → length serving.entries + length sent < 2 ^ 32
serving_few {reading = reading} sent serving is =
    omega (arith, round_few (map sent_by serving.entries) (sent_at reading.intake.stage) serving.has_journal.has_read, length-map serving.entries sent_by, ap (λ (all : List Sent). length all) is)

-- the lines of what was sent are those of the entries
lines_of_entries : (h : Header) (entries : List Entry) → sent_lines h (map sent_by entries) ≡ flat_map (entry_line h) entries
lines_of_entries h [] = refl
lines_of_entries h (entry ∷ entries) = ap (λ (lines : List ℕ). entry_line h entry ++ lines) (lines_of_entries h entries)

-- a run that opens has served nothing
pub serving_open : {S : Type 0} {left : S → Option (List ℕ)} {faults : S → ℕ} {a b : S} {reading : Reading} {h : Header} (session : Header) (run : MarketRan HostState DayNotices) → HasJournal left faults a b reading h (sent_at reading.intake.stage)
    → session_at reading.intake.stage ≡ Some session → HasServed stands tells session [] run → IsServing left faults a b reading h run 0
serving_open session run has is opens = record {
  entries = [];
  has_journal = has;
  has_served = subst (λ (g : Header). HasServed stands tells g [] run) (same_session session has.has_read is) opens;
  counted = refl;
}

-- the commands of a round can be served
pub may_serve : {S : Type 0} {left : S → Option (List ℕ)} {faults : S → ℕ} {a b : S} {reading : Reading} {h : Header} {count : ℕ} (session : Header) (run : MarketRan HostState DayNotices) (sent : List Sent) → IsServing left faults a b reading h run count
    → session_at reading.intake.stage ≡ Some session → sent ≡ sent_at reading.intake.stage → MayServe stands tells session run sent
may_serve {reading = reading} {h = h} session run sent serving session_is is =
    let valid : Each (IsSentOf h) (sent_at reading.intake.stage) = round_valid h (map sent_by serving.entries) (sent_at reading.intake.stage) serving.has_journal.has_read.says.valid in
    subst (λ (g : Header). MayServe stands tells g run sent) (sym (same_session session serving.has_journal.has_read session_is))
    (record {
      entries = serving.entries;
      has_served = serving.has_served;
      valid = subst (Each (IsSentOf h)) (sym is) valid;
      few = omega (arith, serving_few sent serving is);
    })

-- and then they are
pub round_served : {S : Type 0} {left : S → Option (List ℕ)} {faults : S → ℕ} {a b : S} {reading : Reading} {h : Header} {count : ℕ} (session : Header) (was now : MarketRan HostState DayNotices) (sent : List Sent) (more : ℕ)
    → IsServing left faults a b reading h was count → session_at reading.intake.stage ≡ Some session → sent ≡ sent_at reading.intake.stage → ServesOn stands tells session was now sent → more ≡ length sent → HasServedRound left faults a b reading h now (count + more)
round_served {left = left} {faults = faults} {a = a} {b = b} {reading = reading} {h = h} session was now sent more serving session_is is on counted =
    let went = (subst (λ (g : Header). ServesOn stands tells g was now sent) (same_session session serving.has_journal.has_read session_is) on) serving.entries serving.has_served in
    let many : length went.more ≡ length sent = sym (length-map went.more sent_by) ∙ ap (λ (all : List Sent). length all) went.sent_is in
    record {
      entries = serving.entries ++ went.more;
      has_journal = subst (λ (all : List Sent). HasJournal left faults a b reading h all)
          (sym (map-append sent_by serving.entries went.more ∙ ap (λ (more : List Sent). map sent_by serving.entries ++ more) (went.sent_is ∙ is))) serving.has_journal;
      has_served = went.has_served;
      counted = ap₂ (λ (n m : ℕ). n + m) serving.counted (counted ∙ sym many) ∙ sym (length-append serving.entries went.more);
    }

-- the lines that were kept of what was served, and their count, are its journal
pub journal_served : {S : Type 0} {left : S → Option (List ℕ)} {faults : S → ℕ} {a b : S} {reading : Reading} {h : Header} {run : MarketRan HostState DayNotices} {count : ℕ} (session : Header) (journal : JournalText) (all : HasServedRound left faults a b reading h run count)
    → session_at reading.intake.stage ≡ Some session → journal.count ≡ count → journal.lines.items ≡ journal_at reading.intake.stage → IsJournalOf session all.entries journal
journal_served {h = h} session journal all is counted kept = record {
  count = counted ∙ all.counted;
  lines = kept ∙ all.has_journal.lines ∙ ap (λ (g : Header). sent_lines g (map sent_by all.entries)) (sym (same_session session all.has_journal.has_read is)) ∙ lines_of_entries session all.entries;
}

-- it has served the text, and its output was written
pub serial_ran : {S K T : Type 0} (left : S → Option (List ℕ)) (failed : S → ℕ) (written : K → Option (List ℕ)) (faults : K → ℕ) (result : Result T OutFault) (a b : S) (out out' : K) (reading : Reading) (h session : Header) (run : MarketRan HostState DayNotices) (count : ℕ) (end : TextEnd) (strays : ℕ) (ending : Ending) (status : Status)
    → (served : IsServed left failed a b reading h run count end) → session_at reading.intake.stage ≡ Some session → strays_at reading.intake.stage ≡ strays → ending ≡ ending_of end
    → (HasServed stands tells session served.all.entries run → WroteOutput written faults out out' (IsOutput session served.all.entries strays ending) result) → status ≡ written_status end result
    → Ran (IsOutputOf IsSerial) left failed written faults a b out out' status
serial_ran left failed written faults result a b out out' reading h session run count end strays ending status served is strays_is ending_is wrote status_is =
    let all = served.all in
    let same : session ≡ h = same_session session all.has_journal.has_read is in
    ran-written IsSerial left failed written faults result a b out out' reading h (map sent_by all.entries) end all.entries strays status all.has_journal.has_read served.ended (sym strays_is)
    (serial_of h (map sent_by all.entries) all.entries all.has_served.legal refl) all.has_served.legal
    (omega (arith, all.has_journal.has_read.says.few, all.has_journal.has_read.within, length-map all.entries sent_by))
    (wrote_of written faults out out' result session h all.entries all.entries strays ending (ending_of end) same refl ending_is
    (wrote (subst (λ (g : Header). HasServed stands tells g all.entries run) (sym same) all.has_served))) status_is

-- On threads

pub can_serve_lanes : {S : Type 0} {left : S → Option (List ℕ)} {faults : S → ℕ} {a b : S} {reading : Reading} (h : Header) (served sent : List Sent) (lanes : List (Lane (Witness Entry))) → HasRead left faults a b reading h (served ++ sent_at reading.intake.stage) → HaveServed h served lanes
    → sent ≡ sent_at reading.intake.stage → CanServeLanes h lanes sent
can_serve_lanes {reading = reading} h served sent lanes has are is = record {
  sent = served;
  served = are;
  valid = subst (Each (IsSentOf h)) (sym is) (round_valid h served (sent_at reading.intake.stage) has.says.valid);
  few = omega (arith, round_few served (sent_at reading.intake.stage) has, ap (λ (all : List Sent). length all) is);
}

-- the history that threads made of the text, and its output was written
pub history_stands : {S : Type 0} {left : S → Option (List ℕ)} {failed : S → ℕ} {a b : S} {reading : Reading} {h : Header} {end : TextEnd} {history : List Entry} {market : HostState} (session : Header) (entries : List Entry) → IsHistoryOfText left failed a b reading h end history market → session_at reading.intake.stage ≡ Some session → entries ≡ history
    → IsLegal session entries × stands market session (state session entries)
history_stands {history = history} {market = market} session entries is session_is are =
    let same : session ≡ _ = same_session session is.has_read session_is in (
      subst (λ (es : List Entry). IsLegal session es) (sym are) (subst (λ (g : Header). IsLegal g history) (sym same) is.legal),
      subst (λ (es : List Entry). stands market session (state session es)) (sym are) (subst (λ (g : Header). stands market g (state g history)) (sym same) is.at_the_end),
    )

pub threads_ran : {S K T : Type 0} (left : S → Option (List ℕ)) (failed : S → ℕ) (written : K → Option (List ℕ)) (faults : K → ℕ) (result : Result T OutFault) (a b : S) (out out' : K) (reading : Reading) (h session : Header) (end : TextEnd) (history entries : List Entry) (market : HostState) (strays : ℕ) (ending : Ending) (status : Status)
    → IsHistoryOfText left failed a b reading h end history market → session_at reading.intake.stage ≡ Some session → entries ≡ history → strays_at reading.intake.stage ≡ strays → ending ≡ ending_of end
    → WroteOutput written faults out out' (IsOutput session entries strays ending) result → status ≡ written_status end result → Ran (IsOutputOf IsHeadline) left failed written faults a b out out' status
threads_ran left failed written faults result a b out out' reading h session end history entries market strays ending status is session_is are strays_is ending_is wrote status_is =
    ran-written IsHeadline left failed written faults result a b out out' reading h is.sent end history strays status is.has_read is.ended (sym strays_is)
    (headline_of h is.sent history is.legal is.streams) is.legal
    (omega (arith, is.has_read.says.few, is.has_read.within, streams-length is.sent history is.streams))
    (wrote_of written faults out out' result session h entries history strays ending (ending_of end) (same_session session is.has_read session_is) are ending_is wrote) status_is

-- lanes that served a round's commands
pub lanes_served : (h : Header) (all sent round : List Sent) (lanes : List (Lane (Witness Entry))) → sent ≡ round → HaveServed h (all ++ sent) lanes → HaveServed h (all ++ round) lanes
lanes_served h all sent round lanes is are = subst (λ (more : List Sent). HaveServed h (all ++ more) lanes) is are
