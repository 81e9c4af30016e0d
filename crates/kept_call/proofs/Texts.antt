-- A text that is kept round by round: its next round, its end, and a fault.
use Rattle.std.proofs.Common.{ℕ, ◌≡◌, ◌+◌, List, [], ◌++◌, length, map, Option, Some, Result, Ok, Err, ap, sym, ◌∙◌, subst, arith, append_assoc, append-nil, length-append}
use Rattle.std.specs.Prelude.{IsErrAnd}
use Rattle.std.proofs.lemmas.List.{length-map}
use mathlib.Core.List.{IsPrefix}
use Rattle.fx_rules.specs.declared.command.Sent.{Sent}
use Rattle.fx_rules.specs.declared.outcome.Entry.{Entry}
use Rattle.fx_rules.specs.Lists.{Each}
use Rattle.fx_rules.specs.Session.{Header}
use Rattle.fx_rules.specs.Sending.{IsSentOf, sent_by}
use Rattle.fx_chronicle.specs.Faces.{Witness}
use Rattle.gateway_workers.specs.declared.lane.Lane.{Lane}
use Rattle.gateway_workers.specs.SenderLanes.{CanServe}
use Rattle.session_script.specs.Script.{HasSession, sent_in}
use Rattle.session_script.specs.Stage.{sent_at}
use Rattle.session_script.specs.Rounds.{HasReadBehind, TookOnBehind}
use Rattle.session_script.specs.declared.ends.TextEnd.{TextEnd}
use Rattle.session_script.specs.declared.reading.Reading.{Reading}
use Rattle.session_script.proofs.RoundLaws.{round_valid}
use Rattle.session_script.proofs.ScriptLaws.{HasSession-more, sent_in-begins}
use Rattle.keep_disk.specs.declared.rounds.RunFault.{RunFault}
use Rattle.kept_call.specs.Running.{Start, KeepsOn, HasKeptSome}
use Rattle.kept_call.specs.RunText.{IsKeeping, HasKeptText, HasStoppedText, KeptText}
use Rattle.kept_call.proofs.Streams.{begun-longer}
use Rattle.kept_call.proofs.RoundKeeping.{stops-short}

module _ {D K S : Type 0} (bytes : D → Option (List ℕ)) (may_leave : D → List ℕ → Type 0) (moment : D → ℕ) (left_since : D → ℕ → List ℕ → Type 0)
    (written : K → Option (List ℕ)) (faults : K → ℕ) (left : S → Option (List ℕ)) (failed : S → ℕ) (front : List ℕ) (before : S) (start : Start D K) (h : Header) where
  abbrev Keeping : D → K → S → Reading → ℕ → ℕ → List (Lane (Witness Entry)) → List ℕ → Type 0
  Keeping disk out source reading place gathered lanes counts = IsKeeping bytes may_leave moment left_since written faults left failed front before start disk out h source reading place gathered lanes counts

  abbrev On : D → K → List Sent → ℕ → ℕ → List (Lane (Witness Entry)) → List ℕ → Type 0
  On disk out sent place gathered lanes counts = KeepsOn bytes may_leave moment left_since written faults start disk out h sent place gathered lanes counts

  abbrev KeptSome : D → K → List Sent → Type 0
  KeptSome disk out sent = HasKeptSome bytes may_leave moment left_since written faults start disk out h sent

  abbrev StoppedText : D → K → S → Reading → Type 0
  StoppedText disk out source reading = HasStoppedText bytes may_leave moment left_since written faults left failed front before start disk out h source reading

  -- a fault, whatever it is
  pub stopped-so : (disk : D) (out : K) (source : S) (reading : Reading) (place gathered : ℕ) (lanes : List (Lane (Witness Entry))) (counts : List ℕ) (result : Result TextEnd RunFault) (why : RunFault → Type 0) → IsErrAnd result why → StoppedText disk out source reading
      → KeptText bytes may_leave moment left_since written faults left failed front before start disk out h source reading place gathered lanes counts result
  stopped-so disk out source reading place gathered lanes counts (Ok end) why is stopped = absurd is
  stopped-so disk out source reading place gathered lanes counts (Err fault) why is stopped = stopped

  -- fewer commands are among those of more
  some-longer : (disk : D) (out : K) (sent all : List Sent) → IsPrefix sent all → KeptSome disk out sent → KeptSome disk out all
  some-longer disk out sent all begins some = record {
    entries = some.entries;
    legal = some.legal;
    begun = begun-longer sent all some.entries begins some.begun;
    parts = some.parts;
    joined = some.joined;
    rounds = some.rounds;
    are_rounds = some.are_rounds;
    up_to = some.up_to;
  }

  -- a fault in a round whose commands were read
  pub stops-in : (disk : D) (out : K) (source : S) (reading : Reading) (sent : List Sent) → HasReadBehind front left failed before source reading h sent → KeptSome disk out sent → StoppedText disk out source reading
  stops-in disk out source reading sent has some = record {
    took = record { input = has.input; took = has.took; within = has.within; prompt = has.prompt };
    session = has.says.session;
    stopped = subst (KeptSome disk out) has.says.sent_is some;
  }

  -- out of memory while the next round was read
  pub stops-behind : (disk : D) (out : K) (source source' : S) (reading reading' : Reading) (sent : List Sent) (place gathered : ℕ) (lanes : List (Lane (Witness Entry))) (counts : List ℕ) (has : HasReadBehind front left failed before source reading h sent)
      → On disk out sent place gathered lanes counts → TookOnBehind front left failed before source' has.input → StoppedText disk out source' reading'
  stops-behind disk out source source' reading reading' sent place gathered lanes counts has on took =
      let more : List ℕ = took.1.rest in
      let longer : (front ++ has.input) ++ more ≡ front ++ took.0.input = append_assoc front has.input more ∙ ap (λ (t : List ℕ). front ++ t) (sym took.1.joined) in
      let here : KeptSome disk out (sent ++ []) = stops-short bytes may_leave moment left_since written faults start disk out h sent place gathered lanes counts on [] in
      record {
        took = took.0;
        session = subst (λ (t : List ℕ). HasSession t h) longer (HasSession-more (front ++ has.input) more h has.says.session);
        stopped =
            subst (λ (t : List ℕ). KeptSome disk out (sent_in h t)) longer
            (some-longer disk out (sent_in h (front ++ has.input)) (sent_in h ((front ++ has.input) ++ more)) (sent_in-begins (front ++ has.input) more h has.says.session)
            (subst (KeptSome disk out) (append-nil sent ∙ has.says.sent_is) here));
      }

  module _ (disk : D) (out : K) (source : S) (reading : Reading) (place gathered : ℕ) (lanes : List (Lane (Witness Entry))) (counts : List ℕ) (keeping : Keeping disk out source reading place gathered lanes counts)
      (sent : List Sent) (sent_is : sent ≡ sent_at reading.intake.stage) where
    -- the round's commands can be served
    pub round-can_serve : CanServe h lanes sent
    round-can_serve = record {
      sent = map sent_by start.kept ++ keeping.sent;
      served = keeping.keeps.stands.has_gathered.served;
      valid = subst (Each (IsSentOf h)) (sym sent_is) (round_valid h keeping.sent (sent_at reading.intake.stage) keeping.has_read.says.valid);
      few = omega (
        arith,
        keeping.few,
        keeping.has_read.says.few,
        keeping.has_read.within,
        length-append keeping.sent (sent_at reading.intake.stage),
        length-append (map sent_by start.kept) keeping.sent,
        length-map start.kept sent_by,
        ap (λ (ss : List Sent). length ss) sent_is,
      );
    }

    abbrev all : List Sent
    all = keeping.sent ++ sent_at reading.intake.stage

    all-is : keeping.sent ++ sent ≡ all
    all-is = ap (λ (ss : List Sent). keeping.sent ++ ss) sent_is

    -- a fault of the round
    pub round-stops : (disk' : D) (out' : K) → KeptSome disk' out' (keeping.sent ++ sent) → StoppedText disk' out' source reading
    round-stops disk' out' some = stops-in disk' out' source reading all keeping.has_read (subst (KeptSome disk' out') all-is some)

    module _ (disk' : D) (out' : K) (place' gathered' : ℕ) (lanes' : List (Lane (Witness Entry))) (counts' : List ℕ) (on : On disk' out' (keeping.sent ++ sent) place' gathered' lanes' counts') where
      on-all : On disk' out' all place' gathered' lanes' counts'
      on-all = subst (λ (ss : List Sent). On disk' out' ss place' gathered' lanes' counts') all-is on

      -- the text has ended
      pub round-ends : (end : TextEnd) → reading.end ≡ Some end → HasKeptText bytes may_leave moment left_since written faults left failed front before start disk' out' h source reading place' gathered' lanes' counts' end
      round-ends end ended = record { ended = ended; sent = all; has_read = keeping.has_read; keeps = on-all }

      -- the next round is read
      pub round-next : (source' : S) (reading' : Reading) → HasReadBehind front left failed before source' reading' h (all ++ sent_at reading'.intake.stage) → Keeping disk' out' source' reading' place' gathered' lanes' counts'
      round-next source' reading' has = record { few = keeping.few; sent = all; has_read = has; keeps = on-all }

      -- it could not be read
      pub round-gives_up : (source' : S) (reading' : Reading) → TookOnBehind front left failed before source' keeping.has_read.input → StoppedText disk' out' source' reading'
      round-gives_up source' reading' took = stops-behind disk' out' source source' reading reading' all place' gathered' lanes' counts' keeping.has_read on-all took
