-- A session that is kept and told from its start on: its end, and a fault.
use Rattle.std.proofs.Common.{ℕ, ◌≡◌, List, [], ◌∷◌, ◌++◌, length, take, Option, Some, None, Result, Ok, Err, refl, ap, sym, ◌∙◌, subst, arith, inl, inr, append-nil, take_all, ◌≤◌, ◌^◌, map}
use Rattle.std.specs.Prelude.{IsErrAnd}
use Rattle.std.specs.Io.KnownBytes.{append_known}
use Rattle.std.proofs.lemmas.List.{length-map}
use Rattle.fx_amounts.specs.declared.memory.Memory.{Memory as AmountsMemory}
use Rattle.fx_edges.specs.Writing.{Appended, AppendedPart}
use Rattle.fx_edges.proofs.Writing.{IsPrefixOf-refl, Appended-nil, Appended-append, AppendedPart-cut, AppendedPart-whole}
use Rattle.fx_rules.specs.declared.command.Sent.{Sent}
use Rattle.fx_rules.specs.declared.outcome.Entry.{Entry}
use Rattle.fx_rules.specs.Sending.{sent_by}
use Rattle.fx_rules.specs.Session.{Header}
use Rattle.fx_rules.specs.History.{IsLegal}
use Rattle.fx_chronicle.specs.Streams.{HasStreams, stream_of}
use Rattle.fx_chronicle.specs.Faces.{Witness}
use Rattle.gateway_workers.specs.declared.lane.Lane.{Lane}
use Rattle.keep_disk.specs.declared.rounds.Round.{Round}
use Rattle.keep_disk.specs.declared.rounds.RunFault.{RunFault}
use Rattle.keep_disk.specs.Rounds.{bodies_of, text_of, KeptUpTo}
use Rattle.keep_disk.specs.Blocks.{whole_blocks}
use Rattle.keep_disk.specs.Keeping.{AtRest}
use Rattle.keep_disk.proofs.Telling.{kept_stopped, first_all}
use Rattle.kept_call.specs.Running.{Start, StandsBehind, new_session, AreBegunBy, HasNotBegun}
use Rattle.kept_call.specs.RunText.{IsKeeping, HasKeptText, HasStoppedText}
use Rattle.kept_call.proofs.RoundKeeping.{keeps-from}
use Rattle.kept_call.proofs.Streams.{streams-behind, begun-by}
use Rattle.reply_lines.specs.Output.{IsRestOfOutput}
use Rattle.reply_lines.specs.Faults.{WroteOutput}
use Rattle.reply_lines.specs.declared.output.Ending.{Ending}
use Rattle.reply_lines.specs.declared.output.OutFault.{OutFault}
use Rattle.session_head.specs.HeadText.{head_text_of}
use Rattle.session_script.specs.Reading.{ProgressedBehind}
use Rattle.session_script.specs.Rounds.{HasReadBehind, TookPromptlyBehind}
use Rattle.session_script.specs.Script.{HasSession, sent_in}
use Rattle.session_script.specs.Stage.{sent_at, strays_at}
use Rattle.session_script.specs.declared.ends.EarlyEnd.TheVariants.{ReadFault}
use Rattle.session_script.specs.declared.ends.TextEnd.{TextEnd}
use Rattle.session_script.specs.declared.ends.TextEnd.TheVariants.{Early}
use Rattle.session_script.specs.declared.reading.Reading.{Reading}
use Rattle.kept_call.specs.Ending.{ending_of}
use Rattle.kept_call.specs.Fault.{of_run, of_out}
use Rattle.kept_call.specs.Kept.{AtReturn, AnsweredSo, StopsASession}
use Rattle.kept_call.specs.inside.Served.{Served, gone_on}
use Rattle.kept_call.specs.declared.fault.KeptFault.{KeptFault}
use Rattle.kept_call.specs.declared.fault.KeptFault.TheVariants.{Memory}
use Rattle.kept_call.proofs.Faults.{for_err, run_stops, out_stops}
use Rattle.kept_call.proofs.Opening.{kept-at_rest}

module _ {D K S : Type 0} (bytes : D → Option (List ℕ)) (may_leave : D → List ℕ → Type 0) (moment : D → ℕ) (left_since : D → ℕ → List ℕ → Type 0)
    (written : K → Option (List ℕ)) (faults : K → ℕ) (left : S → Option (List ℕ)) (failed : S → ℕ) (front : List ℕ) (before : S) (start : Start D K) (h : Header) where
  abbrev So : D → K → S → Result TextEnd KeptFault → Type 0
  So disk out source result = Served bytes may_leave moment left_since written faults left failed front before start disk out h source result

  -- it stopped in a round, or between two
  pub served-stopped : (disk : D) (out : K) (source : S) (reading : Reading) (fault : RunFault) → HasStoppedText bytes may_leave moment left_since written faults left failed front before start disk out h source reading → So disk out source (Err (of_run fault))
  served-stopped disk out source reading fault has =
      let some = has.stopped in
      record {
        took = has.took;
        session = has.session;
        read_fault = λ is. absurd cc;
        rounds = some.rounds;
        count = some.up_to.count;
        moments = some.up_to.every_moment;
        at_return = some.up_to.kept;
        told = inr (record {
          session = has.session;
          entries = some.entries;
          legal = some.legal;
          begun = some.begun;
          parts = some.parts;
          joined = some.joined;
          are_rounds = some.are_rounds;
          within = some.up_to.within;
          ended = None;
          rest = [];
          ended_so = refl;
          told = subst (λ (t : List ℕ). AppendedPart written faults start.out out t) (sym (append-nil (text_of (take some.up_to.count some.rounds)))) some.up_to.told;
          answered = run_stops fault;
        });
      }

  module _ (disk : D) (out : K) (source : S) (reading : Reading) (place gathered : ℕ) (lanes : List (Lane (Witness Entry))) (counts : List ℕ) (end : TextEnd)
      (has : HasKeptText bytes may_leave moment left_since written faults left failed front before start disk out h source reading place gathered lanes counts end) where
    abbrev text : List ℕ
    text = front ++ has.has_read.input

    abbrev entries : List Entry
    entries = has.keeps.entries

    abbrev rounds : List Round
    rounds = has.keeps.has_kept.rounds

    streams : HasStreams (sent_in h text) entries
    streams = subst (λ (ss : List Sent). HasStreams ss entries) has.has_read.says.sent_is (streams-behind start.kept entries has.sent has.keeps.stands.has_gathered.streams)

    begun : AreBegunBy (sent_in h text) entries
    begun = subst (λ (ss : List Sent). AreBegunBy ss entries) (append-nil has.sent ∙ has.has_read.says.sent_is) (begun-by start.kept entries has.sent [] has.keeps.stands.has_gathered.streams)

    up_to : KeptUpTo bytes may_leave moment left_since written faults start.disk disk start.out out rounds
    up_to = kept_stopped bytes may_leave moment left_since written faults start.disk disk start.out out rounds has.keeps.has_kept.so_far

    -- each image has the blocks of all rounds
    all_kept : AtReturn bytes may_leave start.disk disk rounds (length rounds)
    all_kept = λ file told image may.
        first_all (whole_blocks file) (bodies_of rounds) (length rounds) image (omega (arith, length-map rounds (λ (r : Round). r.body.items))) (has.keeps.has_kept.so_far.kept file told image may)

    all_told : take (length rounds) rounds ≡ rounds
    all_told = take_all (length rounds) rounds (omega arith)

    abbrev all_text : List ℕ → List ℕ
    all_text rest = text_of (take (length rounds) rounds) ++ rest

    all_part : (out' : K) (rest : List ℕ) → AppendedPart written faults out out' rest → AppendedPart written faults start.out out' (all_text rest)
    all_part out' rest part =
        subst (λ (rs : List Round). AppendedPart written faults start.out out' (text_of rs ++ rest)) (sym all_told)
        (AppendedPart-cut has.keeps.has_kept.so_far.told part (IsPrefixOf-refl (text_of rounds ++ rest)))

    all_whole : (out' : K) (rest : List ℕ) → Appended written faults out out' rest → Appended written faults start.out out' (all_text rest)
    all_whole out' rest whole = subst (λ (rs : List Round). Appended written faults start.out out' (text_of rs ++ rest)) (sym all_told) (Appended-append has.keeps.has_kept.so_far.told whole)

    -- it ended, and the rest of its output was written so
    pub served-ended : (session : Header) (strays : ℕ) (out' : K) (result : Result TextEnd KeptFault) (rest : List ℕ) → session ≡ h → strays_at reading.intake.stage ≡ strays
        → IsRestOfOutput session (start.kept ++ entries) strays (ending_of end) rest → AppendedPart written faults out out' rest
        → AnsweredSo written faults start.out out' (Some end) (all_text rest) result → (result ≡ Ok (Early ReadFault) → end ≡ Early ReadFault) → So disk out' source result
    served-ended session strays out' result rest same strays_is is_rest part answered faulted = record {
      took = record { input = has.has_read.input; took = has.has_read.took; within = has.has_read.within; prompt = has.has_read.prompt };
      session = has.has_read.says.session;
      read_fault = λ is. has.has_read.cause (has.ended ∙ ap (λ (e : TextEnd). Some e) (faulted is));
      rounds = rounds;
      count = length rounds;
      moments = up_to.every_moment;
      at_return = all_kept;
      told = inr (record {
        session = has.has_read.says.session;
        entries = entries;
        legal = has.keeps.stands.has_gathered.legal;
        begun = begun;
        parts = has.keeps.has_kept.parts;
        joined = has.keeps.has_kept.joined;
        are_rounds = has.keeps.has_kept.are_rounds;
        within = omega arith;
        ended = Some end;
        rest = rest;
        ended_so = record {
          at_its_end = subst (ProgressedBehind front (left source) has.has_read.input) has.ended has.has_read.ended;
          each_sender_in_order = streams;
          all_rounds = refl;
          from_books =
              subst (λ (n : ℕ). IsRestOfOutput h (start.kept ++ entries) n (ending_of end) rest) (sym strays_is ∙ has.has_read.says.strays_is)
              (subst (λ (g : Header). IsRestOfOutput g (start.kept ++ entries) strays (ending_of end) rest) same is_rest);
        };
        told = all_part out' rest part;
        answered = answered;
      });
    }

    abbrev IsRest : Header → ℕ → Ending → List ℕ → Type 0
    IsRest session strays ending rest = IsRestOfOutput session (start.kept ++ entries) strays ending rest

    -- the rest was not written whole
    pub served-cut : {T : Type 0} (session : Header) (strays : ℕ) (ending : Ending) (out' : K) (wrote : Result T OutFault) (fault : OutFault) → wrote ≡ Err fault → session ≡ h → strays_at reading.intake.stage ≡ strays → ending ≡ ending_of end
        → WroteOutput written faults out out' (IsRest session strays ending) wrote → So disk out' source (Err (of_out fault))
    served-cut session strays ending out' wrote fault is same strays_is ending_is has =
        let told = subst (λ (w : Result _ OutFault). WroteOutput written faults out out' (IsRest session strays ending) w) is has in
        served-ended session strays out' (Err (of_out fault)) told.text same strays_is (subst (λ (e : Ending). IsRest session strays e told.text) ending_is told.is_text) told.fault
        (out_stops fault) (λ is. absurd cc)

    -- it was
    pub served-whole : {T : Type 0} (session : Header) (strays : ℕ) (ending : Ending) (out' : K) (wrote : Result T OutFault) (value : T) → wrote ≡ Ok value → session ≡ h → strays_at reading.intake.stage ≡ strays → ending ≡ ending_of end
        → WroteOutput written faults out out' (IsRest session strays ending) wrote → So disk out' source (Ok end)
    served-whole session strays ending out' wrote value is same strays_is ending_is has =
        let told = subst (λ (w : Result _ OutFault). WroteOutput written faults out out' (IsRest session strays ending) w) is has in
        served-ended session strays out' (Ok end) told.text same strays_is (subst (λ (e : Ending). IsRest session strays e told.text) ending_is told.is_text) (AppendedPart-whole told.ok)
        (refl, all_whole out' told.text told.ok) (λ is. cc)

  -- out of memory, or a fault, before the header was kept
  pub served-unbegun : (disk : D) (out : K) (source : S) (took : TookPromptlyBehind front left failed before source) (session : HasSession (front ++ took.input) h) (fault : KeptFault) → StopsASession fault
      → KeptUpTo bytes may_leave moment left_since written faults start.disk disk start.out out [] → Appended written faults start.out out [] → So disk out source (Err fault)
  served-unbegun disk out source took session fault stops up_to unwritten = record {
    took = took;
    session = session;
    read_fault = λ is. absurd cc;
    rounds = [];
    count = up_to.count;
    moments = up_to.every_moment;
    at_return = up_to.kept;
    told = inl (record { none = refl; unwritten = unwritten; fault = fault; answers = refl; among = stops });
  }

nil-front : (xs ys : List ℕ) → [] ≡ xs ++ ys → xs ≡ []
nil-front [] ys is = refl
nil-front (x ∷ xs) ys is = absurd cc

take-none : {X : Type 0} (n : ℕ) → take {A = X} n [] ≡ []
take-none n = take_all n [] (omega arith)

-- a part of nothing is nothing
nothing_told : {K : Type 0} (written : K → Option (List ℕ)) (faults : K → ℕ) (out out' : K) (text : List ℕ) → text ≡ [] → AppendedPart written faults out out' text → Appended written faults out out' []
nothing_told written faults out out' text none part =
    let is : part.part ≡ [] = nil-front part.part part.prefix.rest (sym none ∙ part.prefix.joined) in
    record { holds = subst (λ (t : List ℕ). written out' ≡ append_known (written out) t) is part.holds; count = part.count }

module _ {D K S : Type 0} (bytes : D → Option (List ℕ)) (may_leave : D → List ℕ → Type 0) (moment : D → ℕ) (left_since : D → ℕ → List ℕ → Type 0)
    (written : K → Option (List ℕ)) (faults : K → ℕ) (left : S → Option (List ℕ)) (failed : S → ℕ) where
  -- a new session whose header was not kept, or was with a fault then
  pub served-not_begun : (before : S) (d0 d : D) (k0 k : K) (h : Header) (source : S) (reading : Reading) (sent : List Sent) (fault : RunFault) → HasReadBehind [] left failed before source reading h sent → IsLegal h []
      → HasNotBegun bytes may_leave moment left_since written faults (new_session h d0 k0) d k h → Served bytes may_leave moment left_since written faults left failed [] before (new_session h d0 k0) d k h source (Err (of_run fault))
  served-not_begun before d0 d k0 k h source reading sent fault has legal not_begun =
      let took : TookPromptlyBehind [] left failed before source = record { input = has.input; took = has.took; within = has.within; prompt = has.prompt } in
      elim not_begun.at_most [
        | inl none ↦
            let up_to = subst (λ (rs : List Round). KeptUpTo bytes may_leave moment left_since written faults d0 d k0 k rs) none not_begun.up_to in
            served-unbegun bytes may_leave moment left_since written faults left failed [] before (new_session h d0 k0) h d k source took has.says.session (of_run fault) (run_stops fault)
            up_to (nothing_told written faults k0 k (text_of (take up_to.count [])) (ap text_of (take-none up_to.count)) up_to.told)
        | inr are ↦ record {
          took = took;
          session = has.says.session;
          read_fault = λ is. absurd cc;
          rounds = not_begun.rounds;
          count = not_begun.up_to.count;
          moments = not_begun.up_to.every_moment;
          at_return = not_begun.up_to.kept;
          told = inr (record {
            session = has.says.session;
            entries = [];
            legal = legal;
            begun = λ bank. (stream_of bank (sent_in h has.input), refl);
            parts = [];
            joined = refl;
            are_rounds = are;
            within = not_begun.up_to.within;
            ended = None;
            rest = [];
            ended_so = refl;
            told = subst (λ (t : List ℕ). AppendedPart written faults k0 k t) (sym (append-nil (text_of (take not_begun.up_to.count not_begun.rounds)))) not_begun.up_to.told;
            answered = run_stops fault;
          });
        }
      ]

-- the input of a reading
abbrev pub promptly-taken : {front : List ℕ} {S : Type 0} {left : S → Option (List ℕ)} {failed : S → ℕ} {a b : S} {reading : Reading} {h : Header} {all : List Sent} → HasReadBehind front left failed a b reading h all → TookPromptlyBehind front left failed a b
promptly-taken has = record { input = has.input; took = has.took; within = has.within; prompt = has.prompt }

nil-back : {X : Type 0} (xs ys : List X) → [] ≡ xs ++ ys → ys ≡ []
nil-back [] ys is = sym is
nil-back (x ∷ xs) ys is = absurd cc

-- a reading that goes on behind a header has said nothing
pub resumed-here : {front : List ℕ} {S : Type 0} {left : S → Option (List ℕ)} {failed : S → ℕ} {a b : S} {reading : Reading} {h : Header} → HasReadBehind front left failed a b reading h [] → HasReadBehind front left failed a b reading h (sent_at reading.intake.stage)
resumed-here {front = front} {left = left} {failed = failed} {a = a} {b = b} {reading = reading} {h = h} has =
    subst (λ (ss : List Sent). HasReadBehind front left failed a b reading h ss) (sym (nil-back has.former.sent (sent_at reading.intake.stage) has.all_is)) has

-- behind the header of a known session
pub resumed : {S : Type 0} (left : S → Option (List ℕ)) (failed : S → ℕ) {source : S} {reading : Reading} {session h : Header} → session ≡ h → HasReadBehind (head_text_of session) left failed source source reading session []
    → HasReadBehind (head_text_of h) left failed source source reading h []
resumed left failed {source = source} {reading = reading} same has = subst (λ (x : Header). HasReadBehind (head_text_of x) left failed source source reading x []) same has

-- out of memory, where nothing was done since the file was opened
module _ {D K S : Type 0} (bytes : D → Option (List ℕ)) (may_leave : D → List ℕ → Type 0) (moment : D → ℕ) (left_since : D → ℕ → List ℕ → Type 0)
    (written : K → Option (List ℕ)) (faults : K → ℕ) (left : S → Option (List ℕ)) (failed : S → ℕ) (only_now : (disk : D) (image : List ℕ) → left_since disk (moment disk) image → may_leave disk image) where
  pub served-short : (front : List ℕ) (before : S) (kept : List Entry) (head : List (List ℕ)) (h : Header) (d : D) (k : K) (place : ℕ) (source : S) → AtRest bytes may_leave d place → (took : TookPromptlyBehind front left failed before source) → HasSession (front ++ took.input) h
      → (memory : AmountsMemory) (result : Result TextEnd KeptFault) → IsErrAnd result (λ fault. fault ≡ Memory memory)
      → Served bytes may_leave moment left_since written faults left failed front before (record { disk = d; out = k; kept = kept; front = head }) d k h source result
  served-short front before kept head h d k place source at_rest took session memory result is =
      for_err result (Memory memory) (λ (r : Result TextEnd KeptFault). Served bytes may_leave moment left_since written faults left failed front before (record { disk = d; out = k; kept = kept; front = head }) d k h source r) is
      (served-unbegun bytes may_leave moment left_since written faults left failed front before (record { disk = d; out = k; kept = kept; front = head }) h d k source took session (Memory memory) tt
      (kept_stopped bytes may_leave moment left_since written faults d d k k [] (kept-at_rest bytes may_leave moment left_since written faults d k place (only_now d) at_rest)) (Appended-nil written faults k))

  -- a kept history was replayed, and its text is read behind the header
  pub keeps-resumed : (kept items : List Entry) (h : Header) (d : D) (k : K) (opened place gathered : ℕ) (lanes : List (Lane (Witness Entry))) (counts : List ℕ) (source : S) (reading : Reading) → length kept ≤ 2 ^ 24 → HasReadBehind (head_text_of h) left failed source source reading h []
      → items ≡ kept → StandsBehind h (map sent_by items) items gathered lanes counts → place ≡ opened → AtRest bytes may_leave d opened
      → IsKeeping bytes may_leave moment left_since written faults left failed (head_text_of h) source (gone_on kept d k) d k h source reading place gathered lanes counts
  keeps-resumed kept items h d k opened place gathered lanes counts source reading few has are stands placed at_rest = record {
    few = few;
    sent = [];
    has_read = resumed-here has;
    keeps = keeps-from bytes may_leave moment left_since written faults d d k k h kept place gathered lanes counts
        (subst (λ (es : List Entry). StandsBehind h (map sent_by es) es gathered lanes counts) are stands)
        (kept-at_rest bytes may_leave moment left_since written faults d k opened (only_now d) at_rest) (subst (AtRest bytes may_leave d) (sym placed) at_rest);
  }
