-- Rounds of a text that is watched.
use Rattle.std.proofs.Common.{ℕ, ◌≡◌, ◌+◌, ◌≤◌, ◌<◌, ◌^◌, List, [], ◌∷◌, ◌++◌, length, take, drop, get_or, Option, Some, Result, Ok, Err, refl, ap, sym, ◌∙◌, subst, arith, append_assoc, append-nil, length-append}
use Rattle.std.specs.Prelude.{◌%◌, IsErrAnd, IfSome}
use Rattle.std.specs.Option.{option_to_list}
use Rattle.std.proofs.lemmas.List.{take_more, take-append-drop}
use mathlib.Core.List.{IsPrefix}
use Rattle.fx_amounts.specs.declared.memory.Memory.{Memory}
use Rattle.fx_rules.specs.declared.command.Sent.{Sent}
use Rattle.fx_rules.specs.declared.outcome.Entry.{Entry}
use Rattle.fx_rules.specs.Lists.{Each}
use Rattle.fx_rules.specs.Session.{Header, pair_count}
use Rattle.fx_rules.specs.Sending.{IsSentOf}
use Rattle.fx_rules.specs.State.{State, opening}
use Rattle.fx_rules.specs.History.{IsLegal, Steps, after_entry}
use Rattle.fx_chronicle.specs.Faces.{Witness}
use Rattle.fx_chronicle.proofs.Prefixes.{prefix_trans, prefix_length}
use Rattle.fx_chronicle.proofs.Streams.{streams-length}
use Rattle.gateway_workers.specs.declared.lane.Lane.{Lane}
use Rattle.session_script.specs.Stage.{sent_at}
use Rattle.session_script.specs.Rounds.{HasRead}
use Rattle.session_script.specs.declared.reading.Reading.{Reading as TextReading}
use Rattle.session_script.proofs.RoundLaws.{round_valid, round_few}
use Rattle.gateway_workers.specs.SenderLanes.{CanServe, HaveServed}
use Rattle.gateway_workers.specs.Gathering.{HaveGathered, HaveGatheredAll}
use Rattle.view_feed.specs.Feeds.{Feeding, Reading, Stretch, opened_reader}
use Rattle.watched_run.specs.Looks.{Due, Shows, pair_due, rounds_due, all_due}
use Rattle.watched_run.specs.Watched.{HasWatched}
use Rattle.watched_run.specs.inside.Watching.{HasPublished, IsOfFeed, IsWatching, ShowsMore, ShowsWhole, SeesWhole}
use Rattle.watched_run.specs.declared.screen.Screen.{Screen}
use Rattle.watched_run.proofs.Looks.{commands, rounds_due-more, are-rounds-more, few-rounds, shows-none}

-- ---- legal histories

steps-front : (h : Header) (S : State) (xs ys : List Entry) → Steps h S (xs ++ ys) → Steps h S xs
steps-front h S [] ys steps = tt
steps-front h S (e ∷ xs) ys steps = (steps.0, steps-front h (after_entry S e) xs ys steps.1)

-- a beginning of a legal history is legal
pub legal-front : (h : Header) (xs ys : List Entry) → IsLegal h (xs ++ ys) → IsLegal h xs
legal-front h xs ys legal = record { session = legal.session; steps = steps-front h (opening h) xs ys legal.steps }

-- so many entries of those that come, and one more
pub legal-next : (h : Header) (before entries : List Entry) (i : ℕ) (e : Entry) → i < length entries → e ≡ get_or entries i e → IsLegal h (before ++ entries) → IsLegal h ((before ++ take i entries) ++ e ∷ [])
legal-next h before entries i e within is legal =
    let more : take (i + 1) entries ≡ take i entries ++ e ∷ [] = take_more entries i e within ∙ ap (λ (d : Entry). take i entries ++ d ∷ []) (sym is) in
    let all : before ++ entries ≡ ((before ++ take i entries) ++ e ∷ []) ++ drop (i + 1) entries =
    ap (λ (es : List Entry). before ++ es) (sym (take-append-drop (i + 1) entries) ∙ ap (λ (es : List Entry). es ++ drop (i + 1) entries) more)
    ∙ sym (append_assoc before (take i entries ++ e ∷ []) (drop (i + 1) entries))
    ∙ ap (λ (es : List Entry). es ++ drop (i + 1) entries) (sym (append_assoc before (take i entries) (e ∷ []))) in
    legal-front h ((before ++ take i entries) ++ e ∷ []) (drop (i + 1) entries) (subst (IsLegal h) all legal)

-- the next piece of those that come
pub legal-part : (h : Header) (published piece rest left before entries : List Entry) → published ++ left ≡ before ++ entries → left ≡ piece ++ rest → IsLegal h (before ++ entries) → IsLegal h (published ++ piece)
legal-part h published piece rest left before entries all part legal =
    legal-front h (published ++ piece) rest
    (subst (IsLegal h) (sym all ∙ ap (λ (es : List Entry). published ++ es) part ∙ sym (append_assoc published piece rest)) legal)

-- ---- one round

module _ (h : Header) (sent : List Sent) (gathered : ℕ) (lanes : List (Lane (Witness Entry))) (feed : Feeding) (screen : Screen) (is : IsWatching h sent gathered lanes feed screen) where
  -- there are few rounds
  pub few-watched : length sent < 2 ^ 32 → screen.rounds < 2 ^ 32
  few-watched few = omega (arith, is.counted, few-rounds sent is.rounds is.are_rounds)

  module _ (round : List Sent) (more : List Entry) (gathered' : ℕ) (lanes' : List (Lane (Witness Entry))) (all : HaveGatheredAll h (sent ++ round) (is.entries ++ more) gathered' lanes') where
    -- what is published next
    pub legal-here : IsLegal feed.session (feed.published ++ more)
    legal-here =
        subst (λ (g : Header). IsLegal g (feed.published ++ more)) (sym is.session)
        (subst (λ (es : List Entry). IsLegal h (es ++ more)) (sym is.published) all.legal)

    module _ (feed' : Feeding) (published : HasPublished more feed feed') where
      watches-more : (screen' : Screen) → 0 < length round → IsOfFeed screen.reader screen'.reader → feed'.tape ≡ feed.tape → IsPrefix (is.entries ++ more) screen'.reader.known → screen'.rounds ≡ screen.rounds + 1
          → ((dues : List Due) (known : ℕ) → known ≤ length screen.reader.known → Shows h dues screen.reader.seen screen.lines.items → Shows h (dues ++ pair_due h known (screen.rounds % pair_count h)) screen'.reader.seen screen'.lines.items)
          → IsWatching h (sent ++ round) gathered' lanes' feed' screen'
      watches-more screen' some of_feed tape told counted shows =
          let before : length is.entries ≡ length sent = streams-length sent is.entries is.has_gathered.streams in
          let joined : length sent ≡ length (commands is.rounds) = ap (λ (ss : List Sent). length ss) is.are_rounds.joined in
          let known : length is.entries ≤ length screen.reader.known = prefix_length is.entries screen.reader.known is.told in
          let dues : rounds_due h 0 0 (is.rounds ++ round ∷ []) ≡ rounds_due h 0 0 is.rounds ++ pair_due h (length is.entries) (screen.rounds % pair_count h) =
          rounds_due-more h 0 0 is.rounds round
          ∙ ap (λ (k : ℕ). rounds_due h 0 0 is.rounds ++ pair_due h k ((0 + length is.rounds) % pair_count h)) (omega (arith, before, joined))
          ∙ ap (λ (n : ℕ). rounds_due h 0 0 is.rounds ++ pair_due h (length is.entries) (n % pair_count h)) (omega (arith, is.counted)) in
          record {
            rounds = is.rounds ++ round ∷ [];
            are_rounds = are-rounds-more sent round is.rounds is.are_rounds some;
            entries = is.entries ++ more;
            has_gathered = all;
            session = published.session ∙ is.session;
            published = published.published ∙ ap (λ (es : List Entry). es ++ more) is.published;
            pending = published.pending;
            reads = of_feed.session ∙ is.reads;
            tape = of_feed.tape ∙ is.tape ∙ sym tape;
            told = told;
            counted = omega (arith, counted, is.counted, length-append is.rounds (round ∷ []));
            shows = subst (λ (ds : List Due). Shows h ds screen'.reader.seen screen'.lines.items) (sym dues) (shows (rounds_due h 0 0 is.rounds) (length is.entries) known is.shows);
          }

      module _ (mid now : Screen) (some : 0 < length round) (of_feed : IsOfFeed screen.reader mid.reader) (tape : feed'.tape ≡ feed.tape) (counted : mid.rounds ≡ screen.rounds + 1)
          (shows : ShowsMore h (λ known. pair_due h known (screen.rounds % pair_count h)) screen mid) where
        all-is : feed'.published ≡ is.entries ++ more
        all-is = published.published ∙ ap (λ (es : List Entry). es ++ more) is.published

        -- the reader learnt the last note
        pub watches-note : (reader : Reading) (note : Stretch) → now ≡ record { reader = reader; lines = mid.lines; rounds = mid.rounds } → reader ≡ record mid.reader { known = reader.known } → IsPrefix note.entries reader.known
            → note ≡ record { tape = feed'.tape; entries = feed'.published } → IsWatching h (sent ++ round) gathered' lanes' feed' now
        watches-note reader note now_is reader_is knows note_is =
            let at : Screen = record { reader = reader; lines = mid.lines; rounds = mid.rounds } in
            let seen : reader.seen ≡ mid.reader.seen = ap (λ (r : Reading). r.seen) reader_is in
            let told : IsPrefix (is.entries ++ more) reader.known = subst (λ (es : List Entry). IsPrefix es reader.known) (ap (λ (n : Stretch). n.entries) note_is ∙ all-is) knows in
            subst (IsWatching h (sent ++ round) gathered' lanes' feed') (sym now_is)
            (watches-more at some (record { session = ap (λ (r : Reading). r.session) reader_is ∙ of_feed.session; tape = ap (λ (r : Reading). r.tape) reader_is ∙ of_feed.tape }) tape told counted
            (λ dues known least before.
            subst (λ (es : List Entry). Shows h (dues ++ pair_due h known (screen.rounds % pair_count h)) es mid.lines.items) (sym seen) (shows.shows dues known least before)))

        -- there was no entry
        pub watches-none : now ≡ mid → more ≡ [] → IsWatching h (sent ++ round) gathered' lanes' feed' now
        watches-none now_is none =
            let told : IsPrefix (is.entries ++ more) mid.reader.known =
            subst (λ (es : List Entry). IsPrefix es mid.reader.known) (sym (ap (λ (es : List Entry). is.entries ++ es) none ∙ append-nil is.entries)) (prefix_trans is.entries screen.reader.known mid.reader.known is.told shows.known) in
            subst (IsWatching h (sent ++ round) gathered' lanes' feed') (sym now_is) (watches-more mid some of_feed tape told counted shows.shows)

-- ---- the end

-- what was seen of the whole session
pub watched-whole : (h session : Header) (sent : List Sent) (gathered : ℕ) (lanes : List (Lane (Witness Entry))) (feed : Feeding) (was now : Screen) (is : IsWatching h sent gathered lanes feed was) (history : List Entry) (all : ℕ) → session ≡ h → history ≡ is.entries → all ≡ length history
    → ShowsWhole session all (all_due session all) was now → SeesWhole all was now → now.rounds ≡ was.rounds → HasWatched h sent history now.rounds now.lines.items
watched-whole h session sent gathered lanes feed was now is history all same whole counted shows sees rounds =
    let begins : IsPrefix history was.reader.known = subst (λ (es : List Entry). IsPrefix es was.reader.known) (sym whole) is.told in
    let here : ShowsWhole h all (all_due h all) was now = subst (λ (g : Header). ShowsWhole g all (all_due g all) was now) same shows in
    let shown : Shows h (rounds_due h 0 0 is.rounds ++ all_due h all) now.reader.seen now.lines.items = here.shows (rounds_due h 0 0 is.rounds) history (sym counted) begins is.shows in
    record {
      rounds = is.rounds;
      are_rounds = is.are_rounds;
      counted = rounds ∙ is.counted;
      shows =
          subst (λ (n : ℕ). Shows h (rounds_due h 0 0 is.rounds ++ all_due h n) history now.lines.items) counted
          (subst (λ (es : List Entry). Shows h (rounds_due h 0 0 is.rounds ++ all_due h all) es now.lines.items) (sees history (sym counted) begins) shown);
    }

-- a session as it opens
pub watching-opens : (h : Header) (gathered : ℕ) (lanes : List (Lane (Witness Entry))) (feed : Feeding) (screen : Screen) → HaveServed h [] lanes → HaveGathered [] gathered lanes → feed ≡ record { session = h; tape = feed.tape; readers = 1; published = []; pending = [] }
    → screen.reader ≡ opened_reader h feed.tape → screen.lines.items ≡ [] → screen.rounds ≡ 0 → IsWatching h [] gathered lanes feed screen
watching-opens h gathered lanes feed screen served none opens reader lines rounds = record {
  rounds = [];
  are_rounds = record { joined = refl; some = tt };
  entries = [];
  has_gathered = record { served = served; gathered = none; legal = record { session = served.session; steps = tt }; streams = λ bank. refl };
  session = ap (λ (f : Feeding). f.session) opens;
  published = ap (λ (f : Feeding). f.published) opens;
  pending = ap (λ (f : Feeding). f.pending) opens;
  reads = ap (λ (r : Reading). r.session) reader;
  tape = ap (λ (r : Reading). r.tape) reader;
  told = (screen.reader.known, refl);
  counted = rounds;
  shows = subst (Shows h [] screen.reader.seen) (sym lines) (shows-none h screen.reader.seen);
}

-- ---- reading

-- a round's commands can be served, and are few
pub can_serve : {S : Type 0} {left : S → Option (List ℕ)} {faults : S → ℕ} {a b : S} {reading : TextReading} (h : Header) (served sent : List Sent) (lanes : List (Lane (Witness Entry))) → HasRead left faults a b reading h (served ++ sent_at reading.intake.stage) → HaveServed h served lanes
    → sent ≡ sent_at reading.intake.stage → CanServe h lanes sent
can_serve {reading = reading} h served sent lanes has are is = record {
  sent = served;
  served = are;
  valid = subst (Each (IsSentOf h)) (sym is) (round_valid h served (sent_at reading.intake.stage) has.says.valid);
  few = omega (arith, round_few served (sent_at reading.intake.stage) has, ap (λ (all : List Sent). length all) is);
}

pub few_served : {S : Type 0} {left : S → Option (List ℕ)} {faults : S → ℕ} {a b : S} {reading : TextReading} {h : Header} (served sent : List Sent) → HasRead left faults a b reading h (served ++ sent) → length served < 2 ^ 32
few_served served sent has = omega (arith, round_few served sent has)

-- ---- answers

pub some_of : {X : Type 0} (o : Option X) (x : X) (P : X → Type 0) → o ≡ Some x → IfSome o P → P x
some_of o x P is holds = subst (λ q. IfSome q P) is holds

-- out of memory
pub for_memory : {T : Type 0} (result : Result T Memory) (why : Memory → Type 0) (P : Result T Memory → Type 0) → IsErrAnd result why → ((memory : Memory) → P (Err memory)) → P result
for_memory (Ok end) why P is then = absurd is
for_memory (Err memory) why P is then = then memory

each-back : {X : Type 0} (P : X → Type 0) (xs ys : List X) → Each P (xs ++ ys) → Each P ys
each-back P [] ys each = each
each-back P (x ∷ xs) ys each = each-back P xs ys each.1

last_of : {X : Type 0} (P : X → Type 0) (front : List X) (last : Option X) (x : X) → last ≡ Some x → Each P (front ++ option_to_list last) → P x
last_of P front last x is each =
    (each-back P front (x ∷ []) (subst (λ (o : Option _). Each P (front ++ option_to_list o)) is each)).0

-- a session as it opens, with one reader
pub opens-watched : (h session : Header) (gathered : ℕ) (lanes : List (Lane (Witness Entry))) (feed : Feeding) (readers front : List Reading) (last : Option Reading) (screen : Screen) → session ≡ h → HaveServed h [] lanes → HaveGathered [] gathered lanes
    → feed ≡ record { session = session; tape = feed.tape; readers = 1; published = []; pending = [] } → Each (λ (r : Reading). r ≡ opened_reader session feed.tape) readers → readers ≡ front ++ option_to_list last → last ≡ Some screen.reader → screen.lines.items ≡ [] → screen.rounds ≡ 0
    → IsWatching h [] gathered lanes feed screen
opens-watched h session gathered lanes feed readers front last screen same served none feed_is each all last_is lines rounds =
    let its : screen.reader ≡ opened_reader session feed.tape =
    last_of (λ (r : Reading). r ≡ opened_reader session feed.tape) front last screen.reader last_is (subst (Each (λ (r : Reading). r ≡ opened_reader session feed.tape)) all each) in
    watching-opens h gathered lanes feed screen served none
    (subst (λ (s : Header). feed ≡ record { session = s; tape = feed.tape; readers = 1; published = []; pending = [] }) same feed_is)
    (subst (λ (s : Header). screen.reader ≡ opened_reader s feed.tape) same its) lines rounds
