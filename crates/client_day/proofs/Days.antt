-- A day of clients, as what is heard is served.
use Rattle.std.proofs.Common.{ℕ, zero, suc, ◌≡◌, ◌≢◌, ◌+◌, ◌≤◌, ◌<◌, eqb, if◌then◌else◌, Bool, true, false, List, [], ◌∷◌, ◌++◌, length, map, refl, ap, ap₂, sym, subst, ◌∙◌, arith, append-nil, get_or, length-append, Option, Some}
use Rattle.std.proofs.lemmas.List.{length-map, map-append}
use Rattle.std.proofs.lemmas.List.Concat.{flat_map-append}
use Rattle.std.specs.List.{flat_map}
use Rattle.fx_rules.specs.declared.command.Command.{Command}
use Rattle.fx_rules.specs.declared.command.Command.TheVariants.{Order, Cancel, Reduce, Pull, Line, Total, Settle, Show, Book as BookOf, Bad}
use Rattle.fx_rules.specs.declared.command.Sent.{Sent}
use Rattle.fx_rules.specs.declared.outcome.Entry.{Entry}
use Rattle.fx_rules.specs.Sending.{sent_by}
use Rattle.fx_rules.specs.History.{IsLegal}
use Rattle.fx_rules.specs.Session.{Header, pair_count}
use Rattle.fx_rules.specs.Step.{IsCommand, AreValues, fills_of}
use Rattle.client_desk.specs.Clients.{AreClients, HasPassed, IsTagged, Tagged, ask_of, bank_of_client, entries_of, owner_in, tag}
use Rattle.client_desk.specs.Lines.{client_line_of}
use Rattle.client_desk.specs.Standing.{Book, NamesPair, StandsFor}
use Rattle.client_desk.specs.declared.ask.Ask.{Ask}
use Rattle.client_desk.specs.declared.ask.Ask.TheVariants.{Pass}
use Rattle.client_desk.specs.declared.client.Client.{Client}
use Rattle.client_desk.specs.declared.line.ClientLine.{ClientLine}
use Rattle.client_desk.specs.declared.line.ClientLine.TheVariants.{Declares, Of, Plain}
use Rattle.fx_text.specs.declared.line.Line.{Line as TextLine}
use Rattle.client_desk.proofs.Within.{tagged-push}
use Rattle.market_run.specs.Ran.{Ran}
use Rattle.market_run.specs.Running.{HasServed}
use Rattle.order_lines.specs.declared.spoken.Spoken.{Spoken}
use Rattle.pair_host.specs.Standing.{HostState, stands}
use Rattle.reply_lines.specs.Day.{AreNoticesOf, IsJournalOf}
use Rattle.reply_lines.specs.Desks.{DeskSoFar, nothing_yet}
use Rattle.reply_lines.specs.Notices.Notice.{Replied}
use Rattle.reply_lines.specs.Output.{entry_line}
use Rattle.session_script.specs.Heard.{Heard}
use Rattle.session_script.specs.Heard.Heard.{Stray as HeardStray}
use Rattle.client_day.specs.Days.{IsBehind, IsDayOf, IsHanded}
use Rattle.client_day.specs.inside.Days.{IsClientOf, TakesAsked}
use Rattle.client_day.specs.Desks.{with_notes}
use Rattle.client_day.specs.inside.Desks.{HaveNoted}
use Rattle.client_day.specs.Events.{Event, AreAnswered, asked_by, tagged_in}
use Rattle.client_day.specs.Events.Event.{Refused, Entered}
use Rattle.client_day.specs.Notes.{event_notes, fill_notes, note_for, notes_of, refusal_notes}
use Rattle.client_day.specs.Notes.Note.{Told}
use Rattle.client_day.specs.Script.{Asked, ClientScript, client_script, declared_while, has_asked, no_script, with_asked, with_heard, with_line, with_stray}
use Rattle.client_day.specs.declared.day.ClientDay.{ClientDay}
use Rattle.client_day.specs.declared.handing.HandsBack.{HandsBack}
use Rattle.client_day.proofs.Events.{answered-push, client_script-few, entries-push, notes-push, script-push, tagged-append}
use Rattle.client_day.proofs.Noting.{with_notes-append}

-- ---- how much there is

pub events-few : (h : Header) (heard : List Heard) (day : ClientDay) (is : IsDayOf h heard day) → length is.events ≤ length heard
events-few h heard day is = omega (arith, client_script-few h heard, ap length is.asked_are, length-map is.events asked_by)

pub strays-few : (h : Header) (heard : List Heard) (day : ClientDay) (is : IsDayOf h heard day) → day.strays ≤ length heard
strays-few h heard day is = omega (arith, client_script-few h heard, is.strays_are)

-- ---- a stray

-- a day with a stray more
pub day-stray : (h : Header) (heard : List Heard) (line : TextLine) (was : ClientDay) (is : IsDayOf h heard was) → with_heard h (client_script h heard) (HeardStray line) ≡ with_stray (client_script h heard)
    → IsDayOf h (heard ++ HeardStray line ∷ []) (record was { strays = was.strays + 1 })
day-stray h heard line was is plain =
    let next : client_script h (heard ++ HeardStray line ∷ []) ≡ with_stray (client_script h heard) = script-push h no_script heard (HeardStray line) ∙ plain in
    record {
      events = is.events;
      behind = record { known = is.behind.known; served = is.behind.served; told = is.behind.told; journal_is = is.behind.journal_is; answered = is.behind.answered; desks = is.behind.desks; noted = is.behind.noted };
      clients = is.clients;
      clients_are = ap (λ (s : ClientScript). s.clients) next ∙ is.clients_are;
      asked_are = ap (λ (s : ClientScript). s.asked) next ∙ is.asked_are;
      strays_are = ap (λ (s : ClientScript). s.strays) next ∙ ap (λ n. n + 1) is.strays_are;
      trading_is = is.trading_is ∙ ap (λ (s : ClientScript). has_asked s.asked) (sym next);
    }

-- a line says this by the clients of the day
line-says : (h : Header) (heard : List Heard) (line : TextLine) (day : ClientDay) (says : ClientLine) (is : IsDayOf h heard day) → client_line_of h day.book.clients line ≡ says → with_heard h (client_script h heard) (HeardStray line) ≡ with_line (client_script h heard) says
line-says h heard line day says is said =
    ap (λ (clients : List Client). with_line (client_script h heard) (client_line_of h clients line)) is.clients_are ∙ ap (with_line (client_script h heard)) said

pub plain-stray : (h : Header) (heard : List Heard) (line : TextLine) (day : ClientDay) (said : Spoken) (is : IsDayOf h heard day) → client_line_of h day.book.clients line ≡ Plain said → with_heard h (client_script h heard) (HeardStray line) ≡ with_stray (client_script h heard)
plain-stray h heard line day said is says = line-says h heard line day (Plain said) is says

-- a declaration that comes too late
pub late-stray : (h : Header) (heard : List Heard) (line : TextLine) (day : ClientDay) (client : Client) (is : IsDayOf h heard day) → client_line_of h day.book.clients line ≡ Declares client → day.trading ≡ true → with_heard h (client_script h heard) (HeardStray line) ≡ with_stray (client_script h heard)
late-stray h heard line day client is says trades =
    line-says h heard line day (Declares client) is says ∙ ap (λ (b : Bool). declared_while b (client_script h heard) client) (sym is.trading_is ∙ trades)

-- ---- a client more

nothing-asked : (asked : List Asked) → has_asked asked ≡ false → asked ≡ []
nothing-asked [] is = refl
nothing-asked (a ∷ asked) is = absurd cc

no-events : (events : List Event) → map asked_by events ≡ [] → events ≡ []
no-events [] is = refl
no-events (event ∷ events) is = absurd cc

desk-more : (desks : List DeskSoFar) (c : ℕ) → ((k : ℕ) → k < length desks → get_or desks k nothing_yet ≡ nothing_yet) → get_or (desks ++ nothing_yet ∷ []) c nothing_yet ≡ nothing_yet
desk-more [] zero all = refl
desk-more [] (suc c) all = refl
desk-more (desk ∷ desks) zero all = all zero (omega arith)
desk-more (desk ∷ desks) (suc c) all = desk-more desks c (λ k within. all (suc k) (omega arith))

-- before the first command nothing came of anything
pub no-events-yet : (h : Header) (heard : List Heard) (day : ClientDay) (is : IsDayOf h heard day) → day.trading ≡ false → is.events ≡ []
no-events-yet h heard day is quiet = no-events is.events (sym is.asked_are ∙ nothing-asked (client_script h heard).asked (sym is.trading_is ∙ quiet))

pub known-yet : (h : Header) (heard : List Heard) (day : ClientDay) (is : IsDayOf h heard day) → day.trading ≡ false → StandsFor h [] day.book
known-yet h heard day is quiet = subst (λ (events : List Event). StandsFor h (tagged_in events) day.book) (no-events-yet h heard day is quiet) is.behind.known

pub day-declared : (h : Header) (heard : List Heard) (line : TextLine) (was now : ClientDay) (client : Client) (is : IsDayOf h heard was) → client_line_of h was.book.clients line ≡ Declares client → was.trading ≡ false → AreClients h (was.book.clients ++ client ∷ [])
    → now.run ≡ was.run → now.notices ≡ was.notices → now.journal ≡ was.journal → now.strays ≡ was.strays → now.trading ≡ was.trading → now.book.clients ≡ was.book.clients ++ client ∷ [] → StandsFor h [] now.book → now.desks.items ≡ was.desks.items ++ nothing_yet ∷ []
    → IsDayOf h (heard ++ HeardStray line ∷ []) now
day-declared h heard line was now client is says quiet are run_is notices_is journal_is strays_is trading_is clients_is known desks_is =
    let script : ClientScript = client_script h heard in
    let none : is.events ≡ [] = no-events-yet h heard was is quiet in
    let next : client_script h (heard ++ HeardStray line ∷ []) ≡ record { clients = script.clients ++ client ∷ []; asked = script.asked; strays = script.strays } =
    script-push h no_script heard (HeardStray line) ∙ line-says h heard line was (Declares client) is says
    ∙ ap (λ (b : Bool). declared_while b script client) (sym is.trading_is ∙ quiet) in
    let empty : (k : ℕ) → k < length was.desks.items → get_or was.desks.items k nothing_yet ≡ nothing_yet =
    λ k within. is.behind.noted k (omega (arith, is.behind.desks)) ∙ ap (λ (events : List Event). with_notes h nothing_yet (notes_of events k)) none in
    record {
      events = [];
      behind = record {
        known = known;
        served = subst (λ run. HasServed stands IsHanded h [] run) (sym run_is) (subst (λ (events : List Event). HasServed stands IsHanded h (entries_of (tagged_in events)) was.run) none is.behind.served);
        told = subst (AreNoticesOf h []) (sym notices_is) (subst (λ (events : List Event). AreNoticesOf h (entries_of (tagged_in events)) was.notices) none is.behind.told);
        journal_is = subst (IsJournalOf h []) (sym journal_is) (subst (λ (events : List Event). IsJournalOf h (entries_of (tagged_in events)) was.journal) none is.behind.journal_is);
        answered = tt;
        desks = omega (arith, ap length desks_is, ap length clients_is, length-append was.desks.items (nothing_yet ∷ []), length-append was.book.clients (client ∷ []), is.behind.desks);
        noted = λ c within. ap (λ desks. get_or desks c nothing_yet) desks_is ∙ desk-more was.desks.items c empty;
      };
      clients = subst (AreClients h) (sym clients_is) are;
      clients_are = ap (λ (s : ClientScript). s.clients) next ∙ ap (λ clients. clients ++ client ∷ []) is.clients_are ∙ sym clients_is;
      asked_are = ap (λ (s : ClientScript). s.asked) next ∙ is.asked_are ∙ ap (map asked_by) none;
      strays_are = ap (λ (s : ClientScript). s.strays) next ∙ is.strays_are ∙ sym strays_is;
      trading_is = trading_is ∙ is.trading_is ∙ ap (λ (s : ClientScript). has_asked s.asked) (sym next);
    }

-- ---- a command

has_asked-push : (asked : List Asked) (a : Asked) → has_asked (asked ++ a ∷ []) ≡ true
has_asked-push [] a = refl
has_asked-push (x ∷ asked) a = refl

-- a day that took what is asked for
pub day-asked : (h : Header) (heard : List Heard) (next : Heard) (was now : ClientDay) (asked : Asked) (is : IsDayOf h heard was) → TakesAsked h asked was now → with_heard h (client_script h heard) next ≡ with_asked (client_script h heard) asked → IsDayOf h (heard ++ next ∷ []) now
day-asked h heard next was now asked is takes asks =
    let longer : client_script h (heard ++ next ∷ []) ≡ with_asked (client_script h heard) asked = script-push h no_script heard next ∙ asks in
    let goes = takes.goes_on is.events is.behind in
    record {
      events = is.events ++ goes.0 ∷ [];
      behind = goes.2;
      clients = subst (AreClients h) (sym takes.clients_stay) is.clients;
      clients_are = ap (λ (s : ClientScript). s.clients) longer ∙ is.clients_are ∙ sym takes.clients_stay;
      asked_are = ap (λ (s : ClientScript). s.asked) longer ∙ ap (λ all. all ++ asked ∷ []) is.asked_are ∙ ap (λ a. map asked_by is.events ++ a ∷ []) (sym goes.1) ∙ sym (map-append asked_by is.events (goes.0 ∷ []));
      strays_are = ap (λ (s : ClientScript). s.strays) longer ∙ is.strays_are ∙ sym takes.strays_stay;
      trading_is = takes.trades ∙ sym (ap (λ (s : ClientScript). has_asked s.asked) longer ∙ has_asked-push (client_script h heard).asked asked);
    }

pub of-says : (h : Header) (heard : List Heard) (line : TextLine) (day : ClientDay) (c : ℕ) (command : Command) (is : IsDayOf h heard day) → client_line_of h day.book.clients line ≡ Of c command
    → with_heard h (client_script h heard) (HeardStray line) ≡ with_asked (client_script h heard) (record { who = Some c; sent = record { bank = bank_of_client day.book.clients c; command = command } })
of-says h heard line day c command is says =
    line-says h heard line day (Of c command) is says
    ∙ ap (λ (clients : List Client). with_asked (client_script h heard) (record { who = Some c; sent = record { bank = bank_of_client clients c; command = command } })) is.clients_are

-- what the clients' desks have behind one event more
noted-push : (h : Header) (events : List Event) (event : Event) (before after : List DeskSoFar) → HaveNoted h (λ c. event_notes (tagged_in events) c event) before after → ((c : ℕ) → c < length before → get_or before c nothing_yet ≡ with_notes h nothing_yet (notes_of events c))
    → (c : ℕ) → c < length before → get_or after c nothing_yet ≡ with_notes h nothing_yet (notes_of (events ++ event ∷ []) c)
noted-push h events event before after noted told c within =
    noted.each c within
    ∙ ap (λ desk. with_notes h desk (event_notes (tagged_in events) c event)) (told c within)
    ∙ sym (with_notes-append h nothing_yet (notes_of events c) (event_notes (tagged_in events) c event))
    ∙ ap (with_notes h nothing_yet) (sym (notes-push [] c events event))

-- a refusal
pub behind-refused : (h : Header) (events : List Event) (was now : ClientDay) (c : ℕ) (sent : Sent) (answer : Ask) → IsBehind h events was → answer ≡ ask_of h was.book.clients (tagged_in events) c sent.command → answer ≢ Pass
    → now.run ≡ was.run → now.notices ≡ was.notices → now.journal ≡ was.journal → now.book ≡ was.book → HaveNoted h (λ k. event_notes (tagged_in events) k (Refused c sent answer)) was.desks.items now.desks.items → IsBehind h (events ++ Refused c sent answer ∷ []) now
behind-refused h events was now c sent answer is answers not run_is notices_is journal_is book_is noted =
    let same : tagged_in (events ++ Refused c sent answer ∷ []) ≡ tagged_in events = tagged-append events (Refused c sent answer ∷ []) ∙ append-nil (tagged_in events) in
    let clients_is : now.book.clients ≡ was.book.clients = ap (λ (b : Book). b.clients) book_is in
    record {
      known = subst (λ (book : Book). StandsFor h (tagged_in (events ++ Refused c sent answer ∷ [])) book) (sym book_is) (subst (λ (ts : List Tagged). StandsFor h ts was.book) (sym same) is.known);
      served = subst (λ run. HasServed stands IsHanded h (entries_of (tagged_in (events ++ Refused c sent answer ∷ []))) run) (sym run_is) (subst (λ (ts : List Tagged). HasServed stands IsHanded h (entries_of ts) was.run) (sym same) is.served);
      told = subst (AreNoticesOf h (entries_of (tagged_in (events ++ Refused c sent answer ∷ [])))) (sym notices_is) (subst (λ (ts : List Tagged). AreNoticesOf h (entries_of ts) was.notices) (sym same) is.told);
      journal_is = subst (IsJournalOf h (entries_of (tagged_in (events ++ Refused c sent answer ∷ [])))) (sym journal_is) (subst (λ (ts : List Tagged). IsJournalOf h (entries_of ts) was.journal) (sym same) is.journal_is);
      answered = subst (λ (clients : List Client). AreAnswered h clients [] (events ++ Refused c sent answer ∷ [])) (sym clients_is) (answered-push h was.book.clients [] events (Refused c sent answer) is.answered (answers, not));
      desks = noted.count ∙ is.desks ∙ ap length (sym clients_is);
      noted = λ k within. noted-push h events (Refused c sent answer) was.desks.items now.desks.items noted (λ j inside. is.noted j (omega (arith, is.desks))) k (omega (arith, is.desks, ap length clients_is));
    }

-- an entry
pub behind-entered : (h : Header) (events : List Event) (was now : ClientDay) (who : Option ℕ) (e : Entry) → IsBehind h events was → HasPassed h was.book.clients (tagged_in events) (tag who e)
    → HasServed stands IsHanded h (entries_of (tagged_in events) ++ e ∷ []) now.run → AreNoticesOf h (entries_of (tagged_in events) ++ e ∷ []) now.notices → now.journal.count ≡ was.journal.count + 1 → now.journal.lines.items ≡ was.journal.lines.items ++ entry_line h e
    → StandsFor h (tagged_in events ++ tag who e ∷ []) now.book → now.book.clients ≡ was.book.clients
    → HaveNoted h (λ c. note_for who c (Told (Replied e)) ++ flat_map (fill_notes (owner_in (tagged_in events ++ tag who e ∷ [])) c) (fills_of e.outcome)) was.desks.items now.desks.items
    → IsBehind h (events ++ Entered (tag who e) ∷ []) now
behind-entered h events was now who e is passed served told count lines known clients_is noted =
    let more : tagged_in (events ++ Entered (tag who e) ∷ []) ≡ tagged_in events ++ tag who e ∷ [] = tagged-append events (Entered (tag who e) ∷ []) in
    let all : entries_of (tagged_in (events ++ Entered (tag who e) ∷ [])) ≡ entries_of (tagged_in events) ++ e ∷ [] = ap entries_of more ∙ entries-push (tagged_in events) (tag who e) in
    record {
      known = subst (λ (ts : List Tagged). StandsFor h ts now.book) (sym more) known;
      served = subst (λ (es : List Entry). HasServed stands IsHanded h es now.run) (sym all) served;
      told = subst (λ (es : List Entry). AreNoticesOf h es now.notices) (sym all) told;
      journal_is = subst (λ (es : List Entry). IsJournalOf h es now.journal) (sym all) (record {
        count = count ∙ ap (λ n. n + 1) is.journal_is.count ∙ sym (length-append (entries_of (tagged_in events)) (e ∷ []));
        lines = lines ∙ ap₂ (λ (a b : List ℕ). a ++ b) is.journal_is.lines (sym (append-nil (entry_line h e))) ∙ sym (flat_map-append (entry_line h) (entries_of (tagged_in events)) (e ∷ []));
      });
      answered = subst (λ (clients : List Client). AreAnswered h clients [] (events ++ Entered (tag who e) ∷ [])) (sym clients_is) (answered-push h was.book.clients [] events (Entered (tag who e)) is.answered passed);
      desks = noted.count ∙ is.desks ∙ ap length (sym clients_is);
      noted = λ k within. noted-push h events (Entered (tag who e)) was.desks.items now.desks.items noted (λ j inside. is.noted j (omega (arith, is.desks))) k (omega (arith, is.desks, ap length clients_is));
    }

-- ---- a client's command

-- it names a pair of the session
pub names-pair : (h : Header) (bank pairs : ℕ) (command : Command) → IsCommand h bank command → pairs ≡ pair_count h → NamesPair pairs command
names-pair h bank pairs command is count = subst (λ n. NamesPair n command) (sym count) (named command is.values)
  where
    named : (command : Command) → AreValues h bank command → NamesPair (pair_count h) command
    named (Order side pair price lots life) values = values.0
    named (Cancel pair number) values = values.0
    named (Reduce pair number lots) values = values.0
    named (Pull pair) values = tt
    named (Line other limit) values = tt
    named (Total limit) values = tt
    named (Settle a b units) values = tt
    named (Show other) values = tt
    named (BookOf pair) values = tt
    named (Bad reason) values = tt

-- the book has as many weights as the session has pairs
pub weights-of : (h : Header) (events : List Event) (day : ClientDay) → IsBehind h events day → length day.book.weights ≡ pair_count h
weights-of h events day is = ap length is.known.stands.weights ∙ length-map h.pairs (λ rule. rule.weight)

-- it is refused
pub takes-refused : (h : Header) (was now : ClientDay) (c bank : ℕ) (command : Command) (answer : Ask) → ((tagged : List Tagged) → StandsFor h tagged was.book → answer ≡ ask_of h was.book.clients tagged c command) → answer ≢ Pass
    → now.run ≡ was.run → now.notices ≡ was.notices → now.journal ≡ was.journal → now.book ≡ was.book → now.strays ≡ was.strays → now.trading ≡ true → HaveNoted h (λ k. if eqb c k then refusal_notes answer else []) was.desks.items now.desks.items
    → TakesAsked h (record { who = Some c; sent = record { bank = bank; command = command } }) was now
takes-refused h was now c bank command answer answers not run_is notices_is journal_is book_is strays_is trades noted = record {
  clients_stay = ap (λ (b : Book). b.clients) book_is;
  strays_stay = strays_is;
  trades = trades;
  goes_on = λ events is. (
    Refused c (record { bank = bank; command = command }) answer,
    refl,
    behind-refused h events was now c (record { bank = bank; command = command }) answer is (answers (tagged_in events) is.known) not run_is notices_is journal_is book_is noted,
  );
}

-- it is served
pub takes-entered : (h : Header) (was now : ClientDay) (who : Option ℕ) (sent : Sent) (e : Entry) → sent_by e ≡ sent → now.book.clients ≡ was.book.clients → now.strays ≡ was.strays → now.trading ≡ true
    → ((events : List Event) → IsBehind h events was → IsBehind h (events ++ Entered (tag who e) ∷ []) now) → TakesAsked h (record { who = who; sent = sent }) was now
takes-entered h was now who sent e named clients_is strays_is trades goes = record {
  clients_stay = clients_is;
  strays_stay = strays_is;
  trades = trades;
  goes_on = λ events is. (Entered (tag who e), ap (λ (s : Sent). record { who = who; sent = s }) named, goes events is);
}

-- ---- an entry

-- the command of a client passed
pub passed-of : (h : Header) (events : List Event) (was : ClientDay) (who : Option ℕ) (e : Entry) (sent : Sent) → IsBehind h events was → sent_by e ≡ sent
    → ((tagged : List Tagged) → StandsFor h tagged was.book → (c : ℕ) → who ≡ Some c → ask_of h was.book.clients tagged c sent.command ≡ Pass) → HasPassed h was.book.clients (tagged_in events) (tag who e)
passed-of h events was who e sent is named passed c of = ap (λ (s : Sent). ask_of h was.book.clients (tagged_in events) c s.command) named ∙ passed (tagged_in events) is.known c of

-- the clients' history goes on by it
pub goes-tagged : (h : Header) (events : List Event) (was : ClientDay) (who : Option ℕ) (e : Entry) (sent : Sent) (run : Ran HostState HandsBack) → IsBehind h events was → sent_by e ≡ sent → HasServed stands IsHanded h (entries_of (tagged_in events) ++ e ∷ []) run
    → IsClientOf was who sent.bank → ((tagged : List Tagged) → StandsFor h tagged was.book → (c : ℕ) → who ≡ Some c → ask_of h was.book.clients tagged c sent.command ≡ Pass) → IsTagged h was.book.clients (tagged_in events ++ tag who e ∷ [])
goes-tagged h events was who e sent run is named served client passed =
    tagged-push h was.book.clients (tagged_in events) (tag who e) is.known.tagged_is
    (subst (IsLegal h) (sym (entries-push (tagged_in events) (tag who e))) served.legal)
    (λ c of. ((client c of).0, ap (λ (s : Sent). s.bank) named ∙ (client c of).1))
    (passed-of h events was who e sent is named passed)
