-- What is made of a command or an entry, in the books and the table, goes on each legal history.
use Rattle.std.proofs.Common.{ℕ, ◌≡◌, ◌+◌, ◌<◌, true, false, List, [], length, get_or, set, Some, None, refl, ap, sym, subst, ◌∙◌, arith}
use Rattle.std.proofs.lemmas.List.{length-set}
use Rattle.fx_rules.specs.declared.command.Command.{Command}
use Rattle.fx_rules.specs.declared.command.Command.TheVariants.{Order, Cancel, Reduce, Pull, Line, Total, Settle, Show, Book as BookOf, Bad}
use Rattle.fx_rules.specs.declared.orders.Fill.{Fill}
use Rattle.fx_rules.specs.declared.outcome.Entry.{Entry}
use Rattle.fx_rules.specs.declared.outcome.Outcome.{Outcome}
use Rattle.fx_rules.specs.declared.outcome.Outcome.TheVariants.{LineSet, TotalSet, Settled}
use Rattle.fx_rules.specs.Session.{Header, IsSession, bank_count, pair_count, sender_places}
use Rattle.fx_rules.specs.State.{State, opening, orders_in, count_of}
use Rattle.fx_rules.specs.Raise.{limited, totalled, settled}
use Rattle.fx_rules.specs.Step.{IsCommand, IsOutcome, after, fills_of, may_change}
use Rattle.fx_rules.specs.History.{IsStep, IsLegal, after_entry, state}
use Rattle.fx_rules.specs.Sound.{IsSound}
use Rattle.fx_rules.specs.Market.{InSome, MaySend, GoesOn, next_entry}
use Rattle.fx_rules.proofs.Soundness.{legal-sound, legal-push, after_all-push}
use Rattle.fx_rules.proofs.RaiseSound.{limited-sound, totalled-sound, settled-sound}
use Rattle.fx_rules.proofs.Staying.{other_pairs-stay}
use Rattle.global_book.specs.Book.{Book}
use Rattle.credit_lines.specs.Credit.{Credit}
use Rattle.credit_lines.specs.Market as lines
use Rattle.credit_raise.specs.UnderWay.{Change, HasBanks, IsChange, IsUnderWay, is_change, opened, outcome_of, reached}
use Rattle.credit_raise.proofs.Changes.{command-change, opened-banks, opened-command, opened-sender, reached-orders}
use Rattle.match_sweep.specs.Carries.{carried}
use Rattle.credit_lines.specs.Table as table
use Rattle.credit_lines.specs.Table.{Table, Stands}
use Rattle.pair_host.specs.Turns.{fills_in}
use Rattle.fx_rules.specs.Sending.{pair_of}
use Rattle.pair_host.specs.Standing.{HostState, StandsFor, IsNextOf, FollowsOn, stands}
use Rattle.pair_host.specs.inside.Books.{AreBooks, HaveOrders, EachBook, IsCarried, IsRecorded, PlansEach, host_of}
use Rattle.pair_host.specs.inside.OnePair.{AreOf, MayServe, ServesEach, FollowsEach}
use Rattle.pair_host.proofs.Holding.{BooksOf, books-of, stands-by, have-orders-set}
use Rattle.fx_rules.proofs.Senders.{pair-within, command-place}
use Rattle.pair_host.proofs.Sending.{changes_none}

-- ---- from a step to the histories that it goes on

-- what a host that stands for a state is to do with the entry that a bank's next command makes of it
pub record Steps (h : Header) (S : State) (new : HostState) (bank : ℕ) (command : Command) (outcome : Outcome) : Type 0 where
  pub step : IsStep h S (next_entry S bank command outcome)
  pub stands_then : StandsFor h (after_entry S (next_entry S bank command outcome)) new

pub goes-on : (old new : HostState) (bank : ℕ) (command : Command) (outcome : Outcome)
    → ((h : Header) (H : List Entry) → IsLegal h H → StandsFor h (state h H) old → Steps h (state h H) new bank command outcome)
    → GoesOn (stands old) (stands new) bank command outcome
goes-on old new bank command outcome steps h H legal stood =
    let S : State = state h H in
    let e : Entry = next_entry S bank command outcome in
    let its : Steps h S new bank command outcome = steps h H legal stood in
    (legal-push h H e legal its.step, subst (λ (T : State). StandsFor h T new) (sym (after_all-push (opening h) H e)) its.stands_then)

-- ---- one pair

one-follows : (h : Header) (S : State) (books : List Book) (at : ℕ) (new : Book) (table table' : Table) (e : Entry) → IsSession h → IsSound h S → BooksOf h S books table
    → pair_of e.command ≡ Some at → IsStep h S e → new.orders ≡ orders_in at (after_entry S e).orders → Stands h (after_entry S e) table'
    → StandsFor h (after_entry S e) (host_of (set books at new) table')
one-follows h S books at new table table' e session sound of about step orders credit =
    stands-by h (after_entry S e) (set books at new) table' (record {
      count = length-set books at new ∙ of.count;
      orders = have-orders-set S (after_entry S e) books at new of.orders orders
          (λ other differ. other_pairs-stay h S e other session sound step (changes_none e.command at other about differ));
      credit = credit;
    })

-- the book at a pair's place, and the table, are the state's
pub are-of : (h : Header) (S : State) (banks : ℕ) (books : List Book) (at : ℕ) (book : Book) (table : Table) → IsSession h → IsSound h S → AreBooks banks books → BooksOf h S books table
    → at < length books → book ≡ get_or books at book → AreOf h S book table
are-of h S banks books at book table session sound are of within is =
    let its_pair : book.pair ≡ at = ap (λ (b : Book). b.pair) is ∙ (are at book within).pair in
    record {
      valid = session;
      sound = sound;
      orders = ap (λ (b : Book). b.orders) is ∙ of.orders at book within ∙ ap (λ p. orders_in p S.orders) (sym its_pair);
      credit = of.credit;
    }

-- it may be served there
pub within-books : (books : List Book) (at : ℕ) (table : Table) (bank : ℕ) (command : Command) → InSome (stands (host_of books table)) (MaySend bank command) → pair_of command ≡ Some at → at < length books
within-books books at table bank command some about =
    let h : Header = some.0 in
    let of : BooksOf h (state h some.1) books table = books-of h (state h some.1) books table some.3 in
    omega (arith, of.count, pair-within h bank command at some.4.allowed.values about)

pub may-serve : (banks : ℕ) (books : List Book) (at : ℕ) (book : Book) (table : Table) (bank : ℕ) (command : Command) → AreBooks banks books
    → InSome (stands (host_of books table)) (MaySend bank command) → pair_of command ≡ Some at → book ≡ get_or books at book → MayServe book table bank command
may-serve banks books at book table bank command are some about is =
    let h : Header = some.0 in
    let S : State = state h some.1 in
    record {
      session = h;
      before = S;
      are_of = are-of h S banks books at book table some.2.session (legal-sound h some.1 some.2) are (books-of h S books table some.3)
          (within-books books at table bank command some about) is;
      may_send = some.4;
    }

pub one-goes_on : (banks : ℕ) (books : List Book) (at : ℕ) (book new : Book) (table table' : Table) (bank : ℕ) (command : Command) (outcome : Outcome) → AreBooks banks books
    → at < length books → book ≡ get_or books at book → pair_of command ≡ Some at → new.pair ≡ book.pair
    → ((h : Header) (S : State) → StandsFor h S (host_of books table) → MaySend bank command h S)
    → ServesEach book new table table' bank command outcome
    → GoesOn (stands (host_of books table)) (stands (host_of (set books at new) table')) bank command outcome
one-goes_on banks books at book new table table' bank command outcome are within is about same may serves =
    goes-on (host_of books table) (host_of (set books at new) table') bank command outcome (λ h H legal stood.
    let S : State = state h H in
    let e : Entry = next_entry S bank command outcome in
    let sound : IsSound h S = legal-sound h H legal in
    let of : BooksOf h S books table = books-of h S books table stood in
    let its_pair : book.pair ≡ at = ap (λ (b : Book). b.pair) is ∙ (are at book within).pair in
    let served = serves h S (are-of h S banks books at book table legal.session sound are of within is) (may h S stood) in
    record {
      step = served.0;
      stands_then = one-follows h S books at new table table' e legal.session sound of about served.0
          (served.1 ∙ ap (λ p. orders_in p (after_entry S e).orders) (same ∙ its_pair)) served.2;
    })

pub next-within : (books : List Book) (at : ℕ) (table : Table) (e : Entry) → IsNextOf (host_of books table) e → pair_of e.command ≡ Some at → at < length books
next-within books at table e next about =
    let of : BooksOf next.session next.before books table = books-of next.session next.before books table next.stood in
    omega (arith, of.count, pair-within next.session e.bank e.command at next.step.command.values about)

pub one-follows_on : (banks : ℕ) (books : List Book) (at : ℕ) (book new : Book) (table table' : Table) (e : Entry) → AreBooks banks books
    → at < length books → book ≡ get_or books at book → pair_of e.command ≡ Some at → new.pair ≡ book.pair
    → FollowsEach book new table table' e → FollowsOn (host_of books table) (host_of (set books at new) table') e
one-follows_on banks books at book new table table' e are within is about same follows h S session sound stood step =
    let of : BooksOf h S books table = books-of h S books table stood in
    let its_pair : book.pair ≡ at = ap (λ (b : Book). b.pair) is ∙ (are at book within).pair in
    let done = follows h S (are-of h S banks books at book table session sound are of within is) step in
    one-follows h S books at new table table' e session sound of about step
    (done.0 ∙ ap (λ p. orders_in p (after_entry S e).orders) (same ∙ its_pair)) done.1

-- ---- all pairs

-- who may send a command has a place among the senders
pub sends-from : (books : List Book) (table : Table) (bank : ℕ) (command : Command) → InSome (stands (host_of books table)) (MaySend bank command) → bank < sender_places table.session
sends-from books table bank command some =
    subst (λ (h : Header). bank < sender_places h) (sym some.3.credit.session) (command-place some.0 bank command some.2.session some.4.allowed)

-- a bank may open a credit change that it may send
pub opens-change : (books : List Book) (table : Table) (bank : ℕ) (command : Command) → InSome (stands (host_of books table)) (MaySend bank command) → is_change command ≡ true → IsChange table.lines.banks bank command
opens-change books table bank command some changes =
    command-change some.0 table.lines.banks bank command changes some.3.credit.lines.banks some.4.allowed

-- its books have as many banks as its lines
pub opens-banks : (books : List Book) (table : Table) (bank : ℕ) (command : Command) (credit : Credit) (change : Change) → InSome (stands (host_of books table)) (MaySend bank command) → credit ≡ table.lines → change ≡ opened credit bank command → HasBanks change.course (bank_count table.session)
opens-banks books table bank command credit change some same opens =
    let its = some.3.credit in
    subst (λ (c : Change). HasBanks c.course (bank_count table.session)) (sym opens)
    (opened-banks credit bank command (bank_count table.session) (ap bank_count its.session ∙ sym its.lines.banks ∙ ap (λ (l : Credit). l.banks) (sym same)))

-- what is told of a credit change that is planned in all pairs
pub record IsPlanned (books : List Book) (table : Table) (change : Change) (bank : ℕ) (command : Command) (outcome : Outcome) : Type 0 where
  pub under_way : (h : Header) (H : List Entry) → IsLegal h H → StandsFor h (state h H) (host_of books table) → IsUnderWay h (state h H) change
  pub turns : length change.plans ≡ length books
  pub bank_is : change.sender ≡ bank
  pub command_is : change.command ≡ command
  pub value : outcome ≡ outcome_of change
  pub answers : (h : Header) (S : State) → IsUnderWay h S change → length change.plans ≡ pair_count h → IsOutcome h S change.sender change.command outcome

-- it is planned by the books and the lines, pair by pair
pub planned-by : (books now : List Book) (table : Table) (credit : Credit) (begun change : Change) (bank : ℕ) (command : Command) (outcome : Outcome) → now ≡ books → credit ≡ table.lines
    → ((h : Header) (S : State) → StandsFor h S (host_of books table) → MaySend bank command h S)
    → begun ≡ opened credit bank command
    → ((h : Header) (H : List Entry) → IsLegal h H → lines.StandsFor h (state h H) credit → IsCommand h bank command → IsUnderWay h (state h H) begun)
    → PlansEach now table begun change → length change.plans ≡ length now → change.command ≡ begun.command → change.sender ≡ begun.sender → outcome ≡ outcome_of change
    → ((h : Header) (S : State) → IsUnderWay h S change → length change.plans ≡ pair_count h → IsOutcome h S change.sender change.command outcome)
    → IsPlanned books table change bank command outcome
planned-by books now table credit begun change bank command outcome same paid may opens begins plans turns command_is bank_is value answers = record {
  under_way = λ h H legal stood.
      let S : State = state h H in
      let of : BooksOf h S books table = books-of h S books table stood in
      plans h S legal.session (subst (HaveOrders S) (sym same) of.orders) of.credit
      (begins h H legal (subst (λ (its : Credit). lines.StandsFor h S its) (sym paid) of.credit.lines) (may h S stood).allowed);
  turns = turns ∙ ap (λ (bs : List Book). length bs) same;
  bank_is = bank_is ∙ opened-sender credit bank command begun opens;
  command_is = command_is ∙ opened-command credit bank command begun opens;
  value = value;
  answers = answers;
}

pub planned-answers : (books : List Book) (table : Table) (change : Change) (bank : ℕ) (command : Command) (outcome : Outcome) → IsPlanned books table change bank command outcome
    → (h : Header) (H : List Entry) → IsLegal h H → StandsFor h (state h H) (host_of books table) → IsOutcome h (state h H) bank command outcome
planned-answers books table change bank command outcome planned h H legal stood =
    let S : State = state h H in
    subst (λ (c : Command). IsOutcome h S bank c outcome) planned.command_is
    (subst (λ b. IsOutcome h S b change.command outcome) planned.bank_is
    (planned.answers h S (planned.under_way h H legal stood) (planned.turns ∙ (books-of h S books table stood).count)))

changed_orders : (h : Header) (S : State) (change : Change) (bank pair : ℕ) (command : Command) (outcome : Outcome) → IsUnderWay h S change → change.sender ≡ bank → change.command ≡ command → outcome ≡ outcome_of change
    → orders_in pair (reached change S).orders ≡ orders_in pair (after S bank command outcome).orders
changed_orders h S change bank pair command outcome under bank_is command_is value =
    ap (orders_in pair) (sym (reached-orders h S change under))
    ∙ ap (λ b. orders_in pair (after S b change.command (outcome_of change)).orders) bank_is
    ∙ ap (λ (c : Command). orders_in pair (after S bank c (outcome_of change)).orders) command_is
    ∙ ap (λ (o : Outcome). orders_in pair (after S bank command o).orders) (sym value)

pub change-goes_on : (banks : ℕ) (books books' : List Book) (table table' : Table) (change : Change) (bank : ℕ) (command : Command) (outcome : Outcome) → AreBooks banks books
    → ((h : Header) (S : State) → StandsFor h S (host_of books table) → MaySend bank command h S)
    → IsPlanned books table change bank command outcome
    → ((h : Header) (H : List Entry) → IsLegal h H → StandsFor h (state h H) (host_of books table) → IsStep h (state h H) (next_entry (state h H) bank command outcome)
    → Stands h (after_entry (state h H) (next_entry (state h H) bank command outcome)) table')
    → EachBook (IsCarried change) books books'
    → GoesOn (stands (host_of books table)) (stands (host_of books' table')) bank command outcome
change-goes_on banks books books' table table' change bank command outcome are may planned credit carried =
    goes-on (host_of books table) (host_of books' table') bank command outcome (λ h H legal stood.
    let S : State = state h H in
    let e : Entry = next_entry S bank command outcome in
    let of : BooksOf h S books table = books-of h S books table stood in
    let under : IsUnderWay h S change = planned.under_way h H legal stood in
    let sent : MaySend bank command h S = may h S stood in
    let answer : IsOutcome h S bank command outcome = planned-answers books table change bank command outcome planned h H legal stood in
    let step : IsStep h S e = record { command = sent.allowed; number = refl; number_most = sent.number; outcome = answer } in
    record {
      step = step;
      stands_then = stands-by h (after_entry S e) books' table' (record {
        count = carried.count ∙ of.count;
        orders = λ place none within.
            let within' : place < length books = omega (arith, carried.count, within) in
            let its = carried.each place none within' in
            let pair_is : (get_or books place none).pair ≡ place = (are place none within').pair in
            its.reaches h S under (of.orders place none within' ∙ ap (λ p. orders_in p S.orders) (sym pair_is))
            ∙ ap (λ p. orders_in p (reached change S).orders) (its.pair ∙ pair_is)
            ∙ changed_orders h S change bank place command outcome under planned.bank_is planned.command_is planned.value;
        credit = credit h H legal stood step;
      });
    })

-- a recorded entry of a command about no pair, or about all
line_recorded : (h : Header) (S : State) (bank other asked : ℕ) (outcome : Outcome) (old new : Book) → IsSession h → IsSound h S → IsCommand h bank (Line other asked)
    → IsOutcome h S bank (Line other asked) outcome → old.orders ≡ orders_in old.pair S.orders → IsRecorded (fills_of outcome) old new
    → new.orders ≡ orders_in new.pair (after S bank (Line other asked) outcome).orders
line_recorded h S bank other asked (LineSet limit fills) old new session sound valid is orders recorded =
    let limit_sound : IsSound h (limited bank other limit S) = limited-sound h S bank other asked limit sound valid.sends valid.values.0 valid.values.1 valid.values.2 is.0 in
    recorded.follows h (limited bank other limit S) session limit_sound is.1 orders
line_recorded h S bank other asked outcome old new session sound valid is orders recorded = absurd is

total_recorded : (h : Header) (S : State) (bank asked : ℕ) (outcome : Outcome) (old new : Book) → IsSession h → IsSound h S → IsCommand h bank (Total asked)
    → IsOutcome h S bank (Total asked) outcome → old.orders ≡ orders_in old.pair S.orders → IsRecorded (fills_of outcome) old new
    → new.orders ≡ orders_in new.pair (after S bank (Total asked) outcome).orders
total_recorded h S bank asked (TotalSet most fills) old new session sound valid is orders recorded =
    let total_sound : IsSound h (totalled bank most S) = totalled-sound h S bank asked most session sound valid.sends.0 valid.sends.1 valid.values is.0 in
    recorded.follows h (totalled bank most S) session total_sound is.1 orders
total_recorded h S bank asked outcome old new session sound valid is orders recorded = absurd is

settle_recorded : (h : Header) (S : State) (sender a b asked : ℕ) (outcome : Outcome) (old new : Book) → IsSession h → IsSound h S → IsCommand h sender (Settle a b asked)
    → IsOutcome h S sender (Settle a b asked) outcome → old.orders ≡ orders_in old.pair S.orders → IsRecorded (fills_of outcome) old new
    → new.orders ≡ orders_in new.pair (after S sender (Settle a b asked) outcome).orders
settle_recorded h S sender a b asked (Settled given fills) old new session sound valid is orders recorded =
    let given_sound : IsSound h (settled a b given S) = settled-sound h S a b asked given sound valid.sends.0 is.0 in
    recorded.follows h (settled a b given S) session given_sound is.1 orders
settle_recorded h S sender a b asked outcome old new session sound valid is orders recorded = absurd is

-- where there are no fills, nothing is made
none_recorded : (S : State) (old new : Book) (fills : List Fill) → fills ≡ [] → old.orders ≡ orders_in old.pair S.orders → IsRecorded fills old new → new.orders ≡ orders_in new.pair S.orders
none_recorded S old new fills none orders recorded =
    recorded.orders ∙ ap (λ (fs : List Fill). carried old.orders (fills_in old.pair fs)) none ∙ orders ∙ ap (λ p. orders_in p S.orders) (sym recorded.pair)

some_none : (pair : ℕ) → Some pair ≡ None → ⊥
some_none pair same = cc

recorded_orders : (h : Header) (S : State) (bank : ℕ) (command : Command) (outcome : Outcome) (old new : Book) → IsSession h → IsSound h S → IsCommand h bank command
    → IsOutcome h S bank command outcome → pair_of command ≡ None → old.orders ≡ orders_in old.pair S.orders → IsRecorded (fills_of outcome) old new
    → new.orders ≡ orders_in new.pair (after S bank command outcome).orders
recorded_orders h S bank (Order side pair price lots life) outcome old new session sound valid is about orders recorded = absurd (some_none pair about)
recorded_orders h S bank (Cancel pair number) outcome old new session sound valid is about orders recorded = absurd (some_none pair about)
recorded_orders h S bank (Reduce pair number lots) outcome old new session sound valid is about orders recorded = absurd (some_none pair about)
recorded_orders h S bank (Pull pair) outcome old new session sound valid is about orders recorded = absurd (some_none pair about)
recorded_orders h S bank (BookOf pair) outcome old new session sound valid is about orders recorded = absurd (some_none pair about)
recorded_orders h S bank (Line other asked) outcome old new session sound valid is about orders recorded =
    line_recorded h S bank other asked outcome old new session sound valid is orders recorded
recorded_orders h S bank (Total asked) outcome old new session sound valid is about orders recorded =
    total_recorded h S bank asked outcome old new session sound valid is orders recorded
recorded_orders h S bank (Settle a b asked) outcome old new session sound valid is about orders recorded =
    settle_recorded h S bank a b asked outcome old new session sound valid is orders recorded
recorded_orders h S bank (Show other) outcome old new session sound valid is about orders recorded =
    none_recorded S old new (fills_of outcome) (ap fills_of is) orders recorded
recorded_orders h S bank (Bad reason) outcome old new session sound valid is about orders recorded =
    none_recorded S old new (fills_of outcome) (ap fills_of is) orders recorded

pub all-follow_on : (banks : ℕ) (books books' : List Book) (table table' : Table) (e : Entry) → AreBooks banks books → pair_of e.command ≡ None
    → EachBook (IsRecorded (fills_of e.outcome)) books books'
    → ((h : Header) (S : State) → IsSound h S → Stands h S table → IsStep h S e → Stands h (after_entry S e) table')
    → FollowsOn (host_of books table) (host_of books' table') e
all-follow_on banks books books' table table' e are about recorded credit h S session sound stood step =
    let of : BooksOf h S books table = books-of h S books table stood in
    stands-by h (after_entry S e) books' table' (record {
      count = recorded.count ∙ of.count;
      orders = λ place none within.
          let within' : place < length books = omega (arith, recorded.count, within) in
          let its = recorded.each place none within' in
          let pair_is : (get_or books place none).pair ≡ place = (are place none within').pair in
          recorded_orders h S e.bank e.command e.outcome (get_or books place none) (get_or books' place none) session sound step.command step.outcome about
          (of.orders place none within' ∙ ap (λ p. orders_in p S.orders) (sym pair_is)) its
          ∙ ap (λ p. orders_in p (after_entry S e).orders) (its.pair ∙ pair_is);
      credit = credit h S sound of.credit step;
    })

-- a command that no book has anything to do with
pub told-goes_on : (books : List Book) (table table' : Table) (bank : ℕ) (command : Command) (outcome : Outcome)
    → ((pair : ℕ) → may_change pair command ≡ false)
    → ((h : Header) (S : State) → StandsFor h S (host_of books table) → MaySend bank command h S)
    → ((h : Header) (H : List Entry) → IsLegal h H → StandsFor h (state h H) (host_of books table) → IsOutcome h (state h H) bank command outcome)
    → ((h : Header) (H : List Entry) → IsLegal h H → StandsFor h (state h H) (host_of books table) → IsStep h (state h H) (next_entry (state h H) bank command outcome)
    → Stands h (after_entry (state h H) (next_entry (state h H) bank command outcome)) table')
    → GoesOn (stands (host_of books table)) (stands (host_of books table')) bank command outcome
told-goes_on books table table' bank command outcome none may answers credit =
    goes-on (host_of books table) (host_of books table') bank command outcome (λ h H legal stood.
    let S : State = state h H in
    let e : Entry = next_entry S bank command outcome in
    let of : BooksOf h S books table = books-of h S books table stood in
    let sent : MaySend bank command h S = may h S stood in
    let step : IsStep h S e = record { command = sent.allowed; number = refl; number_most = sent.number; outcome = answers h H legal stood } in
    record {
      step = step;
      stands_then = stands-by h (after_entry S e) books table' (record {
        count = of.count;
        orders = λ place d within. of.orders place d within ∙ sym (other_pairs-stay h S e place legal.session (legal-sound h H legal) step (none place));
        credit = credit h H legal stood step;
      });
    })

-- ---- the table follows

-- where the number is the table's next, the entry is the next one of each state
next_numbered : (h : Header) (S : State) (books : List Book) (t : Table) (bank number : ℕ) (command : Command) (outcome : Outcome) → StandsFor h S (host_of books t) → number ≡ get_or t.counts bank 0 + 1
    → number ≡ count_of S bank + 1
next_numbered h S books t bank number command outcome stood is = is ∙ ap (λ (cs : List ℕ). get_or cs bank 0 + 1) stood.credit.counts

pub table-next : (books : List Book) (t : Table) (bank number : ℕ) (command : Command) (outcome : Outcome) → InSome (stands (host_of books t)) (MaySend bank command) → number ≡ get_or t.counts bank 0 + 1
    → ((h : Header) (H : List Entry) → IsLegal h H → StandsFor h (state h H) (host_of books t) → IsOutcome h (state h H) bank command outcome)
    → table.IsNextOf t (record { bank = bank; number = number; command = command; outcome = outcome })
table-next books t bank number command outcome some is answers =
    let S : State = state some.0 some.1 in
    let may : MaySend bank command some.0 S = some.4 in
    let count : number ≡ count_of S bank + 1 = next_numbered some.0 S books t bank number command outcome some.3 is in
    record {
      session = some.0;
      before = S;
      sound = legal-sound some.0 some.1 some.2;
      stands = some.3.credit;
      step = record {
        command = may.allowed;
        number = count;
        number_most = omega (arith, count, may.number);
        outcome = answers some.0 some.1 some.2 some.3;
      };
    }

pub table-follows : (books : List Book) (t t' : Table) (bank number : ℕ) (command : Command) (outcome : Outcome) → number ≡ get_or t.counts bank 0 + 1
    → table.FollowsOn t t' (record { bank = bank; number = number; command = command; outcome = outcome })
    → (h : Header) (H : List Entry) → IsLegal h H → StandsFor h (state h H) (host_of books t) → IsStep h (state h H) (next_entry (state h H) bank command outcome)
    → Stands h (after_entry (state h H) (next_entry (state h H) bank command outcome)) t'
table-follows books t t' bank number command outcome is follows h H legal stood step =
    let S : State = state h H in
    let count : number ≡ count_of S bank + 1 = next_numbered h S books t bank number command outcome stood is in
    follows h S (legal-sound h H legal) stood.credit
    (record { command = step.command; number = count; number_most = omega (arith, count, step.number_most); outcome = step.outcome })
