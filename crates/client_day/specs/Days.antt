-- A day of clients as it is served, command by command.
use Rattle.std.specs.Prelude.{ℕ, ◌≡◌, ◌<◌, List, [], length, map, slice_index_or}
use Rattle.fx_rules.specs.declared.outcome.Entry.{Entry}
use Rattle.fx_rules.specs.Session.{Header}
use Rattle.client_desk.specs.Clients.{AreClients, entries_of}
use Rattle.client_desk.specs.Standing.{StandsFor}
use Rattle.market_run.specs.Running.{HasServed}
use Rattle.pair_host.specs.Standing.{stands}
use Rattle.reply_lines.specs.Day.{AreNoticesOf, IsJournalOf}
use Rattle.reply_lines.specs.Desks.{nothing_yet}
use Rattle.session_script.specs.Heard.{Heard}
use Rattle.client_day.specs.Events.{Event, AreAnswered, asked_by, tagged_in}
use Rattle.client_day.specs.Notes.{notes_of}
use Rattle.client_day.specs.Script.{client_script, has_asked}
use Rattle.client_day.specs.declared.day.ClientDay.{ClientDay}
use Rattle.client_day.specs.declared.handing.HandsBack.{HandsBack}
use Rattle.client_day.specs.Desks.{with_notes}

-- an observer that hands each entry back keeps nothing of it
abbrev pub IsHanded : Header → List Entry → HandsBack → Type 0
IsHanded h entries observer = Unit {0}

-- these events came of what was asked for so far: the book, the run, the senders' desks and each client's desk are behind them
pub record IsBehind (h : Header) (events : List Event) (day : ClientDay) : Type 0 where
  pub known : StandsFor h (tagged_in events) day.book
  pub served : HasServed stands IsHanded h (entries_of (tagged_in events)) day.run
  pub told : AreNoticesOf h (entries_of (tagged_in events)) day.notices
  pub journal_is : IsJournalOf h (entries_of (tagged_in events)) day.journal
  pub answered : AreAnswered h day.book.clients [] events
  pub desks : length day.desks.items ≡ length day.book.clients
  pub noted : (c : ℕ) → c < length day.book.clients → slice_index_or day.desks.items c nothing_yet ≡ with_notes h nothing_yet (notes_of events c)

-- what was heard so far is served
pub record IsDayOf (h : Header) (heard : List Heard) (day : ClientDay) : Type 0 where
  pub events : List Event
  pub behind : IsBehind h events day
  pub clients : AreClients h day.book.clients
  pub clients_are : (client_script h heard).clients ≡ day.book.clients
  pub asked_are : (client_script h heard).asked ≡ map asked_by events
  pub strays_are : (client_script h heard).strays ≡ day.strays
  pub trading_is : day.trading ≡ has_asked (client_script h heard).asked
