-- What comes of what is asked for.
use Rattle.std.specs.Prelude.{ℕ, ◌≡◌, ◌≢◌, List, [], ◌∷◌, ◌++◌, Some}
use Rattle.fx_rules.specs.declared.command.Sent.{Sent}
use Rattle.fx_rules.specs.Sending.{sent_by}
use Rattle.fx_rules.specs.Session.{Header}
use Rattle.client_desk.specs.Clients.{Tagged, HasPassed, ask_of}
use Rattle.client_desk.specs.declared.client.Client.{Client}
use Rattle.client_desk.specs.declared.ask.Ask.{Ask}
use Rattle.client_desk.specs.declared.ask.Ask.TheVariants.{Pass}
use Rattle.client_day.specs.Script.{Asked}

-- a client's command is refused with this answer, or a command is an entry of the history
pub data Event : Type 0 where
  Refused : ℕ → Sent → Ask → Event
  Entered : Tagged → Event

abbrev pub asked_by : Event → Asked
asked_by (Refused c asks answer) = record { who = Some c; sent = asks }
asked_by (Entered t) = record { who = t.who; sent = sent_by t.entry }

-- the history, with the client of each entry that has one
abbrev pub tagged_in : List Event → List Tagged
tagged_in [] = []
tagged_in (Refused c asks answer ∷ events) = tagged_in events
tagged_in (Entered t ∷ events) = t ∷ tagged_in events

-- A command is refused with what it is answered after the entries before it, where that is not that it passes; an entry's command
-- passed.
abbrev pub IsAnswered : Header → List Client → List Tagged → Event → Type 0
IsAnswered h clients before (Refused c asks answer) = (answer ≡ ask_of h clients before c asks.command) × (answer ≢ Pass)
IsAnswered h clients before (Entered t) = HasPassed h clients before t

-- so is each of some events
abbrev pub AreAnswered : Header → List Client → List Tagged → List Event → Type 0
AreAnswered h clients before [] = Unit {0}
AreAnswered h clients before (event ∷ events) = IsAnswered h clients before event × AreAnswered h clients (before ++ tagged_in (event ∷ [])) events
