-- What each client is told.
use Rattle.std.specs.Prelude.{ℕ, ◌==◌, ◌+◌, if◌then◌else◌, List, [], ◌∷◌, ◌++◌, codes, Option}
use Rattle.std.specs.List.{flat_map}
use Rattle.fx_amounts.specs.Numeral.{numeral}
use Rattle.fx_rules.specs.declared.orders.Fill.{Fill}
use Rattle.fx_rules.specs.Session.{Header}
use Rattle.fx_rules.specs.Step.{fills_of}
use Rattle.client_desk.specs.Clients.{Tagged, is_client, owner_in}
use Rattle.client_desk.specs.declared.ask.Ask.{Ask}
use Rattle.client_desk.specs.declared.ask.Ask.TheVariants as asks
use Rattle.reply_lines.specs.Notices.{Notice, notice_line}
use Rattle.reply_lines.specs.Notices.Notice.{Replied, Took, Gave}
use Rattle.reply_lines.specs.Rows.{row}
use Rattle.client_day.specs.Events.{Event, tagged_in}
use Rattle.client_day.specs.Events.Event.{Refused, Entered}

-- that an order costs more than is free, so many credit units; that a command is none of the client's own; or what a bank's desk
-- tells too, a reply or a fill
pub data Note : Type 0 where
  Short : ℕ → Note
  Barred : Note
  Told : Notice → Note

-- what a refusal tells
abbrev pub refusal_notes : Ask → List Note
refusal_notes (asks.Short units) = Short units ∷ []
refusal_notes asks.Barred = Barred ∷ []
refusal_notes asks.Pass = []

-- a note where a client or none is this client
abbrev pub note_for : Option ℕ → ℕ → Note → List Note
note_for who c note = if is_client who c then note ∷ [] else []

-- of a fill the owners of its two orders are told, the taker's first
abbrev pub fill_notes : (ℕ → ℕ → Option ℕ) → ℕ → Fill → List Note
fill_notes own c fill = note_for (own fill.taker fill.taker_number) c (Told (Took fill)) ++ note_for (own fill.maker fill.maker_number) c (Told (Gave fill))

-- what an event tells a client, behind these entries: of its own command the reply, and then the fills of its orders
abbrev pub event_notes : List Tagged → ℕ → Event → List Note
event_notes before c (Refused who sent answer) = if who == c then refusal_notes answer else []
event_notes before c (Entered t) = note_for t.who c (Told (Replied t.entry)) ++ flat_map (fill_notes (owner_in (before ++ t ∷ [])) c) (fills_of t.entry.outcome)

abbrev pub notes_behind : List Tagged → ℕ → List Event → List Note
notes_behind before c [] = []
notes_behind before c (event ∷ events) = event_notes before c event ++ notes_behind (before ++ tagged_in (event ∷ [])) c events

-- all that a client is told, in order
abbrev pub notes_of : List Event → ℕ → List Note
notes_of events c = notes_behind [] c events

-- the line of a note, with its number among those of its client
abbrev pub note_line : Header → ℕ → Note → List ℕ
note_line h number (Short units) = row (numeral number) (codes "SHORT" ∷ numeral units ∷ [])
note_line h number Barred = row (numeral number) (codes "BARRED" ∷ [])
note_line h number (Told notice) = notice_line h number notice

-- the lines of notes, numbered after so many
abbrev pub note_lines : Header → ℕ → List Note → List ℕ
note_lines h before [] = []
note_lines h before (note ∷ rest) = note_line h (before + 1) note ++ note_lines h (before + 1) rest
