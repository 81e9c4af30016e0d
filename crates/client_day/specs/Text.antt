-- The text of a session with clients: an output, and behind it what each client has and was told.
use Rattle.std.specs.Prelude.{ℕ, ◌≡◌, List, [], ◌∷◌, ◌++◌, length, map, codes, slice_index_or}
use Rattle.std.specs.List.{flat_map}
use Rattle.fx_amounts.specs.Numeral.{numeral}
use Rattle.fx_rules.specs.Lists.{below}
use Rattle.fx_rules.specs.Session.{Header, bank_name}
use Rattle.client_desk.specs.Clients.{Tagged, IsTagged, bank_of_client, entries_of, filled_by, limit_of, reserved_by}
use Rattle.client_desk.specs.declared.client.Client.{Client}
use Rattle.reply_lines.specs.Output.{IsOutput}
use Rattle.reply_lines.specs.Rows.{row}
use Rattle.reply_lines.specs.declared.output.Ending.{Ending}
use Rattle.session_script.specs.Heard.{Heard}
use Rattle.client_day.specs.Events.{Event, AreAnswered, asked_by, tagged_in}
use Rattle.client_day.specs.Notes.{note_lines, notes_of}
use Rattle.client_day.specs.Script.{client_script}

-- the name of a client
abbrev pub name_of_client : List Client → ℕ → List ℕ
name_of_client clients c = slice_index_or (map (λ client. client.name) clients) c []

-- the line of a client: its bank, its name, its limit, what it has filled and reserved in credit units, and how many notes follow
unfoldable pub client_row : Header → List Client → List Tagged → ℕ → ℕ → List ℕ
client_row h clients tagged c count = row (codes "CLIENT")
    (bank_name h (bank_of_client clients c) ∷ name_of_client clients c ∷ numeral (limit_of clients c)
    ∷ numeral (filled_by h tagged c) ∷ numeral (reserved_by h tagged c) ∷ numeral count ∷ [])

-- and these notes
abbrev pub client_part : Header → List Client → List Event → ℕ → List ℕ
client_part h clients events c = client_row h clients (tagged_in events) c (length (notes_of events c)) ++ note_lines h 0 (notes_of events c)

-- how many clients there are, and each of them, in the order in which they were declared
unfoldable pub clients_text : Header → List Client → List Event → List ℕ
clients_text h clients events = row (codes "CLIENTS") (numeral (length clients) ∷ []) ++ flat_map (client_part h clients events) (below (length clients))

-- The text of a session in which this was heard. What comes of the commands that it says, in their order, are these events: each
-- answer is that of the clients' limits after the entries before it, and the entries are a legal history. The output is that
-- history's.
pub record IsClientsText (h : Header) (heard : List Heard) (ending : Ending) (text : List ℕ) : Type 0 where
  pub events : List Event
  pub in_order : map asked_by events ≡ (client_script h heard).asked
  pub answered : AreAnswered h (client_script h heard).clients [] events
  pub tagged : IsTagged h (client_script h heard).clients (tagged_in events)
  pub output : List ℕ
  pub is_output : IsOutput h (entries_of (tagged_in events)) (client_script h heard).strays ending output
  pub exactly : text ≡ output ++ clients_text h (client_script h heard).clients events
