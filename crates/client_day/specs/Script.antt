-- What the lines of a session say to a run that knows clients, by the text alone.
use Rattle.std.specs.Prelude.{ℕ, ◌+◌, Bool, true, false, List, [], ◌∷◌, ◌++◌, Option, Some, None}
use Rattle.fx_rules.specs.declared.command.Command.{Command}
use Rattle.fx_rules.specs.declared.command.Sent.{Sent}
use Rattle.fx_rules.specs.Session.{Header}
use Rattle.client_desk.specs.Clients.{bank_of_client}
use Rattle.client_desk.specs.Lines.{client_line_of}
use Rattle.client_desk.specs.declared.client.Client.{Client}
use Rattle.client_desk.specs.declared.line.ClientLine.{ClientLine}
use Rattle.client_desk.specs.declared.line.ClientLine.TheVariants.{Declares, Of, Plain}
use Rattle.session_script.specs.Heard.{Heard}
use Rattle.session_script.specs.Heard.Heard.{Command as HeardCommand, Stray as HeardStray}

-- a command that is asked for, of a client or of none; a client is its place among the clients
pub record Asked : Type 0 where
  pub who : Option ℕ
  pub sent : Sent

-- the clients, what is asked for in the order of the lines, and how many lines are strays still
pub record ClientScript : Type 0 where
  pub clients : List Client
  pub asked : List Asked
  pub strays : ℕ

abbrev pub no_script : ClientScript
no_script = record { clients = []; asked = []; strays = 0 }

-- with a command, and with a stray
abbrev pub asked_for : Option ℕ → ℕ → Command → Asked
asked_for client sender asks = record { who = client; sent = record { bank = sender; command = asks } }

abbrev pub with_asked : ClientScript → Asked → ClientScript
with_asked script asked_now = record { clients = script.clients; asked = script.asked ++ asked_now ∷ []; strays = script.strays }

abbrev pub with_stray : ClientScript → ClientScript
with_stray script = record { clients = script.clients; asked = script.asked; strays = script.strays + 1 }

-- something was asked for
abbrev pub has_asked : List Asked → Bool
has_asked [] = false
has_asked (asked ∷ more) = true

-- a declaration counts as long as nothing was asked for, and is a stray behind that
abbrev pub declared_while : Bool → ClientScript → Client → ClientScript
declared_while true script client = with_stray script
declared_while false script client = record { clients = script.clients ++ client ∷ []; asked = script.asked; strays = script.strays }

-- with a line that is a stray without clients: a declaration, a client's command, or still a stray
abbrev pub with_line : ClientScript → ClientLine → ClientScript
with_line script (Declares client) = declared_while (has_asked script.asked) script client
with_line script (Of c command) = with_asked script (asked_for (Some c) (bank_of_client script.clients c) command)
with_line script (Plain said) = with_stray script

-- with a command or a stray more
abbrev pub with_heard : Header → ClientScript → Heard → ClientScript
with_heard h script (HeardCommand sent) = with_asked script (asked_for None sent.bank sent.command)
with_heard h script (HeardStray line) = with_line script (client_line_of h script.clients line)

-- what commands and strays say, in the order of their lines, behind what those before them said
abbrev pub script_behind : Header → ClientScript → List Heard → ClientScript
script_behind h script [] = script
script_behind h script (heard ∷ more) = script_behind h (with_heard h script heard) more

abbrev pub client_script : Header → List Heard → ClientScript
client_script h heard = script_behind h no_script heard
