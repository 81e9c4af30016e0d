-- The lines of a session that speak of clients: a declaration, and a client's command.
use Rattle.std.specs.Prelude.{ℕ, ◌==◌, ◌&&◌, Bool, nat_lt, not, Option, Some, None, List, ◌∷◌, ◌++◌, length, position, is_some, codes, bytes_eq, if◌then◌else◌}
use Rattle.fx_text.specs.Fields.{fields_of, first_field, field_at}
use Rattle.fx_text.specs.Number.{number_of}
use Rattle.fx_text.specs.declared.line.Line.{Line}
use Rattle.fx_text.specs.declared.line.Line.TheVariants.{Whole, Long}
use Rattle.fx_rules.specs.Names.{is_name}
use Rattle.fx_rules.specs.Session.{Header, bank_name, bank_named}
use Rattle.fx_rules.specs.declared.command.Command.{Command}
use Rattle.fx_rules.specs.declared.command.Command.TheVariants.{Bad}
use Rattle.fx_rules.specs.declared.command.Reject.TheVariants as reject
use Rattle.order_lines.specs.Reading.{command_said}
use Rattle.order_lines.specs.Grammar.{command_line, or_bad}
use Rattle.order_lines.specs.declared.spoken.Spoken.{Spoken}
use Rattle.order_lines.specs.declared.spoken.Spoken.TheVariants.{Stray}
use Rattle.client_desk.specs.Clients.{bank_of_client}
use Rattle.client_desk.specs.declared.client.Client.{Client}
use Rattle.client_desk.specs.declared.line.ClientLine.{ClientLine}
use Rattle.client_desk.specs.declared.line.ClientLine.TheVariants.{Declares, Of, Plain}

-- what holds of a client that is declared, of a client's command, and of a line that is none of a client
abbrev pub IfDeclares : ClientLine → (Client → Type 0) → Type 0
IfDeclares (Declares client) P = P client
IfDeclares _ P = Unit {0}

abbrev pub IfOf : ClientLine → (ℕ → Command → Type 0) → Type 0
IfOf (Of c command) P = P c command
IfOf _ P = Unit {0}

abbrev pub IfPlain : ClientLine → (Spoken → Type 0) → Type 0
IfPlain (Plain spoken) P = P spoken
IfPlain _ P = Unit {0}

-- the first field of a declaration
abbrev pub client_word : List ℕ
client_word = codes "CLIENT:"

-- the first field of a client's command: its bank's name, a colon, and its own name
abbrev pub client_text : Header → Client → List ℕ
client_text h client = bank_name h client.bank ++ (58 ∷ client.name)

-- the client that such a field names
abbrev pub client_named : Header → List Client → List ℕ → Option ℕ
client_named h clients text = position (λ client. bytes_eq (client_text h client) text) clients

-- what the fields of a declaration say: a bank's name, the client's, and its limit in credit units, 0 to 10^15
abbrev pub client_with : Option ℕ → List ℕ → Option ℕ → Option Client
client_with None text units = None
client_with (Some of) text None = None
client_with (Some of) text (Some units) = if is_name text then Some (record { bank = of; name = text; limit = units }) else None

abbrev pub client_said : Header → List (List ℕ) → Option Client
client_said h fields = if length fields == 4
    then client_with (bank_named h.banks (field_at fields 1)) (field_at fields 2) (number_of 0 1000000000000000 (field_at fields 3))
    else None

-- a client is of that bank and of that name
abbrev pub is_same : Client → Client → Bool
is_same client other = client.bank == other.bank && bytes_eq client.name other.name

-- there is room for a client more, and it is not among them
abbrev pub is_new : List Client → Client → Bool
is_new clients client = nat_lt (length clients) 1024 && not (is_some (position (is_same client) clients))

-- a declaration, and a stray where it is wrong, repeated or surplus
abbrev pub declared : List Client → Option Client → ClientLine
declared clients None = Plain Stray
declared clients (Some client) = if is_new clients client then Declares client else Plain Stray

-- the line of a client, or else of what the line is without clients
abbrev pub of_client : Option ℕ → (ℕ → Command) → ClientLine → ClientLine
of_client None asks plain = plain
of_client (Some c) asks plain = Of c (asks c)

-- What a line says. A declaration is one whose first field is `CLIENT:`; one whose first field is a declared client's is that
-- client's command, read as its bank's; any other is what it is without clients. A long line is never a declaration, and is a
-- bad line of the client that the field kept of it names.
unfoldable pub client_line_of : Header → List Client → Line → ClientLine
client_line_of h clients (Whole text) =
    if bytes_eq (first_field text) client_word then declared clients (client_said h (fields_of text))
    else of_client (client_named h clients (first_field text))
    (λ c. or_bad (command_said h (bank_of_client clients c) (fields_of text))) (Plain (command_line h (Whole text)))
client_line_of h clients (Long first) =
    if bytes_eq first client_word then Plain Stray
    else of_client (client_named h clients first) (λ c. Bad reject.Long) (Plain (command_line h (Long first)))
