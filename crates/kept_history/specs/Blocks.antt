-- What the blocks of a kept journal say: a header, and then commands.
use Rattle.std.specs.Prelude.{ℕ, ◌+◌, ◌==◌, if◌then◌else◌, List, [], ◌∷◌, ◌++◌, length, Option, Some, None, is_some, option_map, option_and_then, Result, Ok, Err}
use Rattle.fx_text.specs.Lines.{lines_of, rest_of}
use Rattle.fx_text.specs.declared.line.Line.{Line}
use Rattle.fx_rules.specs.Sending.{sent_of}
use Rattle.fx_rules.specs.Session.{Header}
use Rattle.fx_rules.specs.declared.command.Sent.{Sent}
use Rattle.session_head.specs.Head.{Head, Begun, with_line, session_of}
use Rattle.order_lines.specs.Grammar.{journal_line}

-- the lines of a body, where a line feed ends each and nothing stands behind the last
unfoldable pub lines_in : List ℕ → Option (List Line)
lines_in body = if length (rest_of body) == 0 then Some (lines_of body) else None

-- The header

-- the session that a header and the lines behind it declare, where START is the last of them all
abbrev pub ended_by_start : Head → List Line → Option Header
ended_by_start head [] = session_of head
ended_by_start head (line ∷ more) = if is_some (session_of head) then None else ended_by_start (with_line head line) more

-- the session of a body that is a header up to its START
abbrev pub header_in : List ℕ → Option Header
header_in body = option_and_then (ended_by_start (Begun 0)) (lines_in body)

-- The commands

-- commands behind those before them
abbrev pub behind : List Sent → Option (List Sent) → Option (List Sent)
behind before more = option_map (λ sent. before ++ sent) more

-- the commands of lines, each of which is a journal's
abbrev pub commands_of : Header → List Line → Option (List Sent)
commands_of h [] = Some []
commands_of h (line ∷ more) = option_and_then (λ said. behind (sent_of said ∷ []) (commands_of h more)) (journal_line h line)

-- the commands of a body that is lines of a journal
abbrev pub commands_in : Header → List ℕ → Option (List Sent)
commands_in h body = option_and_then (commands_of h) (lines_in body)

-- The blocks

-- the commands of a block of that number, and those of the blocks behind it
abbrev pub joined : ℕ → Option (List Sent) → Result (List Sent) ℕ → Result (List Sent) ℕ
joined block None more = Err block
joined block (Some sent) (Ok more) = Ok (sent ++ more)
joined block (Some sent) (Err damaged) = Err damaged

-- the commands of blocks, numbered from `block` on, or the number of the first that is not lines of a journal
abbrev pub commands_from : Header → ℕ → List (List ℕ) → Result (List Sent) ℕ
commands_from h block [] = Ok []
commands_from h block (body ∷ more) = joined block (commands_in h body) (commands_from h (block + 1) more)

-- a session and commands
pub record Listed : Type 0 where
  pub session : Header
  pub commands : List Sent

abbrev pub with_session : Header → Result (List Sent) ℕ → Result Listed ℕ
with_session h (Ok commands) = Ok (record { session = h; commands = commands })
with_session h (Err block) = Err block

abbrev pub kept_behind : Option Header → List (List ℕ) → Result Listed ℕ
kept_behind None blocks = Err 0
kept_behind (Some h) blocks = with_session h (commands_from h 1 blocks)

-- what blocks hold: the first is a header, and each other is lines of a journal. Else the number of the first that is not,
-- counted from 0
abbrev pub kept_in : List (List ℕ) → Result Listed ℕ
kept_in [] = Err 0
kept_in (first ∷ blocks) = kept_behind (header_in first) blocks
