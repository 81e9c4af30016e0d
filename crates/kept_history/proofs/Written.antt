-- What is written as a header, and as the lines of a journal, is read back.
use Rattle.std.proofs.Common.{◌≡◌, ℕ, ◌+◌, List, [], ◌∷◌, ◌++◌, length, map, Option, Some, None, Result, Ok, Err, refl, sym, ap, ◌∙◌, subst, append_assoc, append-nil}
use Rattle.std.specs.Prelude.{◌==◌, if◌then◌else◌, option_and_then}
use Rattle.std.specs.List.{flat_map}
use Rattle.std.proofs.lemmas.List.{map-append}
use Rattle.fx_text.specs.Lines.{lines_of, rest_of, line_of, IsFirstLine, IsRest}
use Rattle.fx_text.specs.declared.line.Line.{Line}
use Rattle.fx_text.proofs.JoinedFields.{lines_of-line, rest_of-line}
use Rattle.fx_rules.specs.Lists.{Each}
use Rattle.fx_rules.specs.Session.{Header, IsSession}
use Rattle.fx_rules.specs.Sending.{sent_by}
use Rattle.fx_rules.specs.Step.{IsCommand}
use Rattle.fx_rules.specs.declared.command.Sent.{Sent}
use Rattle.fx_rules.specs.declared.outcome.Entry.{Entry}
use Rattle.session_head.specs.Draft.{Draft}
use Rattle.session_head.specs.Head.{Head, Begun, Drafting, Started, Faulted, with_line, with_lines, read_head, session_of}
use Rattle.session_head.specs.HeadText.{head_text_of}
use Rattle.session_head.proofs.RoundLemmas.{head_text-read, head_text-whole, head_text-ends}
use Rattle.order_lines.specs.Spelling.{command_text_of}
use Rattle.order_lines.proofs.WrittenCommands.{IsWritten-command}
use Rattle.kept_history.specs.Blocks.{Listed, lines_in, ended_by_start, header_in, behind, commands_in, joined, commands_from, with_session, kept_behind, kept_in}
use Rattle.kept_history.proofs.LineLemmas.{commands_more, commands_rest}

-- The header

stays_started : (n : ℕ) (h : Header) (lines : List Line) → with_lines (Started n h) lines ≡ Started n h
stays_started n h [] = refl
stays_started n h (line ∷ lines) = stays_started n h lines

drafts : (number : ℕ) (h : Header) (n : ℕ) (d : Draft) → Started number h ≡ Drafting n d → ⊥
drafts number h n d is = cc

-- a header that had not started before its last line
started_last : (head : Head) (lines : List Line) (last : Line) (n : ℕ) (d : Draft) → with_lines head lines ≡ Drafting n d → ended_by_start head (lines ++ last ∷ []) ≡ session_of (with_lines head (lines ++ last ∷ []))
started_last (Begun k) [] last n d is = refl
started_last (Drafting k e) [] last n d is = refl
started_last (Faulted k why) [] last n d is = refl
started_last (Started k g) [] last n d is = absurd (drafts k g n d is)
started_last (Begun k) (line ∷ lines) last n d is = started_last (with_line (Begun k) line) lines last n d is
started_last (Drafting k e) (line ∷ lines) last n d is = started_last (with_line (Drafting k e) line) lines last n d is
started_last (Faulted k why) (line ∷ lines) last n d is = started_last (with_line (Faulted k why) line) lines last n d is
started_last (Started k g) (line ∷ lines) last n d is = absurd (drafts k g n d (sym (stays_started k g lines) ∙ is))

pub header_written : (h : Header) → IsSession h → header_in (head_text_of h) ≡ Some h
unfolding lines_in
header_written h session =
    let ends = head_text-ends h session in
    ap (λ (rest : List ℕ). option_and_then (ended_by_start (Begun 0)) (if length rest == 0 then Some (lines_of (head_text_of h)) else None)) (head_text-whole h session)
    ∙ ap (ended_by_start (Begun 0)) ends.all_are
    ∙ started_last (Begun 0) ends.lines ends.last ends.drafted ends.draft ends.before
    ∙ ap (λ (lines : List Line). session_of (read_head lines)) (sym ends.all_are)
    ∙ head_text-read h session

-- The commands

-- the lines of the commands of entries
abbrev pub lines_written : Header → List Entry → List ℕ
lines_written h entries = flat_map (λ (e : Entry). command_text_of h e.bank e.command ++ 10 ∷ []) entries

-- what a legal history's entries may have as their commands
abbrev pub AreCommands : Header → List Entry → Type 0
AreCommands h entries = Each (λ (e : Entry). IsCommand h e.bank e.command) entries

no_text : IsRest []
unfolding lines_of rest_of
no_text = record { lines = refl; whole = refl }

-- the lines of entries, in front of more
written_on : (h : Header) (before : List Sent) (entries : List Entry) (more : List ℕ) → IsSession h → AreCommands h entries
    → behind before (commands_in h (lines_written h entries ++ more)) ≡ behind (before ++ map sent_by entries) (commands_in h more)
written_on h before [] more session all = ap (λ (sent : List Sent). behind sent (commands_in h more)) (sym (append-nil before))
written_on h before (e ∷ entries) more session all =
    let text : List ℕ = command_text_of h e.bank e.command in
    let rest : List ℕ = lines_written h entries in
    let is = IsWritten-command h e.bank e.command session all.0 in
    let first : IsFirstLine (text ++ 10 ∷ (rest ++ more)) (line_of text) (rest ++ more) = record { lines = lines_of-line text (rest ++ more) is.visible; rest = rest_of-line text (rest ++ more) is.visible } in
    ap (λ (t : List ℕ). behind before (commands_in h t)) (append_assoc (text ++ 10 ∷ []) rest more ∙ append_assoc text (10 ∷ []) (rest ++ more))
    ∙ commands_more h before (before ++ sent_by e ∷ []) (text ++ 10 ∷ (rest ++ more)) (line_of text) (rest ++ more) (e.bank, e.command) first (sym is.read_back) refl
    ∙ written_on h (before ++ sent_by e ∷ []) entries more session all.1
    ∙ ap (λ (sent : List Sent). behind sent (commands_in h more)) (append_assoc before (sent_by e ∷ []) (map sent_by entries))

behind_none : (read : Option (List Sent)) → behind [] read ≡ read
behind_none None = refl
behind_none (Some sent) = refl

pub commands_written : (h : Header) (entries : List Entry) → IsSession h → AreCommands h entries → commands_in h (lines_written h entries) ≡ Some (map sent_by entries)
commands_written h entries session all =
    sym (behind_none (commands_in h (lines_written h entries)))
    ∙ ap (λ (t : List ℕ). behind [] (commands_in h t)) (sym (append-nil (lines_written h entries)))
    ∙ written_on h [] entries [] session all
    ∙ commands_rest h (map sent_by entries) [] no_text

-- The blocks

abbrev list_of : List Sent → Result (List Sent) ℕ
list_of sent = Ok sent

abbrev listed_of : Listed → Result Listed ℕ
listed_of listed = Ok listed

list_to : (xs ys : List Sent) → list_of xs ≡ list_of ys → xs ≡ ys
list_to xs ys is = cc

listed_to : (one other : Listed) → listed_of one ≡ listed_of other → one ≡ other
listed_to one other is = cc

not_list : (block : ℕ) (sent : List Sent) → Err block ≡ list_of sent → ⊥
not_list block sent is = cc

not_listed : (block : ℕ) (listed : Listed) → Err block ≡ listed_of listed → ⊥
not_listed block listed is = cc

-- a block that was read, and those behind it
record ReadsOn (read : Option (List Sent)) (more : Result (List Sent) ℕ) (sent : List Sent) : Type 0 where
  first : List Sent
  rest : List Sent
  one : read ≡ Some first
  others : more ≡ Ok rest
  all : sent ≡ first ++ rest

reads_on : (block : ℕ) (read : Option (List Sent)) (more : Result (List Sent) ℕ) (sent : List Sent) → joined block read more ≡ Ok sent → ReadsOn read more sent
reads_on block None more sent is = absurd (not_list block sent is)
reads_on block (Some first) (Ok rest) sent is = record { first = first; rest = rest; one = refl; others = refl; all = sym (list_to (first ++ rest) sent is) }
reads_on block (Some first) (Err damaged) sent is = absurd (not_list damaged sent is)

-- the lines of rounds, a block for each
rounds_written : (h : Header) (block : ℕ) (parts : List (List Entry)) → IsSession h → Each (AreCommands h) parts → commands_from h block (map (lines_written h) parts) ≡ Ok (map sent_by (flat_map (λ part. part) parts))
rounds_written h block [] session all = refl
rounds_written h block (part ∷ parts) session all =
    ap (λ (read : Option (List Sent)). joined block read (commands_from h (block + 1) (map (lines_written h) parts))) (commands_written h part session all.0)
    ∙ ap (joined block (Some (map sent_by part))) (rounds_written h (block + 1) parts session all.1)
    ∙ ap list_of (sym (map-append sent_by part (flat_map (λ p. p) parts)))

behind_blocks : (h : Header) (block : ℕ) (blocks more : List (List ℕ)) (sent new : List Sent) → commands_from h block blocks ≡ Ok sent → ((number : ℕ) → commands_from h number more ≡ Ok new)
    → commands_from h block (blocks ++ more) ≡ Ok (sent ++ new)
behind_blocks h block [] more sent new is read = read block ∙ ap (λ (front : List Sent). list_of (front ++ new)) (list_to [] sent is)
behind_blocks h block (body ∷ blocks) more sent new is read =
    let on = reads_on block (commands_in h body) (commands_from h (block + 1) blocks) sent is in
    ap (λ (read : Option (List Sent)). joined block read (commands_from h (block + 1) (blocks ++ more))) on.one
    ∙ ap (joined block (Some on.first)) (behind_blocks h (block + 1) blocks more on.rest new on.others read)
    ∙ ap list_of (sym (append_assoc on.first on.rest new) ∙ ap (λ (front : List Sent). front ++ new) (sym on.all))

record IsOf (g h : Header) (read : Result (List Sent) ℕ) (sent : List Sent) : Type 0 where
  session : g ≡ h
  commands : read ≡ Ok sent

of_session : (g h : Header) (read : Result (List Sent) ℕ) (sent : List Sent) → with_session g read ≡ Ok (record { session = h; commands = sent }) → IsOf g h read sent
of_session g h (Ok commands) sent is =
    let same = listed_to (record { session = g; commands = commands }) (record { session = h; commands = sent }) is in
    record { session = ap (λ (listed : Listed). listed.session) same; commands = ap (λ (listed : Listed). list_of listed.commands) same }
of_session g h (Err block) sent is = absurd (not_listed block (record { session = h; commands = sent }) is)

kept_on : (header : Option Header) (blocks more : List (List ℕ)) (h : Header) (sent new : List Sent) → kept_behind header blocks ≡ Ok (record { session = h; commands = sent }) → ((number : ℕ) → commands_from h number more ≡ Ok new)
    → kept_behind header (blocks ++ more) ≡ Ok (record { session = h; commands = sent ++ new })
kept_on None blocks more h sent new is read = absurd (not_listed 0 (record { session = h; commands = sent }) is)
kept_on (Some g) blocks more h sent new is read =
    let of = of_session g h (commands_from g 1 blocks) sent is in
    ap (λ (x : Header). with_session x (commands_from x 1 (blocks ++ more))) of.session
    ∙ ap (with_session h) (behind_blocks h 1 blocks more sent new (subst (λ (x : Header). commands_from x 1 blocks ≡ Ok sent) of.session of.commands) read)

-- blocks that hold a session and commands, and behind them a block for each of these rounds
pub kept_more : (h : Header) (bodies : List (List ℕ)) (sent : List Sent) (parts : List (List Entry)) → IsSession h → Each (AreCommands h) parts → kept_in bodies ≡ Ok (record { session = h; commands = sent })
    → kept_in (bodies ++ map (lines_written h) parts) ≡ Ok (record { session = h; commands = sent ++ map sent_by (flat_map (λ part. part) parts) })
kept_more h [] sent parts session all is = absurd (not_listed 0 (record { session = h; commands = sent }) is)
kept_more h (first ∷ blocks) sent parts session all is = kept_on (header_in first) blocks (map (lines_written h) parts) h sent (map sent_by (flat_map (λ part. part) parts)) is (λ number. rounds_written h number parts session all)

-- a header's block, and behind it a block for each of these rounds
pub kept_first : (h : Header) (parts : List (List Entry)) → IsSession h → Each (AreCommands h) parts
    → kept_in (head_text_of h ∷ map (lines_written h) parts) ≡ Ok (record { session = h; commands = map sent_by (flat_map (λ part. part) parts) })
kept_first h parts session all =
    ap (λ (header : Option Header). kept_behind header (map (lines_written h) parts)) (header_written h session)
    ∙ ap (with_session h) (rounds_written h 1 parts session all)
