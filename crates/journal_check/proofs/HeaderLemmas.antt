-- A header that is read line by line.
use Rattle.std.proofs.Common.{◌≡◌, ℕ, ◌+◌, ◌≤◌, true, false, List, [], ◌∷◌, length, Some, Result, Ok, Err, refl, sym, ap, ◌∙◌, arith}
use Rattle.std.proofs.lemmas.Bool.{cond-true, cond-false, lt-ltb, le-ltb}
use Rattle.fx_text.specs.Lines.{line_of, line_seen}
use Rattle.fx_rules.specs.Session.{Header}
use Rattle.session_head.specs.Head.{Head, Begun, Drafting, Started, Faulted, with_line, answer_to, session_of, IsStarted}
use Rattle.session_head.specs.declared.reason.HeadReason.{HeadReason}
use Rattle.session_head.specs.declared.reason.HeadStep.TheVariants.{More, Start}
use Rattle.session_head.specs.declared.reason.HeadStop.TheVariants.{Fault}
use Rattle.journal_check.specs.Lines.{LineAt, behind, is_long, lines_from}
use Rattle.journal_check.specs.Listed.{headed, header_among}
use Rattle.journal_check.specs.inside.Stops.{IsReadAt, IsStopAt, Missing, TooLong, ReadsLine, Answers}
use Rattle.journal_check.specs.declared.header.Headed.{Headed}
use Rattle.journal_check.specs.declared.line.ReadLine.{ReadLine}
use Rattle.journal_check.specs.declared.stop.Stop.{Stop}
use Rattle.journal_check.specs.declared.stop.Stop.TheVariants.{Wrong, Memory}

header_among-none : (end : ℕ) (head : Head) → header_among end head [] ≡ Err end
unfolding header_among
header_among-none end head = refl

header_among-long : (end : ℕ) (head : Head) (line : LineAt) (more : List LineAt) → is_long line ≡ true → header_among end head (line ∷ more) ≡ Err line.at
unfolding header_among
header_among-long end head line more long = cond-true (is_long line) _ _ long

pub header_among-short : (end : ℕ) (head : Head) (line : LineAt) (more : List LineAt) → is_long line ≡ false
    → header_among end head (line ∷ more) ≡ headed line (with_line head (line_of line.part)) (header_among end (with_line head (line_of line.part)) more)
unfolding header_among
header_among-short end head line more short = cond-false (is_long line) _ _ short

-- no line can be read
pub header_stops : (text : List ℕ) (at offset : ℕ) (head : Head) → IsStopAt text at offset → header_among (length text) head (lines_from text at) ≡ Err offset
header_stops text at offset head (Missing none is) = ap (header_among (length text) head) none ∙ header_among-none (length text) head ∙ ap (λ (n : ℕ). Err n) (sym is)
header_stops text at offset head (TooLong part there long is) =
    ap (header_among (length text) head) there.lines
    ∙ header_among-long (length text) head (record { at = at; part = part }) (lines_from text (at + length part + 1)) (lt-ltb 256 (length part) long)
    ∙ ap (λ (n : ℕ). Err n) (sym is)

-- a line was read
header_reads : (text : List ℕ) (at : ℕ) (read : ReadLine) (head after : Head) (is : IsReadAt text at read) → after ≡ with_line head (line_seen read.line)
    → header_among (length text) head (lines_from text at) ≡ headed (record { at = at; part = is.part }) after (header_among (length text) after (lines_from text read.next))
header_reads text at read head after is then =
    let line : LineAt = record { at = at; part = is.part } in
    let same : with_line head (line_of is.part) ≡ after = ap (with_line head) (sym is.line_is) ∙ sym then in
    ap (header_among (length text) head) is.there.lines
    ∙ header_among-short (length text) head line (lines_from text (at + length is.part + 1)) (le-ltb 256 (length is.part) is.short)
    ∙ ap (λ (h : Head). headed line h (header_among (length text) h (lines_from text (at + length is.part + 1)))) same
    ∙ ap (λ (n : ℕ). headed line after (header_among (length text) after (lines_from text n))) (sym is.next_is)

goes_on : (line : LineAt) (head : Head) (on : Result Headed ℕ) → Ok More ≡ answer_to head → headed line head on ≡ on
goes_on line (Begun lines) on more = refl
goes_on line (Drafting lines draft) on more = refl
goes_on line (Started lines header) on more = cc
goes_on line (Faulted number reason) on more = cc

fails : (line : LineAt) (head : Head) (on : Result Headed ℕ) (number : ℕ) (reason : HeadReason) → Err (Fault number reason) ≡ answer_to head → headed line head on ≡ Err line.at
fails line (Begun lines) on number reason fault = cc
fails line (Drafting lines draft) on number reason fault = cc
fails line (Started lines header) on number reason fault = cc
fails line (Faulted n r) on number reason fault = refl

headed_same : (session header : Header) (next other : ℕ) (made : Headed) → session ≡ header → next ≡ other → made ≡ record { session = session; next = next } → made ≡ record { session = header; next = other }
headed_same session header next other made a b is = cc

pub started : (line : LineAt) (head : Head) (on : Result Headed ℕ) (header : Header) (next : ℕ) → session_of head ≡ Some header → behind line ≡ next → headed line head on ≡ Ok (record { session = header; next = next })
started line (Begun lines) on header next is there = cc
started line (Drafting lines draft) on header next is there = cc
started line (Started lines session) on header next is there =
    let same : session ≡ header = cc in
    ap (λ (made : Headed). Ok made) (headed_same session header (behind line) next (record { session = session; next = behind line }) same there refl)
started line (Faulted number reason) on header next is there = cc

-- the header goes on
pub header_more : (text : List ℕ) (at : ℕ) (read : ReadLine) (head after : Head) → IsReadAt text at read → after ≡ with_line head (line_seen read.line) → Ok More ≡ answer_to after
    → header_among (length text) head (lines_from text at) ≡ header_among (length text) after (lines_from text read.next)
header_more text at read head after is then more = header_reads text at read head after is then ∙ goes_on (record { at = at; part = is.part }) after (header_among (length text) after (lines_from text read.next)) more

-- the line has a fault
pub header_wrong : (text : List ℕ) (at : ℕ) (read : ReadLine) (head after : Head) (number : ℕ) (reason : HeadReason) → IsReadAt text at read → after ≡ with_line head (line_seen read.line) → Err (Fault number reason) ≡ answer_to after
    → header_among (length text) head (lines_from text at) ≡ Err at
header_wrong text at read head after number reason is then fault =
    header_reads text at read head after is then ∙ fails (record { at = at; part = is.part }) after (header_among (length text) after (lines_from text read.next)) number reason fault

-- the line is START
pub header_whole : (text : List ℕ) (at : ℕ) (read : ReadLine) (head after : Head) (header : Header) → IsReadAt text at read → after ≡ with_line head (line_seen read.line) → session_of after ≡ Some header
    → header_among (length text) head (lines_from text at) ≡ Ok (record { session = header; next = read.next })
header_whole text at read head after header is then whole =
    header_reads text at read head after is then
    ∙ started (record { at = at; part = is.part }) after (header_among (length text) after (lines_from text read.next)) header read.next whole (sym is.next_is)

pub is_started : (head : Head) → Ok Start ≡ answer_to head → IsStarted head
is_started (Begun lines) start = cc
is_started (Drafting lines draft) start = cc
is_started (Started lines header) start = tt
is_started (Faulted number reason) start = cc

-- where the next line begins, the text may have ended
pub read-within : (text : List ℕ) (at : ℕ) (read : ReadLine) → IsReadAt text at read → read.next ≤ length text
read-within text at read is = omega (arith, is.next_is, is.there.within)

pub header_stopped : (text : List ℕ) (at : ℕ) (head : Head) (stop : Stop) → ReadsLine text at (Err stop) → (there : Result Headed ℕ) → there ≡ header_among (length text) head (lines_from text at) → Answers (Err stop) there
header_stopped text at head (Wrong offset) stops there is = is ∙ header_stops text at offset head stops
header_stopped text at head (Memory memory) stops there is = absurd stops
