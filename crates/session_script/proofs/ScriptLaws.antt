-- A session's text as it goes on: its session, its first fault, its END line and what stands before that stay.
use Rattle.std.proofs.Common.{◌≡◌, ℕ, ◌+◌, ◌≤◌, Bool, true, false, cond, List, [], ◌∷◌, ◌++◌, length, map, None, Some, refl, sym, ap, ◌∙◌, arith, inl, inr, append-nil, length-append}
use Rattle.std.proofs.lemmas.Bool.{cases_Bool}
use Rattle.std.proofs.lemmas.List.{map-append, length-map}
use mathlib.Core.List.{IsPrefix}
use Rattle.fx_rules.specs.Session.{Header}
use Rattle.fx_text.specs.declared.line.Line.{Line}
use Rattle.fx_text.specs.Lines.{lines_of, rest_of}
use Rattle.fx_text.proofs.LinesLemmas.{lines_of-append, length-lines_of}
use Rattle.session_head.specs.Head as heads
use Rattle.session_head.specs.Head.{Head, read_head, with_line, with_lines, session_of}
use Rattle.session_head.proofs.HeadLemmas.{with_lines-append}
use Rattle.session_head.specs.declared.reason.HeadReason.{HeadReason}
use Rattle.order_lines.specs.Grammar.{command_line}
use Rattle.order_lines.specs.declared.spoken.Spoken.{Spoken}
use Rattle.order_lines.specs.declared.spoken.Spoken.TheVariants.{Of, Stray, End, Passed}
use Rattle.session_script.specs.inside.Script.{is_started}
use Rattle.session_script.specs.Script.{lines_behind, up_to_end, has_end, sent_among, strays_in, spoken_of, spoken_in, HasSession, HasFault, sent_in}
use Rattle.fx_rules.specs.declared.command.Sent.{Sent}
use Rattle.session_script.specs.Rounds.{IsFront}

-- A header that has started or has a fault stays as it is.

with_lines-started : (line : ℕ) (h : Header) (lines : List Line) → with_lines (heads.Started line h) lines ≡ heads.Started line h
with_lines-started line h [] = refl
with_lines-started line h (next ∷ lines) = with_lines-started line h lines

pub with_lines-faulted : (line : ℕ) (reason : HeadReason) (lines : List Line) → with_lines (heads.Faulted line reason) lines ≡ heads.Faulted line reason
with_lines-faulted line reason [] = refl
with_lines-faulted line reason (next ∷ lines) = with_lines-faulted line reason lines

session_of-with_lines : (head : Head) (h : Header) (lines : List Line) → session_of head ≡ Some h → session_of (with_lines head lines) ≡ Some h
session_of-with_lines (heads.Begun line) h lines is = absurd (cc)
session_of-with_lines (heads.Drafting line draft) h lines is = absurd (cc)
session_of-with_lines (heads.Started line g) h lines is = ap session_of (with_lines-started line g lines) ∙ is
session_of-with_lines (heads.Faulted line reason) h lines is = absurd (cc)

is_started-with_lines : (head : Head) (lines : List Line) → is_started head ≡ true → is_started (with_lines head lines) ≡ true
is_started-with_lines (heads.Begun line) lines is = absurd (cc)
is_started-with_lines (heads.Drafting line draft) lines is = absurd (cc)
is_started-with_lines (heads.Started line h) lines is = ap is_started (with_lines-started line h lines)
is_started-with_lines (heads.Faulted line reason) lines is = absurd (cc)

pub is_started-session : (head : Head) (h : Header) → session_of head ≡ Some h → is_started head ≡ true
is_started-session (heads.Begun line) h is = absurd (cc)
is_started-session (heads.Drafting line draft) h is = absurd (cc)
is_started-session (heads.Started line g) h is = refl
is_started-session (heads.Faulted line reason) h is = absurd (cc)

pub session_of-more : (lines more : List Line) (h : Header) → session_of (read_head lines) ≡ Some h → session_of (read_head (lines ++ more)) ≡ Some h
session_of-more lines more h is = ap session_of (with_lines-append (heads.Begun 0) lines more) ∙ session_of-with_lines (read_head lines) h more is

pub read_head-faulted : (lines more : List Line) (line : ℕ) (reason : HeadReason) → read_head lines ≡ heads.Faulted line reason → read_head (lines ++ more) ≡ heads.Faulted line reason
read_head-faulted lines more line reason is =
    with_lines-append (heads.Begun 0) lines more ∙ ap (λ (head : Head). with_lines head more) is ∙ with_lines-faulted line reason more

-- The lines behind START.

chosen_more : (b : Bool) (left right longer more : List Line) → (b ≡ false → longer ≡ right ++ more) → cond b (left ++ more) longer ≡ cond b left right ++ more
chosen_more true left right longer more is = refl
chosen_more false left right longer more is = is refl

chosen_none : (b : Bool) (left right : List Line) → (b ≡ true → ⊥) → right ≡ [] → cond b left right ≡ []
chosen_none true left right never none = absurd (never refl)
chosen_none false left right never none = none

chosen_same : (b : Bool) (one : List Line) → cond b one one ≡ one
chosen_same true one = refl
chosen_same false one = refl

chosen_short : (b : Bool) (left right : List Line) (n : ℕ) → length left ≤ n → length right ≤ n → length (cond b left right) ≤ n
chosen_short true left right n first second = first
chosen_short false left right n first second = second

pub lines_behind-append : (head : Head) (lines more : List Line) → is_started head ≡ false → is_started (with_lines head lines) ≡ true → lines_behind head (lines ++ more) ≡ lines_behind head lines ++ more
lines_behind-append head [] more before behind = absurd (cc)
lines_behind-append head (line ∷ lines) more before behind =
    chosen_more (is_started (with_line head line)) lines (lines_behind (with_line head line) lines) (lines_behind (with_line head line) (lines ++ more)) more
    (λ later. lines_behind-append (with_line head line) lines more later behind)

-- START itself is not behind START
pub lines_behind-start : (head : Head) (lines : List Line) (line : Line) → is_started (with_lines head lines) ≡ false → lines_behind head (lines ++ line ∷ []) ≡ []
lines_behind-start head [] line before = chosen_same (is_started (with_line head line)) []
lines_behind-start head (first ∷ lines) line before =
    chosen_none (is_started (with_line head first)) (lines ++ line ∷ []) (lines_behind (with_line head first) (lines ++ line ∷ []))
    (λ started. let e : is_started (with_lines (with_line head first) lines) ≡ true = is_started-with_lines (with_line head first) lines started in let f : true ≡ false = sym e ∙ before in absurd (cc))
    (lines_behind-start (with_line head first) lines line before)

length-lines_behind : (head : Head) (lines : List Line) → length (lines_behind head lines) ≤ length lines
length-lines_behind head [] = omega arith
length-lines_behind head (line ∷ lines) =
    chosen_short (is_started (with_line head line)) lines (lines_behind (with_line head line) lines) (length (line ∷ lines))
    (omega arith) (omega (arith, length-lines_behind (with_line head line) lines))

-- What is said.

pub has_end-more : (said more : List Spoken) → has_end said ≡ true → has_end (said ++ more) ≡ true
has_end-more [] more is = absurd (cc)
has_end-more (Of bank command ∷ said) more is = has_end-more said more is
has_end-more (Stray ∷ said) more is = has_end-more said more is
has_end-more (Passed ∷ said) more is = has_end-more said more is
has_end-more (End ∷ said) more is = refl

pub up_to_end-more : (said more : List Spoken) → has_end said ≡ true → up_to_end (said ++ more) ≡ up_to_end said
up_to_end-more [] more is = absurd (cc)
up_to_end-more (Of bank command ∷ said) more is = ap (λ (rest : List Spoken). Of bank command ∷ rest) (up_to_end-more said more is)
up_to_end-more (Stray ∷ said) more is = ap (λ (rest : List Spoken). Stray ∷ rest) (up_to_end-more said more is)
up_to_end-more (Passed ∷ said) more is = ap (λ (rest : List Spoken). Passed ∷ rest) (up_to_end-more said more is)
up_to_end-more (End ∷ said) more is = refl

pub has_end-append : (said more : List Spoken) → has_end said ≡ false → has_end (said ++ more) ≡ has_end more
has_end-append [] more is = refl
has_end-append (Of bank command ∷ said) more is = has_end-append said more is
has_end-append (Stray ∷ said) more is = has_end-append said more is
has_end-append (Passed ∷ said) more is = has_end-append said more is
has_end-append (End ∷ said) more is = absurd (cc)

pub up_to_end-append : (said more : List Spoken) → has_end said ≡ false → up_to_end (said ++ more) ≡ up_to_end said ++ up_to_end more
up_to_end-append [] more is = refl
up_to_end-append (Of bank command ∷ said) more is = ap (λ (rest : List Spoken). Of bank command ∷ rest) (up_to_end-append said more is)
up_to_end-append (Stray ∷ said) more is = ap (λ (rest : List Spoken). Stray ∷ rest) (up_to_end-append said more is)
up_to_end-append (Passed ∷ said) more is = ap (λ (rest : List Spoken). Passed ∷ rest) (up_to_end-append said more is)
up_to_end-append (End ∷ said) more is = absurd (cc)

pub sent_among-append : (said more : List Spoken) → sent_among (said ++ more) ≡ sent_among said ++ sent_among more
sent_among-append [] more = refl
sent_among-append (Of bank command ∷ said) more = ap (λ (rest : List Sent). record { bank = bank; command = command } ∷ rest) (sent_among-append said more)
sent_among-append (Stray ∷ said) more = sent_among-append said more
sent_among-append (Passed ∷ said) more = sent_among-append said more
sent_among-append (End ∷ said) more = sent_among-append said more

pub strays_in-append : (said more : List Spoken) → strays_in (said ++ more) ≡ strays_in said + strays_in more
strays_in-append [] more = omega arith
strays_in-append (Of bank command ∷ said) more = strays_in-append said more
strays_in-append (Stray ∷ said) more = omega (arith, strays_in-append said more)
strays_in-append (Passed ∷ said) more = strays_in-append said more
strays_in-append (End ∷ said) more = strays_in-append said more

pub sent_among-one : (spoken : Spoken) → sent_among (up_to_end (spoken ∷ [])) ≡ sent_among (spoken ∷ [])
sent_among-one (Of bank command) = refl
sent_among-one Stray = refl
sent_among-one Passed = refl
sent_among-one End = refl

pub strays_in-one : (spoken : Spoken) → strays_in (up_to_end (spoken ∷ [])) ≡ strays_in (spoken ∷ [])
strays_in-one (Of bank command) = refl
strays_in-one Stray = refl
strays_in-one Passed = refl
strays_in-one End = refl

pub length-sent_among : (said : List Spoken) → length (sent_among (up_to_end said)) ≤ length said
length-sent_among [] = omega arith
length-sent_among (Of bank command ∷ said) = omega (arith, length-sent_among said)
length-sent_among (Stray ∷ said) = omega (arith, length-sent_among said)
length-sent_among (Passed ∷ said) = omega (arith, length-sent_among said)
length-sent_among (End ∷ said) = omega arith

pub strays_in-few : (said : List Spoken) → strays_in (up_to_end said) ≤ length said
strays_in-few [] = omega arith
strays_in-few (Of bank command ∷ said) = omega (arith, strays_in-few said)
strays_in-few (Stray ∷ said) = omega (arith, strays_in-few said)
strays_in-few (Passed ∷ said) = omega (arith, strays_in-few said)
strays_in-few (End ∷ said) = omega arith

-- What the lines say.

pub spoken_of-append : (h : Header) (lines more : List Line) → session_of (read_head lines) ≡ Some h → spoken_of h (lines ++ more) ≡ spoken_of h lines ++ map (command_line h) more
spoken_of-append h lines more is =
    ap (map (command_line h)) (lines_behind-append (heads.Begun 0) lines more refl (is_started-session (read_head lines) h is))
    ∙ map-append (command_line h) (lines_behind (heads.Begun 0) lines) more

pub spoken_of-start : (h : Header) (lines : List Line) (line : Line) → is_started (read_head lines) ≡ false → spoken_of h (lines ++ line ∷ []) ≡ []
spoken_of-start h lines line before = ap (map (command_line h)) (lines_behind-start (heads.Begun 0) lines line before)

-- lines behind those of a front
length-lines_behind_front : (head : Head) (front lines : List Line) → lines_behind head front ≡ [] → length (lines_behind head (front ++ lines)) ≤ length lines
length-lines_behind_front head [] lines silent = length-lines_behind head lines
length-lines_behind_front head (line ∷ front) lines silent =
    shorter (is_started (with_line head line)) front (lines_behind (with_line head line) front) (lines_behind (with_line head line) (front ++ lines)) silent (length-lines_behind_front (with_line head line) front lines)
  where
    shorter : (b : Bool) (left right more : List Line) → cond b left right ≡ [] → (right ≡ [] → length more ≤ length lines) → length (cond b (left ++ lines) more) ≤ length lines
    shorter true left right more none then = omega (arith, ap (λ (all : List Line). length all) none, length-append left lines)
    shorter false left right more none then = then none

pub length-spoken_behind : (front input : List ℕ) (h : Header) → IsFront front → length (spoken_of h (lines_of (front ++ input))) ≤ length input
length-spoken_behind front input h is =
    let all : lines_of (front ++ input) ≡ lines_of front ++ lines_of input = lines_of-append front input ∙ ap (λ (rest : List ℕ). lines_of front ++ lines_of (rest ++ input)) is.whole in
    omega (
      arith,
      length-map (lines_behind (heads.Begun 0) (lines_of (front ++ input))) (command_line h),
      ap (λ (lines : List Line). length (lines_behind (heads.Begun 0) lines)) all,
      length-lines_behind_front (heads.Begun 0) (lines_of front) (lines_of input) is.silent,
      length-lines_of input,
    )

-- Texts.

-- a text's session stays
pub HasSession-more : (text more : List ℕ) (h : Header) → HasSession text h → HasSession (text ++ more) h
unfolding HasSession
HasSession-more text more h is =
    ap (λ (lines : List Line). session_of (read_head lines)) (lines_of-append text more) ∙ session_of-more (lines_of text) (lines_of (rest_of text ++ more)) h is

-- so does its header's first fault
pub HasFault-more : (text more : List ℕ) (line : ℕ) (reason : HeadReason) → HasFault text line reason → HasFault (text ++ more) line reason
unfolding HasFault
HasFault-more text more line reason is =
    ap read_head (lines_of-append text more) ∙ read_head-faulted (lines_of text) (lines_of (rest_of text ++ more)) line reason is

-- a text has one session
pub HasSession-one : (text : List ℕ) (g h : Header) → HasSession text g → HasSession text h → g ≡ h
unfolding HasSession
HasSession-one text g h first second = let e : Some g ≡ Some h = sym first ∙ second in cc

-- and not both a session and a fault
no_session : (head : Head) (h : Header) (line : ℕ) (reason : HeadReason) → session_of head ≡ Some h → head ≡ heads.Faulted line reason → ⊥
no_session head h line reason is faulted = let e : None ≡ Some h = sym (ap session_of faulted) ∙ is in cc

pub HasSession-no_fault : (text : List ℕ) (h : Header) (line : ℕ) (reason : HeadReason) → HasSession text h → HasFault text line reason → ⊥
unfolding HasSession HasFault
HasSession-no_fault text h line reason is faulted = no_session (read_head (lines_of text)) h line reason is faulted

-- behind its session's START a text goes on with what its further lines say
spoken_in-append : (text more : List ℕ) (h : Header) → HasSession text h → spoken_in h (text ++ more) ≡ spoken_in h text ++ map (command_line h) (lines_of (rest_of text ++ more))
unfolding HasSession spoken_in
spoken_in-append text more h is = ap (spoken_of h) (lines_of-append text more) ∙ spoken_of-append h (lines_of text) (lines_of (rest_of text ++ more)) is

-- as a text goes on, its commands stay in front of those that come
pub sent_in-begins : (text more : List ℕ) (h : Header) → HasSession text h → IsPrefix (sent_in h text) (sent_in h (text ++ more))
unfolding sent_in
sent_in-begins text more h session =
    let said : List Spoken = spoken_in h text in
    let later : List Spoken = map (command_line h) (lines_of (rest_of text ++ more)) in
    elim (cases_Bool (has_end said)) [
      | inl ends ↦ ([], append-nil (sent_among (up_to_end said)) ∙ sym (ap sent_among (ap up_to_end (spoken_in-append text more h session) ∙ up_to_end-more said later ends)))
      | inr on ↦ (
        sent_among (up_to_end later),
        sym (ap sent_among (ap up_to_end (spoken_in-append text more h session) ∙ up_to_end-append said later on) ∙ sent_among-append (up_to_end said) (up_to_end later)),
      )
    ]
