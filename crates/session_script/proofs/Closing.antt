-- What a text is, by what its lines have come to.
use Rattle.std.proofs.Common.{◌≡◌, ℕ, ◌^◌, ◌<◌, ◌≤◌, min, Bool, true, false, ◌⊎◌, inl, inr, List, ◌++◌, length, Some, sym, ap, ◌∙◌, subst, arith}
use Rattle.std.specs.Bool.{MatchBool}
use Rattle.fx_rules.specs.Session.{Header}
use Rattle.fx_text.specs.Lines.{lines_of, rest_of, is_end_rest}
use Rattle.session_head.specs.Head as heads
use Rattle.session_head.specs.Head.{Head, read_head, session_of}
use Rattle.session_head.specs.declared.reason.HeadReason.{HeadReason}
use Rattle.session_script.specs.Script.{spoken_of, spoken_in, up_to_end, has_end, strays_in, HasSession, HasFault, HasEnd, EndsWithEnd, sent_in, strays_of}
use Rattle.session_script.specs.Reading.{HasNoFault, HasNotStarted, GoesOn, SaysBehind}
use Rattle.session_script.specs.Stage.{Tells, most_strays}
use Rattle.session_script.specs.inside.Stage.{goes_on}
use Rattle.session_script.specs.inside.Intake.{IsSettled}
use Rattle.fx_rules.specs.declared.command.Sent.{Sent}
use Rattle.session_script.proofs.ScriptLaws.{HasSession-one, HasSession-no_fault, length-sent_among, strays_in-few}

-- a header that goes on

no_fault : (head : Head) (line : ℕ) (reason : HeadReason) → goes_on head ≡ true → head ≡ heads.Faulted line reason → ⊥
no_fault head line reason going is = let e : true ≡ false = sym going ∙ ap goes_on is in cc

no_session : (head : Head) (h : Header) → goes_on head ≡ true → session_of head ≡ Some h → ⊥
no_session (heads.Begun line) h going is = cc
no_session (heads.Drafting line draft) h going is = cc
no_session (heads.Started line g) h going is = cc
no_session (heads.Faulted line reason) h going is = cc

pub heading-no_fault : (text : List ℕ) (head : Head) → head ≡ read_head (lines_of text) → goes_on head ≡ true → HasNoFault text
unfolding HasFault
heading-no_fault text head is going = λ line reason fault. no_fault head line reason going (is ∙ fault)

pub heading-no_session : (text : List ℕ) (head : Head) → head ≡ read_head (lines_of text) → goes_on head ≡ true → HasNotStarted text
unfolding HasSession
heading-no_session text head is going = λ h session. no_session head h going (ap session_of is ∙ session)

pub heading-goes_on : (text : List ℕ) (head : Head) → head ≡ read_head (lines_of text) → goes_on head ≡ true → GoesOn text
heading-goes_on text head is going = (heading-no_fault text head is going, λ (h, session, end). heading-no_session text head is going h session)

pub heading-no_end : (text : List ℕ) (head : Head) → head ≡ read_head (lines_of text) → goes_on head ≡ true → EndsWithEnd text → ⊥
heading-no_end text head is going = λ (h, session, end). heading-no_session text head is going h session

-- a fault

pub faulted-has : (text : List ℕ) (line : ℕ) (reason : HeadReason) → read_head (lines_of text) ≡ heads.Faulted line reason → HasFault text line reason
unfolding HasFault
faulted-has text line reason is = is

-- commands

pub told_session : (text : List ℕ) (h : Header) (sent : List Sent) (strays : ℕ) (ended : Bool) → Tells (lines_of text) h sent strays ended → HasSession text h
unfolding HasSession
told_session text h sent strays ended tells = tells.session

told_end : (text : List ℕ) (h : Header) (sent : List Sent) (strays : ℕ) (ended : Bool) → Tells (lines_of text) h sent strays ended → ended ≡ has_end (spoken_in h text)
unfolding spoken_in
told_end text h sent strays ended tells = tells.end

told_no_fault : (text : List ℕ) (h : Header) (sent : List Sent) (strays : ℕ) (ended : Bool) → Tells (lines_of text) h sent strays ended → HasNoFault text
told_no_fault text h sent strays ended tells = λ line reason fault. HasSession-no_fault text h line reason (told_session text h sent strays ended tells) fault

told_has_end : (text : List ℕ) (h : Header) (sent : List Sent) (strays : ℕ) → Tells (lines_of text) h sent strays true → HasEnd text
told_has_end text h sent strays tells = (h, told_session text h sent strays true tells, sym (told_end text h sent strays true tells))

told_no_end : (text : List ℕ) (h : Header) (sent : List Sent) (strays : ℕ) → Tells (lines_of text) h sent strays false → HasEnd text → ⊥
told_no_end text h sent strays tells (g, session, end) =
    let same : g ≡ h = HasSession-one text g h session (told_session text h sent strays false tells) in
    let ends : has_end (spoken_in h text) ≡ true = subst (λ (header : Header). has_end (spoken_in header text) ≡ true) same end in
    let e : false ≡ true = told_end text h sent strays false tells ∙ ends in cc

pub told-settled : (text : List ℕ) (h : Header) (sent : List Sent) (strays : ℕ) (ended : Bool) → Tells (lines_of text) h sent strays ended → MatchBool ended (IsSettled text) (GoesOn text)
told-settled text h sent strays true tells = inl (told_has_end text h sent strays tells)
told-settled text h sent strays false tells = (told_no_fault text h sent strays false tells, told_no_end text h sent strays tells)

-- a script

fewer : (a n : ℕ) → a ≤ n → n < 2 ^ 64 → min a most_strays ≡ a
fewer a n few small = omega arith

pub told_says : (front input : List ℕ) (h : Header) (sent : List Sent) (strays : ℕ) (ended : Bool) → length (spoken_of h (lines_of (front ++ input))) ≤ length input → length input < 2 ^ 64 → Tells (lines_of (front ++ input)) h sent strays ended → SaysBehind front input h sent strays
unfolding HasSession sent_in strays_of spoken_in
told_says front input h sent strays ended few small tells =
    let said = spoken_of h (lines_of (front ++ input)) in
    record {
      session = tells.session;
      sent_is = tells.commands;
      strays_is = tells.count ∙ fewer (strays_in (up_to_end said)) (length input) (omega (arith, strays_in-few said)) small;
      valid = tells.valid;
      few = omega (arith, ap (λ (all : List Sent). length all) tells.commands, length-sent_among said);
    }

pub told-ends : (text : List ℕ) (h : Header) (sent : List Sent) (strays : ℕ) (ended : Bool) → Tells (lines_of text) h sent strays ended → (ended ≡ true) ⊎ (is_end_rest (rest_of text) ≡ true) → HasEnd text ⊎ EndsWithEnd text
told-ends text h sent strays ended tells (inl is) = inl (told_has_end text h sent strays (subst (λ (b : Bool). Tells (lines_of text) h sent strays b) is tells))
told-ends text h sent strays ended tells (inr is) = inr (h, told_session text h sent strays ended tells, is)

no_end_rest : (text : List ℕ) → is_end_rest (rest_of text) ≡ false → EndsWithEnd text → ⊥
no_end_rest text not (h, session, end) = let e : false ≡ true = sym not ∙ end in cc

pub told-cut : (text : List ℕ) (h : Header) (sent : List Sent) (strays : ℕ) (ended : Bool) → Tells (lines_of text) h sent strays ended → ended ≡ false → is_end_rest (rest_of text) ≡ false
    → HasNoFault text × ¬ (HasEnd text) × ¬ (EndsWithEnd text)
told-cut text h sent strays ended tells on not =
    let tells' = subst (λ (b : Bool). Tells (lines_of text) h sent strays b) on tells in
    (told_no_fault text h sent strays false tells', told_no_end text h sent strays tells', no_end_rest text not)
