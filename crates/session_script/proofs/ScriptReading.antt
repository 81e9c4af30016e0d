-- The reading of a session's text, read by read and round by round.
use Rattle.std.proofs.Common.{◌≡◌, ℕ, ◌+◌, ◌<◌, ◌≤◌, true, List, [], ◌++◌, Option, Some, None, Result, Ok, Err, inl, inr, length, refl, sym, ap, ◌∙◌, subst, arith, append-nil, append_assoc, length-append}
use Rattle.std.specs.Prelude.{IsSome, OnOk}
use Rattle.std.specs.Io.KnownBytes.{IsAtEnd}
use Rattle.fx_amounts.specs.OutOfMemory.{refused}
use Rattle.fx_edges.specs.Faults.{Rose}
use Rattle.fx_edges.specs.Reading.{Took}
use Rattle.fx_edges.proofs.Reading.{Took-nil, Took-append, Took-failed, prepend_known-nil}
use Rattle.fx_rules.specs.declared.command.Sent.{Sent}
use Rattle.fx_rules.specs.Lists.{Each}
use Rattle.fx_rules.specs.Session.{Header as SessionHeader, IsSession}
use Rattle.fx_text.specs.Lines.{lines_of, rest_of}
use Rattle.fx_text.specs.declared.line.Line.{Line}
use Rattle.session_head.specs.Head as heads
use Rattle.session_head.specs.Head.{read_head}
use Rattle.session_head.specs.HeadText.{head_text_of}
use Rattle.session_head.proofs.RoundLemmas.{head_text-ends, head_text-whole}
use Rattle.session_script.specs.Input.{input_limit}
use Rattle.session_script.specs.Script.{lines_behind}
use Rattle.session_script.specs.inside.Script.{is_started}
use Rattle.session_script.specs.Heard.{IsHeardOf, heard_in, heard_of}
use Rattle.session_script.specs.Stage.{Past, StandsAt, no_past, session_at, sent_at, strays_at, journal_at, heard_at}
use Rattle.session_script.specs.Journal.{sent_lines}
use Rattle.session_script.specs.Heard.{Heard}
use Rattle.session_script.specs.inside.Stage.{is_open, past_behind}
use Rattle.session_script.specs.Intake.{StandsFor}
use Rattle.session_script.specs.inside.Intake.{IsSettled, Closed}
use Rattle.session_script.specs.Reading.{GoesOn, HasNotStarted, IsPromptBehind, MetEnd, SaysBehind, ProgressedBehind, TextEndedBehind, Stopped}
use Rattle.session_script.specs.inside.Reading.{RoundCame}
use Rattle.session_script.specs.Rounds.{IsFront, TookOnBehind, HasReadBehind, HasJournalBehind, HasHeardBehind, HasStopped}
use Rattle.session_script.specs.inside.Rounds.{ReadsOn, TookRound}
use Rattle.session_script.specs.declared.ends.EarlyEnd.{EarlyEnd}
use Rattle.session_script.specs.declared.ends.EarlyEnd.TheVariants.{Cut, ReadFault, TooMuch}
use Rattle.session_script.specs.declared.ends.TextEnd.{TextEnd}
use Rattle.session_script.specs.declared.ends.TextEnd.TheVariants.{EndLine, Early}
use Rattle.session_script.specs.declared.ends.Stop.{Stop}
use Rattle.session_script.specs.declared.ends.Stop.TheVariants.{Header, Early as EarlyStop, Memory}
use Rattle.session_script.specs.declared.script.Keeps.{Keeps}
use Rattle.session_script.specs.declared.script.Keeps.TheVariants.{Nothing, Journal, Strays}
use Rattle.session_script.specs.declared.intake.Intake.{Intake}
use Rattle.session_script.specs.declared.intake.stage.Stage.{Stage}
use Rattle.session_script.specs.declared.intake.stage.Stage.TheVariants.{Heading, Commanding, Faulted}
use Rattle.session_script.specs.declared.reading.Reading.{Reading}
use Rattle.session_script.proofs.ScriptLaws.{HasSession-no_fault, lines_behind-start, length-spoken_behind}
use Rattle.session_script.proofs.Hearing.{heard_in-few}
use Rattle.session_script.proofs.Closing.{heading-goes_on, heading-no_session, faulted-has, told_says}

-- an empty text
no_lines : lines_of [] ≡ []
unfolding lines_of
no_lines = refl

pub front-none : IsFront []
unfolding rest_of lines_of
front-none = record { whole = refl; silent = refl }

-- a header's text says nothing behind its START
pub front-head : (h : SessionHeader) → IsSession h → IsFront (head_text_of h)
front-head h session =
    let ends = head_text-ends h session in
    record {
      whole = head_text-whole h session;
      silent = ap (lines_behind (heads.Begun 0)) ends.all_are ∙ lines_behind-start (heads.Begun 0) ends.lines ends.last (ap is_started ends.before);
    }

pub GoesOn-nil : GoesOn []
GoesOn-nil = heading-goes_on [] (heads.Begun 0) (sym (ap read_head no_lines)) refl

pub ReadsOn-nil : {S : Type 0} (left : S → Option (List ℕ)) (faults : S → ℕ) (source : S) (intake : Intake) (keeps : Keeps) → StandsFor intake [] (no_past keeps) → intake.taken ≡ 0 → ReadsOn [] left faults source source intake (no_past keeps) []
ReadsOn-nil left faults source intake keeps stands none = record {
  took = Took-nil left faults source;
  stands = stands;
  taken = none;
  goes_on = GoesOn-nil;
}

-- the input before goes on
pub prompt_here : (front input : List ℕ) → GoesOn (front ++ input) → IsPromptBehind front input
prompt_here front input going = record { before = input; last = []; joined = sym (append-nil input); short = omega arith; goes_on = going }

prompt_there : (front input piece : List ℕ) → GoesOn (front ++ input) → length piece ≤ 4096 → IsPromptBehind front (input ++ piece)
prompt_there front input piece going short = record { before = input; last = piece; joined = refl; short = short; goes_on = going }

-- within a round that began behind some input: more was taken, which goes on
pub record InRound (front : List ℕ) {S : Type 0} (left : S → Option (List ℕ)) (faults : S → ℕ) (before now : S) (intake : Intake) (former : Past) (begun : List ℕ) : Type 0 where
  pub more : List ℕ
  pub reads : ReadsOn front left faults before now intake former (begun ++ more)

-- how many bytes were taken
count_of : {front : List ℕ} {S : Type 0} {left : S → Option (List ℕ)} {faults : S → ℕ} {a b : S} {intake : Intake} {former : Past} {begun : List ℕ} (so_far : InRound front left faults a b intake former begun) → intake.taken ≡ length (begun ++ so_far.more)
count_of so_far = so_far.reads.taken

pub InRound-begun : {front : List ℕ} {S : Type 0} {left : S → Option (List ℕ)} {faults : S → ℕ} {a b : S} {intake : Intake} {former : Past} {begun : List ℕ} (later : Past) (now : Intake) → now.cutter ≡ intake.cutter → now.taken ≡ intake.taken
    → ReadsOn front left faults a b intake former begun → StandsAt now.stage (lines_of (front ++ begun)) later → InRound front left faults a b now later begun
InRound-begun {front = front} {left = left} {faults = faults} {a = a} {b = b} {begun = begun} later now held taken reads at = record {
  more = [];
  reads = subst (λ (input : List ℕ). ReadsOn front left faults a b now later input) (sym (append-nil begun))
      (record { took = reads.took; stands = record { held = held ∙ reads.stands.held; stage = at }; taken = taken ∙ reads.taken; goes_on = reads.goes_on });
}

-- a read that failed
pub TookRound-fault : {front : List ℕ} {S : Type 0} {left : S → Option (List ℕ)} {faults : S → ℕ} {a b c : S} {intake : Intake} {former : Past} {begun : List ℕ} → InRound front left faults a b intake former begun
    → intake.taken < input_limit → left c ≡ left b → Rose (faults b) (faults c) → faults b ≤ faults c → TookRound front left faults a c intake former begun (Ok (Some (Early ReadFault)))
TookRound-fault {front = front} {begun = begun} so_far short same rose count = record {
  more = so_far.more;
  took = Took-failed so_far.reads.took same count;
  within = omega (arith, count_of so_far, short);
  prompt = prompt_here front (begun ++ so_far.more) so_far.reads.goes_on;
  stands = so_far.reads.stands;
  taken = so_far.reads.taken;
  came = (omega (arith, count_of so_far, short), so_far.reads.goes_on.0, so_far.reads.goes_on.1);
  cause = λ _. omega (arith, rose, so_far.reads.took.count);
}

-- the limit was met
pub TookRound-much : {front : List ℕ} {S : Type 0} {left : S → Option (List ℕ)} {faults : S → ℕ} {a b : S} {intake : Intake} {former : Past} {begun : List ℕ} → InRound front left faults a b intake former begun
    → input_limit ≤ intake.taken → intake.taken ≤ input_limit → TookRound front left faults a b intake former begun (Ok (Some (Early TooMuch)))
TookRound-much {front = front} {begun = begun} so_far full within = record {
  more = so_far.more;
  took = so_far.reads.took;
  within = omega (arith, count_of so_far, within);
  prompt = prompt_here front (begun ++ so_far.more) so_far.reads.goes_on;
  stands = so_far.reads.stands;
  taken = so_far.reads.taken;
  came = (omega (arith, count_of so_far, full, within), so_far.reads.goes_on.0, so_far.reads.goes_on.1);
  cause = λ is. absurd (cc);
}

-- the round was full
pub TookRound-on : {front : List ℕ} {S : Type 0} {left : S → Option (List ℕ)} {faults : S → ℕ} {a b : S} {intake : Intake} {former : Past} {begun : List ℕ} → InRound front left faults a b intake former begun
    → intake.taken ≤ input_limit → TookRound front left faults a b intake former begun (Ok None)
TookRound-on {front = front} {begun = begun} so_far within = record {
  more = so_far.more;
  took = so_far.reads.took;
  within = omega (arith, count_of so_far, within);
  prompt = prompt_here front (begun ++ so_far.more) so_far.reads.goes_on;
  stands = so_far.reads.stands;
  taken = so_far.reads.taken;
  came = so_far.reads.goes_on;
  cause = λ is. absurd (cc);
}

-- a piece more
piece_behind : {front : List ℕ} {S : Type 0} {left : S → Option (List ℕ)} {faults : S → ℕ} {a b c : S} {intake : Intake} {former : Past} {begun piece : List ℕ} (so_far : InRound front left faults a b intake former begun)
    → Took left faults b c piece → Took left faults a c (begun ++ (so_far.more ++ piece))
piece_behind {left = left} {faults = faults} {a = a} {c = c} {begun = begun} {piece = piece} so_far took =
    subst (λ (input : List ℕ). Took left faults a c input) (append_assoc begun so_far.more piece) (Took-append so_far.reads.took took)

piece_prompt : (front begun more piece : List ℕ) → GoesOn (front ++ (begun ++ more)) → length piece ≤ 4096 → IsPromptBehind front (begun ++ (more ++ piece))
piece_prompt front begun more piece going short = subst (λ (input : List ℕ). IsPromptBehind front input) (append_assoc begun more piece) (prompt_there front (begun ++ more) piece going short)

piece_fits : (begun more piece : List ℕ) (taken : ℕ) → taken ≡ length (begun ++ more) → taken + length piece ≤ input_limit → length (begun ++ (more ++ piece)) ≤ input_limit
piece_fits begun more piece taken count fits = omega (arith, count, fits, length-append begun more, length-append more piece, length-append begun (more ++ piece))

piece_stands : (intake fed : Intake) (former : Past) (front begun more piece : List ℕ) → ((text : List ℕ) (past : Past) → StandsFor intake text past → StandsFor fed (text ++ piece) past)
    → StandsFor intake (front ++ (begun ++ more)) former → StandsFor fed (front ++ (begun ++ (more ++ piece))) former
piece_stands intake fed former front begun more piece feeds stands =
    subst (λ (text : List ℕ). StandsFor fed text former) (append_assoc front (begun ++ more) piece ∙ ap (λ (input : List ℕ). front ++ input) (append_assoc begun more piece))
    (feeds (front ++ (begun ++ more)) former stands)

piece_taken : (intake fed : Intake) (begun more piece : List ℕ) → fed.taken ≡ intake.taken + length piece → intake.taken ≡ length (begun ++ more) → fed.taken ≡ length (begun ++ (more ++ piece))
piece_taken intake fed begun more piece more_taken taken = omega (arith, more_taken, taken, length-append begun more, length-append more piece, length-append begun (more ++ piece))

-- no memory for it
pub TookRound-memory : {front : List ℕ} {S : Type 0} {left : S → Option (List ℕ)} {faults : S → ℕ} {a b c : S} {intake : Intake} {former : Past} {begun : List ℕ} (fed : Intake) {piece : List ℕ} → InRound front left faults a b intake former begun
    → Took left faults b c piece → length piece ≤ 4096 → intake.taken + length piece ≤ input_limit → TookRound front left faults a c fed former begun (Err (Memory refused))
TookRound-memory {front = front} {intake = intake} {begun = begun} fed {piece = piece} so_far took short fits = record {
  more = so_far.more ++ piece;
  took = piece_behind so_far took;
  within = piece_fits begun so_far.more piece intake.taken (count_of so_far) fits;
  prompt = piece_prompt front begun so_far.more piece so_far.reads.goes_on short;
  stands = tt;
  taken = tt;
  came = tt;
  cause = λ is. absurd (cc);
}

-- the source's end
ended_at_end : (front : List ℕ) (known : Option (List ℕ)) (input : List ℕ) (result : Result (Option TextEnd) Stop) → Closed (front ++ input) result → MetEnd known input → RoundCame front known input result
ended_at_end front known input (Ok (Some EndLine)) (inl has) met = inl has
ended_at_end front known input (Ok (Some EndLine)) (inr ends) met = inr (met, ends)
ended_at_end front known input (Ok (Some (Early Cut))) cut met = (met, cut.0, cut.1, cut.2)
ended_at_end front known input (Ok (Some (Early ReadFault))) never met = absurd never
ended_at_end front known input (Ok (Some (Early TooMuch))) never met = absurd never
ended_at_end front known input (Ok None) never met = absurd never
ended_at_end front known input (Err (Header line reason)) fault met = fault
ended_at_end front known input (Err (EarlyStop early)) never met = absurd never
ended_at_end front known input (Err (Memory memory)) never met = absurd never

no_read_fault : (input : List ℕ) (result : Result (Option TextEnd) Stop) → Closed input result → result ≡ Ok (Some (Early ReadFault)) → ⊥
no_read_fault input result closed is = subst (Closed input) is closed

on_ok : {T E : Type 0} (result : Result T E) {P : Type 0} → P → OnOk result P
on_ok (Ok x) p = p
on_ok (Err e) p = tt

nothing_took : {S : Type 0} {left : S → Option (List ℕ)} {faults : S → ℕ} {b c : S} → Took left faults b c [] → left b ≡ left c
nothing_took {left = left} {c = c} took = took.moved ∙ prepend_known-nil (left c)

pub TookRound-end : {front : List ℕ} {S : Type 0} {left : S → Option (List ℕ)} {faults : S → ℕ} {a b c : S} {intake : Intake} {former : Past} {begun : List ℕ} {result : Result (Option TextEnd) Stop} → InRound front left faults a b intake former begun
    → intake.taken < input_limit → Took left faults b c [] → IsAtEnd (left b) → ((text : List ℕ) (past : Past) → StandsFor intake text past → Closed text result) → TookRound front left faults a c intake former begun result
TookRound-end {front = front} {left = left} {b = b} {c = c} {former = former} {begun = begun} {result = result} so_far short took at_end closes =
    let input : List ℕ = begun ++ so_far.more in
    let closed : Closed (front ++ input) result = closes (front ++ input) former so_far.reads.stands in
    record {
      more = so_far.more;
      took = Took-failed so_far.reads.took (sym (nothing_took took)) took.count;
      within = omega (arith, count_of so_far, short);
      prompt = prompt_here front input so_far.reads.goes_on;
      stands = on_ok result so_far.reads.stands;
      taken = on_ok result so_far.reads.taken;
      came = ended_at_end front (left c) input result closed (record { met = subst IsAtEnd (nothing_took took) at_end; short = omega (arith, count_of so_far, short) });
      cause = λ is. absurd (no_read_fault (front ++ input) result closed is);
    }

-- a piece that ends the reading
not_cut : (input : List ℕ) → IsSettled input → Closed input (Ok (Some (Early Cut))) → ⊥
not_cut input (inl has) cut = cut.1 has
not_cut input (inr (line, reason, fault)) cut = cut.0 line reason fault

rest_has_end : (front : List ℕ) (known : Option (List ℕ)) (input : List ℕ) → IsSettled (front ++ input) → Closed (front ++ input) (Ok (Some EndLine)) → TextEndedBehind front known input EndLine
rest_has_end front known input settled (inl has) = inl has
rest_has_end front known input (inl has) (inr ends) = inl has
rest_has_end front known input (inr (line, reason, fault)) (inr (h, session, end)) = absurd (HasSession-no_fault (front ++ input) h line reason session fault)

ended_by_piece : (front : List ℕ) (known : Option (List ℕ)) (input : List ℕ) (result : Result (Option TextEnd) Stop) → Closed (front ++ input) result → IsSettled (front ++ input) → RoundCame front known input result
ended_by_piece front known input (Ok (Some EndLine)) closed settled = rest_has_end front known input settled closed
ended_by_piece front known input (Ok (Some (Early Cut))) cut settled = absurd (not_cut (front ++ input) settled cut)
ended_by_piece front known input (Ok (Some (Early ReadFault))) never settled = absurd never
ended_by_piece front known input (Ok (Some (Early TooMuch))) never settled = absurd never
ended_by_piece front known input (Ok None) never settled = absurd never
ended_by_piece front known input (Err (Header line reason)) fault settled = fault
ended_by_piece front known input (Err (EarlyStop early)) never settled = absurd never
ended_by_piece front known input (Err (Memory memory)) never settled = absurd never

pub TookRound-settled : {front : List ℕ} {S : Type 0} {left : S → Option (List ℕ)} {faults : S → ℕ} {a b c : S} {intake fed : Intake} {former : Past} {begun piece : List ℕ} {result : Result (Option TextEnd) Stop} → InRound front left faults a b intake former begun
    → Took left faults b c piece → length piece ≤ 4096 → intake.taken + length piece ≤ input_limit → ((text : List ℕ) (past : Past) → StandsFor intake text past → StandsFor fed (text ++ piece) past)
    → fed.taken ≡ intake.taken + length piece → ((text : List ℕ) (past : Past) → StandsFor fed text past → IsSettled text) → ((text : List ℕ) (past : Past) → StandsFor fed text past → Closed text result) → TookRound front left faults a c fed former begun result
TookRound-settled {front = front} {left = left} {c = c} {intake = intake} {fed = fed} {former = former} {begun = begun} {piece = piece} {result = result} so_far took short fits feeds more_taken settles closes =
    let input : List ℕ = begun ++ (so_far.more ++ piece) in
    let stands : StandsFor fed (front ++ input) former = piece_stands intake fed former front begun so_far.more piece feeds so_far.reads.stands in
    let closed : Closed (front ++ input) result = closes (front ++ input) former stands in
    record {
      more = so_far.more ++ piece;
      took = piece_behind so_far took;
      within = piece_fits begun so_far.more piece intake.taken (count_of so_far) fits;
      prompt = piece_prompt front begun so_far.more piece so_far.reads.goes_on short;
      stands = on_ok result stands;
      taken = on_ok result (piece_taken intake fed begun so_far.more piece more_taken so_far.reads.taken);
      came = ended_by_piece front (left c) input result closed (settles (front ++ input) former stands);
      cause = λ is. absurd (no_read_fault (front ++ input) result closed is);
    }

-- a piece behind which it goes on
pub InRound-piece : {front : List ℕ} {S : Type 0} {left : S → Option (List ℕ)} {faults : S → ℕ} {a b c : S} {intake fed : Intake} {former : Past} {begun piece : List ℕ} → InRound front left faults a b intake former begun
    → Took left faults b c piece → ((text : List ℕ) (past : Past) → StandsFor intake text past → StandsFor fed (text ++ piece) past)
    → fed.taken ≡ intake.taken + length piece → ((text : List ℕ) (past : Past) → StandsFor fed text past → GoesOn text) → InRound front left faults a c fed former begun
InRound-piece {front = front} {intake = intake} {fed = fed} {former = former} {begun = begun} {piece = piece} so_far took feeds more_taken goes =
    let stands : StandsFor fed (front ++ (begun ++ (so_far.more ++ piece))) former = piece_stands intake fed former front begun so_far.more piece feeds so_far.reads.stands in
    record {
      more = so_far.more ++ piece;
      reads = record {
        took = piece_behind so_far took;
        stands = stands;
        taken = piece_taken intake fed begun so_far.more piece more_taken so_far.reads.taken;
        goes_on = goes (front ++ (begun ++ (so_far.more ++ piece))) former stands;
      };
    }

-- Rounds

-- where START was not read, a text that an intake stands for has no session
not_started : (stage : Stage) (input : List ℕ) (former : Past) → StandsAt stage (lines_of input) former → is_open stage ≡ true → session_at stage ≡ None → HasNotStarted input
not_started (Heading reader keeps) input former at unread none = heading-no_session input reader at.0 unread
not_started (Commanding script ended) input former at unread none = absurd (cc)
not_started (Faulted line reason) input former at unread none = λ h session. HasSession-no_fault input h line reason session (faulted-has input line reason at)

same_session : (g h : SessionHeader) → Some g ≡ Some h → g ≡ h
same_session g h same = cc

-- where it was, it says what the stage has
pub stage_says : (stage : Stage) (h : SessionHeader) (front input : List ℕ) (former : Past) → IsFront front → StandsAt stage (lines_of (front ++ input)) former → session_at stage ≡ Some h → length input ≤ input_limit
    → SaysBehind front input h (former.sent ++ sent_at stage) (strays_at stage)
stage_says (Heading reader keeps) h front input former is_front at is small = absurd (cc)
stage_says (Commanding script ended) h front input former is_front at is small =
    subst (λ (g : SessionHeader). SaysBehind front input g (former.sent ++ script.sent.items) script.strays) (same_session script.session h is)
    (told_says front input script.session (former.sent ++ script.sent.items) script.strays ended (length-spoken_behind front input script.session is_front) (omega (arith, small)) at.0)
stage_says (Faulted line reason) h front input former is_front at is small = absurd (cc)

-- a round taken, whatever came of it
pub TookOn-round : {front : List ℕ} {S : Type 0} {left : S → Option (List ℕ)} {faults : S → ℕ} {a b : S} {intake : Intake} {former : Past} {begun : List ℕ} {result : Result (Option TextEnd) Stop}
    → TookRound front left faults a b intake former begun result → TookOnBehind front left faults a b begun
TookOn-round {begun = begun} round = (record { input = begun ++ round.more; took = round.took; within = round.within; prompt = round.prompt }, record { rest = round.more; joined = refl })

abbrev came_so : Option TextEnd → Result (Option TextEnd) Stop
came_so end = Ok end

pub same_came : (a b : Option TextEnd) → a ≡ b → came_so a ≡ came_so b
same_came a b same = ap came_so same

-- behind START
unfoldable pub HasRead-round : {front : List ℕ} {S : Type 0} {left : S → Option (List ℕ)} {faults : S → ℕ} {a b : S} {former : Past} {begun : List ℕ} (intake : Intake) (end : Option TextEnd) (reading : Reading) (h : SessionHeader) (all : List Sent)
    → TookRound front left faults a b intake former begun (Ok end) → session_at intake.stage ≡ Some h → reading.intake ≡ intake → reading.end ≡ end → all ≡ former.sent ++ sent_at intake.stage
    → IsFront front → HasReadBehind front left faults a b reading h all
HasRead-round {front = front} {left = left} {faults = faults} {a = a} {b = b} {former = former} {begun = begun} intake end reading h all round session same ends all_is is_front =
    let input : List ℕ = begun ++ round.more in
    let stands : StandsFor reading.intake (front ++ input) former = subst (λ (i : Intake). StandsFor i (front ++ input) former) (sym same) round.stands in
    let session' : session_at reading.intake.stage ≡ Some h = ap (λ (i : Intake). session_at i.stage) same ∙ session in
    let all' : all ≡ former.sent ++ sent_at reading.intake.stage = all_is ∙ ap (λ (i : Intake). former.sent ++ sent_at i.stage) (sym same) in
    record {
      input = input;
      took = round.took;
      within = round.within;
      prompt = round.prompt;
      session = session';
      says = subst (λ (sent : List Sent). SaysBehind front input h sent (strays_at reading.intake.stage)) (sym all') (stage_says reading.intake.stage h front input former is_front stands.stage session' round.within);
      ended = subst (λ (e : Option TextEnd). ProgressedBehind front (left b) input e) (sym ends) round.came;
      cause = λ is. round.cause (same_came end (Some (Early ReadFault)) (sym ends ∙ is));
      is_front = is_front;
      former = former;
      all_is = all';
      stands = stands;
      taken = ap (λ (i : Intake). i.taken) same ∙ round.taken;
    }

-- where the journal is kept, a stage has the lines of all commands
stage_journal : (stage : Stage) (h : SessionHeader) (lines : List Line) (former : Past) → StandsAt stage lines former → session_at stage ≡ Some h → former.keeps ≡ Journal → journal_at stage ≡ sent_lines h (former.sent ++ sent_at stage)
stage_journal (Heading reader keeps) h lines former at is on = absurd (cc)
stage_journal (Commanding script ended) h lines former at is on =
    at.1.journal on ∙ ap (λ (g : SessionHeader). sent_lines g (former.sent ++ script.sent.items)) (same_session script.session h is)
stage_journal (Faulted line reason) h lines former at is on = absurd (cc)

pub HasJournal-round : {front : List ℕ} {S : Type 0} {left : S → Option (List ℕ)} {faults : S → ℕ} {a b : S} {former : Past} {begun : List ℕ} (intake : Intake) (end : Option TextEnd) (reading : Reading) (h : SessionHeader) (all : List Sent)
    → TookRound front left faults a b intake former begun (Ok end) → session_at intake.stage ≡ Some h → reading.intake ≡ intake → reading.end ≡ end → all ≡ former.sent ++ sent_at intake.stage
    → IsFront front → former.keeps ≡ Journal → HasJournalBehind front left faults a b reading h all
unfolding HasRead-round
HasJournal-round {front = front} {former = former} {begun = begun} intake end reading h all round session same ends all_is is_front on = record {
  has_read = HasRead-round intake end reading h all round session same ends all_is is_front;
  lines = ap (λ (i : Intake). journal_at i.stage) same
      ∙ stage_journal intake.stage h (lines_of (front ++ (begun ++ round.more))) former round.stands.stage session on ∙ ap (sent_lines h) (sym all_is);
  keeps = on;
}

-- where strays are kept, a stage has heard what there is to hear
stage_hears : (stage : Stage) (h : SessionHeader) (text : List ℕ) (former : Past) → StandsAt stage (lines_of text) former → session_at stage ≡ Some h → former.keeps ≡ Strays → former.heard ++ heard_at stage ≡ heard_in h text
unfolding heard_in
stage_hears (Heading reader keeps) h text former at is on = absurd (cc)
stage_hears (Commanding script ended) h text former at is on = at.1.heard on ∙ ap (λ (g : SessionHeader). heard_of g (lines_of text)) (same_session script.session h is)
stage_hears (Faulted line reason) h text former at is on = absurd (cc)

-- which may be sent
stage_valid : (stage : Stage) (h : SessionHeader) (text : List ℕ) (former : Past) → StandsAt stage (lines_of text) former → session_at stage ≡ Some h → former.keeps ≡ Strays → Each (IsHeardOf h) (former.heard ++ heard_at stage)
stage_valid (Heading reader keeps) h text former at is on = absurd (cc)
stage_valid (Commanding script ended) h text former at is on =
    subst (λ (g : SessionHeader). Each (IsHeardOf g) (former.heard ++ script.heard)) (same_session script.session h is) (at.1.valid on)
stage_valid (Faulted line reason) h text former at is on = absurd (cc)

pub HasHeard-round : {front : List ℕ} {S : Type 0} {left : S → Option (List ℕ)} {faults : S → ℕ} {a b : S} {former : Past} {begun : List ℕ} (intake : Intake) (end : Option TextEnd) (reading : Reading) (h : SessionHeader) (all : List Sent) (heard : List Heard)
    → TookRound front left faults a b intake former begun (Ok end) → session_at intake.stage ≡ Some h → reading.intake ≡ intake → reading.end ≡ end → all ≡ former.sent ++ sent_at intake.stage
    → IsFront front → former.keeps ≡ Strays → heard ≡ former.heard ++ heard_at intake.stage → HasHeardBehind front left faults a b reading h all heard
unfolding HasRead-round
HasHeard-round {front = front} {former = former} {begun = begun} intake end reading h all heard round session same ends all_is is_front on heard_is =
    let input : List ℕ = begun ++ round.more in
    let hears : heard ≡ heard_in h (front ++ input) = heard_is ∙ stage_hears intake.stage h (front ++ input) former round.stands.stage session on in
    record {
      has_read = HasRead-round intake end reading h all round session same ends all_is is_front;
      says_so = hears;
      valid = subst (Each (IsHeardOf h)) (sym heard_is) (stage_valid intake.stage h (front ++ input) former round.stands.stage session on);
      few = omega (arith, ap (λ (all : List Heard). length all) hears, heard_in-few front input h is_front);
      keeps = on;
      heard_is = heard_is ∙ ap (λ (i : Intake). former.heard ++ heard_at i.stage) (sym same);
    }

-- behind the header of a session that is known, where nothing is taken yet
pub HasRead-resumed : {S : Type 0} (left : S → Option (List ℕ)) (faults : S → ℕ) (source : S) (intake : Intake) (reading : Reading) (h : SessionHeader) → IsFront (head_text_of h) → GoesOn (head_text_of h) → StandsFor intake (head_text_of h) (no_past Nothing)
    → session_at intake.stage ≡ Some h → sent_at intake.stage ≡ [] → intake.taken ≡ 0 → reading.intake ≡ intake → reading.end ≡ None → HasReadBehind (head_text_of h) left faults source source reading h []
HasRead-resumed left faults source intake reading h is_front going stands session none untaken same ends =
    let front : List ℕ = head_text_of h in
    let whole : front ≡ front ++ [] = sym (append-nil front) in
    let stands' : StandsFor reading.intake (front ++ []) (no_past Nothing) = subst (λ (i : Intake). StandsFor i (front ++ []) (no_past Nothing)) (sym same) (subst (λ (text : List ℕ). StandsFor intake text (no_past Nothing)) whole stands) in
    let session' : session_at reading.intake.stage ≡ Some h = ap (λ (i : Intake). session_at i.stage) same ∙ session in
    let none' : sent_at reading.intake.stage ≡ [] = ap (λ (i : Intake). sent_at i.stage) same ∙ none in
    let going' : GoesOn (front ++ []) = subst GoesOn whole going in
    record {
      input = [];
      took = Took-nil left faults source;
      within = omega arith;
      prompt = prompt_here front [] going';
      session = session';
      says = subst (λ (sent : List Sent). SaysBehind front [] h sent (strays_at reading.intake.stage)) none' (stage_says reading.intake.stage h front [] (no_past Nothing) is_front stands'.stage session' (omega arith));
      ended = subst (λ (e : Option TextEnd). ProgressedBehind front (left source) [] e) (sym ends) going';
      cause = λ is. absurd (let e : None ≡ Some (Early ReadFault) = sym ends ∙ is in cc);
      is_front = is_front;
      former = no_past Nothing;
      all_is = sym none';
      stands = stands';
      taken = ap (λ (i : Intake). i.taken) same ∙ untaken;
    }

-- a reading goes on
pub ReadsOn-reading : {front : List ℕ} {S : Type 0} {left : S → Option (List ℕ)} {faults : S → ℕ} {a b : S} {reading : Reading} {h : SessionHeader} {all : List Sent} (has : HasReadBehind front left faults a b reading h all) → reading.end ≡ None
    → ReadsOn front left faults a b reading.intake has.former has.input
ReadsOn-reading {front = front} {left = left} {b = b} has on =
    record { took = has.took; stands = has.stands; taken = has.taken; goes_on = subst (λ (e : Option TextEnd). ProgressedBehind front (left b) has.input e) on has.ended }

-- before START
pub ReadsOn-round : {front : List ℕ} {S : Type 0} {left : S → Option (List ℕ)} {faults : S → ℕ} {a b : S} {intake : Intake} {former : Past} {begun : List ℕ} {end : Option TextEnd} (round : TookRound front left faults a b intake former begun (Ok end)) → end ≡ None
    → ReadsOn front left faults a b intake former (begun ++ round.more)
ReadsOn-round {front = front} {left = left} {b = b} {begun = begun} round on =
    record { took = round.took; stands = round.stands; taken = round.taken; goes_on = subst (λ (e : Option TextEnd). ProgressedBehind front (left b) (begun ++ round.more) e) on round.came }

pub no_end_line : {S : Type 0} {left : S → Option (List ℕ)} {faults : S → ℕ} {a b : S} {intake : Intake} {former : Past} {begun : List ℕ} → TookRound [] left faults a b intake former begun (Ok (Some EndLine))
    → session_at intake.stage ≡ None → ⊥
no_end_line {left = left} {b = b} {intake = intake} {former = former} {begun = begun} round none =
    ended_nowhere (left b) (begun ++ round.more) (not_started intake.stage (begun ++ round.more) former round.stands.stage intake.readable none) round.came
  where
    ended_nowhere : (known : Option (List ℕ)) (input : List ℕ) → HasNotStarted input → TextEndedBehind [] known input EndLine → ⊥
    ended_nowhere known input not (inl (h, session, end)) = not h session
    ended_nowhere known input not (inr (met, (h, session, end))) = not h session

pub HasStopped-early : {S : Type 0} {left : S → Option (List ℕ)} {faults : S → ℕ} {a b : S} {intake : Intake} {former : Past} {begun : List ℕ} (early : EarlyEnd) → TookRound [] left faults a b intake former begun (Ok (Some (Early early)))
    → session_at intake.stage ≡ None → HasStopped left faults a b (EarlyStop early)
HasStopped-early {left = left} {b = b} {intake = intake} {former = former} {begun = begun} early round none = record {
  input = begun ++ round.more;
  took = round.took;
  within = round.within;
  prompt = round.prompt;
  stopped = (not_started intake.stage (begun ++ round.more) former round.stands.stage intake.readable none, round.came);
  cause = λ is. round.cause (same_early early ReadFault is);
}
  where
    same_early : (e f : EarlyEnd) → EarlyStop e ≡ EarlyStop f → came_so (Some (Early e)) ≡ came_so (Some (Early f))
    same_early e f same = cc

pub HasStopped-err : {S : Type 0} {left : S → Option (List ℕ)} {faults : S → ℕ} {a b : S} {intake : Intake} {former : Past} {begun : List ℕ} (stop : Stop) → TookRound [] left faults a b intake former begun (Err stop)
    → HasStopped left faults a b stop
HasStopped-err {left = left} {b = b} {begun = begun} stop round = record {
  input = begun ++ round.more;
  took = round.took;
  within = round.within;
  prompt = round.prompt;
  stopped = stopped_so (left b) (begun ++ round.more) stop round.came;
  cause = λ is. absurd (subst (λ (s : Stop). RoundCame [] (left b) (begun ++ round.more) (Err s)) is round.came);
}
  where
    stopped_so : (known : Option (List ℕ)) (input : List ℕ) (stop : Stop) → RoundCame [] known input (Err stop) → Stopped known input stop
    stopped_so known input (Header line reason) fault = fault
    stopped_so known input (EarlyStop early) never = absurd never
    stopped_so known input (Memory memory) came = came

-- a round before START
none_past : (stage : Stage) (keeps : Keeps) → session_at stage ≡ None → past_behind (no_past keeps) stage ≡ no_past keeps
none_past (Heading reader kept) keeps none = refl
none_past (Commanding script ended) keeps none = absurd (cc)
none_past (Faulted line reason) keeps none = refl

pub first_none : {S : Type 0} {left : S → Option (List ℕ)} {faults : S → ℕ} {a b : S} {intake : Intake} {input : List ℕ} {result : Result (Option TextEnd) Stop} (old : Intake) (keeps : Keeps) → session_at old.stage ≡ None
    → TookRound [] left faults a b intake (past_behind (no_past keeps) old.stage) input result → TookRound [] left faults a b intake (no_past keeps) input result
first_none {left = left} {faults = faults} {a = a} {b = b} {intake = intake} {input = input} {result = result} old keeps none round =
    subst (λ (past : Past). TookRound [] left faults a b intake past input result) (none_past old.stage keeps none) round

pub known_session : (session : Option SessionHeader) → IsSome session → (h : SessionHeader) × (session ≡ Some h)
known_session None is = absurd (cc)
known_session (Some h) is = (h, refl)
