-- What is kept of the lines behind START, as they are taken one after another.
use Rattle.std.proofs.Common.{◌≡◌, ℕ, ◌+◌, ◌≤◌, Bool, true, false, List, [], ◌∷◌, ◌++◌, length, map, Some, refl, sym, ap, ◌∙◌, subst, arith, append-nil, append_assoc}
use Rattle.std.proofs.lemmas.List.{length-map}
use Rattle.fx_rules.specs.Lists.{Each}
use Rattle.fx_rules.specs.Sending.{IsSentOf}
use Rattle.fx_rules.specs.Session.{Header}
use Rattle.fx_rules.specs.declared.command.Sent.{Sent}
use Rattle.fx_rules.proofs.ListLemmas.{Each-append}
use Rattle.fx_text.specs.Lines.{lines_of}
use Rattle.fx_text.specs.declared.line.Line.{Line}
use Rattle.session_head.specs.Head as heads
use Rattle.session_head.specs.Head.{read_head, session_of}
use Rattle.order_lines.specs.Grammar.{command_line}
use Rattle.order_lines.specs.declared.spoken.Spoken.{Spoken}
use Rattle.order_lines.specs.declared.spoken.Spoken.TheVariants.{Of, Stray, End, Passed}
use Rattle.session_script.specs.Heard.{IsHeardOf, heard_as, heard_then, heard_among, heard_of, heard_in}
use Rattle.session_script.specs.Rounds.{IsFront}
use Rattle.session_script.specs.Script.{has_end, lines_behind, sent_among, spoken_of}
use Rattle.session_script.specs.Stage.{Past, Hears, StandsAt, Tells, no_past}
use Rattle.session_script.specs.Heard.{Heard}
use Rattle.session_script.specs.Journal.{sent_lines}
use Rattle.session_script.specs.declared.script.Keeps.{Keeps}
use Rattle.session_script.specs.declared.script.Keeps.TheVariants.{Strays}
use Rattle.session_script.specs.declared.intake.stage.Stage.TheVariants.{Commanding}
use Rattle.session_script.specs.declared.script.Script.{Script}
use Rattle.session_script.specs.inside.Script.{is_started}
use Rattle.session_script.specs.inside.Stage.{Adds, past_behind}
use Rattle.session_script.proofs.Journaling.{lines_more}
use Rattle.session_script.proofs.ScriptLaws.{is_started-session, length-spoken_behind, lines_behind-append, lines_behind-start}

-- ---- lines

then-append : (line : Line) (said : Spoken) (said_after : List Spoken) (more longer behind : List Heard) → has_end (said ∷ said_after) ≡ false → (has_end said_after ≡ false → longer ≡ more ++ behind) → heard_then line said longer ≡ heard_then line said more ++ behind
then-append line (Of bank command) after more longer behind is goes = ap (λ (rest : List Heard). heard_as line (Of bank command) ++ rest) (goes is)
then-append line Stray after more longer behind is goes = ap (λ (rest : List Heard). heard_as line Stray ++ rest) (goes is)
then-append line Passed after more longer behind is goes = goes is
then-append line End after more longer behind is goes = absurd (cc)

heard-append : (h : Header) (lines more : List Line) → has_end (map (command_line h) lines) ≡ false → heard_among h (lines ++ more) ≡ heard_among h lines ++ heard_among h more
heard-append h [] more is = refl
heard-append h (line ∷ lines) more is =
    then-append line (command_line h line) (map (command_line h) lines) (heard_among h lines) (heard_among h (lines ++ more)) (heard_among h more) is (heard-append h lines more)

then-more : (line : Line) (said : Spoken) (said_after : List Spoken) (more longer : List Heard) → has_end (said ∷ said_after) ≡ true → (has_end said_after ≡ true → longer ≡ more) → heard_then line said longer ≡ heard_then line said more
then-more line (Of bank command) after more longer is same = ap (λ (rest : List Heard). heard_as line (Of bank command) ++ rest) (same is)
then-more line Stray after more longer is same = ap (λ (rest : List Heard). heard_as line Stray ++ rest) (same is)
then-more line Passed after more longer is same = same is
then-more line End after more longer is same = refl

heard-more : (h : Header) (lines more : List Line) → has_end (map (command_line h) lines) ≡ true → heard_among h (lines ++ more) ≡ heard_among h lines
heard-more h [] more is = absurd (cc)
heard-more h (line ∷ lines) more is =
    then-more line (command_line h line) (map (command_line h) lines) (heard_among h lines) (heard_among h (lines ++ more)) is (heard-more h lines more)

heard-one : (line : Line) (said : Spoken) → heard_then line said [] ≡ heard_as line said
heard-one line (Of bank command) = refl
heard-one line Stray = refl
heard-one line Passed = refl
heard-one line End = refl

behind-append : (h : Header) (lines more : List Line) → session_of (read_head lines) ≡ Some h → lines_behind (heads.Begun 0) (lines ++ more) ≡ lines_behind (heads.Begun 0) lines ++ more
behind-append h lines more is = lines_behind-append (heads.Begun 0) lines more refl (is_started-session (read_head lines) h is)

-- a line more before the END line
heard_of-line : (h : Header) (lines : List Line) (line : Line) → session_of (read_head lines) ≡ Some h → has_end (spoken_of h lines) ≡ false → heard_of h (lines ++ line ∷ []) ≡ heard_of h lines ++ heard_as line (command_line h line)
heard_of-line h lines line is going =
    ap (heard_among h) (behind-append h lines (line ∷ []) is)
    ∙ heard-append h (lines_behind (heads.Begun 0) lines) (line ∷ []) going
    ∙ ap (λ (rest : List Heard). heard_of h lines ++ rest) (heard-one line (command_line h line))

-- a line behind it
heard_of-behind : (h : Header) (lines : List Line) (line : Line) → session_of (read_head lines) ≡ Some h → has_end (spoken_of h lines) ≡ true → heard_of h (lines ++ line ∷ []) ≡ heard_of h lines
heard_of-behind h lines line is ended =
    ap (heard_among h) (behind-append h lines (line ∷ []) is) ∙ heard-more h (lines_behind (heads.Begun 0) lines) (line ∷ []) ended

-- ---- scripts

-- behind START nothing is kept yet
pub Hears-start : (lines : List Line) (line : Line) (former : Past) (script : Script) (keeps : Keeps) → is_started (read_head lines) ≡ false → former ≡ no_past keeps → script.keeps ≡ keeps → script.sent.items ≡ [] → script.journal.items ≡ [] → script.heard ≡ []
    → Hears (lines ++ line ∷ []) former script
Hears-start lines line former script keeps before none kept unsent unwritten silent =
    let no_command : former.sent ++ script.sent.items ≡ [] = ap (λ (past : Past). past.sent ++ script.sent.items) none ∙ unsent in
    let nothing : former.heard ++ script.heard ≡ [] = ap (λ (past : Past). past.heard ++ script.heard) none ∙ silent in
    record {
      keeps = kept ∙ sym (ap (λ (past : Past). past.keeps) none);
      journal = λ on. unwritten ∙ sym (ap (sent_lines script.session) no_command);
      heard = λ on. nothing ∙ sym (ap (heard_among script.session) (lines_behind-start (heads.Begun 0) lines line before));
      valid = λ on. subst (Each (IsHeardOf script.session)) (sym nothing) tt;
    }

valid-one : (h : Header) (line : Line) (said : Spoken) → Each (IsSentOf h) (sent_among (said ∷ [])) → Each (IsHeardOf h) (heard_as line said)
valid-one h line (Of bank command) valid = valid
valid-one h line Stray valid = (tt, tt)
valid-one h line Passed valid = tt
valid-one h line End valid = tt

-- a line more
pub Hears-line : (lines : List Line) (line : Line) (former : Past) (old new : Script) (sent : List Sent) (strays : ℕ) (is_end : Bool) → Tells lines old.session sent strays false → Hears lines former old → Adds old new line (command_line old.session line) is_end
    → Hears (lines ++ line ∷ []) former new
Hears-line lines line former old new sent strays is_end tells hears adds =
    let more : List Heard = heard_as line (command_line old.session line) in
    let grown : former.keeps ≡ Strays → former.heard ++ new.heard ≡ (former.heard ++ old.heard) ++ more =
    λ on. ap (λ (all : List Heard). former.heard ++ all) (adds.heard (hears.keeps ∙ on)) ∙ sym (append_assoc former.heard old.heard more) in
    record {
      keeps = adds.keeps ∙ hears.keeps;
      journal = λ on.
          lines_more old.session former.sent old.sent.items new.sent.items (sent_among (command_line old.session line ∷ [])) (hears.journal on) adds.sent (adds.journal (hears.keeps ∙ on))
          ∙ ap (λ (h : Header). sent_lines h (former.sent ++ new.sent.items)) (sym adds.session);
      heard = λ on.
          grown on ∙ ap (λ (all : List Heard). all ++ more) (hears.heard on)
          ∙ sym (heard_of-line old.session lines line tells.session (sym tells.end))
          ∙ ap (λ (h : Header). heard_of h (lines ++ line ∷ [])) (sym adds.session);
      valid = λ on.
          subst (λ (h : Header). Each (IsHeardOf h) (former.heard ++ new.heard)) (sym adds.session)
          (subst (Each (IsHeardOf old.session)) (sym (grown on))
          (Each-append (IsHeardOf old.session) (former.heard ++ old.heard) more (hears.valid on) (valid-one old.session line (command_line old.session line) adds.valid)));
    }

-- a line behind the END line
pub Hears-behind : (lines : List Line) (line : Line) (former : Past) (script : Script) (sent : List Sent) (strays : ℕ) → Tells lines script.session sent strays true → Hears lines former script → Hears (lines ++ line ∷ []) former script
Hears-behind lines line former script sent strays tells hears = record {
  keeps = hears.keeps;
  journal = hears.journal;
  heard = λ on. hears.heard on ∙ sym (heard_of-behind script.session lines line tells.session (sym tells.end));
  valid = hears.valid;
}

-- the round is a former one
pub Hears-round : (lines : List Line) (former : Past) (old new : Script) → new.session ≡ old.session → former.sent ++ old.sent.items ≡ (former.sent ++ old.sent.items) ++ new.sent.items → new.keeps ≡ old.keeps → new.journal.items ≡ old.journal.items → new.heard ≡ [] → Hears lines former old
    → Hears lines (record { sent = former.sent ++ old.sent.items; keeps = former.keeps; heard = former.heard ++ old.heard }) new
Hears-round lines former old new same commands kept written none hears =
    let all : (former.heard ++ old.heard) ++ new.heard ≡ former.heard ++ old.heard =
    ap (λ (rest : List Heard). (former.heard ++ old.heard) ++ rest) none ∙ append-nil (former.heard ++ old.heard) in
    record {
      keeps = kept ∙ hears.keeps;
      journal = λ on.
          written ∙ hears.journal on ∙ ap (sent_lines old.session) commands
          ∙ ap (λ (h : Header). sent_lines h ((former.sent ++ old.sent.items) ++ new.sent.items)) (sym same);
      heard = λ on. all ∙ hears.heard on ∙ ap (λ (h : Header). heard_of h lines) (sym same);
      valid = λ on. subst (λ (h : Header). Each (IsHeardOf h) ((former.heard ++ old.heard) ++ new.heard)) (sym same) (subst (Each (IsHeardOf old.session)) (sym all) (hears.valid on));
    }

-- so it is for the stage
pub StandsAt-begun : (old new : Script) (ended : Bool) (lines : List Line) (former : Past) → new.session ≡ old.session → new.sent.items ≡ [] → new.strays ≡ old.strays → new.keeps ≡ old.keeps → new.journal.items ≡ old.journal.items → new.heard ≡ []
    → StandsAt (Commanding old ended) lines former → StandsAt (Commanding new ended) lines (past_behind former (Commanding old ended))
StandsAt-begun old new ended lines former same none strays kept written silent at =
    let all : former.sent ++ old.sent.items ≡ (former.sent ++ old.sent.items) ++ new.sent.items =
    sym (ap (λ (rest : List Sent). (former.sent ++ old.sent.items) ++ rest) none ∙ append-nil (former.sent ++ old.sent.items)) in (
      subst (λ (h : Header). Tells lines h ((former.sent ++ old.sent.items) ++ new.sent.items) new.strays ended) (sym same)
          (subst (λ (n : ℕ). Tells lines old.session ((former.sent ++ old.sent.items) ++ new.sent.items) n ended) (sym strays)
          (subst (λ (sent : List Sent). Tells lines old.session sent old.strays ended) all at.0)),
      Hears-round lines former old new same all kept written silent at.1,
    )

-- ---- texts

then-few : (line : Line) (said : Spoken) (more : List Heard) (n : ℕ) → length more ≤ n → length (heard_then line said more) ≤ length (line ∷ []) + n
then-few line (Of bank command) more n few = omega (arith, few)
then-few line Stray more n few = omega (arith, few)
then-few line Passed more n few = omega (arith, few)
then-few line End more n few = omega arith

heard-few : (h : Header) (lines : List Line) → length (heard_among h lines) ≤ length lines
heard-few h [] = omega arith
heard-few h (line ∷ lines) = omega (arith, then-few line (command_line h line) (heard_among h lines) (length lines) (heard-few h lines))

-- each that is heard has a line
pub heard_in-few : (front input : List ℕ) (h : Header) → IsFront front → length (heard_in h (front ++ input)) ≤ length input
unfolding heard_in
heard_in-few front input h is =
    let lines : List Line = lines_behind (heads.Begun 0) (lines_of (front ++ input)) in
    omega (arith, heard-few h lines, length-map lines (command_line h), length-spoken_behind front input h is)
