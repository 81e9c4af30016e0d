-- The first lines of a text, where each is a command in its one spelling.
use Rattle.std.proofs.Common.{◌≡◌, ◌≢◌, ℕ, ◌<◌, ◌-◌, Bool, false, List, [], ◌∷◌, ◌++◌, length, take, refl, sym, ap, ◌∙◌, subst, arith, append_assoc, append-nil, length-append}
use Rattle.std.proofs.lemmas.List.{take_at}
use Rattle.fx_rules.specs.Lists.{Each}
use Rattle.fx_rules.specs.Sending.{IsSentOf}
use Rattle.fx_rules.specs.Session.{Header}
use Rattle.fx_rules.specs.declared.command.Sent.{Sent}
use Rattle.fx_text.specs.Lines.{lines_of, IsFirstLine}
use Rattle.fx_text.specs.declared.line.Line.{Line}
use Rattle.order_lines.specs.Grammar.{command_line}
use Rattle.order_lines.specs.Spelling.{command_text_of}
use Rattle.order_lines.specs.declared.spoken.Spoken.{Spoken}
use Rattle.order_lines.specs.declared.spoken.Spoken.TheVariants.{Of}
use Rattle.session_script.specs.Script.{has_end, sent_among}
use Rattle.session_script.specs.Stage.{Past, StandsAt, Tells, Hears}
use Rattle.session_script.specs.inside.Stage.{Adds, AddsLines, AddsFront, TakesFront, counted}
use Rattle.session_script.specs.Journal.{sent_lines}
use Rattle.session_script.specs.declared.script.Keeps.TheVariants.{Journal, Strays}
use Rattle.session_script.specs.declared.script.Script.{Script}
use Rattle.session_script.specs.declared.intake.stage.Stage.{Stage}
use Rattle.session_script.specs.declared.intake.stage.Stage.TheVariants.{Commanding}
use Rattle.session_script.proofs.Hearing.{Hears-line}
use Rattle.session_script.proofs.Journaling.{lines_more, spelled_on}
use Rattle.session_script.proofs.Taking.{Tells-line}

pub AddsLines-none : (h : Header) (sent : List Sent) (text : List ℕ) → AddsLines h sent sent text text
AddsLines-none h sent text = record {
  done = [];
  lines = refl;
  behind = refl;
  shorter = omega arith;
  more = [];
  added = sym (append-nil sent);
  spelled = refl;
  tells = λ lines former strays tells. subst (λ (all : List Line). Tells all h (former ++ sent) strays false) (sym (append-nil lines)) tells;
}

-- a command more
pub AddsLines-line : (h : Header) (first old new : List Sent) (text rest behind : List ℕ) (line : Line) (sent : Sent) → AddsLines h first old text rest → IsFirstLine rest line behind → length behind < length rest
    → rest ≡ command_text_of h sent.bank sent.command ++ 10 ∷ behind → command_line h line ≡ Of sent.bank sent.command → IsSentOf h sent → new ≡ old ++ sent ∷ [] → AddsLines h first new text behind
AddsLines-line h first old new text rest behind line sent adds starts less spelled said valid items = record {
  done = adds.done ++ line ∷ [];
  lines = adds.lines ∙ ap (λ (more : List Line). adds.done ++ more) starts.lines ∙ sym (append_assoc adds.done (line ∷ []) (lines_of behind));
  behind = adds.behind ∙ starts.rest;
  shorter = omega (arith, adds.shorter);
  more = adds.more ++ sent ∷ [];
  added = items ∙ ap (λ (all : List Sent). all ++ sent ∷ []) adds.added ∙ append_assoc first adds.more (sent ∷ []);
  spelled = adds.spelled ∙ spelled_on h adds.more rest behind sent spelled;
  tells = λ lines former strays tells.
      let all : List Sent = former ++ old in
      subst (λ (whole : List Line). Tells whole h (former ++ new) strays false) (append_assoc lines adds.done (line ∷ []))
      (Tells-line (lines ++ adds.done) line h h all (former ++ new) strays strays false (adds.tells lines former strays tells) refl
      (ap (λ (list : List Sent). former ++ list) items ∙ sym (append_assoc former old (sent ∷ [])) ∙ ap (λ (spoken : Spoken). all ++ sent_among (spoken ∷ [])) (sym said))
      (ap (counted strays) (sym said))
      (ap (λ (spoken : Spoken). has_end (spoken ∷ [])) (sym said))
      (subst (λ (spoken : Spoken). Each (IsSentOf h) (sent_among (spoken ∷ []))) (sym said) (valid, tt)));
}

-- what stands in front of the rest is the lines
before_rest : (text lines rest : List ℕ) → text ≡ lines ++ rest → take (length text - length rest) text ≡ lines
before_rest text lines rest is =
    let many : length lines ≡ length text - length rest = omega (arith, ap length is, length-append lines rest) in
    ap (take (length text - length rest)) is ∙ take_at lines rest (length text - length rest) many

-- a script with the commands that were added
pub AddsFront-lines : (old new : Script) (sent : List Sent) (text rest front : List ℕ) → AddsLines old.session old.sent.items sent text rest → new.sent.items ≡ sent → new.session ≡ old.session → new.strays ≡ old.strays → new.keeps ≡ old.keeps → old.keeps ≢ Strays
    → front ≡ take (length text - length rest) text → (old.keeps ≡ Journal → new.journal.items ≡ old.journal.items ++ front) → AddsFront old new text rest
AddsFront-lines old new sent text rest front adds commands same strays kept never front_is written = record {
  done = adds.done;
  lines = adds.lines;
  behind = adds.behind;
  shorter = adds.shorter;
  session = same;
  tells = λ lines former tells.
      subst (λ (h : Header). Tells (lines ++ adds.done) h (former ++ new.sent.items) new.strays false) (sym same)
      (subst (λ (all : List Sent). Tells (lines ++ adds.done) old.session (former ++ all) new.strays false) (sym commands)
      (subst (λ (n : ℕ). Tells (lines ++ adds.done) old.session (former ++ sent) n false) (sym strays) (adds.tells lines former old.strays tells)));
  hears = λ lines former tells hears.
      let none : former.keeps ≡ Strays → ⊥ = λ on. never (hears.keeps ∙ on) in
      let added : old.keeps ≡ Journal → new.journal.items ≡ old.journal.items ++ sent_lines old.session adds.more =
      λ on. written on ∙ ap (λ (all : List ℕ). old.journal.items ++ all) (front_is ∙ before_rest text (sent_lines old.session adds.more) rest adds.spelled) in
      record {
        keeps = kept ∙ hears.keeps;
        journal = λ on.
            lines_more old.session former.sent old.sent.items new.sent.items adds.more (hears.journal on) (commands ∙ adds.added) (added (hears.keeps ∙ on))
            ∙ ap (λ (h : Header). sent_lines h (former.sent ++ new.sent.items)) (sym same);
        heard = λ on. absurd (none on);
        valid = λ on. absurd (none on);
      };
}

-- a script to which nothing was added
pub AddsFront-none : (script : Script) (text : List ℕ) → AddsFront script script text text
AddsFront-none script text = record {
  done = [];
  lines = refl;
  behind = refl;
  shorter = omega arith;
  session = refl;
  tells = λ lines former tells. subst (λ (all : List Line). Tells all script.session (former ++ script.sent.items) script.strays false) (sym (append-nil lines)) tells;
  hears = λ lines former tells hears. subst (λ (all : List Line). Hears all former script) (sym (append-nil lines)) hears;
}

-- a line more was added to a script
pub AddsFront-line : (first old new : Script) (text rest behind : List ℕ) (line : Line) (said : Spoken) → AddsFront first old text rest → IsFirstLine rest line behind → length behind < length rest → command_line first.session line ≡ said → Adds old new line said false
    → AddsFront first new text behind
AddsFront-line first old new text rest behind line said adds starts less says more =
    let is : said ≡ command_line old.session line = sym says ∙ ap (λ (h : Header). command_line h line) (sym adds.session) in
    let added : Adds old new line (command_line old.session line) false = subst (λ (spoken : Spoken). Adds old new line spoken false) is more in
    record {
      done = adds.done ++ line ∷ [];
      lines = adds.lines ∙ ap (λ (all : List Line). adds.done ++ all) starts.lines ∙ sym (append_assoc adds.done (line ∷ []) (lines_of behind));
      behind = adds.behind ∙ starts.rest;
      shorter = omega (arith, adds.shorter);
      session = added.session ∙ adds.session;
      tells = λ lines former tells.
          subst (λ (whole : List Line). Tells whole new.session (former ++ new.sent.items) new.strays false) (append_assoc lines adds.done (line ∷ []))
          (Tells-line (lines ++ adds.done) line old.session new.session (former ++ old.sent.items) (former ++ new.sent.items) old.strays new.strays false (adds.tells lines former tells) added.session
          (ap (λ (list : List Sent). former ++ list) added.sent ∙ sym (append_assoc former old.sent.items (sent_among (command_line old.session line ∷ []))))
          added.strays added.ended added.valid);
      hears = λ lines former tells hears.
          subst (λ (whole : List Line). Hears whole former new) (append_assoc lines adds.done (line ∷ []))
          (Hears-line (lines ++ adds.done) line former old new (former.sent ++ old.sent.items) old.strays false (adds.tells lines former.sent tells) (adds.hears lines former tells hears) added);
    }

pub TakesFront-script : (stage : Stage) (old new : Script) (ended : Bool) (text rest : List ℕ) → stage ≡ Commanding old ended → ended ≡ false → AddsFront old new text rest
    → TakesFront stage (Commanding new ended) text rest
TakesFront-script stage old new ended text rest is goes adds = record {
  done = adds.done;
  lines = adds.lines;
  behind = adds.behind;
  shorter = adds.shorter;
  stands = λ lines former at.
      let before : StandsAt (Commanding old ended) lines former = subst (λ (s : Stage). StandsAt s lines former) is at in (
        subst (λ (e : Bool). Tells (lines ++ adds.done) new.session (former.sent ++ new.sent.items) new.strays e) (sym goes)
            (adds.tells lines former.sent (subst (λ (e : Bool). Tells lines old.session (former.sent ++ old.sent.items) old.strays e) goes before.0)),
        adds.hears lines former (subst (λ (e : Bool). Tells lines old.session (former.sent ++ old.sent.items) old.strays e) goes before.0) before.1,
      );
}

-- a line more, and then the first lines of what stands behind it
pub lines_go_on : (all done front after rest behind : List Line) (line : Line) → all ≡ done ++ rest → rest ≡ line ∷ behind → behind ≡ front ++ after → all ≡ ((done ++ line ∷ []) ++ front) ++ after
lines_go_on all done front after rest behind line is next on =
    is ∙ ap (λ (more : List Line). done ++ more) (next ∙ ap (λ (more : List Line). line ∷ more) on)
    ∙ sym (append_assoc done (line ∷ []) (front ++ after)) ∙ sym (append_assoc (done ++ line ∷ []) front after)

pub StandsAt-goes_on : (stage : Stage) (lines done front : List Line) (line : Line) (former : Past) → StandsAt stage (((lines ++ done) ++ line ∷ []) ++ front) former → StandsAt stage (lines ++ ((done ++ line ∷ []) ++ front)) former
StandsAt-goes_on stage lines done front line former at =
    subst (λ (all : List Line). StandsAt stage all former)
    (ap (λ (all : List Line). all ++ front) (append_assoc lines done (line ∷ [])) ∙ append_assoc lines (done ++ line ∷ []) front) at
