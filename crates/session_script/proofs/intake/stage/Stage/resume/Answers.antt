-- The text of a header says nothing behind its START.
use Rattle.std.proofs.Common.{◌≡◌, ◌++◌, ◌∷◌, [], List, Some, false, refl, sym, ap, ◌∙◌, subst}
use Rattle.fx_rules.specs.Session.{Header, IsSession}
use Rattle.fx_text.specs.Lines.{lines_of}
use Rattle.fx_text.specs.declared.line.Line.{Line}
use Rattle.session_head.specs.Head as heads
use Rattle.session_head.specs.Head.{read_head, session_of}
use Rattle.session_head.specs.HeadText.{head_text_of}
use Rattle.session_head.proofs.RoundLemmas.{head_text-ends, head_text-read}
use Rattle.session_script.specs.Stage.{Hears, Tells, no_past}
use Rattle.session_script.specs.inside.Script.{is_started}
use Rattle.session_script.specs.declared.script.Keeps.TheVariants.{Nothing}
use Rattle.session_script.specs.declared.script.Script.{Script}
use Rattle.session_script.proofs.Closing.{told-settled}
use Rattle.session_script.proofs.Hearing.{Hears-start}
use Rattle.session_script.proofs.ScriptReading.{front-head}
use Rattle.session_script.proofs.Taking.{Tells-start}
use Rattle.session_script.proofs.intake.stage.Stage.resume.Goals as goal

tells : (h : Header) (script : Script) → IsSession h → script.session ≡ h → script.sent.items ≡ [] → script.strays ≡ 0 → Tells (lines_of (head_text_of h)) script.session script.sent.items script.strays false
tells h script valid same none no_strays =
    let ends = head_text-ends h valid in
    let read : session_of (read_head (ends.lines ++ ends.last ∷ [])) ≡ Some script.session =
    ap (λ (lines : List Line). session_of (read_head lines)) (sym ends.all_are) ∙ head_text-read h valid ∙ ap Some (sym same) in
    subst (λ (lines : List Line). Tells lines script.session script.sent.items script.strays false) (sym ends.all_are)
    (Tells-start ends.lines ends.last (heads.Drafting ends.drafted ends.draft) (read_head (ends.lines ++ ends.last ∷ [])) script.session script.sent.items script.strays
    (sym ends.before) refl refl read none no_strays)

hears : (h : Header) (script : Script) → IsSession h → script.keeps ≡ Nothing → script.sent.items ≡ [] → script.journal.items ≡ [] → script.heard ≡ [] → Hears (lines_of (head_text_of h)) (no_past Nothing) script
hears h script valid kept unsent unwritten silent =
    let ends = head_text-ends h valid in
    subst (λ (lines : List Line). Hears lines (no_past Nothing) script) (sym ends.all_are) (Hears-start ends.lines ends.last (no_past Nothing) script Nothing (ap is_started ends.before) refl kept unsent unwritten silent)

pub returns-clause-stands : goal.returns-clause-stands
returns-clause-stands c = (
  tells c.args.session c.of.result c.banks-banks.ensures.valid c.of.ensures.session c.of.ensures.sent c.of.ensures.strays,
  hears c.args.session c.of.result c.banks-banks.ensures.valid c.of.ensures.keeps c.of.ensures.sent c.of.ensures.journal c.of.ensures.heard,
)

pub returns-clause-front : goal.returns-clause-front
returns-clause-front c = front-head c.args.session c.banks-banks.ensures.valid

pub returns-clause-goes_on : goal.returns-clause-goes_on
returns-clause-goes_on c = told-settled (head_text_of c.args.session) c.of.result.session c.of.result.sent.items c.of.result.strays false (tells c.args.session c.of.result c.banks-banks.ensures.valid c.of.ensures.session c.of.ensures.sent c.of.ensures.strays)
