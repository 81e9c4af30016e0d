use Rattle.std.proofs.Common.{inr, subst, true, ◌≡◌, ◌++◌}
use Rattle.fx_text.specs.Lines.{lines_of}
use Rattle.session_script.specs.Stage.{StandsAt}
use Rattle.session_script.specs.inside.Stage.{is_open}
use Rattle.session_script.specs.declared.intake.stage.Stage.{Stage}
use Rattle.session_script.proofs.Closing.{heading-goes_on, faulted-has, told-settled}
use Rattle.session_script.proofs.intake.Intake.is_settled.Goals as goal

pub returns-in-Heading : goal.returns-in-Heading
returns-in-Heading c = λ text former stands.
    heading-goes_on text c.in-Heading.reader (subst (λ (stage : Stage). StandsAt stage (lines_of text) former) c.in-Heading.is stands.stage).0
    (subst (λ (stage : Stage). is_open stage ≡ true) c.in-Heading.is c.args.self.now.readable)

pub returns-in-Commanding : goal.returns-in-Commanding
returns-in-Commanding c = λ text former stands.
    let script = c.in-Commanding.script in
    told-settled text script.session (former.sent ++ script.sent.items) script.strays c.in-Commanding.ended (subst (λ (stage : Stage). StandsAt stage (lines_of text) former) c.in-Commanding.is stands.stage).0

pub returns-in-Faulted : goal.returns-in-Faulted
returns-in-Faulted c = λ text former stands.
    inr (c.in-Faulted.line, c.in-Faulted.reason, faulted-has text c.in-Faulted.line c.in-Faulted.reason (subst (λ (stage : Stage). StandsAt stage (lines_of text) former) c.in-Faulted.is stands.stage))
