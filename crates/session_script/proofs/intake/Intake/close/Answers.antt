use Rattle.std.proofs.Common.{◌≡◌, ◌∙◌, ◌++◌, true, false, inl, inr, sym, subst}
use Rattle.fx_text.specs.Lines.{lines_of}
use Rattle.session_script.specs.Stage.{StandsAt}
use Rattle.session_script.specs.inside.Stage.{is_open, goes_on}
use Rattle.session_head.specs.Head.{read_head}
use Rattle.session_script.specs.declared.intake.stage.Stage.{Stage}
use Rattle.session_script.proofs.Closing.{heading-no_fault, heading-goes_on, heading-no_end, faulted-has, told-ends, told-cut}
use Rattle.session_script.proofs.intake.Intake.close.Goals as goal
use Rattle.session_script.proofs.intake.Intake.close.Goals.{then-ended, else-ended}

pub returns-in-Heading-clause-closed : goal.returns-in-Heading-clause-closed
returns-in-Heading-clause-closed c = λ text former stands.
    let head = c.in-Heading.reader in
    let is : head ≡ read_head (lines_of text) = (subst (λ (stage : Stage). StandsAt stage (lines_of text) former) c.in-Heading.is stands.stage).0 in
    let going : goes_on head ≡ true = subst (λ (stage : Stage). is_open stage ≡ true) c.in-Heading.is c.args.self.now.readable in
    (heading-no_fault text head is going, (heading-goes_on text head is going).1, heading-no_end text head is going)

pub returns-then-rest_is_end-clause-closed : goal.returns-then-rest_is_end-clause-closed
returns-then-rest_is_end-clause-closed c = λ text former stands.
    let script = c.in-Commanding.script in
    told-ends text script.session (former.sent ++ script.sent.items) script.strays c.in-Commanding.ended (subst (λ (stage : Stage). StandsAt stage (lines_of text) former) c.in-Commanding.is stands.stage).0
    (elim c.if-ended.branch [
      | then-ended w ↦ inl w.if-ended.true
      | else-ended w ↦ inr (sym (w.rest_is_end.ensures.rest text stands.held) ∙ sym w.value-is ∙ c.if-rest_is_end.true)
    ])

pub returns-else-rest_is_end-clause-closed : goal.returns-else-rest_is_end-clause-closed
returns-else-rest_is_end-clause-closed c = λ text former stands.
    let script = c.in-Commanding.script in
    elim c.if-ended.branch [
      | then-ended w ↦ absurd (let e : true ≡ false = sym w.if-ended.true ∙ sym w.value-is ∙ c.if-rest_is_end.false in cc)
      | else-ended w ↦ told-cut text script.session (former.sent ++ script.sent.items) script.strays c.in-Commanding.ended
          (subst (λ (stage : Stage). StandsAt stage (lines_of text) former) c.in-Commanding.is stands.stage).0
          w.if-ended.false (sym (w.rest_is_end.ensures.rest text stands.held) ∙ sym w.value-is ∙ c.if-rest_is_end.false)
    ]

pub returns-in-Faulted-clause-closed : goal.returns-in-Faulted-clause-closed
returns-in-Faulted-clause-closed c = λ text former stands.
    faulted-has text c.in-Faulted.line c.in-Faulted.reason (subst (λ (stage : Stage). StandsAt stage (lines_of text) former) c.in-Faulted.is stands.stage)
