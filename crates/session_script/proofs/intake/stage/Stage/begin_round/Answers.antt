-- The commands and strays of the round are former ones.
use Rattle.std.proofs.Common.{sym, subst}
use Rattle.session_script.specs.Stage.{StandsAt}
use Rattle.session_script.specs.inside.Stage.{past_behind}
use Rattle.session_script.specs.declared.intake.stage.Stage.{Stage}
use Rattle.session_script.specs.declared.intake.stage.Stage.TheVariants.{Commanding}
use Rattle.session_script.proofs.Hearing.{StandsAt-begun}
use Rattle.session_script.proofs.intake.stage.Stage.begin_round.Goals as goal

pub returns-in-Commanding-clause-begun : goal.returns-in-Commanding-clause-begun
returns-in-Commanding-clause-begun c = λ lines former at.
    let old = c.in-Commanding.script in
    let new = c.begin_round.new.self in
    let its = c.begin_round.ensures in
    subst (λ (stage : Stage). StandsAt (Commanding new c.in-Commanding.ended) lines (past_behind former stage)) (sym c.in-Commanding.is)
    (StandsAt-begun old new c.in-Commanding.ended lines former its.session its.sent its.strays its.keeps its.journal its.heard (subst (λ (stage : Stage). StandsAt stage lines former) c.in-Commanding.is at))
