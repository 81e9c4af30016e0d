use Rattle.std.proofs.lemmas.Result.{IfOk-weaker}
use Rattle.session_script.specs.inside.Stage.{AddsFront, TakesFront}
use Rattle.session_script.specs.declared.intake.stage.Stage.TheVariants.{Commanding}
use Rattle.session_script.proofs.Fronts.{TakesFront-script}
use Rattle.session_script.proofs.intake.stage.Stage.take_spelled.Goals as goal

pub returns-then-not-ended-clause-taken : goal.returns-then-not-ended-clause-taken
returns-then-not-ended-clause-taken c =
    let old = c.in-Commanding.script in
    let new = c.add_spelled.new.self in
    IfOk-weaker c.add_spelled.result
    (λ rest. AddsFront old new c.args.text.now rest.now)
    (λ rest. TakesFront c.args.self.now (Commanding new c.in-Commanding.ended) c.args.text.now rest.now)
    (λ rest adds. TakesFront-script c.args.self.now old new c.in-Commanding.ended c.args.text.now rest.now c.in-Commanding.is c.if-not-ended.true adds)
    c.add_spelled.ensures.adds
