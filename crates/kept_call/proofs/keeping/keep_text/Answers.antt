-- The session of the text is that of the host.
use Rattle.std.proofs.Common.{[], ◌∷◌, sym, subst}
use Rattle.fx_rules.specs.Session.{Header}
use Rattle.kept_call.specs.Running.{new_session}
use Rattle.session_head.specs.HeadText.{head_text_of}
use Rattle.session_script.specs.Stage.{session_at}
use Rattle.kept_call.specs.inside.Served.{Served}
use Rattle.session_script.proofs.RoundLaws.{header_same, read_here}
use Rattle.kept_call.proofs.Serving.{promptly-taken, served-short}
use Rattle.kept_call.proofs.keeping.keep_text.Goals as goal

pub returns-in_err-blank-clause-served : goal.returns-in_err-blank-clause-served
returns-in_err-blank-clause-served g c = λ before h has.
    served-short g.D.Disk.bytes g.D.Disk.may_leave g.D.Disk.moment g.D.Disk.left_since g.K.Sink.written g.K.Sink.faults g.S.Source.left g.S.Source.faults g.met.D.Disk.only_now [] before [] (head_text_of h ∷ []) h
    c.args.disk.now c.args.out.now c.args.keeper.place c.args.source.now c.requires.at_rest (promptly-taken has) has.says.session c.in_err-blank.field-0.0 c.from_residual.result c.from_residual.ensures.1

pub keep_at-requires-clause-begun : goal.keep_at-requires-clause-begun
keep_at-requires-clause-begun g c κs within = (c.requires.begun.0, read_here c.requires.begun.2)

pub returns-clause-served : goal.returns-clause-served
returns-clause-served g c = λ before h has.
    subst (λ (x : Header). Served g.D.Disk.bytes g.D.Disk.may_leave g.D.Disk.moment g.D.Disk.left_since g.K.Sink.written g.K.Sink.faults g.S.Source.left g.S.Source.faults [] before (new_session x c.args.disk.now c.args.out.now) c.keep_at.new.disk c.keep_at.new.out x c.keep_at.new.source c.keep_at.result)
    (sym (header_same (session_at c.args.reading.now.intake.stage) h has.session)) (c.keep_at.ensures.served before (read_here has))
