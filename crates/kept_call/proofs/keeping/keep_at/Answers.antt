-- The header is kept, and then the text; or a fault comes before.
use Rattle.std.proofs.Common.{[], ◌∷◌, Result, sym, subst, arith}
use Rattle.keep_disk.specs.Keeping.{AtRest}
use Rattle.kept_call.specs.Running.{new_session}
use Rattle.session_head.specs.HeadText.{head_text_of}
use Rattle.session_script.specs.declared.ends.TextEnd.{TextEnd}
use Rattle.session_script.specs.Stage.{sent_at}
use Rattle.kept_call.specs.Fault.{of_run}
use Rattle.kept_call.specs.inside.Served.{Served}
use Rattle.kept_call.specs.declared.fault.KeptFault.{KeptFault}
use Rattle.kept_call.proofs.Faults.{for_err, is_err, causes-of_run}
use Rattle.kept_call.proofs.Opening.{kept-at_rest}
use Rattle.kept_call.proofs.Serving.{promptly-taken, served-short, served-not_begun}
use Rattle.kept_call.proofs.keeping.keep_at.Goals as goal

pub returns-in_err-run-clause-served : goal.returns-in_err-run-clause-served
returns-in_err-run-clause-served g c = λ before has.
    served-short g.D.Disk.bytes g.D.Disk.may_leave g.D.Disk.moment g.D.Disk.left_since g.K.Sink.written g.K.Sink.faults g.S.Source.left g.S.Source.faults g.met.D.Disk.only_now [] before [] (head_text_of g.N.Naming.session ∷ []) g.N.Naming.session
    c.args.disk.now c.args.out.now c.args.keeper.place c.args.source.now c.requires.at_rest (promptly-taken has) has.says.session c.in_err-run.field-0.0 c.from_residual.result c.from_residual.ensures.1

pub begin-requires-clause-at_rest : goal.begin-requires-clause-at_rest
begin-requires-clause-at_rest g c κs within = subst (AtRest g.D.Disk.bytes g.D.Disk.may_leave c.args.disk.now) (sym c.in_ok-run.ensures.place) c.requires.at_rest

pub returns-in_err-begin-clause-served : goal.returns-in_err-begin-clause-served
returns-in_err-begin-clause-served g c = λ before has.
    let d = c.args.disk.now in
    let k = c.args.out.now in
    let so_far = kept-at_rest g.D.Disk.bytes g.D.Disk.may_leave g.D.Disk.moment g.D.Disk.left_since g.K.Sink.written g.K.Sink.faults d k c.args.keeper.place (g.met.D.Disk.only_now d) c.requires.at_rest in
    for_err c.from_residual-in_err-begin.result (of_run c.in_err-begin.field-0.0)
    (λ (r : Result TextEnd KeptFault). Served g.D.Disk.bytes g.D.Disk.may_leave g.D.Disk.moment g.D.Disk.left_since g.K.Sink.written g.K.Sink.faults g.S.Source.left g.S.Source.faults [] before (new_session g.N.Naming.session d k) c.begin.new.disk c.begin.new.out g.N.Naming.session c.args.source.now r)
    c.from_residual-in_err-begin.ensures.1
    (served-not_begun g.D.Disk.bytes g.D.Disk.may_leave g.D.Disk.moment g.D.Disk.left_since g.K.Sink.written g.K.Sink.faults g.S.Source.left g.S.Source.faults before d c.begin.new.disk k c.begin.new.out g.N.Naming.session c.args.source.now c.args.reading.now (sent_at c.args.reading.now.intake.stage) c.in_err-begin.field-0.0 has
    c.in_ok-run.ensures.stands.has_gathered.legal (c.in_err-begin.ensures.stopped d k so_far))

pub returns-in_err-begin-clause-causes : goal.returns-in_err-begin-clause-causes
returns-in_err-begin-clause-causes g c =
    causes-of_run g.D.Disk.faults g.K.Sink.faults c.args.disk.now c.begin.new.disk c.args.out.now c.begin.new.out c.in_err-begin.field-0.0 c.begin.result c.from_residual-in_err-begin.result
    c.in_err-begin.was (is_err c.from_residual-in_err-begin.result (of_run c.in_err-begin.field-0.0) c.from_residual-in_err-begin.ensures.1) c.begin.ensures.causes

pub serve_text-requires-clause-keeping : goal.serve_text-requires-clause-keeping
serve_text-requires-clause-keeping g c κs within =
    let d = c.args.disk.now in
    let k = c.args.out.now in
    let so_far = kept-at_rest g.D.Disk.bytes g.D.Disk.may_leave g.D.Disk.moment g.D.Disk.left_since g.K.Sink.written g.K.Sink.faults d k c.args.keeper.place (g.met.D.Disk.only_now d) c.requires.at_rest in
    ([], c.requires.begun.0, new_session g.N.Naming.session d k, record { few = omega arith; sent = []; has_read = c.requires.begun.1; keeps = c.in_ok-begin.ensures.begun d k so_far })

pub returns-clause-served : goal.returns-clause-served
returns-clause-served g c = λ before has.
    let d = c.args.disk.now in
    let k = c.args.out.now in
    let so_far = kept-at_rest g.D.Disk.bytes g.D.Disk.may_leave g.D.Disk.moment g.D.Disk.left_since g.K.Sink.written g.K.Sink.faults d k c.args.keeper.place (g.met.D.Disk.only_now d) c.requires.at_rest in
    c.serve_text.ensures.served [] before (new_session g.N.Naming.session d k) (record { few = omega arith; sent = []; has_read = has; keeps = c.in_ok-begin.ensures.begun d k so_far })
