-- The text ended and the rest of its output was written, or a fault came.
use Rattle.std.proofs.Common.{◌++◌, map, Result}
use Rattle.fx_rules.specs.Sending.{sent_by}
use Rattle.keep_disk.proofs.Moments.{not_err}
use Rattle.session_script.specs.declared.ends.TextEnd.{TextEnd}
use Rattle.session_script.proofs.RoundLaws.{same_session}
use Rattle.kept_call.specs.Fault.{of_run, of_out}
use Rattle.kept_call.specs.inside.Served.{Served}
use Rattle.kept_call.specs.declared.fault.KeptFault.{KeptFault}
use Rattle.kept_call.proofs.Faults.{for_err, is_err, causes-of_run, causes-of_out, causes-written}
use Rattle.kept_call.proofs.Serving.{served-stopped, served-cut, served-whole}
use Rattle.kept_call.proofs.text.serve_text.Goals as goal

pub returns-in_err-end-clause-served : goal.returns-in_err-end-clause-served
returns-in_err-end-clause-served g c = λ front before start keeping.
    for_err c.from_residual.result (of_run c.in_err-end.field-0.0)
    (λ (r : Result TextEnd KeptFault). Served g.D.Disk.bytes g.D.Disk.may_leave g.D.Disk.moment g.D.Disk.left_since g.K.Sink.written g.K.Sink.faults g.S.Source.left g.S.Source.faults front before start c.keep_text.new.disk c.keep_text.new.out g.N.Naming.session c.keep_text.new.source r)
    c.from_residual.ensures.1
    (served-stopped g.D.Disk.bytes g.D.Disk.may_leave g.D.Disk.moment g.D.Disk.left_since g.K.Sink.written g.K.Sink.faults g.S.Source.left g.S.Source.faults front before start g.N.Naming.session
    c.keep_text.new.disk c.keep_text.new.out c.keep_text.new.source c.keep_text.new.reading c.in_err-end.field-0.0 (c.in_err-end.ensures.kept front before start keeping))

pub returns-in_err-end-clause-causes : goal.returns-in_err-end-clause-causes
returns-in_err-end-clause-causes g c =
    causes-of_run g.D.Disk.faults g.K.Sink.faults c.args.disk.now c.keep_text.new.disk c.args.out.now c.keep_text.new.out c.in_err-end.field-0.0 c.keep_text.result c.from_residual.result
    c.in_err-end.was (is_err c.from_residual.result (of_run c.in_err-end.field-0.0) c.from_residual.ensures.1) c.keep_text.ensures.causes

pub finish-requires-clause-session : goal.finish-requires-clause-session
finish-requires-clause-session g c κs within =
    let its = c.requires.keeping in
    let has = c.in_ok-end.ensures.kept its.0 its.1 its.2 its.3 in
    same_session c.script-script.result.now.session has.has_read c.script-script.ensures.session

pub returns-in_err-finish-clause-served : goal.returns-in_err-finish-clause-served
returns-in_err-finish-clause-served g c = λ front before start keeping.
    let now = c.keep_text.new.self in
    let has = c.in_ok-end.ensures.kept front before start keeping in
    for_err c.from_residual-in_err-finish.result (of_out c.in_err-finish.field-0.0)
    (λ (r : Result TextEnd KeptFault). Served g.D.Disk.bytes g.D.Disk.may_leave g.D.Disk.moment g.D.Disk.left_since g.K.Sink.written g.K.Sink.faults g.S.Source.left g.S.Source.faults front before start c.keep_text.new.disk c.finish.new.out g.N.Naming.session c.keep_text.new.source r)
    c.from_residual-in_err-finish.ensures.1
    (served-cut g.D.Disk.bytes g.D.Disk.may_leave g.D.Disk.moment g.D.Disk.left_since g.K.Sink.written g.K.Sink.faults g.S.Source.left g.S.Source.faults front before start g.N.Naming.session
    c.keep_text.new.disk c.keep_text.new.out c.keep_text.new.source c.keep_text.new.reading now.keeper.place now.run.gathered now.run.lanes.items now.telling.counts.items c.in_ok-end.end has
    c.script-script.result.now.session c.script-script.result.now.strays c.ending_of.result c.finish.new.out c.finish.result c.in_err-finish.field-0.0 c.in_err-finish.was
    (same_session c.script-script.result.now.session has.has_read c.script-script.ensures.session) c.script-script.ensures.strays c.ending_of.ensures
    (c.finish.ensures.wrote (map sent_by start.kept ++ has.sent) (start.kept ++ has.keeps.entries) has.keeps.stands))

pub returns-in_err-finish-clause-causes : goal.returns-in_err-finish-clause-causes
returns-in_err-finish-clause-causes g c =
    let its = c.requires.keeping in
    let has = c.in_ok-end.ensures.kept its.0 its.1 its.2 its.3 in
    let wrote = c.finish.ensures.wrote (map sent_by its.2.kept ++ has.sent) (its.2.kept ++ has.keeps.entries) has.keeps.stands in
    causes-of_out g.D.Disk.faults g.K.Sink.faults c.args.disk.now c.keep_text.new.disk c.args.out.now c.keep_text.new.out c.finish.new.out c.finish.result c.in_err-finish.field-0.0 c.from_residual-in_err-finish.result
    c.in_err-finish.was (is_err c.from_residual-in_err-finish.result (of_out c.in_err-finish.field-0.0) c.from_residual-in_err-finish.ensures.1)
    (c.keep_text.ensures.causes.disk_steady (not_err c.in_ok-end.was)) c.keep_text.ensures.causes.sink_count wrote

pub returns-clause-served : goal.returns-clause-served
returns-clause-served g c = λ front before start keeping.
    let now = c.keep_text.new.self in
    let has = c.in_ok-end.ensures.kept front before start keeping in
    served-whole g.D.Disk.bytes g.D.Disk.may_leave g.D.Disk.moment g.D.Disk.left_since g.K.Sink.written g.K.Sink.faults g.S.Source.left g.S.Source.faults front before start g.N.Naming.session
    c.keep_text.new.disk c.keep_text.new.out c.keep_text.new.source c.keep_text.new.reading now.keeper.place now.run.gathered now.run.lanes.items now.telling.counts.items c.in_ok-end.end has
    c.script-script.result.now.session c.script-script.result.now.strays c.ending_of.result c.finish.new.out c.finish.result c.in_ok-finish.field-0 c.in_ok-finish.was
    (same_session c.script-script.result.now.session has.has_read c.script-script.ensures.session) c.script-script.ensures.strays c.ending_of.ensures
    (c.finish.ensures.wrote (map sent_by start.kept ++ has.sent) (start.kept ++ has.keeps.entries) has.keeps.stands)

pub returns-clause-causes : goal.returns-clause-causes
returns-clause-causes g c =
    let its = c.requires.keeping in
    let has = c.in_ok-end.ensures.kept its.0 its.1 its.2 its.3 in
    let wrote = c.finish.ensures.wrote (map sent_by its.2.kept ++ has.sent) (its.2.kept ++ has.keeps.entries) has.keeps.stands in
    causes-written g.D.Disk.faults g.K.Sink.faults c.args.disk.now c.keep_text.new.disk c.args.out.now c.keep_text.new.out c.finish.new.out c.finish.result c.in_ok-finish.field-0 c.in_ok-finish.was c.in_ok-end.end
    (c.keep_text.ensures.causes.disk_steady (not_err c.in_ok-end.was)) c.keep_text.ensures.causes.sink_count wrote
