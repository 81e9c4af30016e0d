-- The kept commands are submitted again, and then the text is served; or memory is refused before.
use Rattle.std.proofs.Common.{[], ◌∙◌}
use Rattle.session_head.specs.HeadText.{head_text_of}
use Rattle.session_script.proofs.RoundLaws.{same_session}
use Rattle.kept_call.specs.inside.Served.{gone_on}
use Rattle.kept_call.proofs.Serving.{promptly-taken, resumed, served-short, keeps-resumed}
use Rattle.kept_call.proofs.restarting.go_on.Goals as goal

pub open-requires-clause-session : goal.open-requires-clause-session
open-requires-clause-session g c κs within = same_session c.script.result.now.session c.resume-reading.ensures.resumed c.script.ensures.session ∙ c.requires.session

pub returns-in_err-run-clause-served : goal.returns-in_err-run-clause-served
returns-in_err-run-clause-served g c =
    let has = resumed g.S.Source.left g.S.Source.faults c.requires.session c.resume-reading.ensures.resumed in
    served-short g.D.Disk.bytes g.D.Disk.may_leave g.D.Disk.moment g.D.Disk.left_since g.K.Sink.written g.K.Sink.faults g.S.Source.left g.S.Source.faults g.met.D.Disk.only_now (head_text_of g.N.Naming.session) c.args.source.now c.args.kept.now [] g.N.Naming.session
    c.args.disk.now c.args.out.now c.args.keeper.place c.args.source.now c.requires.at_rest (promptly-taken has) has.says.session c.in_err-run.field-0.0 c.from_residual.result c.from_residual.ensures.1

pub replay-requires-clause-session : goal.replay-requires-clause-session
replay-requires-clause-session g c κs within = same_session c.script.result.now.session c.resume-reading.ensures.resumed c.script.ensures.session ∙ c.requires.session

pub returns-in_err-replay-clause-served : goal.returns-in_err-replay-clause-served
returns-in_err-replay-clause-served g c =
    let has = resumed g.S.Source.left g.S.Source.faults c.requires.session c.resume-reading.ensures.resumed in
    served-short g.D.Disk.bytes g.D.Disk.may_leave g.D.Disk.moment g.D.Disk.left_since g.K.Sink.written g.K.Sink.faults g.S.Source.left g.S.Source.faults g.met.D.Disk.only_now (head_text_of g.N.Naming.session) c.args.source.now c.args.kept.now [] g.N.Naming.session
    c.args.disk.now c.args.out.now c.args.keeper.place c.args.source.now c.requires.at_rest (promptly-taken has) has.says.session c.in_err-replay.field-0.0 c.from_residual-in_err-replay.result c.from_residual-in_err-replay.ensures.1

pub serve_text-requires-clause-keeping : goal.serve_text-requires-clause-keeping
serve_text-requires-clause-keeping g c κs within = (
  head_text_of g.N.Naming.session,
  c.args.source.now,
  gone_on c.args.kept.now c.args.disk.now c.args.out.now,
  keeps-resumed g.D.Disk.bytes g.D.Disk.may_leave g.D.Disk.moment g.D.Disk.left_since g.K.Sink.written g.K.Sink.faults g.S.Source.left g.S.Source.faults g.met.D.Disk.only_now c.args.kept.now c.as_slice.result.now g.N.Naming.session
      c.args.disk.now c.args.out.now c.args.keeper.place c.replay.new.self.keeper.place c.replay.new.self.run.gathered c.replay.new.self.run.lanes.items c.replay.new.self.telling.counts.items c.args.source.now c.resume-reading.result
      c.requires.whole.1.few (resumed g.S.Source.left g.S.Source.faults c.requires.session c.resume-reading.ensures.resumed) c.as_slice.ensures.items c.in_ok-replay.ensures.stands (c.replay.ensures.place ∙ c.in_ok-run.ensures.place) c.requires.at_rest,
)

pub returns-clause-served : goal.returns-clause-served
returns-clause-served g c =
    c.serve_text.ensures.served (head_text_of g.N.Naming.session) c.args.source.now (gone_on c.args.kept.now c.args.disk.now c.args.out.now)
    (keeps-resumed g.D.Disk.bytes g.D.Disk.may_leave g.D.Disk.moment g.D.Disk.left_since g.K.Sink.written g.K.Sink.faults g.S.Source.left g.S.Source.faults g.met.D.Disk.only_now c.args.kept.now c.as_slice.result.now g.N.Naming.session
    c.args.disk.now c.args.out.now c.args.keeper.place c.replay.new.self.keeper.place c.replay.new.self.run.gathered c.replay.new.self.run.lanes.items c.replay.new.self.telling.counts.items c.args.source.now c.resume-reading.result
    c.requires.whole.1.few (resumed g.S.Source.left g.S.Source.faults c.requires.session c.resume-reading.ensures.resumed) c.as_slice.ensures.items c.in_ok-replay.ensures.stands (c.replay.ensures.place ∙ c.in_ok-run.ensures.place) c.requires.at_rest)
