-- Each round serves, keeps and tells what was read.
use Rattle.std.proofs.Common.{rules, refl, ◌≡◌, ◌++◌, map, Some, None, sym, ◌∙◌, arith}
use Rattle.fx_rules.specs.Sending.{sent_by}
use Rattle.keep_disk.proofs.Moments.{not_err}
use Rattle.session_script.specs.Stage.{sent_at}
use Rattle.session_script.proofs.RoundLaws.{less_to_read, same_session, taken_within}
use Rattle.kept_call.proofs.Causes.{causes-then, causes-on, causes-none, causes-done}
use Rattle.kept_call.proofs.Texts.{stopped-so, round-can_serve, round-stops, round-ends, round-next, round-gives_up}
use Rattle.kept_call.proofs.run.KeptRun.keep_text.Goals as goal

pub loop-reading-init : goal.loop-reading-init
loop-reading-init g c = record { keeping = λ front before start keeping. keeping; steady = refl; count = omega arith }

pub keep_round-requires-clause-session : goal.keep_round-requires-clause-session
keep_round-requires-clause-session g c κs within =
    let its = c.requires.keeping in
    let keeping = c.loop-reading.invariant.keeping its.0 its.1 its.2 its.3 in
    same_session c.script-script.result.now.session keeping.has_read c.script-script.ensures.session

pub keep_round-requires-clause-workers : goal.keep_round-requires-clause-workers
keep_round-requires-clause-workers g c κs within = c.requires.workers

pub keep_round-requires-clause-stands : goal.keep_round-requires-clause-stands
keep_round-requires-clause-stands g c κs within =
    let its = c.requires.keeping in
    let keeping = c.loop-reading.invariant.keeping its.0 its.1 its.2 its.3 in
    (map sent_by its.2.kept ++ keeping.sent, its.2.kept ++ keeping.keeps.entries, keeping.keeps.stands)

pub keep_round-requires-clause-can_serve : goal.keep_round-requires-clause-can_serve
keep_round-requires-clause-can_serve g c κs within =
    let its = c.requires.keeping in
    let l = c.loop-reading in
    round-can_serve g.D.Disk.bytes g.D.Disk.may_leave g.D.Disk.moment g.D.Disk.left_since g.K.Sink.written g.K.Sink.faults g.S.Source.left g.S.Source.faults its.0 its.1 its.2 g.N.Naming.session
    l.disk l.out l.source l.reading l.self.keeper.place l.self.run.gathered l.self.run.lanes.items l.self.telling.counts.items (l.invariant.keeping its.0 its.1 its.2 its.3)
    c.deref.result.now (c.deref.ensures.value ∙ sym c.script-script.ensures.sent)

pub keep_round-requires-clause-at_rest : goal.keep_round-requires-clause-at_rest
keep_round-requires-clause-at_rest g c κs within =
    let its = c.requires.keeping in
    let keeping = c.loop-reading.invariant.keeping its.0 its.1 its.2 its.3 in
    keeping.keeps.at_rest

pub returns-in_err-keep_round-clause-kept : goal.returns-in_err-keep_round-clause-kept
returns-in_err-keep_round-clause-kept g c = λ front before start first.
    let l = c.loop-reading in
    let keeping = l.invariant.keeping front before start first in
    let now = c.keep_round.new.self in
    stopped-so g.D.Disk.bytes g.D.Disk.may_leave g.D.Disk.moment g.D.Disk.left_since g.K.Sink.written g.K.Sink.faults g.S.Source.left g.S.Source.faults front before start g.N.Naming.session
    c.keep_round.new.disk c.keep_round.new.out l.source l.reading now.keeper.place now.run.gathered now.run.lanes.items now.telling.counts.items c.from_residual.result _ c.from_residual.ensures.1
    (round-stops g.D.Disk.bytes g.D.Disk.may_leave g.D.Disk.moment g.D.Disk.left_since g.K.Sink.written g.K.Sink.faults g.S.Source.left g.S.Source.faults front before start g.N.Naming.session
    l.disk l.out l.source l.reading l.self.keeper.place l.self.run.gathered l.self.run.lanes.items l.self.telling.counts.items keeping
    c.deref.result.now (c.deref.ensures.value ∙ sym c.script-script.ensures.sent) c.keep_round.new.disk c.keep_round.new.out (c.in_err-keep_round.ensures.stopped start keeping.sent keeping.keeps))

pub returns-in_err-keep_round-clause-causes : goal.returns-in_err-keep_round-clause-causes
returns-in_err-keep_round-clause-causes g c =
    let l = c.loop-reading in
    causes-then g.D.Disk.faults g.K.Sink.faults c.args.disk.now l.disk c.keep_round.new.disk c.args.out.now l.out c.keep_round.new.out c.from_residual.result l.invariant.steady l.invariant.count
    (causes-on g.D.Disk.faults g.K.Sink.faults l.disk c.keep_round.new.disk l.out c.keep_round.new.out c.in_err-keep_round.field-0.0 c.keep_round.result c.from_residual.result c.in_err-keep_round.was c.keep_round.ensures.causes c.from_residual.ensures.1)

pub returns-in-Some-clause-kept : goal.returns-in-Some-clause-kept
returns-in-Some-clause-kept g c = λ front before start first.
    let l = c.loop-reading in
    let keeping = l.invariant.keeping front before start first in
    let now = c.keep_round.new.self in
    let ended : l.reading.end ≡ Some c.in-Some.end = search rules in
    round-ends g.D.Disk.bytes g.D.Disk.may_leave g.D.Disk.moment g.D.Disk.left_since g.K.Sink.written g.K.Sink.faults g.S.Source.left g.S.Source.faults front before start g.N.Naming.session
    l.disk l.out l.source l.reading l.self.keeper.place l.self.run.gathered l.self.run.lanes.items l.self.telling.counts.items keeping
    c.deref.result.now (c.deref.ensures.value ∙ sym c.script-script.ensures.sent) c.keep_round.new.disk c.keep_round.new.out now.keeper.place now.run.gathered now.run.lanes.items now.telling.counts.items
    (c.in_ok-keep_round.ensures.kept start keeping.sent keeping.keeps) c.in-Some.end ended

pub returns-in-Some-clause-causes : goal.returns-in-Some-clause-causes
returns-in-Some-clause-causes g c =
    let l = c.loop-reading in
    causes-done g.D.Disk.faults g.K.Sink.faults c.args.disk.now c.keep_round.new.disk c.args.out.now c.keep_round.new.out c.in-Some.end
    (c.keep_round.ensures.causes.disk_steady (not_err c.in_ok-keep_round.was) ∙ l.invariant.steady) (omega (arith, l.invariant.count, c.keep_round.ensures.causes.sink_count))

pub read_round-requires : goal.read_round-requires
read_round-requires g c = record { goes_on = search rules }

pub loop-reading-smaller : goal.loop-reading-smaller
loop-reading-smaller g c =
    let its = c.requires.keeping in
    let l = c.loop-reading in
    let goes_on : l.reading.end ≡ None = search rules in
    let keeping = l.invariant.keeping its.0 its.1 its.2 its.3 in
    let has = c.in_ok-read_round.ensures.read its.0 its.1 g.N.Naming.session (keeping.sent ++ sent_at l.reading.intake.stage) keeping.has_read in
    less_to_read l.reading.end c.read_round.new.self.end l.reading.intake.taken c.read_round.new.self.intake.taken goes_on c.in_ok-read_round.ensures.further (taken_within has)

pub loop-reading-preserved : goal.loop-reading-preserved
loop-reading-preserved g c =
    let l = c.loop-reading in
    let now = c.keep_round.new.self in
    record {
      keeping = λ front before start first.
          let keeping = l.invariant.keeping front before start first in
          round-next g.D.Disk.bytes g.D.Disk.may_leave g.D.Disk.moment g.D.Disk.left_since g.K.Sink.written g.K.Sink.faults g.S.Source.left g.S.Source.faults front before start g.N.Naming.session
          l.disk l.out l.source l.reading l.self.keeper.place l.self.run.gathered l.self.run.lanes.items l.self.telling.counts.items keeping
          c.deref.result.now (c.deref.ensures.value ∙ sym c.script-script.ensures.sent) c.keep_round.new.disk c.keep_round.new.out now.keeper.place now.run.gathered now.run.lanes.items now.telling.counts.items
          (c.in_ok-keep_round.ensures.kept start keeping.sent keeping.keeps) c.read_round.new.source c.read_round.new.self
          (c.in_ok-read_round.ensures.read front before g.N.Naming.session (keeping.sent ++ sent_at l.reading.intake.stage) keeping.has_read);
      steady = c.keep_round.ensures.causes.disk_steady (not_err c.in_ok-keep_round.was) ∙ l.invariant.steady;
      count = omega (arith, l.invariant.count, c.keep_round.ensures.causes.sink_count);
    }

pub returns-in_err-read_round-clause-kept : goal.returns-in_err-read_round-clause-kept
returns-in_err-read_round-clause-kept g c = λ front before start first.
    let l = c.loop-reading in
    let keeping = l.invariant.keeping front before start first in
    let now = c.keep_round.new.self in
    stopped-so g.D.Disk.bytes g.D.Disk.may_leave g.D.Disk.moment g.D.Disk.left_since g.K.Sink.written g.K.Sink.faults g.S.Source.left g.S.Source.faults front before start g.N.Naming.session
    c.keep_round.new.disk c.keep_round.new.out c.read_round.new.source c.read_round.new.self now.keeper.place now.run.gathered now.run.lanes.items now.telling.counts.items c.from_residual-in_err-read_round.result _ c.from_residual-in_err-read_round.ensures.1
    (round-gives_up g.D.Disk.bytes g.D.Disk.may_leave g.D.Disk.moment g.D.Disk.left_since g.K.Sink.written g.K.Sink.faults g.S.Source.left g.S.Source.faults front before start g.N.Naming.session
    l.disk l.out l.source l.reading l.self.keeper.place l.self.run.gathered l.self.run.lanes.items l.self.telling.counts.items keeping
    c.deref.result.now (c.deref.ensures.value ∙ sym c.script-script.ensures.sent) c.keep_round.new.disk c.keep_round.new.out now.keeper.place now.run.gathered now.run.lanes.items now.telling.counts.items
    (c.in_ok-keep_round.ensures.kept start keeping.sent keeping.keeps) c.read_round.new.source c.read_round.new.self
    (c.in_err-read_round.ensures.memory front before g.N.Naming.session (keeping.sent ++ sent_at l.reading.intake.stage) keeping.has_read))

pub returns-in_err-read_round-clause-causes : goal.returns-in_err-read_round-clause-causes
returns-in_err-read_round-clause-causes g c =
    let l = c.loop-reading in
    causes-then g.D.Disk.faults g.K.Sink.faults c.args.disk.now c.keep_round.new.disk c.keep_round.new.disk c.args.out.now c.keep_round.new.out c.keep_round.new.out c.from_residual-in_err-read_round.result
    (c.keep_round.ensures.causes.disk_steady (not_err c.in_ok-keep_round.was) ∙ l.invariant.steady) (omega (arith, l.invariant.count, c.keep_round.ensures.causes.sink_count))
    (causes-none g.D.Disk.faults g.K.Sink.faults c.keep_round.new.disk c.keep_round.new.out _ c.from_residual-in_err-read_round.result c.from_residual-in_err-read_round.ensures.1)
