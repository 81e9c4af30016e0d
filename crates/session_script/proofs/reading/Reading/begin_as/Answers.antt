use Rattle.std.proofs.Common.{rules, ◌≡◌, Some, None, Ok, Err, [], refl, subst}
use Rattle.std.specs.Prelude.{Option}
use Rattle.session_script.specs.Stage.{heard_at, no_past, session_at, sent_at}
use Rattle.session_script.specs.inside.Rounds.{TookRound}
use Rattle.session_script.specs.declared.ends.TextEnd.{TextEnd}
use Rattle.session_script.specs.declared.ends.TextEnd.TheVariants.{EndLine, Early}
use Rattle.session_script.proofs.ScriptReading.{front-none, ReadsOn-nil, ReadsOn-round, HasRead-round, HasJournal-round, HasHeard-round, HasStopped-early, HasStopped-err, no_end_line, first_none, known_session}
use Rattle.session_script.proofs.reading.Reading.begin_as.Goals as goal

pub loop-end-init : goal.loop-end-init
loop-end-init g c = record {
  reads = ([], ReadsOn-nil g.S.Source.left g.S.Source.faults c.args.source.now c.new-intake.result c.args.keeps c.new-intake.ensures.begun c.new-intake.ensures.none);
  none = c.new-intake.ensures.heading;
}

pub returns-in-Err : goal.returns-in-Err
returns-in-Err g c =
    let before = c.loop-end.invariant in
    let round : TookRound [] g.S.Source.left g.S.Source.faults c.args.source.now c.read_round.new.source c.read_round.new.self (no_past c.args.keeps) before.reads.0 (Err c.in-Err.stop) =
    first_none {result = (Err c.in-Err.stop)} c.loop-end.intake c.args.keeps before.none (c.in-Err.ensures.took [] c.args.source.now (no_past c.args.keeps) before.reads.0 before.reads.1) in
    let stopped = HasStopped-err c.in-Err.stop round in
    record { begun = stopped; journal = λ on. stopped; heard = λ on. stopped }

pub returns-then-has_started : goal.returns-then-has_started
returns-then-has_started g c =
    let before = c.loop-end.invariant in
    let round : TookRound [] g.S.Source.left g.S.Source.faults c.args.source.now c.read_round.new.source c.read_round.new.self (no_past c.args.keeps) before.reads.0 (Ok c.in-Ok.end) =
    first_none {result = (Ok c.in-Ok.end)} c.loop-end.intake c.args.keeps before.none (c.in-Ok.ensures.took [] c.args.source.now (no_past c.args.keeps) before.reads.0 before.reads.1) in
    let session = known_session (session_at c.read_round.new.self.stage) c.if-has_started.ensures in
    record {
      begun = (session.0, HasRead-round c.read_round.new.self c.in-Ok.end _ session.0 (sent_at c.read_round.new.self.stage) round session.1 refl refl refl front-none);
      journal = λ on. (session.0, HasJournal-round c.read_round.new.self c.in-Ok.end _ session.0 (sent_at c.read_round.new.self.stage) round session.1 refl refl refl front-none on);
      heard = λ on. (
        session.0,
        HasHeard-round c.read_round.new.self c.in-Ok.end _ session.0 (sent_at c.read_round.new.self.stage) (heard_at c.read_round.new.self.stage) round session.1 refl refl refl front-none on refl,
      );
    }

pub returns-in-Some-Early : goal.returns-in-Some-Early
returns-in-Some-Early g c =
    let before = c.loop-end.invariant in
    let round : TookRound [] g.S.Source.left g.S.Source.faults c.args.source.now c.read_round.new.source c.read_round.new.self (no_past c.args.keeps) before.reads.0 (Ok c.in-Ok.end) =
    first_none {result = (Ok c.in-Ok.end)} c.loop-end.intake c.args.keeps before.none (c.in-Ok.ensures.took [] c.args.source.now (no_past c.args.keeps) before.reads.0 before.reads.1) in
    let ended : TookRound [] g.S.Source.left g.S.Source.faults c.args.source.now c.read_round.new.source c.read_round.new.self (no_past c.args.keeps) before.reads.0 (Ok (Some (Early c.in-Some-Early.early))) =
    subst (λ (end : Option TextEnd). TookRound [] g.S.Source.left g.S.Source.faults c.args.source.now c.read_round.new.source c.read_round.new.self (no_past c.args.keeps) before.reads.0 (Ok end)) (search rules) round in
    let stopped = HasStopped-early c.in-Some-Early.early ended c.if-has_started.ensures in
    record { begun = stopped; journal = λ on. stopped; heard = λ on. stopped }

pub unreachable-requires : goal.unreachable-requires
unreachable-requires g c =
    let before = c.loop-end.invariant in
    let round : TookRound [] g.S.Source.left g.S.Source.faults c.args.source.now c.read_round.new.source c.read_round.new.self (no_past c.args.keeps) before.reads.0 (Ok c.in-Ok.end) =
    first_none {result = (Ok c.in-Ok.end)} c.loop-end.intake c.args.keeps before.none (c.in-Ok.ensures.took [] c.args.source.now (no_past c.args.keeps) before.reads.0 before.reads.1) in
    let ended : TookRound [] g.S.Source.left g.S.Source.faults c.args.source.now c.read_round.new.source c.read_round.new.self (no_past c.args.keeps) before.reads.0 (Ok (Some EndLine)) =
    subst (λ (end : Option TextEnd). TookRound [] g.S.Source.left g.S.Source.faults c.args.source.now c.read_round.new.source c.read_round.new.self (no_past c.args.keeps) before.reads.0 (Ok end)) (search rules) round in
    no_end_line ended c.if-has_started.ensures

pub loop-end-preserved : goal.loop-end-preserved
loop-end-preserved g c =
    let before = c.loop-end.invariant in
    let round : TookRound [] g.S.Source.left g.S.Source.faults c.args.source.now c.read_round.new.source c.read_round.new.self (no_past c.args.keeps) before.reads.0 (Ok c.in-Ok.end) =
    first_none {result = (Ok c.in-Ok.end)} c.loop-end.intake c.args.keeps before.none (c.in-Ok.ensures.took [] c.args.source.now (no_past c.args.keeps) before.reads.0 before.reads.1) in
    let on : c.in-Ok.end ≡ None = search rules in
    record { reads = (_, ReadsOn-round round on); none = c.if-has_started.ensures }
