-- One round more is kept and told, or a fault comes in it.
use Rattle.std.proofs.Common.{◌++◌, map, sym, subst, ap}
use Rattle.fx_rules.specs.Sending.{sent_by}
use Rattle.keep_disk.specs.Keeping.{AtRest}
use Rattle.keep_disk.specs.declared.keeper.Keeper.{Keeper}
use Rattle.gateway_workers.proofs.Closing.{err_always, err_then}
use Rattle.kept_call.proofs.RoundKeeping.{stops-short, keeps-more, stops-cut}
use Rattle.kept_call.proofs.Results.{ok_when, of_ok}
use Rattle.kept_call.proofs.run.KeptRun.keep_round.Goals as goal

pub returns-in_err-round-clause-stopped : goal.returns-in_err-round-clause-stopped
returns-in_err-round-clause-stopped g c =
    let was = c.args.self.now in
    err_always c.from_residual.result
    (λ start so_far keeps.
    stops-short g.D.Disk.bytes g.D.Disk.may_leave g.D.Disk.moment g.D.Disk.left_since g.K.Sink.written g.K.Sink.faults start c.args.disk.now c.args.out.now g.N.Naming.session so_far
    was.keeper.place was.run.gathered was.run.lanes.items was.telling.counts.items keeps c.args.sent.now)

pub keep_round-requires : goal.keep_round-requires
keep_round-requires g c = subst (AtRest g.D.Disk.bytes g.D.Disk.may_leave c.args.disk.now) (sym (ap (λ (k : Keeper). k.place) c.make_round.ensures.keeper)) c.requires.at_rest

pub returns-clause-kept : goal.returns-clause-kept
returns-clause-kept g c =
    let was = c.args.self.now in
    let now = c.make_round.new.self in
    let r = c.keep_round.result in
    ok_when r
    (λ value is start so_far keeps.
    let made = c.in_ok-round.ensures.made in
    let its = made.1 (map sent_by start.kept ++ so_far) (start.kept ++ keeps.entries) keeps.stands in
    keeps-more g.D.Disk.bytes g.D.Disk.may_leave g.D.Disk.moment g.D.Disk.left_since g.K.Sink.written g.K.Sink.faults start c.args.disk.now c.args.out.now g.N.Naming.session so_far
    was.keeper.place was.run.gathered was.run.lanes.items was.telling.counts.items keeps
    g.met.D.Disk.reads c.args.sent.now made.0 c.in_ok-round.round c.keep_round.new.keeper.place now.run.gathered now.run.lanes.items now.telling.counts.items its.0 its.1
    c.keep_round.new.disk c.keep_round.new.out c.keep_round.ensures.every_moment
    (of_ok r value is c.keep_round.ensures.tells) (of_ok r value is c.keep_round.ensures.kept) (of_ok r value is c.keep_round.ensures.told) (of_ok r value is c.keep_round.ensures.at_rest))

pub returns-clause-stopped : goal.returns-clause-stopped
returns-clause-stopped g c =
    let was = c.args.self.now in
    let now = c.make_round.new.self in
    err_then c.keep_round.result
    (λ stopped start so_far keeps.
    let made = c.in_ok-round.ensures.made in
    let its = made.1 (map sent_by start.kept ++ so_far) (start.kept ++ keeps.entries) keeps.stands in
    stops-cut g.D.Disk.bytes g.D.Disk.may_leave g.D.Disk.moment g.D.Disk.left_since g.K.Sink.written g.K.Sink.faults start c.args.disk.now c.args.out.now g.N.Naming.session so_far
    was.keeper.place was.run.gathered was.run.lanes.items was.telling.counts.items keeps
    g.met.D.Disk.reads c.args.sent.now made.0 c.in_ok-round.round c.keep_round.new.keeper.place now.run.gathered now.run.lanes.items now.telling.counts.items its.0 its.1
    c.keep_round.new.disk c.keep_round.new.out c.keep_round.ensures.every_moment g.met.D.Disk.counts_now stopped)
    c.keep_round.ensures.stopped
