-- The header's block is the first round, of which nothing is told.
use Rattle.std.proofs.Common.{ap, ◌∙◌}
use Rattle.session_head.specs.HeadText.{head_text_of}
use Rattle.gateway_workers.proofs.Closing.{err_always, err_then}
use Rattle.kept_call.proofs.RoundKeeping.{begins-short, begins-on, begins-cut}
use Rattle.kept_call.proofs.Results.{ok_when, of_ok}
use Rattle.kept_call.proofs.run.KeptRun.begin.Goals as goal

pub returns-in_err-header-clause-stopped : goal.returns-in_err-header-clause-stopped
returns-in_err-header-clause-stopped g c =
    err_always c.from_residual.result
    (λ from out_from so_far. begins-short g.D.Disk.bytes g.D.Disk.may_leave g.D.Disk.moment g.D.Disk.left_since g.K.Sink.written g.K.Sink.faults from c.args.disk.now out_from c.args.out.now g.N.Naming.session so_far)

pub returns-clause-begun : goal.returns-clause-begun
returns-clause-begun g c =
    let r = c.keep_round.result in
    ok_when r
    (λ value is from out_from so_far.
    begins-on g.D.Disk.bytes g.D.Disk.may_leave g.D.Disk.moment g.D.Disk.left_since g.K.Sink.written g.K.Sink.faults from c.args.disk.now out_from c.args.out.now g.N.Naming.session so_far
    g.met.D.Disk.reads c.in_ok-header.header (c.in_ok-header.ensures.body ∙ ap head_text_of c.requires.session) c.in_ok-header.ensures.text c.keep_round.new.disk c.keep_round.new.out c.keep_round.ensures.every_moment
    c.keep_round.new.keeper.place c.args.self.now.run.gathered c.args.self.now.run.lanes.items c.args.self.now.telling.counts.items c.requires.stands
    (of_ok r value is c.keep_round.ensures.tells) (of_ok r value is c.keep_round.ensures.kept) (of_ok r value is c.keep_round.ensures.told) (of_ok r value is c.keep_round.ensures.at_rest))

pub returns-clause-stopped : goal.returns-clause-stopped
returns-clause-stopped g c =
    err_then c.keep_round.result
    (λ stopped from out_from so_far.
    begins-cut g.D.Disk.bytes g.D.Disk.may_leave g.D.Disk.moment g.D.Disk.left_since g.K.Sink.written g.K.Sink.faults from c.args.disk.now out_from c.args.out.now g.N.Naming.session so_far
    g.met.D.Disk.reads c.in_ok-header.header (c.in_ok-header.ensures.body ∙ ap head_text_of c.requires.session) c.in_ok-header.ensures.text c.keep_round.new.disk c.keep_round.new.out c.keep_round.ensures.every_moment
    g.met.D.Disk.counts_now stopped)
    c.keep_round.ensures.stopped
