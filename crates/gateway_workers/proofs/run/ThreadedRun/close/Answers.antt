use Rattle.fx_rules.specs.History.{own}
use Rattle.fx_chronicle.specs.Faces.{Witness}
use Rattle.fx_rules.specs.declared.outcome.Entry.{Entry}
use Rattle.fx_chronicle.specs.Submitting.{IsWholeOf}
use Rattle.gateway_workers.proofs.Closing.{streams-of, each-lane}
use Rattle.gateway_workers.proofs.Gathered.{closed-gathered}
use Rattle.gateway_workers.proofs.run.ThreadedRun.close.Goals as goal

pub returns-clause-streams : goal.returns-clause-streams
returns-clause-streams g c = λ sent served.
    streams-of g.N.Naming.session sent c.args.self.lanes.items c.close_host-history.result.history.items c.close_host-history.ensures.legal served
    (each-lane (λ (pass : Witness Entry). IsWholeOf pass.key pass.seen (own pass.key pass.met) c.close_host-history.result.history.items) c.args.self.lanes.items c.in_ok-passes.passes.items c.in_ok-passes.ensures.passes c.close_host-history.ensures.passes)

pub returns-clause-gathered : goal.returns-clause-gathered
returns-clause-gathered g c = λ sent entries all.
    let whole = each-lane (λ (pass : Witness Entry). IsWholeOf pass.key pass.seen (own pass.key pass.met) c.close_host-history.result.history.items) c.args.self.lanes.items c.in_ok-passes.passes.items c.in_ok-passes.ensures.passes c.close_host-history.ensures.passes in
    closed-gathered g.N.Naming.session sent entries c.close_host-history.result.history.items _ c.args.self.lanes.items all
    (streams-of g.N.Naming.session sent c.args.self.lanes.items c.close_host-history.result.history.items c.close_host-history.ensures.legal all.served whole)
    (λ place lane is. (whole place lane is).begins)
