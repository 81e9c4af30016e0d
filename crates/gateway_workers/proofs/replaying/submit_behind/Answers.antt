use Rattle.std.proofs.Common.{◌+◌, refl, ap, sym, subst}
use Rattle.fx_rules.specs.declared.outcome.Entry.{Entry}
use Rattle.fx_chronicle.specs.Faces.{Witness}
use Rattle.gateway_workers.specs.declared.lane.Lane.{Lane}
use Rattle.gateway_workers.specs.inside.Gathering.{HasSubmitted}
use Rattle.gateway_workers.proofs.Replayed.{submitted-lane}
use Rattle.gateway_workers.proofs.replaying.submit_behind.Goals as goal

pub returns-clause-submitted : goal.returns-clause-submitted
returns-clause-submitted g c =
    let was : Lane (Witness Entry) = c.args.lane.now in
    subst (λ (p : Witness Entry). HasSubmitted c.args.note c.args.command.now was (record was { pass = p; done = was.done + 1 })) (sym c.note.ensures.same)
    (submitted-lane g.N.Naming.session c.args.note c.args.command.now was (record was { pass = c.submit.new.pass; done = was.done + 1 }) c.learn.new.self c.in_ok-submit.field-0
    (ap (λ (p : Witness Entry). p.key) c.learn.ensures.pass) (ap (λ (p : Witness Entry). p.met) c.learn.ensures.pass) c.learn.ensures.told refl c.submit.ensures.bank c.in_ok-submit.ensures.submitted)
