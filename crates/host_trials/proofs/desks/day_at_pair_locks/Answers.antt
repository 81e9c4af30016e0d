use Rattle.std.proofs.Common.{rules, ◌≡◌, subst, ◌∙◌}
use Rattle.fx_rules.specs.Session.{IsSession}
use Rattle.host_trials.proofs.Places.{new-are}
use Rattle.host_trials.proofs.desks.day_at_pair_locks.Goals as goal

pub submit_all-done-requires-clause-session : goal.submit_all-done-requires-clause-session
submit_all-done-requires-clause-session g c κs within = subst IsSession c.requires.session c.banks-banks.ensures.valid

pub submit_all-done-requires-clause-passes : goal.submit_all-done-requires-clause-passes
submit_all-done-requires-clause-passes g c κs within =
    let lent : c.deref_mut.result.now ≡ c.in-Ok.passes.items = search rules in
    new-are g.N.Naming.session c.deref_mut.result.now (lent ∙ c.in-Ok.ensures.passes)
