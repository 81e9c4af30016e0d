-- The lanes have served the first round, and were gathered.
use Rattle.std.proofs.Common.{[], subst, arith}
use Rattle.fx_rules.specs.Lists.{Each}
use Rattle.fx_rules.specs.Sending.{IsSentOf}
use Rattle.fx_rules.specs.Session.{Header}
use Rattle.host_trials.proofs.rounds.two_rounds.Goals as goal

pub serve_round-requires-2-clause-can_serve : goal.serve_round-requires-2-clause-can_serve
serve_round-requires-2-clause-can_serve g c κs within =
    let first = c.args.sent.0.now in
    let all = c.in_ok-first.ensures.gathered first [] (c.in_ok-serve_round.ensures.served [] c.in_ok-run.ensures.opened) (c.serve_round.ensures.gathered [] c.in_ok-run.ensures.gathered) in
    record { sent = first; served = all.served; valid = subst (λ (h : Header). Each (IsSentOf h) c.args.sent.1.now) c.requires.session c.requires.valid_too; few = omega (arith, c.requires.few, c.requires.few_too) }
