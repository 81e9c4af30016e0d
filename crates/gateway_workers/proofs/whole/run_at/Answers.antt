use Rattle.std.proofs.Common.{[]}
use Rattle.gateway_workers.proofs.Closing.{if_ok_then}
use Rattle.gateway_workers.proofs.whole.run_at.Goals as goal

pub returns-clause-streams : goal.returns-clause-streams
returns-clause-streams g c =
    if_ok_then c.close.result (λ history streams. streams c.args.sent.now (c.in_ok-serve_round.ensures.served [] c.in_ok-run.ensures.opened)) c.close.ensures.streams
