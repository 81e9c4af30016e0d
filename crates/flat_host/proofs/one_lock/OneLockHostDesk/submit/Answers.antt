use Rattle.flat_host.proofs.Serving.{serves}
use Rattle.flat_host.proofs.one_lock.OneLockHostDesk.submit.Goals as goal

pub returns-clause-submitted : goal.returns-clause-submitted
returns-clause-submitted g c =
    serves _ _ _ _ _ _ _ c.serve.ensures.entries c.serve.ensures.pass c.serve.ensures.seen c.serve.ensures.own c.serve.ensures.legal
