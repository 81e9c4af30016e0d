use Rattle.fx_host.proofs.Serving.{serves-submitted}
use Rattle.fx_host.proofs.credit_lock.CreditLock.serve.Goals as goal

pub returns-clause-submitted : goal.returns-clause-submitted
returns-clause-submitted g c = serves-submitted _ _ _ _ _ _ _ c.serve.ensures.served
