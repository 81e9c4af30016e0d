use Rattle.fx_chronicle.proofs.Sending.{new-senders}
use Rattle.flat_host.proofs.one_lock.open_one.Goals as goal

pub returns-clause-senders : goal.returns-clause-senders
returns-clause-senders g c = new-senders g.N.Naming.session _ c.in_ok-passes.ensures.passes
