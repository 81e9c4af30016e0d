use Rattle.client_desk.specs.Clients.{AreClients}
use Rattle.output_trials.proofs.client_days.declared.Given as goal

-- the clients so far can stand together
abbrev pub invariant-loop-line : goal.invariant-loop-line
invariant-loop-line l = AreClients l.session l.clients
