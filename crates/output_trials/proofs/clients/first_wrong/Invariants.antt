use Rattle.client_desk.specs.Clients.{AreClients}
use Rattle.output_trials.proofs.clients.first_wrong.Given as goal

-- the clients so far can stand together
abbrev pub invariant-loop-at : goal.invariant-loop-at
invariant-loop-at l = AreClients l.session l.clients
