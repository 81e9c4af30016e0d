use Rattle.std.proofs.Common.{◌≡◌, take}
use Rattle.client_desk.proofs.clients.Clients.of.Given as goal

-- the clients so far
abbrev pub invariant-loop-client : goal.invariant-loop-client
invariant-loop-client l = l.clients ≡ take l.client-index l.all
