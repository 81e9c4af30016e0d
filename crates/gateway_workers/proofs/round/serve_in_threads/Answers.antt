use Rattle.std.proofs.Common.{◌+◌, arith, sym, subst}
use denote.Param.Send.{sendable}
use Rattle.gateway_workers.specs.Lanes.{IsReadyLane}
use Rattle.gateway_workers.proofs.round.serve_in_threads.Goals as goal

-- the lanes of a chunk are ready
pub for_each_chunk_mut-requires-clause-accepts : goal.for_each_chunk_mut-requires-clause-accepts
for_each_chunk_mut-requires-clause-accepts g c κs within start p chunk = (
  (λ k d low. subst (IsReadyLane g.D.Desk.session g.D.Desk.bank g.D.Desk.mine) (sym (chunk.elements k d low)) (c.requires.ready (start + k) d (omega (arith, chunk.in_bounds, low)))),
  (
    search sendable depth 20,
    search sendable depth 20,
    search sendable depth 20,
    search sendable depth 20,
    search sendable depth 20,
  ),
)
