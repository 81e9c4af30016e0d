use Rattle.pair_shards.proofs.Keeping.{caught_up}
use Rattle.pair_shards.proofs.shard.Shard.catch_up.Goals as goal

pub invariant_of-self : goal.invariant_of-self
invariant_of-self g c = caught_up _ _ _ _ _ c.self.invariant c.catch_up.ensures.same c.catch_up.ensures.kept c.catch_up.ensures.missed c.catch_up.ensures.front

pub returns-clause-kept : goal.returns-clause-kept
returns-clause-kept g c = caught_up _ _ _ _ _ c.self.invariant c.catch_up.ensures.same c.catch_up.ensures.kept c.catch_up.ensures.missed c.catch_up.ensures.front
