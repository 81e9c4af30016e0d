use Rattle.std.proofs.Common.{ap, ◌∙◌}
use Rattle.pair_shards.specs.Shards.{PairState}
use Rattle.fx_host.proofs.Changing.{parts_of}
use Rattle.fx_host.proofs.change.carry_pair.Goals as goal

pub carry-requires-clause-last : goal.carry-requires-clause-last
carry-requires-clause-last g c =
    parts_of _ _ _ _ _ _ c.requires.last (ap (λ (s : PairState). s.book.pair) c.deref_mut.ensures.value ∙ c.lock-shard.ensures.pair) c.plan.ensures.makes
