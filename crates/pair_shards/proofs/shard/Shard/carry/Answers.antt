use Rattle.pair_shards.proofs.Keeping.{legal_entries, carried}
use Rattle.pair_shards.proofs.shard.Shard.carry.Goals as goal

pub invariant_of-self : goal.invariant_of-self
invariant_of-self g c =
    carried _ _ _ _ _ _ _ c.self.view_is c.self.invariant (legal_entries _ c.args.credit.now c.sign.new.self c.sign.ensures.value c.sign.ensures.kept) c.requires.last c.sign.ensures.missed
    c.sign.ensures.front c.carry.ensures.pair c.carry.ensures.banks c.carry.ensures.state

pub returns-clause-kept : goal.returns-clause-kept
returns-clause-kept g c =
    carried _ _ _ _ _ _ _ c.self.view_is c.self.invariant (legal_entries _ c.args.credit.now c.sign.new.self c.sign.ensures.value c.sign.ensures.kept) c.requires.last c.sign.ensures.missed
    c.sign.ensures.front c.carry.ensures.pair c.carry.ensures.banks c.carry.ensures.state
