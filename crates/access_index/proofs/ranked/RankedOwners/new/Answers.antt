use Rattle.std.proofs.Common.{refl}
use Rattle.access_index.proofs.Numbering.{numbered_none}
use Rattle.access_index.proofs.Ranking.{ranked_none}
use Rattle.access_index.proofs.ranked.RankedOwners.new.Goals as goal

pub invariant_of-result : goal.invariant_of-result
invariant_of-result c = record {
  numbered = numbered_none _ c.in_ok-with_capacity.field-0.entries refl c.in_ok-with_capacity.ensures.empty c.in_ok-with_capacity.ensures.unique;
  ranked = ranked_none c.in_ok-with_capacity.field-0.entries c.new.result c.in_ok-with_capacity.ensures.empty c.new.ensures;
}
