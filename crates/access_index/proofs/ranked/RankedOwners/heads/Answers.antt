use Rattle.std.proofs.Common.{refl}
use Rattle.access_index.proofs.Ranking.{heads_told}
use Rattle.access_index.proofs.ranked.RankedOwners.heads.Goals as goal

pub returns : goal.returns
returns c = heads_told c.self.inside.ladders.entries c.args.self.now c.self.inside.heads c.self.inside.heads c.self.view_is refl c.self.invariant.ranked
