use Rattle.access_index.proofs.Ranking.{told_by}
use Rattle.access_index.proofs.ranked.RankedOwners.words.Goals as goal

pub returns : goal.returns
returns c = told_by c.self.inside.ladders.entries c.args.self.now c.self.inside.heads c.words.result.now c.self.view_is c.self.invariant.ranked c.words.ensures.count c.words.ensures.words
