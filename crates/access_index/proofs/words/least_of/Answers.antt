use Rattle.std.proofs.Common.{◌+◌, get_or, refl}
use Rattle.access_index.proofs.Wording.{least_more}
use Rattle.access_index.proofs.words.least_of.Goals as goal

pub loop-at-preserved : goal.loop-at-preserved
loop-at-preserved c =
    least_more c.args.words.now c.args.from c.loop-at.at c.loop-at.least (get_or c.args.words.now (c.args.from + c.loop-at.at) 0) c.min-least.result refl c.min-least.ensures c.loop-at.invariant
