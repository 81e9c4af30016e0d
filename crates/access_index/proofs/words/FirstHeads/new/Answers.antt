use Rattle.access_index.proofs.Wording.{map-none, none_yet}
use Rattle.access_index.proofs.words.FirstHeads.new.Goals as goal

pub invariant_of-result : goal.invariant_of-result
invariant_of-result g c = none_yet g.row.N g.row.G c.requires.most c.requires.groups

pub returns : goal.returns
returns g c = map-none g.row.N
