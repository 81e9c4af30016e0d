use Rattle.access_index.proofs.Wording.{word_told}
use Rattle.access_index.proofs.words.FirstHeads.words.Goals as goal

pub returns-clause-words : goal.returns-clause-words
returns-clause-words g c = λ bank small. word_told g.row.N g.row.G c.self.inside.words c.self.inside.groups c.args.self.now bank c.self.view_is c.self.invariant small
