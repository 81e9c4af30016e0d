-- The least word of the groups that are looked at is the least of all.
use Rattle.std.proofs.Common.{arith}
use Rattle.access_index.specs.inside.Words.{IsLeastOf}
use Rattle.access_index.proofs.Wording.{best_within, least_all, none_within}
use Rattle.access_index.proofs.words.FirstHeads.best_in.Goals.{After-least_of-least}
use Rattle.access_index.proofs.words.FirstHeads.best_in.Goals as goal

least_is : (g : _) (c : After-least_of-least g) → IsLeastOf c.self.inside.words 0 g.row.N c.least_of-least.result
least_is g c =
    least_all g.row.N g.row.G c.self.inside.words c.self.inside.groups c.args.self.now c.args.groups c.least_of-least.result c.self.invariant c.self.view_is c.requires.empty c.requires.groups
    (omega (arith, c.least_of-least.type_inv)) c.least_of-least.ensures

pub returns-then-least-beyond-clause-none : goal.returns-then-least-beyond-clause-none
returns-then-least-beyond-clause-none g c = λ none most is.
    none_within g.row.N c.self.inside.words c.args.self.now c.least_of-least.result most c.self.invariant.count c.self.view_is (least_is g (goal.at.returns-then-least-beyond-clause-none g c).After-least_of-least)
    (omega (arith, c.if-least-beyond.true, is))

pub returns-clause-best : goal.returns-clause-best
returns-clause-best g c = λ most is.
    best_within g.row.N c.self.inside.words c.args.self.now c.least_of-least.result most c.self.invariant.count c.self.view_is (least_is g (goal.at.returns-clause-best g c).After-least_of-least)
    g.row.G c.at.result c.self.inside.groups c.self.invariant (omega (arith, is)) (omega (arith, c.if-least-beyond.false, is)) c.at.ensures.value
