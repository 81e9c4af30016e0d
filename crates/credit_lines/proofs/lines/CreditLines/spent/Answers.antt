use Rattle.credit_lines.proofs.Steps.{read_most}
use Rattle.credit_lines.proofs.lines.CreditLines.spent.Goals as goal

pub returns-clause-most : goal.returns-clause-most
returns-clause-most c = read_most _ _ _ _ _ _ _ _ c.self.invariant c.self.view_is c.requires c.index.ensures.value c.index-2.ensures
