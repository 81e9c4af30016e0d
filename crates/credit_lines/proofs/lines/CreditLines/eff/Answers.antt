use Rattle.credit_lines.proofs.Steps.{unbounded_line}
use Rattle.credit_lines.proofs.lines.CreditLines.eff.Goals as goal

pub returns-else-self-clause-value : goal.returns-else-self-clause-value
returns-else-self-clause-value c =
    unbounded_line _ _ _ _ _ _ _ _ _ c.self.invariant c.self.view_is c.requires.first c.requires.second c.if-self.false c.place.ensures.value c.index-left.ensures
