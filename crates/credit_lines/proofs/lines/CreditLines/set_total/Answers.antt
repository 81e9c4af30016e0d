use Rattle.credit_lines.proofs.Steps.{total_keeps}
use Rattle.credit_lines.proofs.lines.CreditLines.set_total.Goals as goal

pub invariant_of-self : goal.invariant_of-self
invariant_of-self c = total_keeps _ _ _ _ _ _ _ _ _ _ c.self.invariant c.self.view_is c.requires c.index.ensures.value c.spent.ensures.value c.max-set.ensures
