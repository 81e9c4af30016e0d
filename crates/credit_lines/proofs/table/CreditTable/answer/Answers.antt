use Rattle.credit_lines.proofs.TableFollowing.{shown-answers}
use Rattle.credit_lines.proofs.table.CreditTable.answer.Goals as goal

pub returns-in-Show-clause-answers : goal.returns-in-Show-clause-answers
returns-in-Show-clause-answers c =
    shown-answers _ _ c.args.bank _ c.args.command.now _ _ _ c.self.view_is c.in-Show.is c.requires.command c.limit.ensures.value c.used.ensures.value c.eff.ensures.value
