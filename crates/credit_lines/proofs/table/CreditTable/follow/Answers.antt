use Rattle.std.proofs.Common.{sym, subst}
use Rattle.credit_lines.specs.Table.{Table, IsNextOf}
use Rattle.credit_lines.proofs.TableFollowing.{lines_next, follows}
use Rattle.credit_lines.proofs.table.CreditTable.follow.Goals as goal

pub follow-requires : goal.follow-requires
follow-requires c = record {
  next = lines_next _ _ c.self.invariant.table.session (subst (λ (t : Table). IsNextOf t c.args.entry.now) (sym c.self.view_is) c.requires.next);
}

pub returns-clause-follows : goal.returns-clause-follows
returns-clause-follows c = follows _ _ _ _ _ c.self.view_is c.count_command.ensures.value c.follow.ensures.follows
