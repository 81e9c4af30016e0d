use Rattle.std.proofs.Common.{subst}
use Rattle.credit_lines.specs.Credit.{IsCredit}
use Rattle.credit_lines.proofs.Paying.{can_follow, follow_paid, follow_on}
use Rattle.credit_lines.proofs.lines.CreditLines.follow.Goals as goal

pub set_asked-requires-clause-can : goal.set_asked-requires-clause-can
set_asked-requires-clause-can c = can_follow c.args.session.now c.args.self.now c.args.entry.now c.requires.next

pub take_all-requires-clause-paid : goal.take_all-requires-clause-paid
take_all-requires-clause-paid c =
    follow_paid c.args.session.now c.args.self.now c.set_asked.new.lines c.args.entry.now c.fills.result.now
    (subst IsCredit c.self.view_is c.self.invariant.0) c.requires.next c.set_asked.ensures.value c.fills.ensures.fills

pub returns-clause-follows : goal.returns-clause-follows
returns-clause-follows c =
    follow_on c.args.session.now c.args.self.now c.set_asked.new.lines c.take_all.new.lines c.args.entry.now c.fills.result.now
    (subst IsCredit c.self.view_is c.self.invariant.0) c.requires.next c.set_asked.ensures.value c.fills.ensures.fills c.take_all.ensures.value
