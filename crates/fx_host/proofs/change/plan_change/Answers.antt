use Rattle.std.proofs.Common.{ap, sym, subst, ◌∙◌}
use Rattle.fx_rules.specs.History.{state}
use Rattle.credit_lines.specs.Credit.{Credit}
use Rattle.credit_lines.specs.Market.{StandsFor}
use Rattle.credit_raise.specs.UnderWay.{Change, IsChange}
use Rattle.credit_raise.proofs.Changes.{opened-sender, opened-command, command-change}
use Rattle.fx_host.proofs.Changing.{planned}
use Rattle.fx_host.proofs.change.plan_change.Goals as goal

pub open-requires : goal.open-requires
open-requires g c = record {
  change = subst (λ (credit : Credit). IsChange credit.banks c.args.sender.bank c.args.command.now) (sym c.lines.ensures.value)
      (command-change g.N.Naming.session c.args.credit.now.table.lines.banks c.args.sender.bank c.args.command.now c.requires.change c.lines.ensures.kept.stands.lines.banks c.requires.command);
}

pub plan_all-requires-clause-under_way : goal.plan_all-requires-clause-under_way
plan_all-requires-clause-under_way g c =
    c.in_ok-change.ensures.begins g.N.Naming.session c.args.credit.now.history.entries c.lines.ensures.kept.legal
    (subst (λ (credit : Credit). StandsFor g.N.Naming.session (state g.N.Naming.session c.args.credit.now.history.entries) credit) (sym c.lines.ensures.value) c.lines.ensures.kept.stands.lines)
    c.requires.command

pub plan_all-requires-clause-begins : goal.plan_all-requires-clause-begins
plan_all-requires-clause-begins g c = ap (λ (change : Change). change.plans) c.in_ok-change.ensures.opens

pub returns-clause-planned : goal.returns-clause-planned
returns-clause-planned g c =
    planned _ c.args.credit.now c.args.sender c.args.command.now _ _ _ c.lines.ensures.kept c.requires.next c.requires.number c.requires.command c.requires.change
    c.in_ok-plan_all.ensures.goes_on c.in_ok-plan_all.ensures.turns (c.in_ok-plan_all.ensures.command ∙ opened-command _ _ _ _ c.in_ok-change.ensures.opens)
    (c.in_ok-plan_all.ensures.sender ∙ opened-sender _ _ _ _ c.in_ok-change.ensures.opens) c.in_ok-answer.ensures.value c.in_ok-answer.ensures.answers c.in_ok-copy.ensures.equal
