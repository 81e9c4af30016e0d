-- The pass enters the planned entry, and each pair signs it.
use Rattle.std.proofs.Common.{ap, sym, subst, ◌∙◌}
use Rattle.fx_rules.specs.declared.outcome.Entry.{Entry}
use Rattle.fx_chronicle.specs.Faces.{Witness}
use Rattle.credit_book.specs.Recorded.{Recorded}
use Rattle.fx_host.specs.inside.Changing.{IsPlanned}
use Rattle.fx_host.proofs.Changing.{roomy, all_pend, serves}
use Rattle.fx_host.proofs.change.change_credit.Goals as goal

pub carry_all-requires-clause-pend : goal.carry_all-requires-clause-pend
carry_all-requires-clause-pend g c =
    all_pend _ c.sender-sender.new.self c.reserve.new.self c.enter.new.self _ _ _ _ _ _
    (ap (λ (b : Recorded). b.history.keys) c.reserve.ensures.value ∙ ap (λ (b : Recorded). b.history.keys) c.plan_change.ensures.same ∙ c.sender-sender.ensures.kept.keys)
    (ap (λ (w : Witness Entry). w.key) c.sender-sender.ensures.pass ∙ sym c.sender-sender.ensures.bank) c.in_ok-change.ensures.planned c.enter.ensures.value

pub returns-clause-served : goal.returns-clause-served
returns-clause-served g c =
    let planned : IsPlanned g.N.Naming.session c.args.credit.now.history.entries c.args.pass.now.key c.args.command.now c.in_ok-change.field-0.change c.in_ok-change.field-0.entry c.in_ok-change.field-0.answer =
    subst (λ (b : Recorded). IsPlanned g.N.Naming.session b.history.entries c.args.pass.now.key c.args.command.now c.in_ok-change.field-0.change c.in_ok-change.field-0.entry c.in_ok-change.field-0.answer)
    c.sender-sender.ensures.same
    (subst (λ key. IsPlanned g.N.Naming.session c.sender-sender.new.self.history.entries key c.args.command.now c.in_ok-change.field-0.change c.in_ok-change.field-0.entry c.in_ok-change.field-0.answer)
    c.sender-sender.ensures.bank c.in_ok-change.ensures.planned) in
    serves _ c.args.credit.now c.reserve.new.self c.enter.new.self c.carry_all.new.credit _ _ _ _ _ _ _ (roomy _ _ _ (c.plan_change.ensures.same ∙ c.sender-sender.ensures.same) c.reserve.ensures.value)
    c.sender-sender.ensures.pass planned c.enter.ensures.value c.carry_all.ensures.entries c.enter.ensures.seen c.enter.ensures.own c.enter.ensures.pass
