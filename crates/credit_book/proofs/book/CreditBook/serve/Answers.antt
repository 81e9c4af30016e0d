use Rattle.std.proofs.Common.{ap, sym, subst, ◌∙◌}
use Rattle.fx_rules.specs.declared.outcome.Entry.{Entry}
use Rattle.fx_rules.specs.History.{IsLegal}
use Rattle.fx_chronicle.specs.Faces.{Witness}
use Rattle.credit_book.specs.Recorded.{Recorded}
use Rattle.credit_book.proofs.Entering.{answered, served, signed_alone, entries_after, legal_after}
use Rattle.credit_book.proofs.book.CreditBook.serve.Goals as goal

pub enter-requires-clause-legal : goal.enter-requires-clause-legal
enter-requires-clause-legal g c =
    legal_after _ c.args.self.now c.reserve.new.self _ (entries_after _ _ _ c.reserve.ensures.value c.self.view_is c.sender-sender.ensures.same)
    (answered _ _ _ _ _ _ _ _ (c.self.view_is ∙ c.sender-sender.ensures.same) c.self.invariant c.sender-sender.ensures.next c.sender-sender.ensures.bank c.sender-sender.ensures.number c.requires.command c.answer-outcome.ensures.answers c.in_ok-copy.ensures.equal)

pub returns-clause-served : goal.returns-clause-served
returns-clause-served g c =
    let legal = answered _ _ _ _ _ _ _ _ (c.self.view_is ∙ c.sender-sender.ensures.same) c.self.invariant c.sender-sender.ensures.next c.sender-sender.ensures.bank c.sender-sender.ensures.number c.requires.command c.answer-outcome.ensures.answers c.in_ok-copy.ensures.equal in
    served _ _ _ _ _ _ _ _ _ _ _ (entries_after _ _ _ c.reserve.ensures.value c.self.view_is c.sender-sender.ensures.same) c.sender-sender.ensures.pass
    (subst (λ (b : Recorded). IsLegal _ b.history.entries) (c.self.view_is ∙ c.sender-sender.ensures.same) c.self.invariant.legal) legal c.sender-sender.ensures.next c.sender-sender.ensures.bank c.in_ok-copy.ensures.equal
    c.enter.ensures.seen c.enter.ensures.own (ap (λ (b : Recorded). b.history.entries) c.enter.ensures.value) c.enter.ensures.pass

pub returns-clause-signed : goal.returns-clause-signed
returns-clause-signed g c =
    signed_alone c.reserve.new.self _ _ _ c.enter.ensures.value (c.sender-sender.ensures.bank ∙ sym (ap (λ (w : Witness Entry). w.key) c.sender-sender.ensures.pass)) c.requires.no_pair
