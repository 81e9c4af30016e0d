use Rattle.std.proofs.Common.{◌+◌, ap, sym, subst, ◌∙◌, arith}
use Rattle.fx_rules.specs.declared.outcome.Entry.{Entry}
use Rattle.fx_chronicle.specs.Faces.{Chronicle, Witness}
use Rattle.fx_rules.specs.Step.{IsCommand}
use Rattle.fx_rules.specs.History.{IsLegal, own}
use Rattle.flat_host.proofs.GoingOn.{legal-command}
use Rattle.flat_host.proofs.Serving.{count_is, goes_on, committed, sender_pends, floor_after, entries_after, entry_is}
use Rattle.flat_host.proofs.floor.Floor.serve.Goals as goal

pub unreachable-requires : goal.unreachable-requires
unreachable-requires g c =
    omega (
      arith,
      c.requires.few,
      c.if-count.true,
      count_is _ _ _ _ _ _ _ c.self.invariant c.bank-bank.ensures.value c.count-count.ensures.value c.catch_up.ensures.own,
    )

pub answer-requires-clause-command : goal.answer-requires-clause-command
answer-requires-clause-command g c =
    legal-command g.N.Naming.session _ _ _ _ c.self.invariant.legal c.self.invariant.stands
    (subst (λ bank. IsCommand g.N.Naming.session bank c.args.command.now) (sym c.bank-bank.ensures.value) c.requires.command)

pub follow-requires : goal.follow-requires
follow-requires g c = record {
  next = (
    _,
    c.self.inside.writer.entries,
    goes_on _ _ _ _ _ _ _ _ _ c.self.invariant c.bank-bank.ensures.value c.requires.command c.count-count.ensures.value c.count-count.type_inv c.if-count.false c.in_ok-outcome.ensures.answers c.in_ok-copy.ensures.equal,
    c.self.invariant.stands,
  );
}

pub sign-requires-clause-pends : goal.sign-requires-clause-pends
sign-requires-clause-pends g c =
    sender_pends _ _ _ _ _ _ c.self.invariant (committed _ c.self.inside.writer _ _ _ _ c.reserve.ensures.value c.catch_up-2.ensures.same c.commit.ensures.value)
    (ap (λ (w : Witness Entry). w.key) c.catch_up-2.ensures.pass ∙ sym c.bank-bank.ensures.value) c.bank-bank.ensures.sender

pub sign-requires-clause-legal : goal.sign-requires-clause-legal
sign-requires-clause-legal g c =
    let grown = committed _ c.self.inside.writer _ _ _ _ c.reserve.ensures.value c.catch_up-2.ensures.same c.commit.ensures.value in
    subst (IsLegal _) (sym grown.entries)
    (goes_on _ _ _ _ _ _ _ _ _ c.self.invariant c.bank-bank.ensures.value c.requires.command c.count-count.ensures.value c.count-count.type_inv c.if-count.false c.in_ok-outcome.ensures.answers c.in_ok-copy.ensures.equal)

pub invariant_of-self-2 : goal.invariant_of-self-2
invariant_of-self-2 g c =
    let legal = goes_on _ _ _ _ _ _ _ _ _ c.self.invariant c.bank-bank.ensures.value c.requires.command c.count-count.ensures.value c.count-count.type_inv c.if-count.false c.in_ok-outcome.ensures.answers c.in_ok-copy.ensures.equal in
    floor_after _ _ _ _ _ _ _ _ c.self.invariant (committed _ c.self.inside.writer _ _ _ _ c.reserve.ensures.value c.catch_up-2.ensures.same c.commit.ensures.value)
    (ap (λ (w : Witness Entry). w.key) c.catch_up-2.ensures.pass ∙ sym c.bank-bank.ensures.value)
    c.sign.ensures.writer legal (c.in_ok-follow.ensures.follows _ _ legal c.self.invariant.stands)

pub returns-clause-entries : goal.returns-clause-entries
returns-clause-entries g c =
    let grown = committed _ c.self.inside.writer _ _ _ _ c.reserve.ensures.value c.catch_up-2.ensures.same c.commit.ensures.value in
    entries_after _ _ _ _ _ _ c.sign.ensures.writer grown c.self.view_is
    (entry_is _ _ _ _ _ _ _ c.bank-bank.ensures.value
    (ap (λ n. n + 1) (count_is _ _ _ _ _ _ _ c.self.invariant c.bank-bank.ensures.value c.count-count.ensures.value
    (ap (own _) (sym (ap (λ (w : Chronicle Entry). w.entries) c.reserve.ensures.value)) ∙ c.catch_up-2.ensures.own))) c.in_ok-copy.ensures.equal)

pub returns-clause-legal : goal.returns-clause-legal
returns-clause-legal g c =
    let grown = committed _ c.self.inside.writer _ _ _ _ c.reserve.ensures.value c.catch_up-2.ensures.same c.commit.ensures.value in
    subst (IsLegal _) (sym (ap (λ (w : Chronicle Entry). w.entries) c.sign.ensures.writer ∙ grown.entries))
    (goes_on _ _ _ _ _ _ _ _ _ c.self.invariant c.bank-bank.ensures.value c.requires.command c.count-count.ensures.value c.count-count.type_inv c.if-count.false c.in_ok-outcome.ensures.answers c.in_ok-copy.ensures.equal)
