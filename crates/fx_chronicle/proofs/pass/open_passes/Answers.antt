use Rattle.std.proofs.Common.{rules, ◌≡◌, [], ◌++◌, append-nil, sym, ap, subst, ◌∙◌, arith}
use Rattle.std.proofs.lemmas.List.{nil_from_length}
use Rattle.fx_rules.specs.Session.{IsSession}
use Rattle.fx_chronicle.proofs.Sending.{of_senders, new-kept}
use Rattle.fx_chronicle.proofs.pass.open_passes.Goals as goal

-- at the end no front is left
pub returns-clause-passes : goal.returns-clause-passes
returns-clause-passes g c =
    let h = g.N.Naming.session in
    let none : c.loop-front.front-iterator.rest.items ≡ [] = nil_from_length _ (omega (arith, c.in-None.ensures.steps.0, c.loop-front.front-iterator.rest.ok)) in
    let all : c.into_iter-front-iterator.result.rest.items ≡ c.args.fronts.items = search rules in
    sym (append-nil c.loop-front.passes.items) ∙ ap (λ fronts. c.loop-front.passes.items ++ of_senders h fronts) (sym none) ∙ c.loop-front.invariant.passes
    ∙ ap (of_senders h) all ∙ new-kept h c.args.fronts.items (subst IsSession c.requires.session c.banks-banks.ensures.valid) c.requires.fronts
