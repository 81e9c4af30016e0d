-- The passes of a new host of two banks.
use Rattle.std.proofs.Common.{rules, ◌≡◌, map, ap, sym, subst, ◌∙◌}
use Rattle.std.specs.Prelude.{All}
use Rattle.fx_rules.specs.declared.outcome.Entry.{Entry}
use Rattle.fx_rules.specs.Lists.{below}
use Rattle.fx_rules.specs.Session.{Header, bank_count}
use Rattle.fx_rules.specs.History.{own}
use Rattle.fx_rules.proofs.Plain.{first-senders}
use Rattle.fx_chronicle.specs.Faces.{Witness}
use Rattle.fx_chronicle.proofs.Sending.{new_pass}
use Rattle.gateway_workers.specs.Lanes.{IsReadyLane}
use Rattle.host_trials.proofs.refused.refused_history.Goals as goal

pub lanes_of-requires-clause-passes : goal.lanes_of-requires-clause-passes
lanes_of-requires-clause-passes g c =
    let h = g.N.Naming.session in
    let first : h.version ≡ 1 = subst (λ (k : Header). k.version ≡ 1) c.requires.session c.requires.version in
    let two : bank_count h ≡ 2 = subst (λ (k : Header). bank_count k ≡ 2) c.requires.session c.requires.banks in
    c.in_ok-host.ensures.passes ∙ ap (map new_pass) (first-senders h first ∙ ap below two)

pub refuse_and_go_on-requires-clause-ready : goal.refuse_and_go_on-requires-clause-ready
refuse_and_go_on-requires-clause-ready g c κs within =
    let lent : c.deref_mut.result.now ≡ c.in_ok-lanes.lanes.items = search rules in
    subst (All (IsReadyLane g.N.Naming.session (λ (p : Witness Entry). p.key) (λ (p : Witness Entry). own p.key p.met))) (sym lent) c.in_ok-lanes.ensures.ready
