use Rattle.std.proofs.Common.{rules, ◌≡◌, ◌++◌, List, [], map, arith, sym, ap, ◌∙◌, append-nil}
use Rattle.std.proofs.lemmas.List.{nil_from_length}
use Rattle.fx_rules.specs.declared.outcome.Entry.{Entry}
use Rattle.fx_chronicle.specs.Faces.{Witness}
use Rattle.gateway_workers.specs.declared.lane.Lane.{Lane}
use Rattle.gateway_workers.proofs.Making.{lanes_open, none-gathered}
use Rattle.gateway_workers.proofs.lanes.lanes_of.Goals as goal

-- at the end no pass is left
pub returns : goal.returns
returns g c =
    let before = c.loop-pass.invariant in
    let none : c.loop-pass.pass-iterator.rest.items ≡ [] = nil_from_length _ (omega (arith, c.in-None.ensures.steps.0, c.loop-pass.pass-iterator.rest.ok)) in
    let all : c.into_iter-pass-iterator.result.rest.items ≡ c.args.passes.items = search rules in
    let passes : map (λ (lane : Lane (Witness Entry)). lane.pass) c.loop-pass.lanes.items ≡ c.args.passes.items =
    sym (append-nil _) ∙ ap (λ (ps : List (Witness Entry)). map (λ (lane : Lane (Witness Entry)). lane.pass) c.loop-pass.lanes.items ++ ps) (sym none) ∙ before.passes ∙ all in
    record {
      lanes = lanes_open g.N.Naming.session c.args.passes.items _ c.requires.session c.requires.passes passes before.fresh;
      gathered = none-gathered g.N.Naming.session c.args.passes.items _ c.requires.passes passes;
    }
