use Rattle.std.proofs.Common.{◌++◌, ap, sym, ◌∙◌}
use Rattle.std.specs.List.{flat_map}
use Rattle.fx_rules.specs.Lists.{below}
use Rattle.day_report.specs.inside.Lists.{nets_at}
use Rattle.fx_rules.proofs.Below.{flat_map-more}
use Rattle.day_report.proofs.flows.Flows.nets.Goals as goal

pub loop-place-preserved : goal.loop-place-preserved
loop-place-preserved c =
    let nets = nets_at c.args.self.now in
    c.in_ok-push_nets.ensures.value ∙ ap (λ ns. ns ++ nets c.at.result) c.loop-place.invariant
    ∙ ap (λ b. flat_map nets (below c.loop-place.place) ++ nets b) c.at.ensures.value ∙ sym (flat_map-more nets c.loop-place.place)
