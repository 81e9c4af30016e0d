use Rattle.std.proofs.Common.{◌++◌, ap, sym, ◌∙◌}
use Rattle.std.specs.List.{flat_map}
use Rattle.fx_rules.specs.Lists.{below}
use Rattle.day_report.specs.inside.Lists.{uses_behind}
use Rattle.fx_rules.proofs.Below.{flat_map-more}
use Rattle.day_report.proofs.uses.uses.Goals as goal

pub loop-place-preserved : goal.loop-place-preserved
loop-place-preserved c =
    let behind = uses_behind c.args.lines.now in
    c.in_ok-push_uses.ensures.value ∙ ap (λ us. us ++ behind c.at.result) c.loop-place.invariant
    ∙ ap (λ b. flat_map behind (below c.loop-place.place) ++ behind b) c.at.ensures.value ∙ sym (flat_map-more behind c.loop-place.place)
