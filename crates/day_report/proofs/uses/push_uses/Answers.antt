use Rattle.std.proofs.Common.{◌+◌, ◌++◌, map, nat_lt, refl, ap, sym, ◌∙◌, arith}
use Rattle.std.proofs.lemmas.List.{append-nil}
use Rattle.std.specs.List.{filter}
use Rattle.fx_rules.specs.Lists.{below}
use Rattle.day_report.specs.inside.Lists.{use_in}
use Rattle.day_report.proofs.Listing.{uses-none, uses-step, use-made}
use Rattle.day_report.proofs.uses.push_uses.Goals as goal

pub loop-place-init : goal.loop-place-init
loop-place-init c =
    let old = c.args.uses.now.items in
    let credit = c.args.lines.now in
    sym (ap (λ r. old ++ map (use_in credit c.args.a) (filter (nat_lt c.args.a) (below (r + 1)))) c.index-place.ensures.value
    ∙ ap (λ us. old ++ us) (uses-none credit c.args.a) ∙ append-nil old)

pub loop-place-preserved : goal.loop-place-preserved
loop-place-preserved c =
    uses-step c.args.lines.now c.args.a c.loop-place.place _ _ _ _ (omega (arith, c.loop-place.auto.place, c.index-place.ensures.value)) c.loop-place.invariant c.in_ok-push.ensures.items
    (use-made c.args.lines.now c.args.a c.at-b.result _ _ _ _ _ _ refl refl c.limit.ensures.value c.limit-in-loop-place.ensures.value c.used.ensures.value c.eff.ensures.value
    ∙ ap (use_in c.args.lines.now c.args.a) c.at-b.ensures.value)
