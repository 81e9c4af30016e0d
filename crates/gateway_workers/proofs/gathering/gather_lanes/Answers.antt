use Rattle.std.proofs.Common.{rules, ◌≡◌, ◌∙◌, ◌∷◌, List, drop, refl, ap, sym, subst}
use mathlib.Core.List.{IsPrefix}
use Rattle.fx_rules.specs.declared.outcome.Entry.{Entry}
use Rattle.fx_rules.specs.History.{IsLegal, own}
use Rattle.fx_chronicle.specs.Faces.{Witness}
use Rattle.gateway_workers.specs.declared.lane.Lane.{Lane}
use Rattle.gateway_workers.specs.inside.Gathering.{AreEach, AreGathered, IsTold}
use Rattle.gateway_workers.proofs.Gathered.{are-gathered}
use Rattle.gateway_workers.proofs.gathering.gather_lanes.Goals as goal

pub returns-clause-gathered : goal.returns-clause-gathered
returns-clause-gathered g c =
    let h = g.N.Naming.session in
    let was : Lane (Witness Entry) = c.unwrap.result.0.now in
    let others : List (Lane (Witness Entry)) = c.unwrap.result.1.now in
    let heard : Witness Entry = c.hear_all.new.pass in
    let last : Witness Entry = c.tell_all.new.pass in
    let same : last ≡ c.entries_from.new.pass = c.tell_all.ensures.same in
    let now : Lane (Witness Entry) = record was { pass = last } in
    let split : c.args.lanes.now ≡ was ∷ others = search rules in
    let told : AreEach (IsTold last.seen) others c.tell_all.new.lanes =
    subst (λ (p : Witness Entry). AreEach (IsTold p.seen) others c.tell_all.new.lanes) (sym same)
    (subst (λ (ls : List (Lane (Witness Entry))). AreEach (IsTold c.entries_from.new.pass.seen) ls c.tell_all.new.lanes) c.hear_all.ensures.same c.tell_all.ensures.told) in (
      last.seen,
      c.in_ok-entries.ensures.entries ∙ ap (λ (p : Witness Entry). drop c.args.start p.seen) (sym same),
      c.seen.ensures.count,
      subst (λ (ls : List (Lane (Witness Entry))). AreGathered h last.seen ls (now ∷ c.tell_all.new.lanes)) (sym split)
          (are-gathered h was now heard others c.tell_all.new.lanes
          (subst (λ (p : Witness Entry). IsLegal h p.seen) (sym same) c.in_ok-entries.ensures.legal)
          c.hear_all.ensures.pass c.hear_all.ensures.begins refl
          (ap (λ (p : Witness Entry). p.key) same ∙ c.entries_from.ensures.bank)
          (ap (λ (p : Witness Entry). own p.key p.met) same ∙ c.entries_from.ensures.mine)
          (ap (λ (p : Witness Entry). own p.key p.seen) same ∙ c.in_ok-entries.ensures.own)
          (subst (λ (p : Witness Entry). IsPrefix heard.seen p.seen) (sym same) c.in_ok-entries.ensures.begins)
          c.hear_all.ensures.told told),
    )
