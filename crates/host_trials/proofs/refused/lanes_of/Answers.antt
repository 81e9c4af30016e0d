-- Two lanes that are ready.
use Rattle.std.proofs.Common.{◌≡◌, List, [], ◌∷◌, ◌++◌, ap, sym, subst, ◌∙◌, arith}
use Rattle.std.specs.Prelude.{All}
use Rattle.std.proofs.lemmas.List.Elements.{All-push}
use Rattle.fx_rules.specs.declared.outcome.Entry.{Entry}
use Rattle.fx_rules.specs.History.{own}
use Rattle.fx_chronicle.specs.Faces.{Witness}
use Rattle.gateway_workers.specs.declared.lane.Lane.{Lane}
use Rattle.gateway_workers.specs.Lanes.{IsReadyLane}
use Rattle.host_trials.proofs.refused.lanes_of.Goals as goal

both : {X : Type 0} (P : X → Type 0) (a b : X) (xs : List X) → xs ≡ a ∷ b ∷ [] → P a → P b → All P xs
both P a b xs is of_a of_b = subst (All P) (sym is) (All-push P (a ∷ []) b (All-push P [] a (λ k d within. absurd (omega (arith, within))) of_a) of_b)

pub returns-clause-ready : goal.returns-clause-ready
returns-clause-ready g c =
    let one : c.push.new.self.items ≡ c.in_ok-lane_of.field-0 ∷ [] =
    c.in_ok-push.ensures.items ∙ ap (λ (lanes : List (Lane (Witness Entry))). lanes ++ c.in_ok-lane_of.field-0 ∷ []) c.new-lanes.ensures.items in
    let lanes : c.push-2.new.self.items ≡ c.in_ok-lane_of.field-0 ∷ c.in_ok-lane_of-2.field-0 ∷ [] =
    c.in_ok-push-2.ensures.items ∙ ap (λ (lanes : List (Lane (Witness Entry))). lanes ++ c.in_ok-lane_of-2.field-0 ∷ []) one in
    both (IsReadyLane g.N.Naming.session (λ (p : Witness Entry). p.key) (λ (p : Witness Entry). own p.key p.met)) c.in_ok-lane_of.field-0 c.in_ok-lane_of-2.field-0 c.push-2.new.self.items lanes
    c.in_ok-lane_of.ensures.ready c.in_ok-lane_of-2.ensures.ready
