-- A lane that has run goes on with the rest of its stream.
use Rattle.std.proofs.Common.{ℕ, zero, suc, ◌≡◌, ◌+◌, ◌<◌, ◌≤◌, List, [], ◌∷◌, length, drop, get_or, set, refl, ap, sym, subst, ◌∙◌, arith, inl, inr, length-append}
use Rattle.std.specs.Prelude.{None}
use Rattle.std.proofs.lemmas.Bool.{cases_lt}
use Rattle.std.proofs.lemmas.List.Elements.{All-get_or}
use Rattle.std.proofs.lemmas.List.{length-map, length-drop, length-take-le, length-set, take_rest, get_or-set_same, get_or-set_other}
use Rattle.fx_rules.specs.declared.command.Command.{Command}
use Rattle.fx_rules.specs.declared.outcome.Entry.{Entry}
use Rattle.fx_rules.specs.Lists.{Each}
use Rattle.fx_rules.specs.Session.{Header}
use Rattle.fx_rules.specs.Step.{IsCommand}
use Rattle.fx_rules.specs.History.{own}
use Rattle.fx_chronicle.specs.Faces.{Witness}
use Rattle.gateway_workers.specs.declared.lane.Lane.{Lane}
use Rattle.gateway_workers.specs.Lanes.{IsReadyLane}
use Rattle.gateway_workers.specs.inside.Serving.{IsUnderWay}
use Rattle.host_trials.proofs.refused.go_on.Goals as goal

abbrev key_of : Witness Entry → ℕ
key_of pass = pass.key

abbrev seen_by : Witness Entry → List Entry
seen_by pass = pass.seen

abbrev mine_of : Witness Entry → List Entry
mine_of pass = own pass.key pass.met

each-drop : {X : Type 0} (P : X → Type 0) (n : ℕ) (xs : List X) → Each P xs → Each P (drop n xs)
each-drop P zero xs each = each
each-drop P (suc n) [] each = tt
each-drop P (suc n) (x ∷ xs) each = each-drop P n xs each.1

-- a lane with the rest of its stream
abbrev rest_of : Lane (Witness Entry) → Lane (Witness Entry)
rest_of lane = record lane { sent = lane.sent + lane.done; stream = drop lane.done lane.stream; done = 0; stopped = None }

ready_again : (h : Header) (lane : Lane (Witness Entry)) → IsUnderWay h key_of seen_by mine_of lane → IsReadyLane h key_of mine_of (rest_of lane)
ready_again h lane way =
    let begun = way.begun in
    let ran = way.so_far in
    let stream_is : lane.stream ≡ begun.stream = ap (λ (l : Lane (Witness Entry)). l.stream) ran.same_lane in
    let sent_is : lane.sent ≡ begun.sent = ap (λ (l : Lane (Witness Entry)). l.sent) ran.same_lane in
    let bank_is : lane.bank ≡ begun.bank = ap (λ (l : Lane (Witness Entry)). l.bank) ran.same_lane in
    let long : length lane.stream ≡ length begun.stream = ap (λ (cs : List Command). length cs) stream_is in
    let as_many : length ran.entries ≡ lane.done =
    sym (length-map ran.entries (λ (e : Entry). e.command)) ∙ ap (λ (cs : List Command). length cs) ran.in_order ∙ length-take-le lane.done begun.stream ran.within in
    let grown : length (mine_of lane.pass) ≡ length (mine_of begun.pass) + length ran.entries = ap (λ (es : List Entry). length es) ran.mine_grew ∙ length-append (mine_of begun.pass) ran.entries in
    record {
      bank_of_pass = bank_is ∙ way.ready.bank_of_pass ∙ sym ran.same_bank;
      sent_by_pass = omega (arith, sent_is, as_many, grown, way.ready.sent_by_pass);
      none_done = refl;
      not_stopped = refl;
      may_send = each-drop (IsCommand h lane.bank) lane.done lane.stream
          (subst (λ (b : ℕ). Each (IsCommand h b) lane.stream) (sym bank_is) (subst (Each (IsCommand h begun.bank)) (sym stream_is) way.ready.may_send));
      numbers = omega (arith, sent_is, long, ran.within, way.ready.numbers, length-drop lane.done lane.stream);
    }

-- the lanes up to the one that was made ready, and those behind it
ready_more : {X : Type 0} (P : X → Type 0) (xs : List X) (at : ℕ) (now : X) → at < length xs → ((i : ℕ) (d : X) → i < at → P (get_or xs i d)) → P now → (i : ℕ) (d : X) → i < at + 1 → P (get_or (set xs at now) i d)
ready_more P xs at now within so_far ready i d below = elim (cases_lt i at) [
  | inl before ↦ subst P (sym (get_or-set_other xs at i now d (omega arith))) (so_far i d before)
  | inr behind ↦
      let here : i ≡ at = omega arith in
      subst (λ (k : ℕ). P (get_or (set xs at now) k d)) (sym here) (subst P (sym (get_or-set_same xs at now d within)) ready)
]

left_more : {X : Type 0} (xs was : List X) (at : ℕ) (now : X) → ((i : ℕ) (d : X) → at ≤ i → get_or xs i d ≡ get_or was i d) → (i : ℕ) (d : X) → at + 1 ≤ i → get_or (set xs at now) i d ≡ get_or was i d
left_more xs was at now to_come i d above = get_or-set_other xs at i now d (omega arith) ∙ to_come i d (omega arith)

pub loop-lane-preserved : goal.loop-lane-preserved
loop-lane-preserved g c =
    let h = g.N.Naming.session in
    let lanes = c.loop-lane.lanes in
    let at = c.loop-lane.lane-index in
    let lane = get_or c.loop-lane.lanes c.loop-lane.lane-index c.lane-item.result in
    let before = c.loop-lane.invariant in
    let within : at < length lanes = omega (arith, before.long, c.loop-lane-test.true) in
    let way : IsUnderWay h key_of seen_by mine_of lane =
    subst (IsUnderWay h key_of seen_by mine_of) (sym (before.to_come at c.lane-item.result (omega arith)))
    (All-get_or (IsUnderWay h key_of seen_by mine_of) c.args.lanes.now at c.lane-item.result c.loop-lane-test.true c.requires.ran) in
    let rest : c.from_vec.result ≡ drop lane.done lane.stream =
    c.from_vec.ensures.items ∙ c.in_ok-rest.ensures.items_if_clones_equal (λ x y same. same) ∙ take_rest c.as_slice.result.now lane.done ∙ ap (drop lane.done) c.as_slice.ensures.items in
    let ready : IsReadyLane h key_of mine_of c.next_round.new.self =
    subst (IsReadyLane h key_of mine_of) (sym (c.next_round.ensures.next ∙ ap (λ (stream : List Command). record lane { sent = lane.sent + lane.done; stream = stream; done = 0; stopped = None }) rest))
    (ready_again h lane way) in
    record {
      long = length-set lanes at c.next_round.new.self ∙ before.long;
      so_far = ready_more (IsReadyLane h key_of mine_of) lanes at c.next_round.new.self within before.so_far ready;
      to_come = left_more lanes c.args.lanes.now at c.next_round.new.self before.to_come;
    }
