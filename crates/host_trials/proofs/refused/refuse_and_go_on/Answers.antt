-- Lanes that were ready and have run are under way.
use Rattle.std.proofs.Common.{ℕ, ◌≡◌, ◌<◌, List, length, get_or, arith}
use Rattle.std.specs.Prelude.{All}
use Rattle.std.specs.List.{AllZip}
use Rattle.std.proofs.lemmas.List.Elements.{AllZip-get_or, length_all_zip}
use Rattle.fx_rules.specs.declared.outcome.Entry.{Entry}
use Rattle.fx_rules.specs.Session.{Header}
use Rattle.gateway_workers.specs.declared.lane.Lane.{Lane}
use Rattle.gateway_workers.specs.Lanes.{IsReadyLane, LaneRan}
use Rattle.gateway_workers.specs.inside.Serving.{IsUnderWay}
use Rattle.host_trials.proofs.refused.refuse_and_go_on.Goals as goal

under_way : {P : Type 0} (h : Header) (bank : P → ℕ) (seen mine : P → List Entry) (was now : List (Lane P)) → All (IsReadyLane h bank mine) was → AllZip (LaneRan h bank seen mine) was now → All (IsUnderWay h bank seen mine) now
under_way h bank seen mine was now ready ran = λ k d within.
    let long : length was ≡ length now = length_all_zip (LaneRan h bank seen mine) was now ran in
    let within' : k < length was = omega (arith, long, within) in
    record { begun = get_or was k d; ready = ready k d within'; so_far = AllZip-get_or (LaneRan h bank seen mine) was now k d d ran within' }

pub go_on-requires : goal.go_on-requires
go_on-requires g c = record { ran = under_way _ _ _ _ c.args.lanes.now c.run_round-first.new.lanes c.requires.ready c.run_round-first.ensures.ran }
