use Rattle.std.proofs.Common.{rules, ◌≡◌, List, ◌++◌, length, take, drop, arith}
use Rattle.fx_rules.specs.declared.outcome.Entry.{Entry}
use Rattle.fx_chronicle.specs.Faces.{Witness}
use Rattle.gateway_workers.specs.declared.lane.Lane.{Lane}
use Rattle.gateway_workers.proofs.Replayed.{replayed-back}
use Rattle.gateway_workers.proofs.run.ThreadedRun.replay.Goals as goal

pub returns : goal.returns
returns g c =
    let n = c.args.self.now.lanes.len in
    let was : List (Lane (Witness Entry)) = c.args.self.now.lanes.items in
    let mid : List (Lane (Witness Entry)) = c.submit_again.new.lanes in
    let now : List (Lane (Witness Entry)) = c.gather_lanes.new.lanes in
    let many : n ≡ length was = c.args.self.now.lanes.ok.0 in
    let lent : c.deref_mut-2.result.now ≡ take n (mid ++ drop (length mid) was) = search rules in
    let sent = c.in_ok-submit_again.ensures.submitted in
    let it = c.in_ok-count.ensures.gathered in
    record {
      replayed = replayed-back g.N.Naming.session c.args.entries.now sent.0 it.0 c.in_ok-count.count n was mid c.deref_mut-2.result.now now c.requires.legal many
          (omega (arith, c.requires.served.all, sent.1.served.all)) sent.1 lent it.3 it.2;
    }
