use Rattle.std.proofs.Common.{rules, ◌≡◌, List, length, subst}
use Rattle.fx_rules.specs.declared.outcome.Entry.{Entry}
use Rattle.fx_chronicle.specs.Faces.{Witness}
use Rattle.gateway_workers.specs.declared.lane.Lane.{Lane}
use Rattle.gateway_workers.specs.inside.Gathering.{AreEach, AreGathered, IsStill}
use Rattle.gateway_workers.proofs.Closing.{err_always}
use Rattle.gateway_workers.proofs.Gathered.{all-back, still-back}
use Rattle.gateway_workers.proofs.run.ThreadedRun.gather.Goals as goal

pub returns-in_err-entries-clause-memory : goal.returns-in_err-entries-clause-memory
returns-in_err-entries-clause-memory g c =
    let was : List (Lane (Witness Entry)) = c.args.self.now.lanes.items in
    let now : List (Lane (Witness Entry)) = c.gather_lanes.new.lanes in
    let many : c.args.self.now.lanes.len ≡ length was = c.args.self.now.lanes.ok.0 in
    let lent : c.deref_mut.result.now ≡ was = search rules in
    err_always c.from_residual.result (λ sent served. still-back g.N.Naming.session sent c.args.self.now.lanes.len was now many (subst (λ (ls : List (Lane (Witness Entry))). AreEach IsStill ls now) lent c.in_err-entries.ensures.memory) served)

pub returns-clause-gathered : goal.returns-clause-gathered
returns-clause-gathered g c = λ sent so_far served before.
    let h = g.N.Naming.session in
    let was : List (Lane (Witness Entry)) = c.args.self.now.lanes.items in
    let now : List (Lane (Witness Entry)) = c.gather_lanes.new.lanes in
    let many : c.args.self.now.lanes.len ≡ length was = c.args.self.now.lanes.ok.0 in
    let lent : c.deref_mut.result.now ≡ was = search rules in
    let it = c.in_ok-entries.ensures.gathered in
    all-back h sent so_far c.in_ok-entries.entries it.0 c.args.self.now.gathered c.in_ok-entries.count c.args.self.now.lanes.len was now many it.1 it.2 (subst (λ (ls : List (Lane (Witness Entry))). AreGathered h it.0 ls now) lent it.3) served before
