use Rattle.std.proofs.Common.{rules, ◌≡◌, List, length, ap, sym, subst, arith}
use Rattle.fx_rules.specs.declared.outcome.Entry.{Entry}
use Rattle.fx_chronicle.specs.Faces.{Witness}
use Rattle.gateway_workers.specs.declared.lane.Lane.{Lane}
use Rattle.gateway_workers.specs.SenderLanes.{HaveServed}
use Rattle.gateway_workers.specs.Gathering.{HaveGathered}
use Rattle.gateway_workers.proofs.Gathered.{gathered-back}
use Rattle.gateway_workers.proofs.Closing.{served_back, part_back, ok_then, err_then}
use Rattle.gateway_workers.proofs.run.ThreadedRun.serve_round.Goals as goal

pub returns : goal.returns
returns g c =
    let many : c.args.self.now.lanes.len ≡ length c.args.self.now.lanes.items = c.args.self.now.lanes.ok.0 in
    let lent : c.deref_mut.result.now ≡ c.args.self.now.lanes.items = search rules in
    let long : length c.args.self.now.lanes.items ≡ length c.serve_lanes.new.lanes = omega (arith, c.serve_lanes.auto.lanes, ap (λ (ls : List (Lane (Witness Entry))). length ls) lent) in
    record {
      gathered = λ so_far before.
          gathered-back so_far c.args.self.now.gathered c.args.self.now.lanes.len c.args.self.now.lanes.items c.serve_lanes.new.lanes many long
          (c.serve_lanes.ensures.gathered so_far c.args.self.now.gathered (subst (HaveGathered so_far c.args.self.now.gathered) (sym lent) before));
      served = ok_then c.serve_lanes.result
          (λ served so_far before. served_back g.N.Naming.session so_far c.args.sent.now c.args.self.now.lanes.len c.args.self.now.lanes.items c.serve_lanes.new.lanes many before (served so_far (subst (HaveServed g.N.Naming.session so_far) (sym lent) before)))
          c.serve_lanes.ensures.served;
      memory = err_then c.serve_lanes.result
          (λ part so_far before. part_back g.N.Naming.session so_far c.args.sent.now c.args.self.now.lanes.len c.args.self.now.lanes.items c.serve_lanes.new.lanes many before (part so_far (subst (HaveServed g.N.Naming.session so_far) (sym lent) before)))
          c.serve_lanes.ensures.memory;
    }
