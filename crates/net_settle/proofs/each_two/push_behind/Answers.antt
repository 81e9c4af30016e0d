use Rattle.std.proofs.Common.{◌+◌, ◌++◌, ap, sym, ◌∙◌, arith}
use Rattle.std.proofs.lemmas.List.{append-nil}
use Rattle.std.specs.List.{flat_map}
use Rattle.day_report.proofs.Listing.{behind-none}
use Rattle.net_settle.specs.inside.Dues.{two_in}
use Rattle.net_settle.proofs.Listing.{behind-step}
use Rattle.net_settle.proofs.each_two.push_behind.Goals as goal

pub loop-b-init : goal.loop-b-init
loop-b-init c =
    let old = c.args.payments.now.items in
    sym (ap (λ bs. old ++ flat_map (two_in c.args.dues.now c.args.column c.args.a) bs) (behind-none c.args.a (c.args.a + 1) (omega arith)) ∙ append-nil old)

pub loop-b-preserved : goal.loop-b-preserved
loop-b-preserved c =
    behind-step (two_in c.args.dues.now c.args.column c.args.a) c.args.a c.loop-b.b _ _ _ (omega (arith, c.loop-b.auto.b)) c.loop-b.invariant c.in_ok-push_two.ensures.value
