use Rattle.net_settle.specs.inside.Dues.{behind_in}
use Rattle.net_settle.proofs.Listing.{flat-step}
use Rattle.net_settle.proofs.each_two.push_column.Goals as goal

pub loop-a-preserved : goal.loop-a-preserved
loop-a-preserved c = flat-step (behind_in c.args.dues.now c.args.column) c.loop-a.a _ _ _ c.loop-a.invariant c.in_ok-push_behind.ensures.value
