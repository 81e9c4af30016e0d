use Rattle.session_head.proofs.DraftLemmas.{IsDraft-empty}
use Rattle.session_head.proofs.draft.Draft.new.Goals as goal

pub invariant_of-result : goal.invariant_of-result
invariant_of-result c = IsDraft-empty c.args.version _ _ _ _ c.requires.least c.requires.most c.new.ensures.items c.new-2.ensures.items c.in_ok-limits.ensures c.in_ok-totals.ensures
