use Rattle.std.proofs.Common.{◌≡◌, ◌/◌, ◌%◌, map, slice_index}
use Rattle.fx_rules.specs.Lists.{below}
use Rattle.session_head.specs.Draft.{limit_place}
use Rattle.session_head.proofs.draft.square.Given as goal

-- the rows up to here
abbrev pub invariant-loop-at : goal.invariant-loop-at
invariant-loop-at l = l.rows.items ≡ map (λ at. slice_index l.limits (limit_place (at / l.banks) (at % l.banks))) (below l.at)
