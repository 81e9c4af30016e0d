use Rattle.std.proofs.Common.{◌≡◌, map}
use Rattle.fx_rules.specs.Lists.{below}
use Rattle.made_session.specs.Session.{made_limit, before_limit}
use Rattle.made_session.proofs.banks.draw_limits.Given as goal

-- the limits at the places so far
abbrev pub invariant-loop-place : goal.invariant-loop-place
invariant-loop-place l =
    (l.limits.items ≡ map (made_limit l.banks l.initial.draws) (below l.place)) × (l.draws ≡ before_limit l.banks l.initial.draws l.place)
