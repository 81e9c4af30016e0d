use Rattle.std.proofs.Common.{◌≡◌, false, rules}
use Rattle.price_levels.proofs.Apart.{apart_before}
use Rattle.price_levels.specs.Rungs.{covers}
use Rattle.price_levels.proofs.ladder.draw_near.Goals as goal

pub returns-then-not-covers-clause-apart : goal.returns-then-not-covers-clause-apart
returns-then-not-covers-clause-apart c =
    let out : covers c.loop-rank.near c.in-Some.rank ≡ false = search rules in
    apart_before c.loop-rank.near c.loop-rank.far c.loop-rank.from c.in-Some.rank c.in-Some.level c.loop-rank.invariant.2 c.loop-rank.invariant.4 c.in-Some.ensures.found out
