use Rattle.std.proofs.Common.{ℕ, ◌≡◌, ◌+◌, ap, subst, sym, IfSome}
use Rattle.price_levels.specs.Rungs.{Rungs}
use Rattle.price_levels.specs.Rungs.{level_at}
use Rattle.price_levels.specs.Ticks.{level_of}
use Rattle.price_levels.proofs.Adding.{lots_alike, window_alone}
use Rattle.price_levels.proofs.ladder.Ladder.add_lots.Goals as goal

pub returns-clause-sum : goal.returns-clause-sum
returns-clause-sum c =
    subst (λ (n : ℕ). IfSome c.add_lots.result (λ (sum : ℕ). sum ≡ n))
    (lots_alike (level_of c.self.inside.near) (level_at c.args.self.now) c.args.from (c.args.last + 1)
    (window_alone c.args.self.now c.self.inside.near (sym (ap (λ (r : Rungs). r.near) c.self.view_is)) c.requires.near)) c.add_lots.ensures.sum
