use Rattle.std.proofs.Common.{ℕ, ◌≡◌, ◌+◌, Option, IfSome, ap, sym, subst}
use Rattle.price_levels.specs.Rungs.{Rungs, level_at}
use Rattle.price_levels.proofs.Adding.{lots_alike}
use Rattle.global_book.specs.Ladders.{book_level, level_in}
use Rattle.match_sweep.proofs.Seeing.{none_below}
use Rattle.match_sweep.proofs.reached.near.add_lots_of.Goals as goal

pub returns-in-Some-clause-sum : goal.returns-in-Some-clause-sum
returns-in-Some-clause-sum c =
    subst (λ (n : ℕ). IfSome c.add_lots.result (λ (sum : ℕ). sum ≡ n))
    (lots_alike (level_at c.in-Some.ladder.now) (book_level c.args.book.now c.args.side c.args.bank) c.args.from (c.args.last + 1) (λ rank. ap (λ (found : Option Rungs). level_in found rank) c.in-Some.ensures.ladder))
    c.add_lots.ensures.sum

pub returns-in-None-clause-sum : goal.returns-in-None-clause-sum
returns-in-None-clause-sum c = sym (none_below (book_level c.args.book.now c.args.side c.args.bank) c.args.from (c.args.last + 1) (λ rank. ap (λ (found : Option Rungs). (level_in found rank).lots) (sym c.in-None.ensures.ladder)))
