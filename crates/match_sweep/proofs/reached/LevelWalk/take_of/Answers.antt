-- The bank's lots at its price are taken, and the price behind it is the next one.
use Rattle.std.proofs.Common.{ℕ, Option, IfSome, option_map, unwrap_or, ◌≡◌, ◌-◌, ◌*◌, ◌/◌, ◌^◌, min, ap, sym, subst, ◌∙◌, arith, slice_index}
use Rattle.fx_amounts.specs.Price.{IsPrice}
use Rattle.fx_amounts.specs.Side.{opposite}
use Rattle.fx_amounts.specs.declared.side.Side.{Side}
use Rattle.global_book.specs.Room.{rank_of as rank_at}
use Rattle.match_sweep.specs.declared.reached.LevelWalk.{LevelWalk}
use Rattle.match_sweep.specs.inside.Reaches.{IsRank, Puts, price_for}
use Rattle.match_sweep.proofs.Ranking.{found-rank, told-at}
use Rattle.match_sweep.proofs.Reaching.{takes_some}
use Rattle.match_sweep.proofs.reached.LevelWalk.take_of.Goals as goal

-- the rank of the next price
next_rank : (taker side : Side) (next : Option ℕ) (rank : ℕ) → side ≡ opposite taker → IfSome next (λ (r : ℕ). IsPrice (rank_at side r)) → rank ≡ unwrap_or next (2 ^ 30 - 1) → IsRank taker (option_map (rank_at (opposite taker)) next) rank
next_rank taker side next rank side_is valid is =
    subst (IsRank taker (option_map (rank_at (opposite taker)) next)) (sym is) (found-rank taker next (subst (λ (s : Side). IfSome next (λ (r : ℕ). IsPrice (rank_at s r))) side_is valid))

pub level_and_next-lots-requires : goal.level_and_next-lots-requires
level_and_next-lots-requires g c = record { price = subst (λ (s : Side). IsPrice (rank_at s c.args.rank)) (sym c.opposite.ensures) c.requires.price }

pub returns-clause-taken : goal.returns-clause-taken
returns-clause-taken g c =
    let walk : LevelWalk = c.args.self.now in
    let at : ℕ = c.index-at.result in
    let bank : ℕ = c.args.bank in
    let price : ℕ = price_for walk.taker c.args.rank in
    let side : Side = c.opposite.result in
    let next : Option ℕ = c.level_and_next-lots.result.1 in
    let at_is : at ≡ bank = c.index-at.ensures.value in
    let line : ℕ = slice_index walk.lines at in
    let same_line : line ≡ slice_index walk.lines bank = ap (slice_index walk.lines) at_is in
    let told = told-at c.args.book.now walk.taker side bank c.args.rank c.level_and_next-lots.result.0 next c.opposite.ensures c.level_and_next-lots.ensures.lots c.level_and_next-lots.ensures.next in
    takes_some c.args.book.now walk c.put.new.self bank price c.level_and_next-lots.result.0 c.lots_by_line-taken.result c.unwrap_or.result (option_map (rank_at (opposite walk.taker)) next) c.requires.weight
    (omega (arith, at_is, c.index-at.ensures.most)) (omega (arith, at_is, c.index-at.ensures.most)) c.requires.asked told.0
    (c.lots_by_line-taken.ensures.value ∙ ap (λ w. min c.level_and_next-lots.result.0 (line / w)) c.from-weight.ensures ∙ ap (λ l. min c.level_and_next-lots.result.0 (l / walk.weight)) same_line)
    told.1
    (next_rank walk.taker side next c.unwrap_or.result c.opposite.ensures c.level_and_next-lots.ensures.valid_next c.unwrap_or.ensures)
    (subst (λ (b : ℕ). Puts walk c.put.new.self b (slice_index walk.lines b - c.lots_by_line-taken.result * walk.weight) c.unwrap_or.result) at_is
    (subst (λ (w : ℕ). Puts walk c.put.new.self at (line - c.lots_by_line-taken.result * w) c.unwrap_or.result) c.from-weight.ensures c.put.ensures.puts))
