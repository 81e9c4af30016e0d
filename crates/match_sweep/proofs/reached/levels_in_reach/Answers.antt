-- The levels so far are the first ones of every such order's sweep; at the end of the walk, once there are ten, or once the total pays for
-- no more lots, they are all.
use Rattle.std.proofs.Common.{ℕ, List, ◌<◌, ◌≡◌, ◌≤◌, ◌+◌, ◌-◌, ◌*◌, [], ◌∷◌, ◌++◌, length, ◌↔◌, IfSome, IsSome, is_some, Option, Some, None, inl, inr, ap, ◌∙◌, refl, sym, subst, arith, take, length-append}
use Rattle.std.proofs.Math.Nat.{add-mul}
use Rattle.fx_amounts.specs.Price.{IsPrice}
use Rattle.fx_amounts.specs.Quantity.{IsWeight}
use Rattle.fx_amounts.specs.Side.{opposite}
use Rattle.fx_amounts.specs.declared.side.Side.{Side}
use Rattle.match_sweep.specs.declared.reached.LevelWalk.{LevelWalk}
use Rattle.global_book.specs.Book.{Book}
use Rattle.global_book.specs.Room.{rank_of as rank_at}
use Rattle.credit_lines.specs.Credit.{Credit, room_in}
use Rattle.match_sweep.specs.Reaches.{IsReached}
use Rattle.match_sweep.specs.inside.Near.{AreShown}
use Rattle.match_sweep.specs.inside.Reaches.{AreTakenOf, BeginsAt, IsBestAmong, IsLowest, IsMost, price_for}
use Rattle.fx_rules.specs.declared.orders.Level.{Level}
use Rattle.match_sweep.proofs.Cutting.{cut-begins, cut-on}
use Rattle.match_sweep.proofs.Reaching.{best_of_all, reached-on, taken_level}
use Rattle.match_sweep.proofs.Ranking.{told-price}
use Rattle.match_sweep.proofs.LevelSteps.{reached-full, reached-whole, way_begins, way_on}
use Rattle.match_sweep.proofs.reached.levels_in_reach.Goals as goal
use Rattle.match_sweep.proofs.reached.levels_in_reach.Goals.{else-loop-banks-test, then-loop-banks-test+else-most-gt0, then-loop-banks-test+then-most-gt0+in_default}

-- a level more, and a look at each bank more
one_more : (first old new levels levels' banks : ℕ) → old ≤ first + (levels + 1) * banks → new ≤ old + banks → levels' ≡ levels + 1 → new ≤ first + (levels' + 1) * banks
one_more first old new levels levels' banks was more is =
    subst (λ (n : ℕ). new ≤ first + (n + 1) * banks) (sym is) (omega (arith, was, more, add-mul (levels + 1) 1 banks))

-- the side of the orders that would be taken
side_same : (walk first : LevelWalk) (side other : Side) → other ≡ opposite side → walk.taker ≡ first.taker → first.taker ≡ side → other ≡ opposite walk.taker
side_same walk first side other is kept began = is ∙ ap opposite (sym (kept ∙ began))

-- a rank of which a price is made has that price
priced : (side : Side) (rank : ℕ) (made : Option ℕ) (price : ℕ) → (IsSome made) ↔ (IsPrice (rank_at side rank)) → made ≡ Some price → IsPrice (rank_at side rank)
priced side rank made price valid is = valid.0 (ap is_some is)

-- the lowest rank is that of the best price of these banks
best_is : (walk : LevelWalk) (banks : List ℕ) (side : Side) (rank : ℕ) (made : Option ℕ) → side ≡ opposite walk.taker → (IsSome made) ↔ (IsPrice (rank_at side rank)) → IfSome made (λ (p : ℕ). p ≡ rank_at side rank) → IsLowest walk banks rank → IsBestAmong walk banks made
best_is walk banks side rank made side_is valid value low = subst (IsBestAmong walk banks) (sym (told-price walk.taker side low.price made rank side_is valid value low.rank)) low.best

-- what is shown of a walk is reached by the lines that it was opened by
shown_reached : (book : Book) (credit : Credit) (weight bank most : ℕ) (side : Side) (walk : LevelWalk) (levels : List Level) → BeginsAt book credit weight bank side walk → book.banks ≡ credit.banks → bank < credit.banks
    → IsMost (room_in credit bank) weight most → AreShown book walk most levels → IsReached book credit weight bank side levels
shown_reached book credit weight bank most side walk levels begins banks within most_is shown =
    let weighs : walk.weight ≡ weight = ap (λ (w : LevelWalk). w.weight) begins.is in
    let takes : walk.taker ≡ side = ap (λ (w : LevelWalk). w.taker) begins.is in
    subst (λ (s : Side). IsReached book credit weight bank s levels) takes
    (subst (λ (w : ℕ). IsReached book credit w bank walk.taker levels) weighs
    (shown credit bank
    (subst (λ (s : Side). BeginsAt book credit walk.weight bank s walk) (sym takes) (subst (λ (w : ℕ). BeginsAt book credit w bank side walk) (sym weighs) begins))
    banks within (subst (λ (w : ℕ). IsMost (room_in credit bank) w most) (sym weighs) most_is)))

pub returns-then-show_near-clause-levels : goal.returns-then-show_near-clause-levels
returns-then-show_near-clause-levels g c =
    shown_reached c.args.book.now c.args.lines.now c.args.weight c.args.bank c.lots_by_total-most.result c.args.side c.open_banks-count.new.self c.from_vec.result c.open_banks-count.ensures.begins c.requires.banks c.requires.bank c.lots_by_total-most.ensures.most
    (subst (AreShown c.args.book.now c.open_banks-count.new.self c.lots_by_total-most.result) (sym c.from_vec.ensures.items) (c.show_near.ensures.shown c.if-show_near.true))

pub returns-then-show_near-clause-steps : goal.returns-then-show_near-clause-steps
returns-then-show_near-clause-steps g c =
    omega (arith, c.open_banks-count.ensures.step, c.show_near.ensures.steps, c.open_banks-count.ensures.fewer, add-mul (length c.from_vec.result) 1 c.args.book.now.banks)

pub loop-banks-init : goal.loop-banks-init
loop-banks-init g c =
    let none = c.show_near.ensures.bare c.if-show_near.false in
    record {
      whole = [];
      cut = cut-begins c.lots_by_total-most.result c.show_near.new.levels.items none;
      way = λ begins.
          way_begins c.args.book.now begins.valid c.open_banks-count.new.self c.args.bank []
          (subst IsWeight (sym (ap (λ (w : LevelWalk). w.weight) begins.is)) c.requires.weight)
          begins.long begins.heads begins.own refl;
      ranked = c.open_banks-count.ensures.ranked;
      reached = λ begins. c.open_banks-count.ensures.reached;
      lowest = c.open_banks-count.ensures.lowest;
      steps = omega (arith, c.open_banks-count.ensures.step, c.show_near.ensures.steps, ap length none, c.open_banks-count.ensures.fewer);
    }

pub take_level-taken-requires : goal.take_level-taken-requires
take_level-taken-requires g c =
    let way = c.loop-banks.invariant.way c.open_banks-count.ensures.begins in
    record {
      reached = c.loop-banks.invariant.reached c.open_banks-count.ensures.begins;
      weight = subst IsWeight (sym way.weight) way.weighs;
      most = omega (arith, way.most, c.open_banks-count.ensures.begins.most);
      ranked = c.loop-banks.invariant.ranked;
      price = subst (λ (s : Side). IsPrice (rank_at s c.loop-banks.rank)) (side_same c.loop-banks.walk c.open_banks-count.new.self c.args.side c.opposite.result c.opposite.ensures way.taker (ap (λ (w : LevelWalk). w.taker) c.open_banks-count.ensures.begins.is))
          (priced c.opposite.result c.loop-banks.rank c.price_at.result c.in-Some.price c.price_at.ensures.valid c.in-Some.is);
    }

pub loop-banks-preserved : goal.loop-banks-preserved
loop-banks-preserved g c =
    let was = c.loop-banks.invariant in
    let banks : List ℕ = take c.open_banks-count.result.0 c.open_banks-count.new.reached in
    let price : ℕ = c.in-Some.price in
    let taken : ℕ = c.take_level-taken.result.0 in
    let level : Level = record { price = price; lots = c.min-lots.result } in
    let whole : Level = record { price = price; lots = taken } in
    let begins = c.open_banks-count.ensures.begins in
    let before = was.way begins in
    let reached = was.reached begins in
    let side_is : c.opposite.result ≡ opposite c.loop-banks.walk.taker =
    side_same c.loop-banks.walk c.open_banks-count.new.self c.args.side c.opposite.result c.opposite.ensures before.taker (ap (λ (w : LevelWalk). w.taker) begins.is) in
    let best : IsBestAmong c.loop-banks.walk banks (Some price) =
    subst (IsBestAmong c.loop-banks.walk banks) c.in-Some.is (best_is c.loop-banks.walk banks c.opposite.result c.loop-banks.rank c.price_at.result side_is c.price_at.ensures.valid c.price_at.ensures.value was.lowest) in
    let price_is : price_for c.loop-banks.walk.taker c.loop-banks.rank ≡ price =
    ap (λ (s : Side). rank_at s c.loop-banks.rank) (sym side_is) ∙ sym (subst (λ (m : Option ℕ). IfSome m (λ (p : ℕ). p ≡ rank_at c.opposite.result c.loop-banks.rank)) c.in-Some.is c.price_at.ensures.value) in
    let all : AreTakenOf c.args.book.now c.loop-banks.walk c.take_level-taken.new.self price banks taken =
    subst (λ (p : ℕ). AreTakenOf c.args.book.now c.loop-banks.walk c.take_level-taken.new.self p banks taken) price_is c.take_level-taken.ensures.taken in
    let more : length c.push.new.self.items ≡ length c.loop-banks.levels.items + 1 = ap length c.in_ok-push.ensures.items ∙ length-append c.loop-banks.levels.items (level ∷ []) in
    record {
      whole = was.whole ++ whole ∷ [];
      cut = cut-on c.lots_by_total-most.result c.loop-banks.most (c.loop-banks.most - c.min-lots.result) was.whole c.loop-banks.levels.items c.push.new.self.items whole was.cut
          (omega (arith, c.if-most-gt0.true)) (omega (arith, c.min-lots.ensures)) (c.in_ok-push.ensures.items ∙ ap (λ n. c.loop-banks.levels.items ++ record { price = whole.price; lots = n } ∷ []) c.min-lots.ensures);
      way = λ begins.
          way_on c.args.book.now begins.valid c.open_banks-count.new.self c.loop-banks.walk c.take_level-taken.new.self c.args.bank was.whole whole begins.few
          (was.way begins) (omega (arith, c.loop-banks-test.true, c.len.ensures, was.cut.long)) (taken_level c.args.book.now banks before.past c.loop-banks.walk c.take_level-taken.new.self price taken reached (subst IsWeight (sym before.weight) before.weighs) before.long before.have best all);
      ranked = c.take_level-taken.ensures.ranked;
      reached = λ begins. reached-on c.args.book.now c.loop-banks.walk c.take_level-taken.new.self price taken banks (was.reached begins) all;
      lowest = c.take_level-taken.ensures.lowest;
      steps = one_more c.args.steps.now c.loop-banks.steps c.take_level-taken.new.steps (length c.loop-banks.levels.items) (length c.push.new.self.items) c.args.book.now.banks was.steps c.take_level-taken.ensures.steps more;
    }

pub returns : goal.returns
returns g c =
    let begins = c.open_banks-count.ensures.begins in
    let was = c.loop-banks.invariant in
    let banks : List ℕ = take c.open_banks-count.result.0 c.open_banks-count.new.reached in
    record {
      levels = subst (IsReached c.args.book.now c.args.lines.now c.args.weight c.args.bank c.args.side) (sym c.from_vec-2.ensures.items)
          (elim c.loop-banks-test.branch [
            | else-loop-banks-test w ↦
                reached-full c.args.book.now c.args.lines.now c.args.weight c.args.bank c.lots_by_total-most.result c.args.side c.open_banks-count.new.self c.loop-banks.walk begins c.requires.banks c.requires.bank c.requires.weight.0 c.lots_by_total-most.ensures.most
                c.loop-banks.most was.whole c.loop-banks.levels.items (was.way begins) was.cut (inl (omega (arith, w.loop-banks-test.false, c.len.ensures)))
            | then-loop-banks-test+else-most-gt0 w ↦
                reached-full c.args.book.now c.args.lines.now c.args.weight c.args.bank c.lots_by_total-most.result c.args.side c.open_banks-count.new.self c.loop-banks.walk begins c.requires.banks c.requires.bank c.requires.weight.0 c.lots_by_total-most.ensures.most
                c.loop-banks.most was.whole c.loop-banks.levels.items (was.way begins) was.cut (inr (omega (arith, w.if-most-gt0.false)))
            | then-loop-banks-test+then-most-gt0+in_default w ↦
                reached-whole c.args.book.now c.args.lines.now c.args.weight c.args.bank c.lots_by_total-most.result c.args.side c.open_banks-count.new.self c.loop-banks.walk begins c.requires.banks c.requires.bank c.requires.weight.0 c.lots_by_total-most.ensures.most
                c.loop-banks.most was.whole c.loop-banks.levels.items (was.way begins) was.cut (best_of_all c.args.book.now banks c.loop-banks.walk None (was.reached begins) (subst IsWeight (sym (was.way begins).weight) (was.way begins).weighs) (was.way begins).long (subst (IsBestAmong c.loop-banks.walk banks) w.in_default.is
                (best_is c.loop-banks.walk banks w.opposite.result c.loop-banks.rank w.price_at.result (side_same c.loop-banks.walk c.open_banks-count.new.self c.args.side w.opposite.result w.opposite.ensures (was.way begins).taker (ap (λ (w : LevelWalk). w.taker) begins.is))
                w.price_at.ensures.valid w.price_at.ensures.value was.lowest)))
          ]);
      steps = subst (λ (n : ℕ). c.loop-banks.steps ≤ c.args.steps.now + (n + 1) * c.args.book.now.banks) (sym (ap length c.from_vec-2.ensures.items)) (omega (arith, was.steps));
    }
