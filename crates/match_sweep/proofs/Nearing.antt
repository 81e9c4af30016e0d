-- The levels near the best one, of which the line with each bank pays for all lots, are those of the walk from price to price.
use Rattle.std.proofs.Common.{ℕ, zero, suc, ◌≡◌, ◌≢◌, ◌+◌, ◌-◌, ◌*◌, ◌/◌, ◌^◌, ◌≤◌, ◌<◌, ◌++◌, min, Bool, true, false, ◌&&◌, eqb, ltb, if◌then◌else◌, List, [], ◌∷◌, length, ◌⊎◌, inl, inr, refl, ap, sym, subst, ◌∙◌, arith, Option, Some, None, IfSome, get_or, slice_index, take, append_assoc, append-nil, length-append}
use Rattle.std.proofs.Math.ListN.{length-set, set}
use Rattle.std.proofs.Math.Nat.{add-mul, le-div_iff_mul-le, mul-le-mul_right}
use Rattle.std.proofs.lemmas.Bool.{and_from, and_parts, both_ways, cases_Bool, cases_eq, cases_lt, eqb-true, false_from_ne_true, lt-ltb, ltb-false, ltb-true, or_left}
use Rattle.std.proofs.lemmas.List.{get_or_default, get_or-append-add, take_at}
use Rattle.std.proofs.lemmas.List.Elements.{Contains-append_left, Contains-push}
use Rattle.std.proofs.lemmas.Nat.Bits.{bit_at-lt}
use Rattle.std.specs.Int.{bit_at}
use Rattle.std.specs.List.{Contains, filter}
use Rattle.fx_amounts.specs.Price.{IsPrice}
use Rattle.fx_amounts.specs.Quantity.{IsWeight}
use Rattle.fx_amounts.specs.Side.{opposite}
use Rattle.fx_amounts.specs.declared.side.Side.{Side}
use Rattle.fx_amounts.specs.declared.side.Side.TheVariants.{Buy, Sell}
use Rattle.fx_rules.specs.declared.orders.Level.{Level}
use Rattle.fx_rules.specs.declared.orders.Resting.{Resting}
use Rattle.fx_rules.specs.Lists.{Among, Each, total}
use Rattle.fx_rules.specs.Sweep.{IsBest, is_better, is_opposite, is_preferred}
use Rattle.fx_rules.proofs.Existing.{best-exists}
use Rattle.fx_rules.proofs.ListLemmas.{Among-filter, Each-among, Each-of, among_filter, filter_cons_false, filter_cons_true}
use Rattle.price_levels.specs.Rungs.{lots_below}
use Rattle.price_levels.specs.declared.level.Level.{Level as Rung}
use Rattle.price_levels.proofs.Adding.{marked_lots, none_marked, none_up_to}
use Rattle.global_book.specs.Book.{Book, IsBook, IsPriceOf, is_level, is_of, is_worse, is_worse_of, level_lots}
use Rattle.global_book.specs.Ladders.{book_level}
use Rattle.global_book.proofs.Sought.{opposite-opposite}
use Rattle.credit_lines.specs.Credit.{Credit}
use Rattle.match_sweep.specs.declared.reached.LevelWalk.{LevelWalk}
use Rattle.match_sweep.specs.inside.Near.{IsNear, IsSeen}
use Rattle.match_sweep.specs.inside.Reaches.{AreReached, AreTakenOf, BeginsAt, HaveLevels, IsBestAmong, IsRank, TakesLevel, TakesOf, price_for, price_in, price_of, rank_of}
use Rattle.match_sweep.proofs.LevelSteps.{OnTheWay, way_begins, way_on}
use Rattle.match_sweep.proofs.Passed.{not_passed}
use Rattle.match_sweep.proofs.Planning.{within_table}
use Rattle.match_sweep.proofs.Ranking.{price-rank, same_rank}
use Rattle.match_sweep.proofs.Reaching.{asked_left, has_price, levels_behind, none_differs, price_there, reached-on, taken-begins, taken-on, taken_level, taker_same, takes_none, takes_some, weight_same}
use Rattle.match_sweep.proofs.Stepping.{pays}

-- Prices and ranks.

-- a better price has a lower rank
better-lower : (taker : Side) (p q : ℕ) → IsPrice p → IsPrice q → is_better taker p q ≡ true → rank_of taker (Some p) < rank_of taker (Some q)
better-lower Buy p q valid other better = omega (arith, ltb-true p q better)
better-lower Sell p q valid other better = omega (arith, ltb-true q p better, valid.1, other.1)

lower-better : (taker : Side) (p q : ℕ) → IsPrice p → IsPrice q → rank_of taker (Some p) < rank_of taker (Some q) → is_better taker p q ≡ true
lower-better Buy p q valid other lower = lt-ltb p q (omega (arith, lower))
lower-better Sell p q valid other lower = lt-ltb q p (omega (arith, lower, valid.1, other.1))

not-better : (taker : Side) (p q : ℕ) → is_better taker p q ≡ false → rank_of taker (Some q) ≤ rank_of taker (Some p)
not-better Buy p q not = omega (arith, ltb-false p q not)
not-better Sell p q not = omega (arith, ltb-false q p not)

-- the side of an order across from a taker
across_side : (taker side : Side) → is_opposite taker side ≡ true → side ≡ opposite taker
across_side Buy Buy is = let it : false ≡ true = is in cc
across_side Buy Sell is = refl
across_side Sell Buy is = refl
across_side Sell Sell is = let it : false ≡ true = is in cc

-- The next price behind another one: there is one, or there is none.

-- an order that passes a test, if any does
first-of : (test : Resting → Bool) (orders : List Resting) → Each (λ o. test o ≡ false) orders ⊎ ((o : Resting) × (rest : List Resting) × (filter test orders ≡ o ∷ rest))
first-of test [] = inl tt
first-of test (order ∷ orders) =
    elim (cases_Bool (test order)) [
      | inl passes ↦ inr (order, filter test orders, filter_cons_true test order orders passes)
      | inr fails ↦
          elim (first-of test orders) [
            | inl none ↦ inl (fails, none)
            | inr some ↦ inr (some.0, some.1, filter_cons_false test order orders fails ∙ some.2)
          ]
    ]

record HasNext (taker : Side) (bank : ℕ) (past : Option ℕ) (orders : List Resting) : Type 0 where
  pub price : Option ℕ
  pub is : IsPriceOf taker bank past orders price
  pub valid : IfSome price IsPrice

has_next : (taker : Side) (bank : ℕ) (past : Option ℕ) (orders : List Resting) → Each (λ (o : Resting). IsPrice o.price) orders → HasNext taker bank past orders
has_next taker bank past orders ticks =
    let test : Resting → Bool = is_worse_of taker bank past in
    elim (first-of test orders) [
      | inl none ↦ record { price = None; is = none; valid = tt }
      | inr some ↦
          let found = best-exists taker some.0 some.1 in
          let best : Resting = found.0 in
          let is : IsBest taker (filter test orders) best = subst (λ (os : List Resting). IsBest taker os best) (sym some.2) found.1 in
          let there = Among-filter test orders best is.there in
          record {
            price = Some best.price;
            is = record {
              order = best;
              there = there.0;
              passes = there.1;
              price = refl;
              first = Each-of (λ (o : Resting). test o ≡ true → is_better taker o.price best.price ≡ false) orders (λ o among passes.
                  let later : is_preferred taker o best ≡ false = Each-among (λ (q : Resting). is_preferred taker q best ≡ false) (filter test orders) o is.first (among_filter test orders o among passes) in
                  false_from_ne_true (is_better taker o.price best.price) (λ better.
                  both_ways (is_preferred taker o best) later (or_left (is_better taker o.price best.price) (eqb o.price best.price && ltb o.arrival best.arrival) better)));
              lots = refl;
            };
            valid = Each-among (λ (o : Resting). IsPrice o.price) orders best ticks there.0;
          }
    ]

-- a bank with lots at a price has an order there
level_order : (taker : Side) (bank price : ℕ) (orders : List Resting) → level_lots taker bank price orders ≢ 0 → (o : Resting) × Among o orders × (is_level taker bank price o ≡ true)
level_order taker bank price orders some =
    elim (first-of (is_level taker bank price) orders) [
      | inl none ↦ absurd (some (no_lots orders none))
      | inr found ↦
          let it = Among-filter (is_level taker bank price) orders found.0 (subst (Among found.0) (sym found.2) (inl refl)) in
          (found.0, it.0, it.1)
    ]
  where
    no_lots : (os : List Resting) → Each (λ o. is_level taker bank price o ≡ false) os → level_lots taker bank price os ≡ 0
    no_lots [] none = refl
    no_lots (o ∷ os) none = ap (total (λ (q : Resting). q.left)) (filter_cons_false (is_level taker bank price) o os none.0) ∙ no_lots os none.1

-- Lots and lines.

lots_mono : (levels : ℕ → Rung) (from count more : ℕ) → lots_below levels from count ≤ lots_below levels from (count + more)
lots_mono levels from count zero = let it : count + 0 ≡ count = omega arith in subst (λ (n : ℕ). lots_below levels from count ≤ lots_below levels from n) (sym it) (omega arith)
lots_mono levels from count (suc more) =
    let it : count + suc more ≡ suc (count + more) = omega arith in
    subst (λ (n : ℕ). lots_below levels from count ≤ lots_below levels from n) (sym it)
    (let sum : lots_below levels from count ≤ lots_below levels from (count + more) + (levels (from + (count + more))).lots = omega (arith, lots_mono levels from count more) in sum)

lots_upto : (levels : ℕ → Rung) (from count end : ℕ) → count ≤ end → lots_below levels from count ≤ lots_below levels from end
lots_upto levels from count end within =
    let it : count + (end - count) ≡ end = omega (arith, within) in
    subst (λ (n : ℕ). lots_below levels from count ≤ lots_below levels from n) it (lots_mono levels from count (end - count))

one_fits : (n w x : ℕ) → n ≢ 0 → n * w ≤ x → w ≤ x
one_fits zero w x some fits = absurd (some refl)
one_fits (suc n) w x some fits =
    let it : (n + 1) * w ≡ n * w + 1 * w = add-mul n 1 w in
    let same : suc n ≡ n + 1 = omega arith in
    omega (arith, ap (λ (m : ℕ). m * w) same, it, fits)

-- A walk that has taken the levels of the marked ranks before a place: nothing that it reaches stands before that.
pub record NearWay (book : Book) (valid : IsBook book) (first : LevelWalk) (banks : List ℕ) (from bank at : ℕ) (whole : List Level) : Type 0 where
  pub now : LevelWalk
  pub way : OnTheWay book valid first now bank whole
  pub ranks : length now.ranks ≡ 65
  pub past : Option ℕ
  pub have : HaveLevels book past now
  pub reached : AreReached book now banks
  pub lines : (b : ℕ) → Contains banks b → slice_index now.lines b + lots_below (book_level book (opposite first.taker) b) from at * first.weight ≡ slice_index first.lines b
  pub heads : (b p : ℕ) → Contains banks b → price_of now b ≡ Some p → from + at ≤ rank_of first.taker (Some p)
  pub passes : (p : ℕ) → IsPrice p → from + at ≤ rank_of first.taker (Some p) → is_worse first.taker past p ≡ true

module _ (book : Book) (first : LevelWalk) (banks : List ℕ) (from last all : ℕ) (lots : List ℕ) (low : last < 64) (near : IsNear book first banks from last all lots) (credit : Credit) (bank : ℕ)
    (begins : BeginsAt book credit first.weight bank first.taker first) where
  abbrev level : ℕ → ℕ → Rung
  level b = book_level book (opposite first.taker) b

  -- before the first level
  from_lowest : (b p : ℕ) (price : Option ℕ) → IsRank first.taker price from → IsBestAmong first banks price → Contains banks b → price_of first b ≡ Some p → from ≤ rank_of first.taker (Some p)
  from_lowest b p None is best there at = none_differs p (sym (best b there) ∙ at)
  from_lowest b p (Some q) is best there at = omega (arith, is.is, not-better first.taker p q (best.1 b p there at))

  pub near-begins : NearWay book begins.valid first banks from bank 0 []
  near-begins = record {
    now = first;
    way = way_begins book begins.valid first bank [] near.weight begins.long begins.heads begins.own refl;
    ranks = near.ranks;
    past = None;
    have = begins.heads;
    reached = near.reached;
    lines = λ b there. omega arith;
    heads = λ b p there at. omega (arith, from_lowest b p near.lowest.price near.lowest.rank near.lowest.best there at);
    passes = λ p valid upto. refl;
  }

  -- what is seen of a bank
  record SeenOf (b : ℕ) : Type 0 where
    pub word : ℕ
    pub seen : IsSeen book (opposite first.taker) from b word
    pub told : (k : ℕ) → k < 64 → bit_at word k ≡ 1 → bit_at all k ≡ 1

  seen_of : (b : ℕ) → Contains banks b → SeenOf b
  seen_of b there =
      let i : ℕ = there.0 in
      let is : slice_index banks i ≡ b = get_or_default banks i 0 b there.1 ∙ there.2 in
      record {
        word = slice_index near.words i;
        seen = subst (λ (n : ℕ). IsSeen book (opposite first.taker) from n (slice_index near.words i)) is (near.seen.each i there.1);
        told = λ k small. near.seen.each_told i k there.1 small;
      }

  none_at : (b k : ℕ) → Contains banks b → k < 64 → bit_at all k ≡ 0 → (level b (from + k)).lots ≡ 0
  none_at b k there small none =
      let s = seen_of b there in
      none_marked (level b (from + k)) (sym (s.seen.marks k small)
      ∙ elim (cases_eq (bit_at s.word k) 1) [
        | inl one ↦ absurd (omega (arith, none, s.told k small one))
        | inr other ↦ omega (arith, bit_at-lt s.word k, other)
      ])

  -- a bank has an order at a rank with lots, and lots where it has an order
  order_at : (b k : ℕ) → Contains banks b → IsPrice (price_for first.taker (from + k)) → (level b (from + k)).lots ≡ level_lots first.taker b (price_for first.taker (from + k)) book.orders
  order_at b k there valid =
      (seen_of b there).seen.tells.lots b (from + k) valid
      ∙ ap (λ (s : Side). level_lots s b (price_for first.taker (from + k)) book.orders) (opposite-opposite first.taker)

  lots_at_order : (b : ℕ) (o : Resting) → Contains banks b → Among o book.orders → o.bank ≡ b → is_opposite first.taker o.side ≡ true → (level b (rank_of first.taker (Some o.price))).lots ≢ 0
  lots_at_order b o there among own across =
      subst (λ (n : ℕ). (level n (rank_of first.taker (Some o.price))).lots ≢ 0) own
      (Each-among (λ (q : Resting). q.side ≡ opposite first.taker → (level q.bank (rank_of first.taker (Some q.price))).lots ≢ 0) book.orders o (seen_of b there).seen.tells.some among (across_side first.taker o.side across))

  ticks : (b : ℕ) (o : Resting) → Contains banks b → Among o book.orders → IsPrice o.price
  ticks b o there among = Each-among (λ (q : Resting). IsPrice q.price) book.orders o (seen_of b there).seen.tells.ticks among

  -- what a bank's price tells
  record HeadAt (b p : ℕ) : Type 0 where
    pub valid : IsPrice p
    pub some : (level b (rank_of first.taker (Some p))).lots ≢ 0

  worse_parts : (past : Option ℕ) (b : ℕ) (o : Resting) → is_worse_of first.taker b past o ≡ true → (o.bank ≡ b) × (is_opposite first.taker o.side ≡ true) × (is_worse first.taker past o.price ≡ true)
  worse_parts past b o is =
      let two = and_parts (is_of b o && is_opposite first.taker o.side) (is_worse first.taker past o.price) is in
      let one = and_parts (is_of b o) (is_opposite first.taker o.side) two.0 in
      (eqb-true o.bank b one.0, one.1, two.1)

  head_at : (past : Option ℕ) (b p : ℕ) → Contains banks b → IsPriceOf first.taker b past book.orders (Some p) → HeadAt b p
  head_at past b p there is =
      let parts = worse_parts past b is.order is.passes in
      record {
        valid = subst IsPrice is.price (ticks b is.order there is.there);
        some = subst (λ (q : ℕ). (level b (rank_of first.taker (Some q))).lots ≢ 0) is.price (lots_at_order b is.order there is.there parts.0 parts.1);
      }

  -- One level more, at a rank that is marked.
  module _ (at : ℕ) (whole : List Level) (was : NearWay book begins.valid first banks from bank at whole) (k : ℕ) (start : at ≤ k) (within : k ≤ last) (none : (j : ℕ) → at ≤ j → j < k → bit_at all j ≡ 0) (marked : bit_at all k ≡ 1)
      (valid : IsPrice (price_for first.taker (from + k))) (short : length whole < 10) where
    abbrev price : ℕ
    price = price_for first.taker (from + k)

    abbrev here : ℕ → ℕ
    here b = (level b (from + k)).lots

    rank_is : from + k ≡ rank_of first.taker (Some price)
    rank_is = (price-rank first.taker (from + k) valid).is

    weighs : IsWeight was.now.weight
    weighs = subst IsWeight (sym was.way.weight) near.weight

    have_of : (b : ℕ) → b < 65 → 1 ≤ slice_index was.now.lines b / was.now.weight → IsPriceOf first.taker b was.past book.orders (price_in was.now b)
    have_of b below reach = subst (λ (s : Side). IsPriceOf s b was.past book.orders (price_in was.now b)) was.way.taker (was.have b below reach)

    -- a bank with which the line pays is one of 65
    below_of : (b : ℕ) → was.now.weight ≤ slice_index was.now.lines b → b < 65
    below_of b pays' = omega (arith, within_table was.now.lines b (omega (arith, pays', weighs.0)), was.way.long)

    -- no bank is asked at a better price
    no_better : (b p : ℕ) → Contains banks b → price_of was.now b ≡ Some p → IsPrice p × (from + k ≤ rank_of first.taker (Some p))
    no_better b p there at_p =
        let has = has_price was.now b p at_p in
        let head : HeadAt b p = head_at was.past b p there (subst (IsPriceOf first.taker b was.past book.orders) has.is (have_of b (below_of b has.pays) (pays (slice_index was.now.lines b) was.now.weight weighs has.pays))) in
        let rank : ℕ = rank_of first.taker (Some p) in (
          head.valid,
          elim (cases_lt rank (from + k)) [
            | inr late ↦ late
            | inl early ↦
                let from_on : from + at ≤ rank = was.heads b p there at_p in
                let place : from + (rank - from) ≡ rank = omega (arith, from_on) in
                absurd (head.some (ap (λ (r : ℕ). (level b r).lots) (sym place)
                ∙ none_at b (rank - from) there (omega (arith, early, within, low)) (none (rank - from) (omega (arith, from_on)) (omega (arith, early, from_on)))))
          ],
        )

    -- the lots of the ranks that are passed
    below_next : (b : ℕ) → Contains banks b → lots_below (level b) from (k + 1) ≡ lots_below (level b) from at + here b
    below_next b there =
        let it : k + 1 ≡ suc k = omega arith in
        let skipped : lots_below (level b) from k ≡ lots_below (level b) from at = none_up_to (level b) from at k start (λ j from_on before. none_at b j there (omega (arith, before, within, low)) (none j from_on before)) in
        ap (lots_below (level b) from) it ∙ (let sum : lots_below (level b) from k + here b ≡ lots_below (level b) from at + here b = omega (arith, skipped) in sum)

    -- a line pays for all
    fits : (b : ℕ) → Contains banks b → here b * was.now.weight ≤ slice_index was.now.lines b
    fits b there =
        let w : ℕ = first.weight in
        let a : ℕ = lots_below (level b) from at in
        let upto : lots_below (level b) from (k + 1) ≤ lots_below (level b) from (last + 1) = lots_upto (level b) from (k + 1) (last + 1) (omega (arith, within)) in
        let cost : (a + here b) * w ≤ lots_below (level b) from (last + 1) * w = mul-le-mul_right w (omega (arith, upto, below_next b there)) in
        let parts : (a + here b) * w ≡ a * w + here b * w = add-mul a (here b) w in
        let it : here b * w ≤ slice_index was.now.lines b = omega (arith, cost, parts, near.paid.pays b there, was.lines b there) in
        subst (λ (n : ℕ). here b * n ≤ slice_index was.now.lines b) (sym was.way.weight) it

    -- an order at the price
    at_price : (b : ℕ) → Contains banks b → here b ≢ 0 → (o : Resting) × Among o book.orders × (is_level first.taker b price o ≡ true)
    at_price b there some = level_order first.taker b price book.orders (λ bare. some (order_at b k there valid ∙ bare))

    -- a bank with lots is asked there
    asked : (b : ℕ) → Contains banks b → here b ≢ 0 → price_of was.now b ≡ Some price
    asked b there some =
        let pays' : was.now.weight ≤ slice_index was.now.lines b = one_fits (here b) was.now.weight (slice_index was.now.lines b) some (fits b there) in
        let order = at_price b there some in
        let parts = and_parts (is_of b order.0 && is_opposite first.taker order.0.side) (eqb order.0.price price) order.2 in
        let price_is : order.0.price ≡ price = eqb-true order.0.price price parts.1 in
        let passes : is_worse_of first.taker b was.past order.0 ≡ true
        = and_from (is_of b order.0 && is_opposite first.taker order.0.side) (is_worse first.taker was.past order.0.price) parts.0
        (ap (is_worse first.taker was.past) price_is ∙ was.passes price valid (omega (arith, rank_is, start))) in
        let answer : (found : Option ℕ) → price_in was.now b ≡ found → IsPriceOf first.taker b was.past book.orders found → price_in was.now b ≡ Some price = λ found.
        elim found as (λ (f : Option ℕ). price_in was.now b ≡ f → IsPriceOf first.taker b was.past book.orders f → price_in was.now b ≡ Some price) [
          | None ↦ λ _ bare. absurd (both_ways (is_worse_of first.taker b was.past order.0) (Each-among (λ (q : Resting). is_worse_of first.taker b was.past q ≡ false) book.orders order.0 bare order.1) passes)
          | Some p ↦ λ is head.
              let upto = no_better b p there (price_there was.now b p pays' is) in
              let later : is_better first.taker price p ≡ false = subst (λ (n : ℕ). is_better first.taker n p ≡ false) price_is (Each-among (λ (q : Resting). is_worse_of first.taker b was.past q ≡ true → is_better first.taker q.price p ≡ false) book.orders order.0 head.first order.1 passes) in
              let same : rank_of first.taker (Some p) ≡ from + k = omega (arith, upto.1, rank_is, not-better first.taker price p later) in
              is ∙ same_rank first.taker (Some p) price (rank_of first.taker (Some p)) (from + k) (record { valid = upto.0; is = refl }) (price-rank first.taker (from + k) valid) same
        ] in
        price_there was.now b price pays' (answer (price_in was.now b) refl (have_of b (below_of b pays') (pays (slice_index was.now.lines b) was.now.weight weighs pays')))

    -- and one without lots is not
    unasked : (b : ℕ) → Contains banks b → here b ≡ 0 → price_of was.now b ≡ Some price → ⊥
    unasked b there bare at_price' =
        let has = has_price was.now b price at_price' in
        let head : HeadAt b price = head_at was.past b price there (subst (IsPriceOf first.taker b was.past book.orders) has.is (have_of b (below_of b has.pays) (pays (slice_index was.now.lines b) was.now.weight weighs has.pays))) in
        head.some (ap (λ (r : ℕ). (level b r).lots) (sym rank_is) ∙ bare)

    -- the price is the best one
    best : IsBestAmong was.now banks (Some price)
    best =
        let it = near.seen.any k (omega (arith, within, low)) marked in
        let b : ℕ = slice_index banks it.0 in
        let there : Contains banks b = (it.0, it.1, get_or_default banks it.0 b 0 it.1) in (
          (b, there, asked b there (marked_lots (level b (from + k)) (sym ((near.seen.each it.0 it.1).marks k (omega (arith, within, low))) ∙ it.2))),
          λ other p among at_p.
              subst (λ (s : Side). is_better s p price ≡ false) (sym was.way.taker)
              (let upto = no_better other p among at_p in
              false_from_ne_true (is_better first.taker p price) (λ better. omega (arith, upto.1, rank_is, better-lower first.taker p price upto.0 valid better))),
        )

    -- The lots of each bank are taken.
    record TakenHere (sum : ℕ) : Type 0 where
      pub new : LevelWalk
      pub taken : AreTakenOf book was.now new price banks sum
      pub ranks : length new.ranks ≡ 65

    record TakesOne (mid : LevelWalk) (b : ℕ) : Type 0 where
      pub new : LevelWalk
      pub takes : TakesOf book mid new b price (here b)
      pub ranks : length new.ranks ≡ 65

    take_one : (done : List ℕ) (mid : LevelWalk) (b sum : ℕ) → Contains banks b → (Contains done b → ⊥) → AreTakenOf book was.now mid price done sum → length mid.ranks ≡ 65 → TakesOne mid b
    take_one done mid b sum there fresh so_far ranks =
        let left = so_far.left b fresh in
        let same : price_of mid b ≡ price_of was.now b = asked_left was.now mid b sum so_far.sum left in
        let taker : mid.taker ≡ first.taker = taker_same was.now mid sum so_far.sum ∙ was.way.taker in
        let weight : mid.weight ≡ was.now.weight = weight_same was.now mid sum so_far.sum in
        elim (cases_eq (here b) 0) [
          | inl bare ↦ record {
            new = mid;
            takes = subst (TakesOf book mid mid b price) (sym bare) (takes_none book mid b price (λ at_price'. unasked b there bare (sym same ∙ at_price')));
            ranks = ranks;
          }
          | inr some ↦
              let next : HasNext mid.taker b (Some price) book.orders = has_next mid.taker b (Some price) book.orders (seen_of b there).seen.tells.ticks in
              let rank : ℕ = rank_of mid.taker next.price in
              let line : ℕ = slice_index mid.lines b in
              let rest : ℕ = line - here b * mid.weight in
              let paid : here b * mid.weight ≤ line = subst (λ (n : ℕ). here b * n ≤ line) (sym weight) (omega (arith, left.line, fits b there)) in
              let mid_weighs : IsWeight mid.weight = subst IsWeight (sym weight) weighs in
              let few : here b ≤ line / mid.weight = (le-div_iff_mul-le {k = mid.weight} {x = here b} {y = line} (omega (arith, mid_weighs.0))).1 paid in
              let pays' : was.now.weight ≤ slice_index was.now.lines b = one_fits (here b) was.now.weight (slice_index was.now.lines b) some (fits b there) in
              let new : LevelWalk = record mid {
                lines = set mid.lines b rest;
                ranks = set mid.ranks b (if ltb rest mid.weight then 2 ^ 30 - 1 else rank);
              } in
              record {
                new = new;
                takes = takes_some book mid new b price (here b) (here b) rank next.price mid_weighs (omega (arith, below_of b pays', so_far.sum.long, was.way.long)) (omega (arith, below_of b pays', ranks)) (same ∙ asked b there some)
                    (order_at b k there valid ∙ ap (λ (s : Side). level_lots s b price book.orders) (sym taker))
                    (let it : here b ≡ min (here b) (line / mid.weight) = omega (arith, few) in it)
                    next.is (record { valid = next.valid; is = refl }) (record { is = refl });
                ranks = length-set mid.ranks b (if ltb rest mid.weight then 2 ^ 30 - 1 else rank) ∙ ranks;
              }
        ]

    take_rest : (done rest : List ℕ) (mid : LevelWalk) (sum : ℕ) → done ++ rest ≡ banks → AreTakenOf book was.now mid price done sum → length mid.ranks ≡ 65 → TakenHere (sum + total here rest)
    take_rest done [] mid sum is so_far ranks = record {
      new = mid;
      taken = subst (λ (n : ℕ). AreTakenOf book was.now mid price banks n) (let it : sum ≡ sum + 0 = omega arith in it) (subst (λ (bs : List ℕ). AreTakenOf book was.now mid price bs sum) (sym (append-nil done) ∙ is) so_far);
      ranks = ranks;
    }
    take_rest done (b ∷ rest) mid sum is so_far ranks =
        let longer : (done ++ b ∷ []) ++ rest ≡ banks = append_assoc done (b ∷ []) rest ∙ is in
        let there : Contains banks b = subst (λ (bs : List ℕ). Contains bs b) longer (Contains-append_left (done ++ b ∷ []) rest b (Contains-push done b)) in
        let here_is : get_or banks (length done) 0 ≡ b =
        ap (λ (bs : List ℕ). get_or bs (length done) 0) (sym is) ∙ (let at_end : length done ≡ length done + 0 = omega arith in ap (λ (n : ℕ). get_or (done ++ b ∷ rest) n 0) at_end) ∙ get_or-append-add done (b ∷ rest) 0 0 in
        let before : take (length done) banks ≡ done = ap (take (length done)) (sym is) ∙ take_at done (b ∷ rest) (length done) refl in
        let room : length done < length banks = omega (arith, ap length is, length-append done (b ∷ rest)) in
        let fresh : Contains done b → ⊥ = λ among.
        not_passed banks (length done) 0 was.reached.rising room (subst (Contains (take (length done) banks)) (sym here_is) (subst (λ (bs : List ℕ). Contains bs b) (sym before) among)) in
        let one : TakesOne mid b = take_one done mid b sum there fresh so_far ranks in
        let all_rest : TakenHere (sum + here b + total here rest) = take_rest (done ++ b ∷ []) rest one.new (sum + here b) longer (taken-on book was.now mid one.new price b sum (here b) done fresh so_far one.takes) one.ranks in
        subst TakenHere (let it : sum + here b + total here rest ≡ sum + (here b + total here rest) = omega arith in it) all_rest

    all_taken : TakenHere (total here banks)
    all_taken = subst TakenHere (let it : 0 + total here banks ≡ total here banks = omega arith in it) (take_rest [] banks was.now 0 refl (taken-begins book was.now price banks) was.ranks)

    -- what is left of a line
    line_left : (b : ℕ) → Contains banks b → slice_index all_taken.new.lines b + here b * first.weight ≡ slice_index was.now.lines b
    line_left b there =
        let taken = all_taken.taken.taken b there in
        let line : ℕ = slice_index was.now.lines b in
        elim (cases_eq (here b) 0) [
          | inl bare ↦
              let still : slice_index all_taken.new.lines b ≡ line = (taken.other (unasked b there bare)).line in
              omega (arith, still, ap (λ (n : ℕ). n * first.weight) bare)
          | inr some ↦
              let behind : slice_index all_taken.new.lines b ≡ line - min (level_lots was.now.taker b price book.orders) (line / was.now.weight) * was.now.weight = (taken.asked (asked b there some)).line in
              let lots_are : level_lots was.now.taker b price book.orders ≡ here b = ap (λ (s : Side). level_lots s b price book.orders) was.way.taker ∙ sym (order_at b k there valid) in
              let few : here b ≤ line / was.now.weight = (le-div_iff_mul-le {k = was.now.weight} {x = here b} {y = line} (omega (arith, weighs.0))).1 (fits b there) in
              let least : min (level_lots was.now.taker b price book.orders) (line / was.now.weight) ≡ here b = omega (arith, lots_are, few) in
              let cost : min (level_lots was.now.taker b price book.orders) (line / was.now.weight) * was.now.weight ≡ here b * first.weight = ap (λ (n : ℕ). n * was.now.weight) least ∙ ap (λ (w : ℕ). here b * w) was.way.weight in
              let paid : here b * first.weight ≤ line = subst (λ (w : ℕ). here b * w ≤ line) was.way.weight (fits b there) in
              omega (arith, behind, cost, paid)
        ]

    pub near-on : (level' : Level) → level' ≡ record { price = price; lots = slice_index lots k } → NearWay book begins.valid first banks from bank (k + 1) (whole ++ level' ∷ [])
    near-on level' level_is =
        let sum : ℕ = total here banks in
        let new : LevelWalk = all_taken.new in
        let takes : TakesLevel book was.now new (Some (record { price = price; lots = sum })) = taken_level book banks was.past was.now new price sum was.reached weighs was.way.long was.have best all_taken.taken in
        let same : level' ≡ record { price = price; lots = sum } = level_is ∙ ap (λ (n : ℕ). record { price = price; lots = n }) (near.paid.sums k within) in
        let taker : new.taker ≡ first.taker = taker_same was.now new sum all_taken.taken.sum ∙ was.way.taker in
        let weight : new.weight ≡ first.weight = weight_same was.now new sum all_taken.taken.sum ∙ was.way.weight in
        let have : HaveLevels book (Some price) new = levels_behind book was.now new price sum takes.1 in
        let long : length new.lines ≡ 65 = all_taken.taken.sum.long ∙ was.way.long in
        let weighs' : IsWeight new.weight = subst IsWeight (sym weight) near.weight in
        record {
          now = new;
          way = subst (λ (l : Level). OnTheWay book begins.valid first new bank (whole ++ l ∷ [])) (sym same)
              (way_on book begins.valid first was.now new bank whole (record { price = price; lots = sum }) begins.few was.way short takes);
          ranks = all_taken.ranks;
          past = Some price;
          have = have;
          reached = reached-on book was.now new price sum banks was.reached all_taken.taken;
          lines = λ b there.
              let parts : (lots_below (level b) from at + here b) * first.weight ≡ lots_below (level b) from at * first.weight + here b * first.weight = add-mul (lots_below (level b) from at) (here b) first.weight in
              let next : lots_below (level b) from (k + 1) * first.weight ≡ (lots_below (level b) from at + here b) * first.weight = ap (λ (n : ℕ). n * first.weight) (below_next b there) in
              omega (arith, line_left b there, was.lines b there, parts, next);
          heads = λ b p there at_p.
              let has = has_price new b p at_p in
              let below : b < 65 = omega (arith, within_table new.lines b (omega (arith, has.pays, weighs'.0)), long) in
              let is : IsPriceOf first.taker b (Some price) book.orders (Some p) =
              subst (λ (s : Side). IsPriceOf s b (Some price) book.orders (Some p)) taker (subst (IsPriceOf new.taker b (Some price) book.orders) has.is (have b below (pays (slice_index new.lines b) new.weight weighs' has.pays))) in
              let parts = worse_parts (Some price) b is.order is.passes in
              let behind : is_better first.taker price p ≡ true = subst (λ (q : ℕ). is_better first.taker price q ≡ true) is.price parts.2 in
              omega (arith, rank_is, better-lower first.taker price p valid (head_at (Some price) b p there is).valid behind);
          passes = λ p valid_p upto. lower-better first.taker price p valid valid_p (omega (arith, rank_is, upto));
        }
