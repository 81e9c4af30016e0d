-- The levels of the walk from price to price are those of the sweep of an order that takes all that its lines allow.
use Rattle.std.proofs.Common.{ℕ, suc, ◌≡◌, ◌≢◌, ◌+◌, ◌-◌, ◌*◌, ◌/◌, ◌^◌, ◌≤◌, ◌<◌, true, false, ◌&&◌, if◌then◌else◌, eqb, ltb, List, [], ◌∷◌, ◌++◌, length, ◌⊎◌, inl, inr, refl, ap, sym, subst, ◌∙◌, arith, Option, Some, None, get_or, slice_index, take, append_assoc, append-nil, length-append}
use Rattle.std.proofs.Math.Nat.{div-le_self, le_of_mul-le-mul_right}
use Rattle.std.proofs.lemmas.Bool.{cases_Bool, cases_eq, cases_lt, and_parts, and_from, both_ways, or_left, or_cases, false_from_ne_true, eqb-true, eq-eqb, ne_eqb, ltb-true}
use Rattle.std.proofs.lemmas.List.{get_or_past}
use Rattle.fx_amounts.specs.Price.{crosses}
use Rattle.fx_amounts.specs.Quantity.{IsWeight}
use Rattle.fx_amounts.specs.declared.side.Side.{Side}
use Rattle.fx_rules.specs.declared.orders.Fill.{Fill}
use Rattle.fx_rules.specs.declared.orders.Level.{Level}
use Rattle.fx_rules.specs.declared.orders.Resting.{Resting}
use Rattle.fx_rules.specs.Lists.{Among, Each, total}
use Rattle.fx_rules.specs.Sweep.{Taker, is_open, is_opposite, is_better, less}
use Rattle.fx_rules.specs.Plan.{Planned, is_behind, open_behind}
use Rattle.fx_rules.specs.Depth.{with_fill, levels_of}
use Rattle.fx_rules.proofs.Capped.{affordable}
use Rattle.fx_rules.proofs.Existing.{planned-exists}
use Rattle.fx_rules.proofs.ListLemmas.{Among-filter, Each-among, total-append}
use Rattle.fx_rules.proofs.Opens.{IsOpen, is_open-says}
use Rattle.fx_rules.proofs.Planning.{open_own, open_parts}
use Rattle.global_book.specs.Book.{Book, IsBook, IsHeld, IsPriceOf, is_of, is_worse, is_worse_of}
use Rattle.credit_lines.specs.Credit.{Credit, line_in, room_in}
use Rattle.match_sweep.specs.declared.reached.LevelWalk.{LevelWalk}
use Rattle.match_sweep.specs.Reaches.{IsReached, IsUnlimited}
use Rattle.match_sweep.specs.inside.Reaches.{AreTaken, BeginsAt, HaveLevels, IsBestPrice, IsMost, TakesLevel, at_end, cut, line_behind, past_order, price_in, price_of}
use Rattle.match_sweep.specs.inside.Walks.{AgreeInBook}
use Rattle.match_sweep.specs.Sweeps.{IsLevelled}
use Rattle.match_sweep.proofs.Cutting.{AreCut, WithinTotal, cut-ended, cut-first, within-total}
use Rattle.match_sweep.proofs.Levelling.{Going, IsEager, Taken, lots_of, less_less, less_none, once_more, takes}
use Rattle.match_sweep.proofs.Picking.{none_among}
use Rattle.match_sweep.proofs.Planning.{planned-agrees, planned-paid, planned-sweep}
use Rattle.match_sweep.proofs.Reaching.{better-or_same, better-self, better-trans, taker_same, weight_same, best_level, best_worse, levels_behind, price_there}
use Rattle.match_sweep.proofs.Stepping.{paid_for}

-- Levels of fills of one price, and of others behind them.

record FirstLevel (fill : Fill) (levels : List Level) : Type 0 where
  pub level : Level
  pub rest : List Level
  pub is : levels ≡ level ∷ rest
  pub price_is : level.price ≡ fill.price

first_level : (fill : Fill) (levels : List Level) → FirstLevel fill (with_fill fill levels)
first_level fill [] = record { level = record { price = fill.price; lots = fill.lots }; rest = []; is = refl; price_is = refl }
first_level fill (level ∷ levels) =
    elim (cases_Bool (eqb fill.price level.price)) [
      | inl same ↦ record {
        level = record { price = level.price; lots = fill.lots + level.lots };
        rest = levels;
        is = ap (λ b. if b then record { price = level.price; lots = fill.lots + level.lots } ∷ levels else record { price = fill.price; lots = fill.lots } ∷ level ∷ levels) same;
        price_is = sym (eqb-true fill.price level.price same);
      }
      | inr other ↦ record {
        level = record { price = fill.price; lots = fill.lots };
        rest = level ∷ levels;
        is = ap (λ b. if b then record { price = level.price; lots = fill.lots + level.lots } ∷ levels else record { price = fill.price; lots = fill.lots } ∷ level ∷ levels) other;
        price_is = refl;
      }
    ]

-- the first of more fills is at another price
abbrev pub BeginsElsewhere : ℕ → List Fill → Type 0
BeginsElsewhere price [] = Unit {0}
BeginsElsewhere price (fill ∷ fills) = fill.price ≢ price

new_level : (fill : Fill) (levels : List Level) (other : Fill) → FirstLevel other levels → other.price ≢ fill.price → with_fill fill levels ≡ record { price = fill.price; lots = fill.lots } ∷ levels
new_level fill levels other first differ =
    subst (λ (ls : List Level). with_fill fill ls ≡ record { price = fill.price; lots = fill.lots } ∷ ls) (sym first.is)
    (ap (λ b. if b then record { price = first.level.price; lots = fill.lots + first.level.lots } ∷ first.rest else record { price = fill.price; lots = fill.lots } ∷ first.level ∷ first.rest)
    (ne_eqb fill.price first.level.price (λ same. differ (sym first.price_is ∙ sym same))))

one_level : (fill : Fill) (more : List Fill) → BeginsElsewhere fill.price more → with_fill fill (levels_of more) ≡ record { price = fill.price; lots = fill.lots } ∷ levels_of more
one_level fill [] elsewhere = refl
one_level fill (other ∷ more) elsewhere = new_level fill (levels_of (other ∷ more)) other (first_level other (levels_of more)) elsewhere

level_is : ℕ → ℕ → Level
level_is price lots = record { price = price; lots = lots }

levels_run : (price : ℕ) (fills more : List Fill) → Each (λ (f : Fill). f.price ≡ price) fills → 1 ≤ length fills → BeginsElsewhere price more → levels_of (fills ++ more) ≡ level_is price (lots_of fills) ∷ levels_of more
unfolding level_is
levels_run price [] more prices some elsewhere = absurd (omega (arith, some))
levels_run price (fill ∷ []) more prices some elsewhere =
    one_level fill more (subst (λ p. BeginsElsewhere p more) (sym prices.0) elsewhere)
    ∙ ap (λ p. level_is p fill.lots ∷ levels_of more) prices.0
    ∙ ap (λ n. level_is price n ∷ levels_of more) (let it : fill.lots ≡ fill.lots + 0 = omega arith in it)
levels_run price (fill ∷ next ∷ fills) more prices some elsewhere =
    ap (with_fill fill) (levels_run price (next ∷ fills) more prices.1 (omega arith) elsewhere)
    ∙ ap (λ b. if b then level_is price (fill.lots + lots_of (next ∷ fills)) ∷ levels_of more else level_is fill.price fill.lots ∷ level_is price (lots_of (next ∷ fills)) ∷ levels_of more) (eq-eqb fill.price price prices.0)

-- Numbers and tables.

same_lots : (a b w : ℕ) → 1 ≤ w → a * w ≡ b * w → a ≡ b
same_lots a b w some same =
    let below : a ≤ b = le_of_mul-le-mul_right {m = a} {n = b} {k = w} (omega arith) (omega arith) in
    let above : b ≤ a = le_of_mul-le-mul_right {m = b} {n = a} {k = w} (omega arith) (omega arith) in
    omega arith

same_table : (xs ys : List ℕ) → length xs ≡ length ys → ((k : ℕ) → get_or xs k 0 ≡ get_or ys k 0) → xs ≡ ys
same_table [] [] long same = refl
same_table [] (y ∷ ys) long same = absurd (omega (arith, long))
same_table (x ∷ xs) [] long same = absurd (omega (arith, long))
same_table (x ∷ xs) (y ∷ ys) long same = ap (λ z. z ∷ xs) (same 0) ∙ ap (λ zs. y ∷ zs) (same_table xs ys (omega arith) (λ k. same (suc k)))

-- What is open stands behind the last level, at its bank's head or behind it.

module _ (book : Book) (valid : IsBook book) where
  early : (order : Resting) → Among order book.orders → order.arrival < 2 ^ 64
  early order there = let held : IsHeld book.banks order = Each-among (IsHeld book.banks) book.orders order valid.held there in held.arrival_most

  worse_end : (side : Side) (price : ℕ) (order : Resting) → order.arrival < 2 ^ 64 → is_behind side (Some (at_end price)) order ≡ true → is_better side price order.price ≡ true
  worse_end side price order soon behind =
      elim (or_cases (is_better side price order.price) (eqb price order.price && ltb (2 ^ 64) order.arrival) behind) [
        | inl better ↦ better
        | inr same ↦ let parts = and_parts (eqb price order.price) (ltb (2 ^ 64) order.arrival) same in
            absurd (let late = ltb-true (2 ^ 64) order.arrival parts.1 in omega arith)
      ]

  is_worse_past : (side : Side) (past : Option ℕ) (order : Resting) → order.arrival < 2 ^ 64 → is_behind side (past_order past) order ≡ true → is_worse side past order.price ≡ true
  is_worse_past side None order soon behind = refl
  is_worse_past side (Some price) order soon behind = worse_end side price order soon behind

  past_worse : (side : Side) (past : Option ℕ) (order : Resting) → is_worse side past order.price ≡ true → is_behind side (past_order past) order ≡ true
  past_worse side None order worse = refl
  past_worse side (Some price) order worse = or_left (is_better side price order.price) (eqb price order.price && ltb (2 ^ 64) order.arrival) worse

  worse_trans : (side : Side) (past : Option ℕ) (price other : ℕ) → is_worse side past price ≡ true → is_better side price other ≡ true → is_worse side past other ≡ true
  worse_trans side None price other worse better = refl
  worse_trans side (Some last) price other worse better = better-trans side last price other worse better

  -- an open order behind the last level
  record OpenHere (t : Taker) (lines : List ℕ) (weight : ℕ) (past : Option ℕ) (order : Resting) : Type 0 where
    pub there : Among order book.orders
    pub is_open : IsOpen t (get_or lines order.bank 0 / weight) order
    pub passes : is_worse_of t.side order.bank past order ≡ true

  open_here : (t : Taker) (lines : List ℕ) (weight : ℕ) (past : Option ℕ) (order : Resting) → Among order (open_behind (λ bank. get_or lines bank 0 / weight) t (past_order past) book.orders) → OpenHere t lines weight past order
  open_here t lines weight past order among =
      let kept = Among-filter (λ (q : Resting). is_open t (get_or lines q.bank 0 / weight) q && is_behind t.side (past_order past) q) book.orders order among in
      let parts = and_parts (is_open t (get_or lines order.bank 0 / weight) order) (is_behind t.side (past_order past) order) kept.1 in
      let is : IsOpen t (get_or lines order.bank 0 / weight) order = is_open-says t (get_or lines order.bank 0 / weight) order parts.0 in
      record {
        there = kept.0;
        is_open = is;
        passes = and_from (is_of order.bank order && is_opposite t.side order.side) (is_worse t.side past order.price)
            (and_from (is_of order.bank order) (is_opposite t.side order.side) (eq-eqb order.bank order.bank refl) is.opposite)
            (is_worse_past t.side past order (early order kept.0) parts.1);
      }

  -- its bank's head is no worse
  record HasHead (walk : LevelWalk) (order : Resting) : Type 0 where
    pub head : ℕ
    pub is : price_of walk order.bank ≡ Some head
    pub first : is_better walk.taker order.price head ≡ false

  has_head : (past : Option ℕ) (walk : LevelWalk) (t : Taker) (order : Resting) → IsWeight walk.weight → Each (λ (q : Resting). q.bank < 65) book.orders → t.side ≡ walk.taker → HaveLevels book past walk → OpenHere t walk.lines walk.weight past order → HasHead walk order
  has_head past walk t order weighs few side have here =
      let level : IsPriceOf walk.taker order.bank past book.orders (price_in walk order.bank) = have order.bank (Each-among (λ (q : Resting). q.bank < 65) book.orders order few here.there) here.is_open.reach in
      let passes : is_worse_of walk.taker order.bank past order ≡ true = subst (λ (s : Side). is_worse_of s order.bank past order ≡ true) side here.passes in
      let pay : walk.weight ≤ slice_index walk.lines order.bank = paid_for (slice_index walk.lines order.bank) walk.weight weighs here.is_open.reach in
      let answer : (found : Option ℕ) → price_in walk order.bank ≡ found → IsPriceOf walk.taker order.bank past book.orders found → HasHead walk order = λ found.
      elim found as (λ (f : Option ℕ). price_in walk order.bank ≡ f → IsPriceOf walk.taker order.bank past book.orders f → HasHead walk order) [
        | None ↦ λ _ none. absurd (both_ways (is_worse_of walk.taker order.bank past order) (Each-among (λ (q : Resting). is_worse_of walk.taker order.bank past q ≡ false) book.orders order none here.there) passes)
        | Some head ↦ λ is some. record {
          head = head;
          is = price_there walk order.bank head pay is;
          first = Each-among (λ (q : Resting). is_worse_of walk.taker order.bank past q ≡ true → is_better walk.taker q.price head ≡ false) book.orders order some.first here.there passes;
        }
      ] in
      answer (price_in walk order.bank) refl level

  some_none : (n : ℕ) → None ≡ Some n → ⊥
  some_none n same = cc

  none_left : (past : Option ℕ) (walk : LevelWalk) (t : Taker) → IsWeight walk.weight → Each (λ (q : Resting). q.bank < 65) book.orders → t.side ≡ walk.taker → HaveLevels book past walk → IsBestPrice walk 65 None
      → open_behind (λ bank. get_or walk.lines bank 0 / walk.weight) t (past_order past) book.orders ≡ []
  none_left past walk t weighs few side have best =
      none_among (open_behind (λ bank. get_or walk.lines bank 0 / walk.weight) t (past_order past) book.orders) (λ order there.
      let here = open_here t walk.lines walk.weight past order there in
      let head = has_head past walk t order weighs few side have here in
      let no' : None ≡ Some head.head = sym (best order.bank (Each-among (λ (q : Resting). q.bank < 65) book.orders order few here.there)) ∙ head.is in
      some_none head.head no')

  -- A taker comes to the orders of the best price.
  going_to : (past : Option ℕ) (walk : LevelWalk) (t : Taker) (price : ℕ) (weighs : IsWeight walk.weight) → Each (λ (q : Resting). q.bank < 65) book.orders → t.side ≡ walk.taker → HaveLevels book past walk → IsBestPrice walk 65 (Some price) → IsEager t book.orders
      → slice_index walk.lines t.bank ≡ 0 → total (λ (n : ℕ). n) walk.lines < t.left → Going walk.weight book.orders price weighs.0 book.orders t walk.lines (past_order past)
  going_to past walk t price weighs few side have best eager own enough =
      let worse : is_worse t.side past price ≡ true = subst (λ (s : Side). is_worse s past price ≡ true) (sym side) (best_worse book past walk price weighs have best) in
      record {
        rising = valid.rising;
        within = λ order there. there;
        eager = eager;
        own = own;
        enough = enough;
        early = early;
        here = λ order there same. past_worse t.side past order (ap (is_worse t.side past) same ∙ worse);
        later = λ order behind. past_worse t.side past order (worse_trans t.side past price order.price worse behind);
        opens = λ order there.
            let here = open_here t walk.lines walk.weight past order there in
            let head = has_head past walk t order weighs few side have here in
            let no_better : is_better walk.taker head.head price ≡ false = best.1 order.bank head.head (Each-among (λ (q : Resting). q.bank < 65) book.orders order few here.there) head.is in
            let below : is_better t.side order.price price ≡ false
            = subst (λ (s : Side). is_better s order.price price ≡ false) (sym side)
            (elim (better-or_same walk.taker order.price head.head head.first) [
              | inl same ↦ ap (λ p. is_better walk.taker p price) same ∙ no_better
              | inr head_first ↦ false_from_ne_true (is_better walk.taker order.price price) (λ above.
                  both_ways (is_better walk.taker head.head price) no_better (better-trans walk.taker head.head order.price price head_first above))
            ]) in
            elim (better-or_same t.side order.price price below) [
              | inl same ↦ inl (here.there, same)
              | inr later ↦ inr later
            ];
      }

  -- One level more.
  pub record LevelStep (past : Option ℕ) (walk taken : LevelWalk) (t : Taker) (price lots : ℕ) : Type 0 where
    pub fills : List Fill
    pub lots_are : lots_of fills ≡ lots
    pub some : 1 ≤ length fills
    pub prices : Each (λ (f : Fill). f.price ≡ price) fills
    pub goes_on : (more : List Fill) (left : ℕ) → Planned walk.weight (slice_index taken.lines) book.orders (less t lots) (Some (at_end price)) more left
        → Planned walk.weight (slice_index walk.lines) book.orders t (past_order past) (fills ++ more) left

  pub level_step : (past : Option ℕ) (walk taken : LevelWalk) (t : Taker) (price lots : ℕ) → IsWeight walk.weight → Each (λ (q : Resting). q.bank < 65) book.orders → t.side ≡ walk.taker → HaveLevels book past walk → IsBestPrice walk 65 (Some price) → IsEager t book.orders
      → slice_index walk.lines t.bank ≡ 0 → total (λ (n : ℕ). n) walk.lines < t.left → length walk.lines ≡ 65 → length taken.lines ≡ 65 → AreTaken book walk taken price lots → LevelStep past walk taken t price lots
  level_step past walk taken t price lots weighs few side have best eager own enough long long' all =
      let going = going_to past walk t price weighs few side have best eager own enough in
      let taking : Taken walk.weight book.orders price weighs.0 book.orders t walk.lines (past_order past) = takes walk.weight book.orders price weighs.0 book.orders t walk.lines (past_order past) going in
      let same : taking.table ≡ taken.lines = same_table taking.table taken.lines (taking.long ∙ long ∙ sym long') (λ bank.
      elim (cases_lt bank 65) [
        | inl below ↦
            taking.lines_are bank ∙ ap (λ (s : Side). line_behind walk.weight s price book.orders bank (get_or walk.lines bank 0)) side ∙ sym (all.taken bank below).line
        | inr past ↦ get_or_past taking.table bank 0 (omega (arith, taking.long, long)) ∙ sym (get_or_past taken.lines bank 0 (omega (arith, long')))
      ]) in
      let lots_same : lots_of taking.fills ≡ lots
      = same_lots (lots_of taking.fills) lots walk.weight weighs.0 (omega (arith, taking.paid, all.sum.paid, ap (total (λ (n : ℕ). n)) same)) in
      let has = best_level book past walk price weighs have best in
      let order : Resting = has.level.order in
      let two = and_parts (is_of has.bank order && is_opposite walk.taker order.side) (is_worse walk.taker past order.price) has.level.passes in
      let one = and_parts (is_of has.bank order) (is_opposite walk.taker order.side) two.0 in
      let owner : order.bank ≡ has.bank = eqb-true order.bank has.bank one.0 in
      let reach : 1 ≤ get_or walk.lines order.bank 0 / walk.weight = subst (λ (b : ℕ). 1 ≤ get_or walk.lines b 0 / walk.weight) (sym owner) has.reach in
      let opens : IsOpen t (get_or walk.lines order.bank 0 / walk.weight) order = record {
        opposite = subst (λ (s : Side). is_opposite s order.side ≡ true) (sym side) one.1;
        other = λ mine. let none : get_or walk.lines order.bank 0 ≡ 0 = ap (λ (b : ℕ). get_or walk.lines b 0) mine ∙ own in omega (arith, reach, none, div-le_self (get_or walk.lines order.bank 0) walk.weight);
        reach = reach;
        crosses = Each-among (λ (q : Resting). crosses t.side t.price q.price ≡ true) book.orders order eager.crosses has.level.there;
        earlier = Each-among (λ (q : Resting). q.arrival < t.arrival) book.orders order eager.came has.level.there;
      } in
      record {
        fills = taking.fills;
        lots_are = lots_same;
        some = taking.some order has.level.there has.level.price (open_parts t (get_or walk.lines order.bank 0 / walk.weight) order opens);
        prices = taking.prices;
        goes_on = λ more left planned.
            taking.goes_on more left
            (subst (λ (ls : List ℕ). Planned walk.weight (λ bank. get_or ls bank 0) book.orders (less t (lots_of taking.fills)) (Some (at_end price)) more left) (sym same)
            (subst (λ n. Planned walk.weight (slice_index taken.lines) book.orders (less t n) (Some (at_end price)) more left) (sym lots_same) planned));
      }

  -- what comes behind a price is at another one
  pub elsewhere : (weight : ℕ) (lines : List ℕ) (t : Taker) (price : ℕ) (more : List Fill) (left : ℕ) → Planned weight (slice_index lines) book.orders t (Some (at_end price)) more left → BeginsElsewhere price more
  elsewhere weight lines t price [] left planned = tt
  elsewhere weight lines t price (fill ∷ more) left planned = λ same.
      let best : Resting = planned.0 in
      let kept = Among-filter (λ (q : Resting). is_open t (get_or lines q.bank 0 / weight) q && is_behind t.side (Some (at_end price)) q) book.orders best planned.2.there in
      let parts = and_parts (is_open t (get_or lines best.bank 0 / weight) best) (is_behind t.side (Some (at_end price)) best) kept.1 in
      let worse : is_better t.side price best.price ≡ true = worse_end t.side price best (early best kept.0) parts.1 in
      let price_is : best.price ≡ price = sym (ap (λ (f : Fill). f.price) planned.3) ∙ same in
      both_ways (is_better t.side price best.price) (ap (is_better t.side price) price_is ∙ better-self t.side price) worse

  -- The levels so far.

  -- what they are of the sweep of one taker
  pub record WentLevels (first : LevelWalk) (past : Option ℕ) (now : LevelWalk) (t : Taker) (levels : List Level) : Type 0 where
    pub fills : List Fill
    pub enough : total (λ (n : ℕ). n) now.lines + lots_of fills < t.left
    pub goes_on : (more : List Fill) (left : ℕ) → Planned first.weight (slice_index now.lines) book.orders (less t (lots_of fills)) (past_order past) more left
        → Planned first.weight (slice_index first.lines) book.orders t None (fills ++ more) left
    pub levels_are : (more : List Fill) (left : ℕ) → Planned first.weight (slice_index now.lines) book.orders (less t (lots_of fills)) (past_order past) more left
        → levels_of (fills ++ more) ≡ levels ++ levels_of more

  -- and of each
  pub record OnTheWay (first now : LevelWalk) (bank : ℕ) (levels : List Level) : Type 0 where
    pub weighs : IsWeight first.weight
    pub weight : now.weight ≡ first.weight
    pub taker : now.taker ≡ first.taker
    pub long : length now.lines ≡ 65
    pub past : Option ℕ
    pub have : HaveLevels book past now
    pub own : slice_index now.lines bank ≡ 0
    pub most : total (λ (n : ℕ). n) now.lines ≤ total (λ (n : ℕ). n) first.lines
    pub few : length levels ≤ 10
    pub went : (t : Taker) → t.bank ≡ bank → t.side ≡ first.taker → IsEager t book.orders → total (λ (n : ℕ). n) first.lines < t.left → WentLevels first past now t levels

  pub way_begins : (walk : LevelWalk) (bank : ℕ) (levels : List Level) → IsWeight walk.weight → length walk.lines ≡ 65 → HaveLevels book None walk → slice_index walk.lines bank ≡ 0 → levels ≡ []
      → OnTheWay walk walk bank levels
  way_begins walk bank levels weighs long have own none =
      subst (OnTheWay walk walk bank) (sym none) (record {
        weighs = weighs;
        weight = refl;
        taker = refl;
        long = long;
        past = None;
        have = have;
        own = own;
        most = omega arith;
        few = omega arith;
        went = λ t _ _ _ enough. record {
          fills = [];
          enough = omega (arith, enough);
          goes_on = λ more left planned.
              subst (λ (u : Taker). Planned walk.weight (slice_index walk.lines) book.orders u None more left) (less_none t) planned;
          levels_are = λ more left planned. refl;
        };
      })

  -- a plan from behind a level, told of the walk that took it
  from_taken : (first now new : LevelWalk) (t : Taker) (price before lots all : ℕ) (more : List Fill) (left : ℕ) → now.weight ≡ first.weight → all ≡ before + lots
      → Planned first.weight (slice_index new.lines) book.orders (less t all) (Some (at_end price)) more left
      → Planned now.weight (slice_index new.lines) book.orders (less (less t before) lots) (Some (at_end price)) more left
  from_taken first now new t price before lots all more left weigh sum planned =
      subst (λ (w : ℕ). Planned w (slice_index new.lines) book.orders (less (less t before) lots) (Some (at_end price)) more left) (sym weigh)
      (subst (λ (u : Taker). Planned first.weight (slice_index new.lines) book.orders u (Some (at_end price)) more left) (ap (less t) sum ∙ sym (less_less t before lots)) planned)

  went_on : (first : LevelWalk) (past : Option ℕ) (now new : LevelWalk) (t : Taker) (price lots : ℕ) (levels : List Level) → IsWeight first.weight → now.weight ≡ first.weight → AreTaken book now new price lots
      → (w : WentLevels first past now t levels) → LevelStep past now new (less t (lots_of w.fills)) price lots → WentLevels first (Some price) new t (levels ++ level_is price lots ∷ [])
  unfolding level_is
  went_on first past now new t price lots levels weighs weigh all w step =
      let before : ℕ = lots_of w.fills in
      let sum : lots_of (w.fills ++ step.fills) ≡ before + lots = total-append (λ (f : Fill). f.lots) w.fills step.fills ∙ ap (λ n. before + n) step.lots_are in
      let less_lines : total (λ (n : ℕ). n) new.lines + lots ≤ total (λ (n : ℕ). n) now.lines
      = omega (arith, all.sum.paid, once_more now.weight lots (subst (λ (n : ℕ). 1 ≤ n) (sym weigh) weighs.0)) in
      let back : (more : List Fill) (left : ℕ) → Planned first.weight (slice_index new.lines) book.orders (less t (lots_of (w.fills ++ step.fills))) (Some (at_end price)) more left
      → Planned now.weight (slice_index new.lines) book.orders (less (less t before) lots) (Some (at_end price)) more left
      = λ more left planned. from_taken first now new t price before lots (lots_of (w.fills ++ step.fills)) more left weigh sum planned in
      let here : (more : List Fill) (left : ℕ) → Planned first.weight (slice_index new.lines) book.orders (less t (lots_of (w.fills ++ step.fills))) (Some (at_end price)) more left
      → Planned first.weight (slice_index now.lines) book.orders (less t before) (past_order past) (step.fills ++ more) left
      = λ more left planned.
      subst (λ (n : ℕ). Planned n (slice_index now.lines) book.orders (less t before) (past_order past) (step.fills ++ more) left) weigh (step.goes_on more left (back more left planned)) in
      record {
        fills = w.fills ++ step.fills;
        enough = omega (arith, w.enough, sum, less_lines);
        goes_on = λ more left planned.
            subst (λ (fs : List Fill). Planned first.weight (slice_index first.lines) book.orders t None fs left) (sym (append_assoc w.fills step.fills more))
            (w.goes_on (step.fills ++ more) left (here more left planned));
        levels_are = λ more left planned.
            ap levels_of (append_assoc w.fills step.fills more)
            ∙ w.levels_are (step.fills ++ more) left (here more left planned)
            ∙ ap (λ (ls : List Level). levels ++ ls)
            (levels_run price step.fills more step.prices step.some (elsewhere now.weight new.lines (less (less t before) lots) price more left (back more left planned))
            ∙ ap (λ n. level_is price n ∷ levels_of more) step.lots_are)
            ∙ sym (append_assoc levels (level_is price lots ∷ []) (levels_of more));
      }

  pub way_on : (first now new : LevelWalk) (bank : ℕ) (levels : List Level) (level : Level) → Each (λ (q : Resting). q.bank < 65) book.orders → (way : OnTheWay first now bank levels) → length levels < 10
      → TakesLevel book now new (Some level) → OnTheWay first new bank (levels ++ level ∷ [])
  unfolding level_is
  way_on first now new bank levels level few way short takes' =
      let best = takes'.0 in
      let all = takes'.1 in
      let weighs : IsWeight now.weight = subst IsWeight (sym way.weight) way.weighs in
      let long : length new.lines ≡ 65 = all.sum.long ∙ way.long in
      record {
        weighs = way.weighs;
        weight = weight_same now new level.lots all.sum ∙ way.weight;
        taker = taker_same now new level.lots all.sum ∙ way.taker;
        long = long;
        past = Some level.price;
        have = levels_behind book now new level.price level.lots all;
        own =
            elim (cases_lt bank 65) [
              | inl below ↦ (all.taken bank below).line ∙ (let it : line_behind now.weight now.taker level.price book.orders bank (slice_index now.lines bank) ≡ 0 = omega (arith, way.own) in it)
              | inr past ↦ get_or_past new.lines bank 0 (omega (arith, long))
            ];
        most = omega (arith, all.sum.paid, way.most);
        few = omega (arith, length-append levels (level ∷ []), short);
        went = λ t mine side eager enough.
            let w = way.went t mine side eager enough in
            let u : Taker = less t (lots_of w.fills) in
            went_on first way.past now new t level.price level.lots levels way.weighs way.weight all w
            (level_step way.past now new u level.price level.lots weighs few (side ∙ sym way.taker) way.have best
            (record { crosses = eager.crosses; came = eager.came })
            (ap (slice_index now.lines) mine ∙ way.own) (omega (arith, w.enough)) way.long long all);
      }

-- The levels of an order that takes all that its lines allow.

module _ (book : Book) (credit : Credit) (weight bank most : ℕ) (side : Side) (first now : LevelWalk) (begins : BeginsAt book credit weight bank side first) (banks : book.banks ≡ credit.banks) (bank_in : bank < credit.banks) (some : 1 ≤ weight) (most_is : IsMost (room_in credit bank) weight most) where
  first_weight : first.weight ≡ weight
  first_weight = ap (λ (w : LevelWalk). w.weight) begins.is

  first_taker : first.taker ≡ side
  first_taker = ap (λ (w : LevelWalk). w.taker) begins.is

  lines_agree : (t : Taker) → t.bank ≡ bank → AgreeInBook weight t (slice_index first.lines) (line_in credit t.bank) book.orders
  lines_agree t mine o there =
      elim (cases_eq o.bank bank) [
        | inl same ↦ inr (open_own t (slice_index first.lines o.bank / weight) o (same ∙ sym mine), open_own t (line_in credit t.bank o.bank / weight) o (same ∙ sym mine))
        | inr differ ↦ inl
            (Each-among (λ (q : Resting). q.bank ≢ bank → slice_index first.lines q.bank ≡ line_in credit bank q.bank) book.orders o begins.line there differ
            ∙ ap (λ (b : ℕ). line_in credit b o.bank) (sym mine))
      ]

  -- an order that wants no more lots than what its bank's total pays for
  lesser : Taker → Taker
  lesser t = affordable (room_in credit t.bank) weight t

  lesser_least : (purse : Option ℕ) (t : Taker) → (affordable purse weight t).left ≤ t.left
  lesser_least None t = omega arith
  lesser_least (Some room) t = omega arith

  taken_off : (a b rest : ℕ) → b ≤ a → a - b + rest + b ≡ a + rest
  taken_off a b rest within = omega (arith, within)

  levelled_by : (t : Taker) (fills : List Fill) (left : ℕ) (levels : List Level) → t.bank ≡ bank → t.pair ≡ book.pair → Planned first.weight (slice_index first.lines) book.orders t None fills left
      → levels ≡ take 10 (cut most (levels_of fills)) → IsLevelled book credit weight t levels
  unfolding lesser
  levelled_by t fills left levels mine pair planned is =
      let planned' : Planned weight (slice_index first.lines) book.orders t None fills left = subst (λ w. Planned w (slice_index first.lines) book.orders t None fills left) first_weight planned in
      let few : lots_of fills ≤ 65 * 10 ^ 15 = omega (arith, planned-paid weight first.lines book.orders t None fills left some planned', begins.most) in
      let u : Taker = lesser t in
      let within : WithinTotal weight (slice_index first.lines) book.orders t (room_in credit t.bank) most fills =
      within-total weight (slice_index first.lines) book.orders t (room_in credit t.bank) most fills left (subst (λ (b : ℕ). IsMost (room_in credit b) weight most) (sym mine) most_is) few planned' in
      record {
        fills = within.made;
        left = t.left - u.left + within.rest;
        sweep = planned-sweep book credit weight t within.made within.rest (t.left - u.left + within.rest) begins.valid banks (subst (λ (b : ℕ). b < credit.banks) (sym mine) bank_in) pair some
            (taken_off t.left u.left within.rest (lesser_least (room_in credit t.bank) t))
            (planned-agrees weight (slice_index first.lines) (line_in credit t.bank) book.orders u None within.made within.rest (lines_agree u mine) within.planned);
        lots = omega (arith, planned-paid weight first.lines book.orders u None within.made within.rest some within.planned, begins.most);
        first = is ∙ ap (take 10) within.levels;
      }

  went_of : (t : Taker) (levels : List Level) → (way : OnTheWay book begins.valid first now bank levels) → t.bank ≡ bank → t.side ≡ side → IsUnlimited book t → WentLevels book begins.valid first way.past now t levels
  went_of t levels way mine side_is unlimited =
      way.went t mine (side_is ∙ sym first_taker) (record { crosses = unlimited.crosses; came = unlimited.came }) (omega (arith, begins.most, unlimited.wants))

  -- nothing more can be reached
  pub reached-whole : (left : ℕ) (whole levels : List Level) → OnTheWay book begins.valid first now bank whole → AreCut most left whole levels → IsBestPrice now 65 None → IsReached book credit weight bank side levels
  reached-whole left whole levels way are best t mine pair side_is unlimited =
      let w = went_of t whole way mine side_is unlimited in
      let u : Taker = less t (lots_of w.fills) in
      let none = none_left book begins.valid way.past now u (subst IsWeight (sym way.weight) way.weighs) begins.few (side_is ∙ sym first_taker ∙ sym way.taker) way.have best in
      let planned : Planned first.weight (slice_index now.lines) book.orders u (past_order way.past) [] u.left
      = subst (λ n. Planned n (slice_index now.lines) book.orders u (past_order way.past) [] u.left) way.weight (refl, inr none) in
      levelled_by t (w.fills ++ []) u.left levels mine pair (w.goes_on [] u.left planned)
      (cut-ended most left whole levels are way.few ∙ sym (ap (λ (ls : List Level). take 10 (cut most ls)) (w.levels_are [] u.left planned ∙ append-nil whole)))

  -- ten levels are there, or the total pays for no more lots
  pub reached-full : (left : ℕ) (whole levels : List Level) → OnTheWay book begins.valid first now bank whole → AreCut most left whole levels → (10 ≤ length levels) ⊎ (left ≡ 0) → IsReached book credit weight bank side levels
  reached-full left whole levels way are ended t mine pair side_is unlimited =
      let w = went_of t whole way mine side_is unlimited in
      let u : Taker = less t (lots_of w.fills) in
      let rest = planned-exists first.weight (slice_index now.lines) book.orders u (past_order way.past) in
      levelled_by t (w.fills ++ rest.0) rest.1 levels mine pair (w.goes_on rest.0 rest.1 rest.2)
      (cut-first most left whole levels are (levels_of rest.0) way.few ended ∙ sym (ap (λ (ls : List Level). take 10 (cut most ls)) (w.levels_are rest.0 rest.1 rest.2)))
