-- A taker that wants more than its lines pay for takes of each bank the least of what the bank has at the best price and of
-- what its line pays for; and goes on behind all orders of that price.
use Rattle.std.proofs.Common.{ℕ, ◌≡◌, ◌+◌, ◌-◌, ◌*◌, ◌/◌, ◌^◌, ◌≤◌, ◌<◌, min, true, false, ◌&&◌, eqb, ltb, List, [], ◌∷◌, ◌++◌, length, ◌⊎◌, inl, inr, refl, ap, sym, subst, ◌∙◌, arith, Option, Some, get_or, get_or-set_same, get_or-set_other}
use Rattle.std.proofs.Math.ListN.{set, length-set}
use Rattle.std.proofs.Math.Nat.{add-mul, add-mul-div_right, div-le_self, div-mul-le_self, mul-le-mul_left}
use Rattle.std.proofs.lemmas.Nat.{le-div}
use Rattle.std.proofs.lemmas.Bool.{cases_Bool, cases_eq, cases_lt, and_parts, and_from, both_ways, or_left, or_right, or_cases, false_from_ne_true, eqb-true, eq-eqb, lt-ltb, ltb-true}
use Rattle.fx_amounts.specs.Price.{crosses}
use Rattle.fx_amounts.specs.declared.side.Side.{Side}
use Rattle.fx_rules.specs.declared.orders.Resting.{Resting}
use Rattle.fx_rules.specs.declared.orders.Fill.{Fill}
use Rattle.fx_rules.specs.Lists.{Among, Each, EachPair, total}
use Rattle.fx_rules.specs.Sound.{ArrivesBefore}
use Rattle.fx_rules.specs.Sweep.{Taker, is_open, is_opposite, is_better, is_preferred, IsBest, amount, fill_with, less}
use Rattle.fx_rules.specs.Plan.{Planned, is_behind, open_behind}
use Rattle.fx_rules.proofs.ListLemmas.{Among-filter, among_filter, Each-among, Each-of, filter_agree_on, filter_cons_true, filter_cons_false}
use Rattle.fx_rules.proofs.Opens.{IsOpen, is_open-says}
use Rattle.fx_rules.proofs.Planning.{open_parts}
use Rattle.fx_rules.proofs.Preference.{preferred_self}
use Rattle.global_book.specs.Book.{is_of, is_level, level_lots}
use Rattle.match_sweep.specs.inside.Reaches.{at_end, line_behind}
use Rattle.match_sweep.proofs.Tables.{total-changed, none-kept}
use Rattle.match_sweep.proofs.Planning.{lots_cost, walk-step, within_table}
use Rattle.match_sweep.proofs.Picking.{not_back, same_tests, still_behind}

abbrev pub lots_of : List Fill → ℕ
lots_of fills = total (λ (f : Fill). f.lots) fills

-- Numbers.

pub once_more : (w lots : ℕ) → 1 ≤ w → lots ≤ lots * w
once_more w lots some = let it : lots * 1 ≤ lots * w = mul-le-mul_left lots some in omega arith

-- a shorter line pays for no more
fewer : {a b : ℕ} (w : ℕ) → 1 ≤ w → a ≤ b → a / w ≤ b / w
fewer {a} {b} w some less' = le-div (a / w) b w (omega arith) (omega (arith, div-mul-le_self a w, less'))

-- of what a line pays for, some lots are taken
line_less : (line w lots : ℕ) → 1 ≤ w → lots ≤ line / w → (line - lots * w) / w ≡ line / w - lots
line_less line w lots some few =
    let rest : ℕ = line - lots * w in
    let whole : line ≡ rest + lots * w = omega (arith, lots_cost lots line w few) in
    let parts : line / w ≡ rest / w + lots = ap (λ n. n / w) whole ∙ add-mul-div_right rest lots (omega arith) in
    omega arith

-- what is taken of one order, and then of the others of its level
two_takes : (line w had more : ℕ) → 1 ≤ w → line - min had (line / w) * w - min more ((line - min had (line / w) * w) / w) * w ≡ line - min (had + more) (line / w) * w
two_takes line w had more some =
    let reach : ℕ = line / w in
    let first : ℕ = min had reach in
    let rest : (line - first * w) / w ≡ reach - first = line_less line w first some (omega arith) in
    let second : ℕ = min more (reach - first) in
    let both : min (had + more) reach ≡ first + second = omega arith in
    ap (λ r. line - first * w - min more r * w) rest
    ∙ omega (arith, add-mul first second w)
    ∙ ap (λ n. line - n * w) (sym both)

-- Planned sweeps behind one order or another.

pub planned-last : (weight : ℕ) (lines : ℕ → ℕ) (book : List Resting) (t : Taker) (last other : Option Resting) (fills : List Fill) (left : ℕ)
    → open_behind (λ bank. lines bank / weight) t other book ≡ open_behind (λ bank. lines bank / weight) t last book → Planned weight lines book t last fills left → Planned weight lines book t other fills left
planned-last weight lines book t last other [] left same planned = (planned.0, elim planned.1 [ inl done ↦ inl done | inr none ↦ inr (same ∙ none) ])
planned-last weight lines book t last other (f ∷ fills) left same planned =
    (planned.0, planned.1, subst (λ (orders : List Resting). IsBest t.side orders planned.0) (sym same) planned.2, planned.3, planned.4)

-- the taker with so many lots less, and less again
pub less_less : (t : Taker) (a b : ℕ) → less (less t a) b ≡ less t (a + b)
less_less t a b = ap (λ n. record t { left = n }) (let it : t.left - a - b ≡ t.left - (a + b) = omega arith in it)

pub less_none : (t : Taker) → less t 0 ≡ t
less_none t = ap (λ n. record t { left = n }) (let it : t.left - 0 ≡ t.left = omega arith in it)

-- Lots of a level.

level_cons : (taker : Side) (bank price : ℕ) (order : Resting) (orders : List Resting) → is_level taker bank price order ≡ true → level_lots taker bank price (order ∷ orders) ≡ order.left + level_lots taker bank price orders
level_cons taker bank price order orders is = ap (total (λ (o : Resting). o.left)) (filter_cons_true (is_level taker bank price) order orders is)

level_skip : (taker : Side) (bank price : ℕ) (order : Resting) (orders : List Resting) → is_level taker bank price order ≡ false → level_lots taker bank price (order ∷ orders) ≡ level_lots taker bank price orders
level_skip taker bank price order orders not_is = ap (total (λ (o : Resting). o.left)) (filter_cons_false (is_level taker bank price) order orders not_is)

pub record LevelParts (taker : Side) (bank price : ℕ) (order : Resting) : Type 0 where
  pub owner : order.bank ≡ bank
  pub opposite : is_opposite taker order.side ≡ true
  pub price_is : order.price ≡ price

pub level_parts : (taker : Side) (bank price : ℕ) (order : Resting) → is_level taker bank price order ≡ true → LevelParts taker bank price order
level_parts taker bank price order is =
    let two = and_parts (is_of bank order && is_opposite taker order.side) (eqb order.price price) is in
    let one = and_parts (is_of bank order) (is_opposite taker order.side) two.0 in
    record { owner = eqb-true order.bank bank one.0; opposite = one.1; price_is = eqb-true order.price price two.1 }

pub parts_level : (taker : Side) (bank price : ℕ) (order : Resting) → LevelParts taker bank price order → is_level taker bank price order ≡ true
parts_level taker bank price order parts =
    and_from (is_of bank order && is_opposite taker order.side) (eqb order.price price)
    (and_from (is_of bank order) (is_opposite taker order.side) (eq-eqb order.bank bank parts.owner) parts.opposite) (eq-eqb order.price price parts.price_is)

-- An eager taker takes any price of the book, and comes after all of its orders.
pub record IsEager (t : Taker) (book : List Resting) : Type 0 where
  pub crosses : Each (λ order. crosses t.side t.price order.price ≡ true) book
  pub came : Each (λ order. order.arrival < t.arrival) book

module _ (weight : ℕ) (book : List Resting) (price : ℕ) (some_weight : 1 ≤ weight) where
  abbrev reach_in : List ℕ → ℕ → ℕ
  reach_in lines bank = get_or lines bank 0 / weight

  -- The taker has come to the orders of the price in the rest of the book: what is open to it is among these, or worse.
  pub record Going (rest : List Resting) (t : Taker) (lines : List ℕ) (last : Option Resting) : Type 0 where
    pub rising : EachPair ArrivesBefore rest
    pub within : (order : Resting) → Among order rest → Among order book
    pub eager : IsEager t book
    pub own : get_or lines t.bank 0 ≡ 0
    pub enough : total (λ (n : ℕ). n) lines < t.left
    pub early : (order : Resting) → Among order book → order.arrival < 2 ^ 64
    pub here : (order : Resting) → Among order rest → order.price ≡ price → is_behind t.side last order ≡ true
    pub later : (order : Resting) → is_better t.side price order.price ≡ true → is_behind t.side last order ≡ true
    pub opens : (order : Resting) → Among order (open_behind (reach_in lines) t last book) → (Among order rest × (order.price ≡ price)) ⊎ (is_better t.side price order.price ≡ true)

  -- What it takes of them.
  pub record Taken (rest : List Resting) (t : Taker) (lines : List ℕ) (last : Option Resting) : Type 0 where
    pub fills : List Fill
    pub table : List ℕ
    pub long : length table ≡ length lines
    pub prices : Each (λ (f : Fill). f.price ≡ price) fills
    pub lines_are : (bank : ℕ) → get_or table bank 0 ≡ line_behind weight t.side price rest bank (get_or lines bank 0)
    pub paid : lots_of fills * weight + total (λ (n : ℕ). n) table ≡ total (λ (n : ℕ). n) lines
    pub some : (order : Resting) → Among order rest → order.price ≡ price → is_open t (reach_in lines order.bank) order ≡ true → 1 ≤ length fills
    pub goes_on : (more : List Fill) (left : ℕ) → Planned weight (λ bank. get_or table bank 0) book (less t (lots_of fills)) (Some (at_end price)) more left
        → Planned weight (λ bank. get_or lines bank 0) book t last (fills ++ more) left

  -- at the end of the book all that is open is worse
  behind_end : (t : Taker) (order : Resting) → order.arrival < 2 ^ 64 → is_behind t.side (Some (at_end price)) order ≡ true → is_better t.side price order.price ≡ true
  behind_end t order early behind =
      elim (or_cases (is_better t.side price order.price) (eqb price order.price && ltb (2 ^ 64) order.arrival) behind) [
        | inl better ↦ better
        | inr same ↦ let parts = and_parts (eqb price order.price) (ltb (2 ^ 64) order.arrival) same in
            absurd (let late = ltb-true (2 ^ 64) order.arrival parts.1 in omega arith)
      ]

  taken_none : (t : Taker) (lines : List ℕ) (last : Option Resting) → Going [] t lines last → Taken [] t lines last
  taken_none t lines last going = record {
    fills = [];
    table = lines;
    long = refl;
    prices = tt;
    lines_are = λ bank.
        let none : min 0 (reach_in lines bank) * weight ≡ 0 = ap (λ n. n * weight) (let it : min 0 (reach_in lines bank) ≡ 0 = omega arith in it) ∙ (let it : 0 * weight ≡ 0 = omega arith in it) in
        omega (arith, none);
    paid = omega arith;
    some = λ order there. absurd there;
    goes_on = λ more left planned.
        let from : Planned weight (λ bank. get_or lines bank 0) book t (Some (at_end price)) more left = subst (λ (u : Taker). Planned weight (λ bank. get_or lines bank 0) book u (Some (at_end price)) more left) (less_none t) planned in
        planned-last weight (λ bank. get_or lines bank 0) book t (Some (at_end price)) last more left
        (filter_agree_on (λ (o : Resting). is_open t (reach_in lines o.bank) o && is_behind t.side last o) (λ (o : Resting). is_open t (reach_in lines o.bank) o && is_behind t.side (Some (at_end price)) o) book
        (λ o there. same_tests (is_open t (reach_in lines o.bank) o && is_behind t.side last o) (is_open t (reach_in lines o.bank) o && is_behind t.side (Some (at_end price)) o)
        (λ holds.
        let parts = and_parts (is_open t (reach_in lines o.bank) o) (is_behind t.side last o) holds in
        and_from (is_open t (reach_in lines o.bank) o) (is_behind t.side (Some (at_end price)) o) parts.0
        (elim (going.opens o (among_filter (λ (q : Resting). is_open t (reach_in lines q.bank) q && is_behind t.side last q) book o there holds)) [
          | inl none ↦ absurd none.0
          | inr worse ↦ or_left (is_better t.side price o.price) (eqb price o.price && ltb (2 ^ 64) o.arrival) worse
        ]))
        (λ holds.
        let parts = and_parts (is_open t (reach_in lines o.bank) o) (is_behind t.side (Some (at_end price)) o) holds in
        and_from (is_open t (reach_in lines o.bank) o) (is_behind t.side last o) parts.0
        (going.later o (behind_end t o (going.early o there) parts.1)))))
        from;
  }

  -- Of the first order of the rest the taker takes what it can, and goes on behind it.
  module _ (order : Resting) (rest : List Resting) (t : Taker) (lines : List ℕ) (last : Option Resting) (going : Going (order ∷ rest) t lines last) where
    abbrev reach : ℕ
    reach = reach_in lines order.bank

    abbrev line : ℕ
    line = get_or lines order.bank 0

    abbrev lots : ℕ
    lots = amount t order reach

    abbrev after : List ℕ
    after = set lines order.bank (line - lots * weight)

    module _ (price_is : order.price ≡ price) (is_open_it : is_open t reach order ≡ true) where
      opened : IsOpen t reach order
      opened = is_open-says t reach order is_open_it

      row : order.bank < length lines
      row = within_table lines order.bank (let it : 1 ≤ line = omega (arith, opened.reach, div-le_self line weight) in it)

      -- the taker wants more than the line pays for
      wants : reach < t.left
      wants =
          let changed = total-changed lines order.bank 0 row in
          omega (arith, changed, going.enough, div-le_self line weight)

      lots_are : lots ≡ min order.left reach
      lots_are = omega (arith, wants)

      paid_for : lots * weight ≤ line
      paid_for = lots_cost lots line weight (omega (arith, lots_are))

      is_here : is_behind t.side last order ≡ true
      is_here = going.here order (inl refl) price_is

      -- an order that comes behind this one
      behind_it : (q : Resting) → q.price ≡ price → order.arrival < q.arrival → is_preferred t.side order q ≡ true
      behind_it q same later =
          or_right (is_better t.side order.price q.price) (eqb order.price q.price && ltb order.arrival q.arrival)
          (and_from (eqb order.price q.price) (ltb order.arrival q.arrival) (eq-eqb order.price q.price (price_is ∙ sym same)) (lt-ltb order.arrival q.arrival later))

      worse_behind : (q : Resting) → is_better t.side price q.price ≡ true → is_preferred t.side order q ≡ true
      worse_behind q worse =
          or_left (is_better t.side order.price q.price) (eqb order.price q.price && ltb order.arrival q.arrival) (ap (λ p. is_better t.side p q.price) price_is ∙ worse)

      is_best : IsBest t.side (open_behind (reach_in lines) t last book) order
      is_best = record {
        there = among_filter (λ (q : Resting). is_open t (reach_in lines q.bank) q && is_behind t.side last q) book order (going.within order (inl refl))
            (and_from (is_open t reach order) (is_behind t.side last order) is_open_it is_here);
        first = Each-of (λ (q : Resting). is_preferred t.side q order ≡ false) (open_behind (reach_in lines) t last book) (λ q there.
            elim (going.opens q there) [
              | inl mine ↦ elim mine.0 [
                | inl same ↦ subst (λ (r : Resting). is_preferred t.side r order ≡ false) (sym same) (false_from_ne_true (is_preferred t.side order order) (preferred_self t.side order))
                | inr later ↦ not_back t.side order q (behind_it q mine.1 (Each-among (ArrivesBefore order) rest q going.rising.0 later).arrival)
              ]
              | inr worse ↦ not_back t.side order q (worse_behind q worse)
            ]);
      }

      -- a bank's line only falls
      falls : (bank : ℕ) → get_or after bank 0 ≤ get_or lines bank 0
      falls bank =
          elim (cases_eq bank order.bank) [
            | inl same ↦ omega (arith, ap (λ (b : ℕ). get_or after b 0) same, ap (λ (b : ℕ). get_or lines b 0) same, get_or-set_same lines order.bank (line - lots * weight) 0 row)
            | inr differ ↦ omega (arith, get_or-set_other lines order.bank bank (line - lots * weight) 0 differ)
          ]

      was_open : (q : Resting) → Among q (open_behind (reach_in after) (less t lots) (Some order) book) → Among q (open_behind (reach_in lines) t last book) × (is_preferred t.side order q ≡ true)
      was_open q there =
          let kept = Among-filter (λ (o : Resting). is_open (less t lots) (reach_in after o.bank) o && is_behind t.side (Some order) o) book q there in
          let parts = and_parts (is_open (less t lots) (reach_in after q.bank) q) (is_preferred t.side order q) kept.1 in
          let is : IsOpen (less t lots) (reach_in after q.bank) q = is_open-says (less t lots) (reach_in after q.bank) q parts.0 in
          let more : reach_in after q.bank ≤ reach_in lines q.bank = fewer weight some_weight (falls q.bank) in
          let before : IsOpen t (reach_in lines q.bank) q = record { opposite = is.opposite; other = is.other; reach = omega (arith, is.reach, more); crosses = is.crosses; earlier = is.earlier } in (
            among_filter (λ (o : Resting). is_open t (reach_in lines o.bank) o && is_behind t.side last o) book q kept.0
                (and_from (is_open t (reach_in lines q.bank) q) (is_behind t.side last q) (open_parts t (reach_in lines q.bank) q before) (still_behind t.side last order q is_here parts.1)),
            parts.1,
          )

      paid_total : lots * weight + total (λ (n : ℕ). n) after ≡ total (λ (n : ℕ). n) lines
      paid_total = let changed = total-changed lines order.bank (line - lots * weight) row in omega (arith, changed, paid_for)

      going_on : Going rest (less t lots) after (Some order)
      going_on = record {
        rising = going.rising.1;
        within = λ q there. going.within q (inr there);
        eager = record { crosses = going.eager.crosses; came = going.eager.came };
        own = none-kept lines order.bank t.bank (line - lots * weight) row (omega arith) going.own;
        enough = omega (arith, paid_total, going.enough, once_more weight lots some_weight, lots_are, wants);
        early = going.early;
        here = λ q there same. behind_it q same (Each-among (ArrivesBefore order) rest q going.rising.0 there).arrival;
        later = worse_behind;
        opens = λ q there.
            let was = was_open q there in
            elim (going.opens q was.0) [
              | inr worse ↦ inr worse
              | inl mine ↦ elim mine.0 [
                | inr later ↦ inl (later, mine.1)
                | inl same ↦ absurd (preferred_self t.side order (subst (λ (r : Resting). is_preferred t.side order r ≡ true) same was.1))
              ]
            ];
      }

      line_of : (bank : ℕ) → line_behind weight t.side price rest bank (get_or after bank 0) ≡ line_behind weight t.side price (order ∷ rest) bank (get_or lines bank 0)
      line_of bank =
          elim (cases_eq bank order.bank) [
            | inl same ↦
                let more : ℕ = level_lots t.side bank price rest in
                let here : get_or after bank 0 ≡ line - lots * weight = ap (λ (b : ℕ). get_or after b 0) same ∙ get_or-set_same lines order.bank (line - lots * weight) 0 row in
                let was : get_or lines bank 0 ≡ line = ap (λ (b : ℕ). get_or lines b 0) same in
                let mine : level_lots t.side bank price (order ∷ rest) ≡ order.left + more
                = level_cons t.side bank price order rest (parts_level t.side bank price order (record { owner = sym same; opposite = opened.opposite; price_is = price_is })) in
                ap (λ n. n - min more (n / weight) * weight) (here ∙ ap (λ n. line - n * weight) lots_are)
                ∙ two_takes line weight order.left more some_weight
                ∙ ap (λ n. line - min n (line / weight) * weight) (sym mine)
                ∙ ap (λ n. n - min (level_lots t.side bank price (order ∷ rest)) (n / weight) * weight) (sym was)
            | inr differ ↦
                let other : get_or after bank 0 ≡ get_or lines bank 0 = get_or-set_other lines order.bank bank (line - lots * weight) 0 differ in
                let not_mine : is_level t.side bank price order ≡ false = false_from_ne_true (is_level t.side bank price order) (λ is. differ (sym (level_parts t.side bank price order is).owner)) in
                ap (λ n. n - min (level_lots t.side bank price rest) (n / weight) * weight) other
                ∙ ap (λ n. get_or lines bank 0 - min n (get_or lines bank 0 / weight) * weight) (sym (level_skip t.side bank price order rest not_mine))
          ]

      pub taken_one : Taken rest (less t lots) after (Some order) → Taken (order ∷ rest) t lines last
      taken_one next = record {
        fills = fill_with t order lots ∷ next.fills;
        table = next.table;
        long = next.long ∙ length-set lines order.bank (line - lots * weight);
        prices = (price_is, next.prices);
        lines_are = λ bank. next.lines_are bank ∙ line_of bank;
        paid = omega (arith, add-mul lots (lots_of next.fills) weight, next.paid, paid_total);
        some = λ q there same is_it. omega arith;
        goes_on = λ more left planned.
            walk-step weight lines book t last order lots (next.fills ++ more) left (omega (arith, wants)) is_best refl row
            (next.goes_on more left (subst (λ (u : Taker). Planned weight (λ bank. get_or next.table bank 0) book u (Some (at_end price)) more left) (sym (less_less t lots (lots_of next.fills))) planned));
      }

    -- It takes nothing of an order at another price, or that is not open.
    module _ (not_taken : (order.price ≡ price) → is_open t reach order ≡ true → ⊥) where
      going_past : Going rest t lines last
      going_past = record {
        rising = going.rising.1;
        within = λ q there. going.within q (inr there);
        eager = going.eager;
        own = going.own;
        enough = going.enough;
        early = going.early;
        here = λ q there same. going.here q (inr there) same;
        later = going.later;
        opens = λ q there.
            elim (going.opens q there) [
              | inr worse ↦ inr worse
              | inl mine ↦ elim mine.0 [
                | inr later ↦ inl (later, mine.1)
                | inl same ↦
                    let kept = Among-filter (λ (o : Resting). is_open t (reach_in lines o.bank) o && is_behind t.side last o) book q there in
                    let is_it : is_open t (reach_in lines q.bank) q ≡ true = (and_parts (is_open t (reach_in lines q.bank) q) (is_behind t.side last q) kept.1).0 in
                    absurd (not_taken (subst (λ (r : Resting). r.price ≡ price) same mine.1) (subst (λ (r : Resting). is_open t (reach_in lines r.bank) r ≡ true) same is_it))
              ]
            ];
      }

      -- an order of the level that is not open has an owner with whom the line pays for nothing
      no_reach : (bank : ℕ) → is_level t.side bank price order ≡ true → reach_in lines bank ≡ 0
      no_reach bank is =
          let parts = level_parts t.side bank price order is in
          let in_book : Among order book = going.within order (inl refl) in
          elim (cases_eq order.bank t.bank) [
            | inl own ↦
                let none : get_or lines bank 0 ≡ 0 = ap (λ (b : ℕ). get_or lines b 0) (sym parts.owner ∙ own) ∙ going.own in
                omega (arith, div-le_self (get_or lines bank 0) weight, none)
            | inr other ↦
                elim (cases_lt (reach_in lines bank) 1) [
                  | inl none ↦ omega arith
                  | inr some ↦
                      absurd (not_taken parts.price_is
                      (open_parts t reach order
                      (record {
                        opposite = parts.opposite;
                        other = other;
                        reach = subst (λ (b : ℕ). 1 ≤ reach_in lines b) (sym parts.owner) some;
                        crosses = Each-among (λ (o : Resting). crosses t.side t.price o.price ≡ true) book order going.eager.crosses in_book;
                        earlier = Each-among (λ (o : Resting). o.arrival < t.arrival) book order going.eager.came in_book;
                      })))
                ]
          ]

      line_past : (bank : ℕ) → line_behind weight t.side price rest bank (get_or lines bank 0) ≡ line_behind weight t.side price (order ∷ rest) bank (get_or lines bank 0)
      line_past bank =
          let more : ℕ = level_lots t.side bank price rest in
          let at : ℕ = get_or lines bank 0 in
          elim (cases_Bool (is_level t.side bank price order)) [
            | inl is ↦
                let none : at / weight ≡ 0 = no_reach bank is in
                let all : ℕ = level_lots t.side bank price (order ∷ rest) in
                ap (λ n. at - n * weight) (let it : min more (at / weight) ≡ min all (at / weight) = omega (arith, none) in it)
            | inr not_is ↦ ap (λ n. at - min n (at / weight) * weight) (sym (level_skip t.side bank price order rest not_is))
          ]

      pub taken_past : Taken rest t lines last → Taken (order ∷ rest) t lines last
      taken_past next = record {
        fills = next.fills;
        table = next.table;
        long = next.long;
        prices = next.prices;
        lines_are = λ bank. next.lines_are bank ∙ line_past bank;
        paid = next.paid;
        some = λ q there same is_it. elim there [
          | inl is ↦ absurd (not_taken (subst (λ (r : Resting). r.price ≡ price) is same) (subst (λ (r : Resting). is_open t (reach_in lines r.bank) r ≡ true) is is_it))
          | inr later ↦ next.some q later same is_it
        ];
        goes_on = next.goes_on;
      }

  pub takes : (rest : List Resting) (t : Taker) (lines : List ℕ) (last : Option Resting) → Going rest t lines last → Taken rest t lines last
  takes [] t lines last going = taken_none t lines last going
  takes (order ∷ rest) t lines last going =
      elim (cases_Bool (eqb order.price price && is_open t (reach_in lines order.bank) order)) [
        | inl both ↦
            let parts = and_parts (eqb order.price price) (is_open t (reach_in lines order.bank) order) both in
            let price_is : order.price ≡ price = eqb-true order.price price parts.0 in
            taken_one order rest t lines last going price_is parts.1
            (takes rest (less t (lots order rest t lines last going)) (after order rest t lines last going) (Some order) (going_on order rest t lines last going price_is parts.1))
        | inr not_both ↦
            let not_taken : (order.price ≡ price) → is_open t (reach_in lines order.bank) order ≡ true → ⊥ = λ same is_it.
            both_ways (eqb order.price price && is_open t (reach_in lines order.bank) order) not_both (and_from (eqb order.price price) (is_open t (reach_in lines order.bank) order) (eq-eqb order.price price same) is_it) in
            taken_past order rest t lines last going not_taken (takes rest t lines last (going_past order rest t lines last going not_taken))
      ]
