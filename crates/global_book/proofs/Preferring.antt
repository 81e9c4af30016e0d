-- The best order of a bank and a side, as its levels tell it.
use Rattle.std.proofs.Common.{ℕ, ◌≡◌, ◌≢◌, ◌+◌, ◌≤◌, ◌<◌, ◌^◌, ◌⊎◌, true, false, Bool, ◌&&◌, eqb, leb, ltb, List, Option, Some, None, get_or, inl, inr, refl, ap, sym, subst, ◌∙◌, arith}
use Rattle.std.proofs.lemmas.Bool.{and_from, and_left, and_parts, and_right, cases_eq, cases_lt, cases_order, eq-eqb, eqb-true, false_from_ne_true, le-leb, le-ltb, leb-true, lt-ltb, ltb-true, ne_eqb, or_cases, or_from, or_left, or_right}
use Rattle.fx_amounts.specs.Side.{opposite}
use Rattle.fx_amounts.specs.declared.side.Side.{Side}
use Rattle.fx_amounts.specs.declared.side.Side.TheVariants.{Buy, Sell}
use Rattle.fx_rules.specs.declared.orders.Resting.{Resting}
use Rattle.fx_rules.specs.Sweep.{is_better, is_opposite, is_preferred}
use Rattle.order_store.specs.Linked.{AreRising, HaveLots, IsFirst, IsFirstFrom, IsInLevel}
use Rattle.price_levels.specs.Rungs.{IsNextRank}
use Rattle.price_levels.specs.declared.level.Level.{Level}
use Rattle.global_book.specs.Book.{is_level, is_of}
use Rattle.global_book.specs.inside.Bests.{IsBestAt, IsBestOf, is_own_behind, is_own_from}
use Rattle.global_book.specs.inside.Ends.{IsOfLevel, TellsOrders}
use Rattle.global_book.specs.Room.{rank_of}
use Rattle.global_book.specs.inside.Linked.{AreTold, IsPriced}
use Rattle.global_book.proofs.Ending.{none_without, order_is, own_side, same_side, some_lots}
use Rattle.global_book.proofs.Telling.{rank-back, rank-most}

-- Prices and ranks.
pub better-rank : (side : Side) (a b : ℕ) → a ≤ 10 ^ 9 → is_better (opposite side) a b ≡ true → rank_of side a < rank_of side b
better-rank Buy a b most is = let it = ltb-true b a is in omega (arith, it, most)
better-rank Sell a b most is = ltb-true a b is

pub rank-better : (side : Side) (a b : ℕ) → a ≤ 10 ^ 9 → rank_of side a < rank_of side b → is_better (opposite side) a b ≡ true
rank-better Buy a b most less = lt-ltb b a (omega (arith, less, most))
rank-better Sell a b most less = lt-ltb a b less

pub rank-upto : (side : Side) (a b : ℕ) → a ≤ 10 ^ 9 → b ≤ 10 ^ 9 → rank_of side a ≤ rank_of side b → is_better (opposite side) b a ≡ false
rank-upto Buy a b first second upto = le-ltb a b (omega (arith, first, second, upto))
rank-upto Sell a b first second upto = le-ltb b a upto

pub no-better : (taker : Side) (price : ℕ) → is_better taker price price ≡ false
no-better Buy price = le-ltb price price (omega arith)
no-better Sell price = le-ltb price price (omega arith)

-- What a taker prefers.
pub not-preferred : (taker : Side) (order other : Resting) → is_better taker order.price other.price ≡ false → (order.price ≡ other.price → other.arrival ≤ order.arrival) → is_preferred taker order other ≡ false
not-preferred taker order other not_better later =
    or_from (is_better taker order.price other.price) (eqb order.price other.price && ltb order.arrival other.arrival) not_better
    (elim (cases_eq order.price other.price) [
      | inl same ↦ and_right (eqb order.price other.price) (ltb order.arrival other.arrival) (le-ltb order.arrival other.arrival (later same))
      | inr apart ↦ and_left (eqb order.price other.price) (ltb order.arrival other.arrival) (ne_eqb order.price other.price apart)
    ])

pub preferred-by : (taker : Side) (order other : Resting) → is_preferred taker order other ≡ true → (is_better taker order.price other.price ≡ true) ⊎ ((order.price ≡ other.price) × (order.arrival < other.arrival))
preferred-by taker order other is =
    elim (or_cases (is_better taker order.price other.price) (eqb order.price other.price && ltb order.arrival other.arrival) is) [
      | inl better ↦ inl better
      | inr later ↦
          let parts = and_parts (eqb order.price other.price) (ltb order.arrival other.arrival) later in
          inr (eqb-true order.price other.price parts.0, ltb-true order.arrival other.arrival parts.1)
    ]

pub preferred-better : (taker : Side) (order other : Resting) → is_better taker order.price other.price ≡ true → is_preferred taker order other ≡ true
preferred-better taker order other better = or_left (is_better taker order.price other.price) (eqb order.price other.price && ltb order.arrival other.arrival) better

pub preferred-earlier : (taker : Side) (order other : Resting) → order.price ≡ other.price → order.arrival < other.arrival → is_preferred taker order other ≡ true
preferred-earlier taker order other same earlier =
    or_right (is_better taker order.price other.price) (eqb order.price other.price && ltb order.arrival other.arrival)
    (and_from (eqb order.price other.price) (ltb order.arrival other.arrival) (eq-eqb order.price other.price same) (lt-ltb order.arrival other.arrival earlier))

-- An order of a bank and a side, and the level that it is of.
pub record IsOwn (bank : ℕ) (side : Side) (order : Resting) : Type 0 where
  pub bank_is : order.bank ≡ bank
  pub side_is : side ≡ order.side

pub own-parts : (bank : ℕ) (side : Side) (order : Resting) (more : Bool) → (is_of bank order && is_opposite (opposite side) order.side && more) ≡ true → IsOwn bank side order × (more ≡ true)
own-parts bank side order more is =
    let outer = and_parts (is_of bank order && is_opposite (opposite side) order.side) more is in
    let inner = and_parts (is_of bank order) (is_opposite (opposite side) order.side) outer.0 in
    (record { bank_is = eqb-true order.bank bank inner.0; side_is = same_side side order.side inner.1 }, outer.1)

pub own-from : (bank : ℕ) (side : Side) (order : Resting) (more : Bool) → IsOwn bank side order → more ≡ true → (is_of bank order && is_opposite (opposite side) order.side && more) ≡ true
own-from bank side order more own is =
    and_from (is_of bank order && is_opposite (opposite side) order.side) more
    (and_from (is_of bank order) (is_opposite (opposite side) order.side) (eq-eqb order.bank bank own.bank_is) (subst (λ s. is_opposite (opposite side) s ≡ true) own.side_is (own_side side))) is

level-own : (bank : ℕ) (side : Side) (order : Resting) → IsOwn bank side order → is_level (opposite side) bank order.price order ≡ true
level-own bank side order own = own-from bank side order (eqb order.price order.price) own (eq-eqb order.price order.price refl)

-- Places and arrivals.
pub arrival-upto : (slots : List (Option Resting)) (place other : ℕ) (order one : Resting) → AreRising (λ at. get_or slots at None) → get_or slots place None ≡ Some order → get_or slots other None ≡ Some one → place ≤ other
    → order.arrival ≤ one.arrival
arrival-upto slots place other order one rising is is' upto =
    elim (cases_order place other) [
      | inl same ↦ omega (arith, ap (λ (o : Resting). o.arrival) (order_is slots place order one is (ap (λ p. get_or slots p None) same ∙ is')))
      | inr apart ↦ elim apart [
        | inl before ↦ omega (arith, rising place other order one is is' before)
        | inr after ↦ absurd (omega (arith, upto, after))
      ]
    ]

pub place-after : (slots : List (Option Resting)) (place other : ℕ) (order one : Resting) → AreRising (λ at. get_or slots at None) → get_or slots place None ≡ Some order → get_or slots other None ≡ Some one → order.arrival < one.arrival
    → place < other
place-after slots place other order one rising is is' less =
    elim (cases_lt place other) [
      | inl before ↦ before
      | inr upto ↦ absurd (omega (arith, less, arrival-upto slots other place one order rising is' is upto))
    ]

-- The levels of a side tell the best order of a bank from a rank on.
module _ (slots : List (Option Resting)) (bank : ℕ) (side : Side) (levels : ℕ → ℕ → Level) (told : AreTold slots side levels) (priced : (place : ℕ) (order : Resting) → get_or slots place None ≡ Some order → IsPriced order)
    (rising : AreRising (λ at. get_or slots at None)) (have : HaveLots (λ at. get_or slots at None)) where
  -- a rank with an order has lots
  pub has-lots : (place : ℕ) (order : Resting) → get_or slots place None ≡ Some order → IsOwn bank side order → (levels bank (rank_of side order.price)).lots ≢ 0
  has-lots place order is own none =
      none_without bank side order.price slots have (sym (told.tells bank order.price (priced place order is).price).lots ∙ none) place (record { order = order; is = is; at = level-own bank side order own })

  pub none-found : (from : ℕ) → ((rank : ℕ) → from ≤ rank → (levels bank rank).lots ≡ 0) → IsBestOf slots (is_own_from bank side from) side None
  none-found from none = λ place order is. false_from_ne_true (is_own_from bank side from order) (λ passes.
      let parts = own-parts bank side order (leb from (rank_of side order.price)) passes in
      has-lots place order is parts.0 (none (rank_of side order.price) (leb-true from (rank_of side order.price) parts.1)))

  pub first-found : (from rank : ℕ) → IsNextRank (levels bank) from rank → IsBestAt slots (is_own_from bank side from) side (levels bank rank).first
  first-found from rank next = record {
    order = first.is.order;
    is = first.is.is;
    passes_it = own-from bank side first.is.order (leb from (rank_of side first.is.order.price)) own.0
        (le-leb from (rank_of side first.is.order.price) (omega (arith, next.from_on, ap (rank_of side) price_is, back)));
    best = λ other one is passes.
        let parts = own-parts bank side one (leb from (rank_of side one.price)) passes in
        let start = leb-true from (rank_of side one.price) parts.1 in
        let upto : rank ≤ rank_of side one.price = elim (cases_lt (rank_of side one.price) rank) [
          | inl early ↦ absurd (has-lots other one is parts.0 (next.first (rank_of side one.price) start early))
          | inr late ↦ late
        ] in
        not-preferred (opposite side) one first.is.order
        (rank-upto side first.is.order.price one.price (priced (levels bank rank).first first.is.order first.is.is).price (priced other one is).price (omega (arith, upto, ap (rank_of side) price_is, back)))
        (λ same. arrival-upto slots (levels bank rank).first other first.is.order one rising first.is.is is
        (elim (cases_lt other (levels bank rank).first) [
          | inl before ↦ absurd (first.first other (omega arith) before (record { order = one; is = is; at = subst (λ p. is_level (opposite side) bank p one ≡ true) (same ∙ price_is) (level-own bank side one parts.0) }))
          | inr behind ↦ behind
        ]));
  }
    where
      low : rank ≤ 10 ^ 9
      low = elim (cases_lt (10 ^ 9) rank) [
        | inl high ↦ absurd (next.some (told.low bank rank high))
        | inr upto ↦ upto
      ]

      price : ℕ
      price = rank_of side rank

      back : rank_of side (rank_of side rank) ≡ rank
      back = rank-back side rank low

      tells : TellsOrders slots bank side (rank_of side rank) (levels bank rank)
      tells = subst (λ r. TellsOrders slots bank side (rank_of side rank) (levels bank r)) back (told.tells bank (rank_of side rank) (rank-most side rank low))

      first : IsFirst (IsOfLevel slots bank side (rank_of side rank)) 0 (levels bank rank).first
      first = subst (IsFirstFrom (IsOfLevel slots bank side (rank_of side rank)) 0) (some_lots (levels bank rank) (Some (levels bank rank).first) next.some) tells.first

      own : IsOwn bank side first.is.order × (eqb first.is.order.price (rank_of side rank) ≡ true)
      own = own-parts bank side first.is.order (eqb first.is.order.price (rank_of side rank)) first.is.at

      price_is : first.is.order.price ≡ rank_of side rank
      price_is = eqb-true first.is.order.price (rank_of side rank) own.1

-- The best order behind another one.
module _ (slots : List (Option Resting)) (place : ℕ) (last : Resting) (last_is : get_or slots place None ≡ Some last) (rising : AreRising (λ at. get_or slots at None)) where
  -- an order at the same price that stands behind it is at a later place of the level
  of-level-behind : (other : ℕ) (one : Resting) → get_or slots other None ≡ Some one → IsOwn last.bank last.side one → one.price ≡ last.price → last.arrival < one.arrival
      → (place + 1 ≤ other) × IsInLevel (λ at. get_or slots at None) last other
  of-level-behind other one is own same later =
      let after = place-after slots place other last one rising last_is is later in
      (omega (arith, after), record { order = one; is = is; alike = record { bank = sym own.bank_is; side = own.side_is; price = sym same } })

  pub next-found : (next : ℕ) → IsFirst (IsInLevel (λ at. get_or slots at None) last) (place + 1) next → IsBestAt slots (is_own_behind last) last.side next
  next-found next first = record {
    order = first.is.order;
    is = first.is.is;
    passes_it = own-from last.bank last.side first.is.order (is_preferred (opposite last.side) last first.is.order) (record { bank_is = sym first.is.alike.bank; side_is = first.is.alike.side })
        (preferred-earlier (opposite last.side) last first.is.order first.is.alike.price (rising place next last first.is.order last_is first.is.is (let on = first.from_on in omega (arith, on))));
    best = λ other one is passes.
        let parts = own-parts last.bank last.side one (is_preferred (opposite last.side) last one) passes in
        elim (preferred-by (opposite last.side) last one parts.1) [
          | inl better ↦ not-preferred (opposite last.side) one first.is.order (worse one.price better)
              (λ same. absurd (apart one.price better (same ∙ sym first.is.alike.price)))
          | inr later ↦
              let at = of-level-behind other one is parts.0 (sym later.0) later.1 in
              not-preferred (opposite last.side) one first.is.order
              (subst (λ p. is_better (opposite last.side) one.price p ≡ false) (sym later.0 ∙ first.is.alike.price) (no-better (opposite last.side) one.price))
              (λ same. arrival-upto slots next other first.is.order one rising first.is.is is
              (elim (cases_lt other next) [
                | inl before ↦ absurd (first.first other at.0 before at.1)
                | inr behind ↦ behind
              ]))
        ];
  }
    where
      better-not : (taker : Side) (a b : ℕ) → is_better taker a b ≡ true → is_better taker b a ≡ false
      better-not Buy a b is = let it = ltb-true a b is in le-ltb b a (omega (arith, it))
      better-not Sell a b is = let it = ltb-true b a is in le-ltb a b (omega (arith, it))

      worse : (price : ℕ) → is_better (opposite last.side) last.price price ≡ true → is_better (opposite last.side) price first.is.order.price ≡ false
      worse price better = subst (λ p. is_better (opposite last.side) price p ≡ false) first.is.alike.price (better-not (opposite last.side) last.price price better)

      apart : (price : ℕ) → is_better (opposite last.side) last.price price ≡ true → price ≡ last.price → ⊥
      apart price better same =
          let both : false ≡ true = sym (no-better (opposite last.side) last.price) ∙ ap (is_better (opposite last.side) last.price) (sym same) ∙ better in cc

  -- where it is the last of its level, these are the orders from the next rank on
  pub next-level : (found : Option ℕ) → ((other : ℕ) (one : Resting) → get_or slots other None ≡ Some one → IsPriced one) → IsFirstFrom (IsInLevel (λ at. get_or slots at None) last) (place + 1) None
      → IsBestOf slots (is_own_from last.bank last.side (rank_of last.side last.price + 1)) last.side found → IsBestOf slots (is_own_behind last) last.side found
  next-level found priced none best = turned found best
    where
      same : (other : ℕ) (one : Resting) → get_or slots other None ≡ Some one → is_own_behind last one ≡ true → is_own_from last.bank last.side (rank_of last.side last.price + 1) one ≡ true
      same other one is passes =
          let parts = own-parts last.bank last.side one (is_preferred (opposite last.side) last one) passes in
          own-from last.bank last.side one (leb (rank_of last.side last.price + 1) (rank_of last.side one.price)) parts.0
          (elim (preferred-by (opposite last.side) last one parts.1) [
            | inl better ↦ le-leb (rank_of last.side last.price + 1) (rank_of last.side one.price) (omega (arith, better-rank last.side last.price one.price (priced place last last_is).price better))
            | inr later ↦ let at = of-level-behind other one is parts.0 (sym later.0) later.1 in absurd (none other at.0 at.1)
          ])

      back : (other : ℕ) (one : Resting) → get_or slots other None ≡ Some one → is_own_from last.bank last.side (rank_of last.side last.price + 1) one ≡ true → is_own_behind last one ≡ true
      back other one is passes =
          let parts = own-parts last.bank last.side one (leb (rank_of last.side last.price + 1) (rank_of last.side one.price)) passes in
          let above = leb-true (rank_of last.side last.price + 1) (rank_of last.side one.price) parts.1 in
          own-from last.bank last.side one (is_preferred (opposite last.side) last one) parts.0
          (preferred-better (opposite last.side) last one (rank-better last.side last.price one.price (priced place last last_is).price (omega (arith, above))))

      turned : (found : Option ℕ) → IsBestOf slots (is_own_from last.bank last.side (rank_of last.side last.price + 1)) last.side found → IsBestOf slots (is_own_behind last) last.side found
      turned None none = λ other one is. false_from_ne_true (is_own_behind last one) (λ passes. let both : false ≡ true = sym (none other one is) ∙ same other one is passes in cc)
      turned (Some at) best = record {
        order = best.order;
        is = best.is;
        passes_it = back at best.order best.is best.passes_it;
        best = λ other one is passes. best.best other one is (same other one is passes);
      }
