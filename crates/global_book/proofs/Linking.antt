-- All levels of a pair as an order comes, goes or is lowered, and what they tell of the orders before.
use Rattle.std.proofs.Common.{ℕ, ◌≡◌, ◌≢◌, ◌+◌, ◌-◌, ◌*◌, ◌≤◌, ◌<◌, ◌^◌, ◌⊎◌, suc, List, [], ◌∷◌, ◌++◌, Option, Some, None, length, get_or, sum_by, inl, inr, refl, ap, sym, subst, ◌∙◌, arith}
use Rattle.std.proofs.Math.ListN.{set}
use Rattle.std.proofs.lemmas.Bool.{cases_Bool, cases_eq}
use Rattle.std.proofs.lemmas.List.Sums.{sum_by-append}
use Rattle.std.proofs.lemmas.List.{get_or-set_same, get_or-set_other}
use Rattle.std.specs.Option.{IfSome}
use Rattle.fx_amounts.specs.Side.{opposite}
use Rattle.fx_amounts.specs.declared.side.Side.{Side}
use Rattle.fx_amounts.specs.declared.side.Side.TheVariants.{Buy, Sell}
use Rattle.fx_rules.specs.declared.orders.Resting.{Resting}
use Rattle.order_store.specs.Linked.{AreListed, HaveLots, IsFirstFrom, IsInLevel, IsLastBelow}
use Rattle.order_store.specs.Orders.{Orders, order_at}
use Rattle.price_levels.specs.Rungs.{Rungs}
use Rattle.price_levels.specs.Ticks.{last_of_level, no_level, with_order, without_order}
use Rattle.price_levels.specs.declared.level.Level.{Level}
use Rattle.access_index.specs.Ranked.{bank_holds, bank_level, with_bank_level}
use Rattle.global_book.specs.Book.{is_level}
use Rattle.global_book.specs.inside.Ends.{TellsOrders, slot_lots}
use Rattle.global_book.specs.Room.{Ladders, ladders_of, rank_of}
use Rattle.global_book.specs.inside.Linked.{AreLinked, AreTold, IsPriced}
use Rattle.global_book.proofs.Ending.{end-new, end-others, last-asked, level-of_itself, lots_at, lots_off, order_within, part_of_sum}
use Rattle.global_book.proofs.Telling.{told-lowered, told-lowered_beside, told-pushed, told-pushed_beside, told-removed, told-removed_beside}

two-sides : (a b : Side) → (a ≡ b) ⊎ (a ≡ opposite b)
two-sides Buy Buy = inl refl
two-sides Buy Sell = inr refl
two-sides Sell Buy = inr refl
two-sides Sell Sell = inl refl

not-opposite : (a : Side) → opposite a ≡ a → ⊥
not-opposite Buy same = let it : Sell ≡ Buy = same in cc
not-opposite Sell same = let it : Buy ≡ Sell = same in cc

-- what holds of the side of an order and of the other holds of both
each-side : (P : Side → Type 0) (own : Side) → P own → P (opposite own) → (side : Side) → P side
each-side P own here across side =
    elim (two-sides side own) [
      | inl same ↦ subst P (sym same) here
      | inr other ↦ subst P (sym other) across
    ]

-- no orders
pub linked-none : (slots : List (Option Resting)) (ladders : Ladders) → slots ≡ [] → ((side : Side) (bank rank : ℕ) → bank_level (ladders_of ladders side) bank rank ≡ no_level) → AreLinked slots ladders
linked-none slots ladders bare none = subst (λ ss. AreLinked ss ladders) (sym bare) (record {
  told = λ side. record {
    tells = λ bank price most. subst (TellsOrders [] bank side price) (sym (none side bank (rank_of side price)))
        (record { first = λ other from of. empty other of.order of.is; last = λ other below of. empty other of.order of.is; lots = refl });
    low = λ bank rank high. ap (λ (l : Level). l.lots) (none side bank rank);
  };
  priced = λ place order is. absurd (empty place order is);
})
  where
    empty : (place : ℕ) (order : Resting) → get_or [] place None ≡ Some order → ⊥
    empty place order is = let it : None ≡ Some order = is in cc

-- no level became another one
pub linked-same : (slots : List (Option Resting)) (ladders ladders' : Ladders) (own : Side) → AreLinked slots ladders
    → ((other at : ℕ) → bank_level (ladders_of ladders' own) other at ≡ bank_level (ladders_of ladders own) other at)
    → ladders_of ladders' (opposite own) ≡ ladders_of ladders (opposite own) → AreLinked slots ladders'
linked-same slots ladders ladders' own linked same other_side = record {
  told = each-side (λ side. AreTold slots side (bank_level (ladders_of ladders' side))) own
      (kept own same) (kept (opposite own) (λ other at. ap (λ (os : List (ℕ × Rungs)). bank_level os other at) other_side));
  priced = linked.priced;
}
  where
    kept : (side : Side) → ((other at : ℕ) → bank_level (ladders_of ladders' side) other at ≡ bank_level (ladders_of ladders side) other at) → AreTold slots side (bank_level (ladders_of ladders' side))
    kept side same = record {
      tells = λ bank price most. subst (TellsOrders slots bank side price) (sym (same bank (rank_of side price))) ((linked.told side).tells bank price most);
      low = λ bank rank high. ap (λ (l : Level). l.lots) (same bank rank) ∙ (linked.told side).low bank rank high;
    }

-- An order comes.
module _ (slots : List (Option Resting)) (ladders : Ladders) (order : Resting) (linked : AreLinked slots ladders) (have : HaveLots (λ at. get_or slots at None)) where
  pub linked-pushed : (ladders' : Ladders) → IsPriced order → 0 < order.left
      → ((other at : ℕ) → bank_level (ladders_of ladders' order.side) other at ≡ with_bank_level (bank_level (ladders_of ladders order.side)) order.bank (rank_of order.side order.price)
      (with_order (bank_level (ladders_of ladders order.side) order.bank (rank_of order.side order.price)) (length slots) order.left) other at)
      → ladders_of ladders' (opposite order.side) ≡ ladders_of ladders (opposite order.side) → AreLinked (slots ++ Some order ∷ []) ladders'
  linked-pushed ladders' priced some levels other_side = record {
    told = each-side (λ side. AreTold (slots ++ Some order ∷ []) side (bank_level (ladders_of ladders' side))) order.side
        (told-pushed slots order (bank_level (ladders_of ladders order.side)) (bank_level (ladders_of ladders' order.side)) have some priced.price (linked.told order.side) levels)
        (told-pushed_beside slots order (opposite order.side) (bank_level (ladders_of ladders (opposite order.side))) (bank_level (ladders_of ladders' (opposite order.side))) (not-opposite order.side)
        (linked.told (opposite order.side)) (λ other at. ap (λ (os : List (ℕ × Rungs)). bank_level os other at) other_side));
    priced = λ place one is. elim (cases_eq place (length slots)) [
      | inl same ↦
          let it : Some order ≡ Some one = sym (ap (λ p. get_or (slots ++ Some order ∷ []) p None) same ∙ end-new slots (Some order)) ∙ is in
          let own : order ≡ one = cc in
          subst IsPriced own priced
      | inr differ ↦ linked.priced place one (sym (end-others slots (Some order) place differ) ∙ is)
    ];
  }

  -- the sum of its level has bits for its lots
  pub sum-fits : order.price ≤ 10 ^ 9 → order.left ≤ 10 ^ 6 → length slots ≤ 2 ^ 28 → (bank_level (ladders_of ladders order.side) order.bank (rank_of order.side order.price)).lots + order.left < 2 ^ 64
  sum-fits most left few =
      let tells = (linked.told order.side).tells order.bank order.price most in
      let sum = sum-most order.bank order.side order.price slots have in
      let lots = tells.lots in
      omega (arith, sum, lots, left, few)
    where
      sum-most : (bank : ℕ) (side : Side) (price : ℕ) (slots : List (Option Resting)) → HaveLots (λ at. get_or slots at None) → sum_by (slot_lots bank side price) slots ≤ 10 ^ 6 * length slots
      sum-most bank side price [] have = omega arith
      sum-most bank side price (slot ∷ slots) have =
          let rest = sum-most bank side price slots (λ place one is. have (suc place) one is) in
          let sums = sum_by-append (slot_lots bank side price) (slot ∷ []) slots in
          let single : sum_by (slot_lots bank side price) (slot ∷ []) ≡ 0 + slot_lots bank side price slot = refl in
          let own = one-most slot (λ one is. have 0 one is) in
          omega (arith, rest, sums, single, own)
        where
          one-most : (slot : Option Resting) → ((one : Resting) → slot ≡ Some one → (1 ≤ one.left) × (one.left ≤ 10 ^ 6)) → slot_lots bank side price slot ≤ 10 ^ 6
          one-most None have = omega arith
          one-most (Some one) have =
              elim (cases_Bool (is_level (opposite side) bank price one)) [
                | inl at ↦ omega (arith, lots_at bank side price one at, (have one refl).1)
                | inr off ↦ omega (arith, lots_off bank side price one off)
              ]

  -- the last of its level is that which a list asks for
  pub before-asked : order.price ≤ 10 ^ 9 → IsLastBelow (IsInLevel (λ at. get_or slots at None) order) (length slots) (last_of_level (bank_level (ladders_of ladders order.side) order.bank (rank_of order.side order.price)))
  before-asked most =
      last-asked slots order (length slots) (last_of_level (bank_level (ladders_of ladders order.side) order.bank (rank_of order.side order.price))) ((linked.told order.side).tells order.bank order.price most).last

-- An order goes, or is lowered.
module _ (slots : List (Option Resting)) (ladders : Ladders) (place : ℕ) (order : Resting) (was : get_or slots place None ≡ Some order) (linked : AreLinked slots ladders) where
  -- what it has left is a part of its level
  pub has-left : order.left ≤ (bank_level (ladders_of ladders order.side) order.bank (rank_of order.side order.price)).lots
  has-left =
      let tells = (linked.told order.side).tells order.bank order.price (linked.priced place order was).price in
      let lots = tells.lots in
      let part = part_of_sum order.bank order.side order.price slots place order was (level-of_itself order) in
      omega (arith, lots, part)

  set-priced : (slot : Option Resting) → ((one : Resting) → slot ≡ Some one → IsPriced one) → (other : ℕ) (one : Resting) → get_or (set slots place slot) other None ≡ Some one → IsPriced one
  set-priced slot new other one is =
      elim (cases_eq other place) [
        | inl same ↦ new one (sym (ap (λ p. get_or (set slots place slot) p None) same ∙ get_or-set_same slots place slot None (order_within slots place order was)) ∙ is)
        | inr differ ↦ linked.priced other one (sym (get_or-set_other slots place other slot None differ) ∙ is)
      ]

  pub linked-removed : (ladders' : Ladders) (before behind : Option ℕ) → HaveLots (λ at. get_or slots at None)
      → IsLastBelow (IsInLevel (λ at. get_or slots at None) order) place before → IsFirstFrom (IsInLevel (λ at. get_or slots at None) order) (place + 1) behind
      → ((other at : ℕ) → bank_level (ladders_of ladders' order.side) other at ≡ with_bank_level (bank_level (ladders_of ladders order.side)) order.bank (rank_of order.side order.price)
      (without_order (bank_level (ladders_of ladders order.side) order.bank (rank_of order.side order.price)) order.left before behind) other at)
      → ladders_of ladders' (opposite order.side) ≡ ladders_of ladders (opposite order.side) → AreLinked (set slots place None) ladders'
  linked-removed ladders' before behind have prev next levels other_side = record {
    told = each-side (λ side. AreTold (set slots place None) side (bank_level (ladders_of ladders' side))) order.side
        (told-removed slots place order was (bank_level (ladders_of ladders order.side)) (bank_level (ladders_of ladders' order.side)) before behind have (linked.priced place order was).price (linked.told order.side) prev next levels)
        (told-removed_beside slots place order was (opposite order.side) (bank_level (ladders_of ladders (opposite order.side))) (bank_level (ladders_of ladders' (opposite order.side))) (not-opposite order.side)
        (linked.told (opposite order.side)) (λ other at. ap (λ (os : List (ℕ × Rungs)). bank_level os other at) other_side));
    priced = set-priced None (λ one is. let it : None ≡ Some one = is in cc);
  }

  pub linked-lowered : (ladders' : Ladders) (left gone : ℕ) → 0 < left → left ≤ order.left → gone ≡ order.left - left
      → ((other at : ℕ) → bank_level (ladders_of ladders' order.side) other at ≡ with_bank_level (bank_level (ladders_of ladders order.side)) order.bank (rank_of order.side order.price)
      (record (bank_level (ladders_of ladders order.side) order.bank (rank_of order.side order.price)) { lots = (bank_level (ladders_of ladders order.side) order.bank (rank_of order.side order.price)).lots - gone }) other at)
      → ladders_of ladders' (opposite order.side) ≡ ladders_of ladders (opposite order.side) → AreLinked (set slots place (Some (record order { left = left }))) ladders'
  linked-lowered ladders' left gone some less gone_is levels other_side = record {
    told = each-side (λ side. AreTold (set slots place (Some (record order { left = left }))) side (bank_level (ladders_of ladders' side))) order.side
        (told-lowered slots place order was left (bank_level (ladders_of ladders order.side)) (bank_level (ladders_of ladders' order.side)) (linked.priced place order was).price some less (linked.told order.side)
        (λ other at. levels other at ∙ ap (λ n. with_bank_level (bank_level (ladders_of ladders order.side)) order.bank (rank_of order.side order.price)
        (record (bank_level (ladders_of ladders order.side) order.bank (rank_of order.side order.price)) { lots = (bank_level (ladders_of ladders order.side) order.bank (rank_of order.side order.price)).lots - n }) other at) gone_is))
        (told-lowered_beside slots place order was left (opposite order.side) (bank_level (ladders_of ladders (opposite order.side))) (bank_level (ladders_of ladders' (opposite order.side))) (not-opposite order.side)
        (linked.told (opposite order.side)) (λ other at. ap (λ (os : List (ℕ × Rungs)). bank_level os other at) other_side));
    priced = set-priced (Some (record order { left = left })) (λ one is.
        let it : record order { left = left } ≡ one = some_same (record order { left = left }) one is in
        let own = linked.priced place order was in
        subst IsPriced it (record { bank = own.bank; least = own.least; price = own.price }));
  }
    where
      some_same : (a b : Resting) → Some a ≡ Some b → a ≡ b
      some_same a b same = cc

-- what is ready stays so
pub holds-same : (ladders ladders' : Ladders) (own : Side) → ((other at : ℕ) → bank_holds (ladders_of ladders' own) other at ≡ bank_holds (ladders_of ladders own) other at)
    → ladders_of ladders' (opposite own) ≡ ladders_of ladders (opposite own) → (side : Side) (bank rank : ℕ) → bank_holds (ladders_of ladders' side) bank rank ≡ bank_holds (ladders_of ladders side) bank rank
holds-same ladders ladders' own holds other_side =
    each-side (λ side. (bank rank : ℕ) → bank_holds (ladders_of ladders' side) bank rank ≡ bank_holds (ladders_of ladders side) bank rank) own holds
    (λ bank rank. ap (λ (os : List (ℕ × Rungs)). bank_holds os bank rank) other_side)

pub holds-others : (ladders ladders' : Ladders) (own : Side) (bank : ℕ) → ((other at : ℕ) → other ≢ bank → bank_holds (ladders_of ladders' own) other at ≡ bank_holds (ladders_of ladders own) other at)
    → ladders_of ladders' (opposite own) ≡ ladders_of ladders (opposite own)
    → (side : Side) (other rank : ℕ) → (side ≡ own → other ≢ bank) → bank_holds (ladders_of ladders' side) other rank ≡ bank_holds (ladders_of ladders side) other rank
holds-others ladders ladders' own bank holds other_side =
    each-side (λ side. (other rank : ℕ) → (side ≡ own → other ≢ bank) → bank_holds (ladders_of ladders' side) other rank ≡ bank_holds (ladders_of ladders side) other rank) own
    (λ other rank fine. holds other rank (fine refl))
    (λ other rank fine. ap (λ (os : List (ℕ × Rungs)). bank_holds os other rank) other_side)

-- a neighbour is at a place that a word has bits for
pub behind-fits : (orders : Orders) (place : ℕ) (order : Resting) (behind : Option ℕ) → AreListed orders → IsFirstFrom (IsInLevel (order_at orders) order) (place + 1) behind → IfSome behind (λ at. at < 2 ^ 28)
behind-fits orders place order None listed none = tt
behind-fits orders place order (Some at) listed first =
    let within = order_within orders.slots at first.is.order first.is.is in omega (arith, within, listed.few)

pub listed-none : (orders : Orders) → orders.slots ≡ [] → AreListed orders
listed-none orders bare = record {
  valid = record { unique = λ place other order same is is' bank number. absurd (none place order is); numbered = λ place order is. absurd (none place order is) };
  rising = λ place other order later is is' before. absurd (none place order is);
  lots = λ place order is. absurd (none place order is);
  few = omega (arith, ap (λ (ss : List (Option Resting)). length ss) bare);
}
  where
    none : (place : ℕ) (order : Resting) → order_at orders place ≡ Some order → ⊥
    none place order is = let it : None ≡ Some order = sym (ap (λ (ss : List (Option Resting)). get_or ss place None) bare) ∙ is in cc
