-- A level as an order comes, goes or is lowered.
use Rattle.std.proofs.Common.{ℕ, zero, suc, ◌≡◌, ◌≢◌, ◌+◌, ◌-◌, ◌≤◌, ◌<◌, true, false, ◌&&◌, if◌then◌else◌, eqb, List, [], ◌∷◌, ◌++◌, Option, Some, None, length, get_or, sum_by, inl, inr, refl, ap, sym, subst, ◌∙◌, arith}
use Rattle.std.proofs.Math.ListN.{set, length-set}
use Rattle.std.proofs.lemmas.Bool.{and_from, and_parts, cases_Bool, cases_eq, cases_lt, cond-false, cond-true, eq-eqb, eqb-true, ne_eqb}
use Rattle.std.proofs.lemmas.List.Sums.{sum_by-append, sum_by-set}
use Rattle.std.proofs.lemmas.List.{get_or-set_same, get_or-set_other, get_or_past}
use Rattle.fx_amounts.specs.Side.{opposite}
use Rattle.fx_amounts.specs.declared.side.Side.{Side}
use Rattle.fx_amounts.specs.declared.side.Side.TheVariants.{Buy, Sell}
use Rattle.fx_rules.specs.declared.orders.Resting.{Resting}
use Rattle.fx_rules.specs.Sweep.{is_opposite}
use Rattle.order_store.specs.Linked.{HaveLots, IsFirst, IsFirstFrom, IsInLevel, IsLast, IsLastBelow}
use Rattle.price_levels.specs.Ticks.{first_left, last_left, last_of_level, no_level, with_order, without_order}
use Rattle.price_levels.specs.declared.level.Level.{Level}
use Rattle.global_book.specs.Book.{is_level}
use Rattle.global_book.specs.inside.Ends.{IsOfLevel, TellsOrders, first_of_level, slot_lots}

-- The first and the last order of a level, with one more or one less.
module _ (P P' : ℕ → Type 0) where
  -- one comes at the end
  module _ (end : ℕ) (within : (place : ℕ) → P place → place < end) (new : P' end) (old : (place : ℕ) → place ≢ end → P' place → P place) (stays : (place : ℕ) → P place → P' place) (most : (place : ℕ) → P' place → place ≤ end) where
    pub first-more : (place : ℕ) → IsFirst P 0 place → IsFirst P' 0 place
    first-more place first = record {
      from_on = first.from_on;
      is = stays place first.is;
      first = λ other from below in'. let less = within place first.is in first.first other from below (old other (λ same. omega (arith, same, below, less)) in');
    }

    pub first-alone : ((other : ℕ) → 0 ≤ other → P other → ⊥) → IsFirst P' 0 end
    first-alone none = record {
      from_on = omega arith;
      is = new;
      first = λ other from below in'. none other from (old other (λ same. omega (arith, same, below)) in');
    }

    pub last-more : IsLast P' (suc end) end
    last-more = record {
      below = omega arith;
      is = new;
      last = λ other above below in'. let upto = most other in' in omega arith;
    }

-- An order of a level is at a place, before and after.
pub order_is : (slots : List (Option Resting)) (place : ℕ) (a b : Resting) → get_or slots place None ≡ Some a → get_or slots place None ≡ Some b → a ≡ b
order_is slots place a b one two = let it : Some a ≡ Some b = sym one ∙ two in cc

pub order_within : (slots : List (Option Resting)) (place : ℕ) (order : Resting) → get_or slots place None ≡ Some order → place < length slots
order_within slots place order is =
    elim (cases_lt place (length slots)) [
      | inl within ↦ within
      | inr past ↦ let it : None ≡ Some order = sym (get_or_past slots place None past) ∙ is in cc
    ]

pub end-new : (slots : List (Option Resting)) (slot : Option Resting) → get_or (slots ++ slot ∷ []) (length slots) None ≡ slot
end-new [] slot = refl
end-new (other ∷ slots) slot = end-new slots slot

pub end-others : (slots : List (Option Resting)) (slot : Option Resting) (place : ℕ) → place ≢ length slots → get_or (slots ++ slot ∷ []) place None ≡ get_or slots place None
end-others [] slot zero differ = absurd (differ refl)
end-others [] slot (suc place) differ = refl
end-others (other ∷ slots) slot zero differ = refl
end-others (other ∷ slots) slot (suc place) differ = end-others slots slot place (λ same. differ (ap suc same))

pub end-length : (slots : List (Option Resting)) (slot : Option Resting) → length (slots ++ slot ∷ []) ≡ suc (length slots)
end-length [] slot = refl
end-length (other ∷ slots) slot = ap suc (end-length slots slot)

pub some_lots : (level : Level) (found : Option ℕ) → level.lots ≢ 0 → (if eqb level.lots 0 then None else found) ≡ found
some_lots level found some = cond-false (eqb level.lots 0) None found (ne_eqb level.lots 0 some)

no_lots : (level : Level) (found : Option ℕ) → level.lots ≡ 0 → (if eqb level.lots 0 then None else found) ≡ None
no_lots level found none = cond-true (eqb level.lots 0) None found (eq-eqb level.lots 0 none)

module _ (bank : ℕ) (side : Side) (price : ℕ) where
  pub lots_at : (order : Resting) → is_level (opposite side) bank price order ≡ true → slot_lots bank side price (Some order) ≡ order.left
  lots_at order at = cond-true (is_level (opposite side) bank price order) order.left 0 at

  pub lots_off : (order : Resting) → is_level (opposite side) bank price order ≡ false → slot_lots bank side price (Some order) ≡ 0
  lots_off order off = cond-false (is_level (opposite side) bank price order) order.left 0 off

  -- what an order has left is a part of the sum
  pub part_of_sum : (slots : List (Option Resting)) (place : ℕ) (order : Resting) → get_or slots place None ≡ Some order → is_level (opposite side) bank price order ≡ true
      → order.left + sum_by (slot_lots bank side price) (set slots place None) ≡ sum_by (slot_lots bank side price) slots
  part_of_sum slots place order is at =
      let counts = sum_by-set (slot_lots bank side price) slots place None None (order_within slots place order is) in
      let held : slot_lots bank side price (get_or slots place None) ≡ order.left = ap (slot_lots bank side price) is ∙ lots_at order at in
      omega (arith, counts, held)

  -- with no lots there is no order, and with some there is one
  pub none_without : (slots : List (Option Resting)) → HaveLots (λ at. get_or slots at None) → sum_by (slot_lots bank side price) slots ≡ 0 → (place : ℕ) → IsOfLevel slots bank side price place → ⊥
  none_without slots have none place in' =
      let part = part_of_sum slots place in'.order in'.is in'.at in
      let some : 0 < in'.order.left = omega (arith, (have place in'.order in'.is).0) in
      omega (arith, part, some, none)

  some_with : (slots : List (Option Resting)) → sum_by (slot_lots bank side price) slots ≢ 0 → (place : ℕ) × IsOfLevel slots bank side price place
  some_with slots some = find slots refl some
    where
      later : (slot : Option Resting) (slots : List (Option Resting)) → (place : ℕ) × IsOfLevel slots bank side price place → (place : ℕ) × IsOfLevel (slot ∷ slots) bank side price place
      later slot slots at = (suc at.0, record { order = at.1.order; is = at.1.is; at = at.1.at })

      find : (all : List (Option Resting)) → all ≡ all → sum_by (slot_lots bank side price) all ≢ 0 → (place : ℕ) × IsOfLevel all bank side price place
      find [] same some = absurd (some refl)
      find (None ∷ slots) same some = later None slots (find slots refl (λ none. some (none)))
      find (Some order ∷ slots) same some =
          elim (cases_Bool (is_level (opposite side) bank price order)) [
            | inl at ↦ (0, record { order = order; is = refl; at = at })
            | inr off ↦ later (Some order) slots (find slots refl (λ none. some (
                let sums = sum_by-append (slot_lots bank side price) (Some order ∷ []) slots in
                let single : sum_by (slot_lots bank side price) (Some order ∷ []) ≡ 0 + slot_lots bank side price (Some order) = refl in
                omega (arith, sums, single, lots_off order off, none))))
          ]

  -- An order of the level comes.
  pub level-pushed : (slots : List (Option Resting)) (order : Resting) (level : Level) → HaveLots (λ at. get_or slots at None) → TellsOrders slots bank side price level → is_level (opposite side) bank price order ≡ true → 0 < order.left
      → TellsOrders (slots ++ Some order ∷ []) bank side price (with_order level (length slots) order.left)
  level-pushed slots order level have is at some =
      let P : ℕ → Type 0 = IsOfLevel slots bank side price in
      let P' : ℕ → Type 0 = IsOfLevel (slots ++ Some order ∷ []) bank side price in
      let within : (place : ℕ) → P place → place < length slots = λ place in'. order_within slots place in'.order in'.is in
      let new : P' (length slots) = record { order = order; is = end-new slots (Some order); at = at } in
      let old : (place : ℕ) → place ≢ length slots → P' place → P place = λ place differ in'. record { order = in'.order; is = sym (end-others slots (Some order) place differ) ∙ in'.is; at = in'.at } in
      let stays : (place : ℕ) → P place → P' place = λ place in'. record {
        order = in'.order;
        is = end-others slots (Some order) place (λ same. let below = within place in' in omega (arith, below, same)) ∙ in'.is;
        at = in'.at;
      } in
      let most : (place : ℕ) → P' place → place ≤ length slots = λ place in'. let below = order_within (slots ++ Some order ∷ []) place in'.order in'.is in omega (arith, below, end-length slots (Some order)) in
      let more : Level = with_order level (length slots) order.left in
      let has : more.lots ≢ 0 = λ none. omega (arith, none, some) in
      record {
        first = subst (IsFirstFrom P' 0) (sym (some_lots more (Some more.first) has)) (first_new level is.first within new old stays most);
        last = subst (IsLastBelow P' (length (slots ++ Some order ∷ []))) (sym (some_lots more (Some (length slots)) has))
            (subst (λ n. IsLast P' n (length slots)) (sym (end-length slots (Some order))) (last-more P P' (length slots) within new old stays most));
        lots = let sums = sum_by-append (slot_lots bank side price) slots (Some order ∷ []) in
            omega (arith, sums, is.lots, lots_at order at);
      }
    where
      first_new : (level : Level) → IsFirstFrom (IsOfLevel slots bank side price) 0 (first_of_level level)
          → ((place : ℕ) → IsOfLevel slots bank side price place → place < length slots) → IsOfLevel (slots ++ Some order ∷ []) bank side price (length slots)
          → ((place : ℕ) → place ≢ length slots → IsOfLevel (slots ++ Some order ∷ []) bank side price place → IsOfLevel slots bank side price place)
          → ((place : ℕ) → IsOfLevel slots bank side price place → IsOfLevel (slots ++ Some order ∷ []) bank side price place)
          → ((place : ℕ) → IsOfLevel (slots ++ Some order ∷ []) bank side price place → place ≤ length slots)
          → IsFirst (IsOfLevel (slots ++ Some order ∷ []) bank side price) 0 (if eqb level.lots 0 then length slots else level.first)
      first_new level first within new old stays most =
          let P : ℕ → Type 0 = IsOfLevel slots bank side price in
          let P' : ℕ → Type 0 = IsOfLevel (slots ++ Some order ∷ []) bank side price in
          elim (cases_eq level.lots 0) [
            | inl none ↦ subst (IsFirst P' 0) (sym (cond-true (eqb level.lots 0) (length slots) level.first (eq-eqb level.lots 0 none)))
                (first-alone P P' (length slots) within new old stays most (subst (IsFirstFrom P 0) (no_lots level (Some level.first) none) first))
            | inr some ↦ subst (IsFirst P' 0) (sym (cond-false (eqb level.lots 0) (length slots) level.first (ne_eqb level.lots 0 some)))
                (first-more P P' (length slots) within new old stays most level.first (subst (IsFirstFrom P 0) (some_lots level (Some level.first) some) first))
          ]

  -- An order of another level comes.
  pub level-beside : (slots : List (Option Resting)) (order : Resting) (level : Level) → TellsOrders slots bank side price level → is_level (opposite side) bank price order ≡ false
      → TellsOrders (slots ++ Some order ∷ []) bank side price level
  level-beside slots order level is off = record {
    first = first_same (first_of_level level) is.first;
    last = last_same (last_of_level level) is.last;
    lots = let sums = sum_by-append (slot_lots bank side price) slots (Some order ∷ []) in omega (arith, sums, is.lots, lots_off order off);
  }
    where
      old : (place : ℕ) → IsOfLevel (slots ++ Some order ∷ []) bank side price place → IsOfLevel slots bank side price place
      old place in' =
          elim (cases_eq place (length slots)) [
            | inl same ↦
                let it : Some order ≡ Some in'.order = sym (ap (λ p. get_or (slots ++ Some order ∷ []) p None) same ∙ end-new slots (Some order)) ∙ in'.is in
                let own : order ≡ in'.order = cc in
                let both : false ≡ true = sym off ∙ ap (is_level (opposite side) bank price) own ∙ in'.at in cc
            | inr differ ↦ record { order = in'.order; is = sym (end-others slots (Some order) place differ) ∙ in'.is; at = in'.at }
          ]

      now : (place : ℕ) → IsOfLevel slots bank side price place → IsOfLevel (slots ++ Some order ∷ []) bank side price place
      now place in' =
          let below = order_within slots place in'.order in'.is in
          record { order = in'.order; is = end-others slots (Some order) place (λ same. omega (arith, below, same)) ∙ in'.is; at = in'.at }

      first_same : (link : Option ℕ) → IsFirstFrom (IsOfLevel slots bank side price) 0 link → IsFirstFrom (IsOfLevel (slots ++ Some order ∷ []) bank side price) 0 link
      first_same None none = λ other from in'. none other from (old other in')
      first_same (Some place) first = record { from_on = first.from_on; is = now place first.is; first = λ other from below in'. first.first other from below (old other in') }

      last_same : (link : Option ℕ) → IsLastBelow (IsOfLevel slots bank side price) (length slots) link → IsLastBelow (IsOfLevel (slots ++ Some order ∷ []) bank side price) (length (slots ++ Some order ∷ [])) link
      last_same None none = λ other below in'. let was = old other in' in none other (order_within slots other was.order was.is) was
      last_same (Some place) last = record {
        below = let within = last.below in omega (arith, within, end-length slots (Some order));
        is = now place last.is;
        last = λ other above below in'. let was = old other in' in last.last other above (order_within slots other was.order was.is) was;
      }

  -- An order of the level goes, which stood between two others, where there are such.
  module _ (slots : List (Option Resting)) (gone : ℕ) (order : Resting) (was : get_or slots gone None ≡ Some order) where
    left_then : (place : ℕ) → place ≢ gone → IsOfLevel slots bank side price place → IsOfLevel (set slots gone None) bank side price place
    left_then place differ in' = record { order = in'.order; is = get_or-set_other slots gone place None None differ ∙ in'.is; at = in'.at }

    not_gone : (place : ℕ) → IsOfLevel (set slots gone None) bank side price place → place ≢ gone
    not_gone place in' same =
        let it : None ≡ Some in'.order = sym (ap (λ p. get_or (set slots gone None) p None) same ∙ get_or-set_same slots gone None None (order_within slots gone order was)) ∙ in'.is in cc

    left_was : (place : ℕ) → IsOfLevel (set slots gone None) bank side price place → IsOfLevel slots bank side price place
    left_was place in' = record { order = in'.order; is = sym (get_or-set_other slots gone place None None (not_gone place in')) ∙ in'.is; at = in'.at }

    -- the first order of what is left
    first-less : (level : Level) (before behind : Option ℕ) → IsOfLevel slots bank side price gone → ((place : ℕ) × IsOfLevel (set slots gone None) bank side price place)
        → IsFirst (IsOfLevel slots bank side price) 0 level.first → IsLastBelow (IsOfLevel slots bank side price) gone before → IsFirstFrom (IsOfLevel slots bank side price) (gone + 1) behind
        → IsFirst (IsOfLevel (set slots gone None) bank side price) 0 (first_left level before behind)
    first-less level None (Some at) own other first none next = record {
      from_on = omega arith;
      is = let from = next.from_on in left_then at (λ same. omega (arith, from, same)) next.is;
      first = λ place from below in'. elim (cases_lt place gone) [
        | inl early ↦ none place early (left_was place in')
        | inr late ↦ next.first place (let differ = not_gone place in' in omega (arith, late, differ)) below (left_was place in')
      ];
    }
    first-less level None None own other first none none' =
        absurd (elim (cases_lt other.0 gone) [
          | inl early ↦ none other.0 early (left_was other.0 other.1)
          | inr late ↦ none' other.0 (let differ = not_gone other.0 other.1 in omega (arith, late, differ)) (left_was other.0 other.1)
        ])
    first-less level (Some at) behind own other first last next = record {
      from_on = omega arith;
      is = left_then level.first (λ same. let below = last.below in first.first at (omega arith) (omega (arith, below, same)) last.is) first.is;
      first = λ place from below in'. first.first place from below (left_was place in');
    }

    last-less : (level : Level) (before behind : Option ℕ) → IsOfLevel slots bank side price gone → ((place : ℕ) × IsOfLevel (set slots gone None) bank side price place)
        → IsLast (IsOfLevel slots bank side price) (length slots) level.last → IsLastBelow (IsOfLevel slots bank side price) gone before → IsFirstFrom (IsOfLevel slots bank side price) (gone + 1) behind
        → IsLast (IsOfLevel (set slots gone None) bank side price) (length (set slots gone None)) (last_left level before behind)
    last-less level (Some at) None own other last prev none = record {
      below = let below = prev.below in let within = order_within slots gone order was in omega (arith, below, within, length-set slots gone None);
      is = let below = prev.below in left_then at (λ same. omega (arith, below, same)) prev.is;
      last = λ place above below in'. elim (cases_lt place gone) [
        | inl early ↦ prev.last place above early (left_was place in')
        | inr late ↦ none place (let differ = not_gone place in' in omega (arith, late, differ)) (left_was place in')
      ];
    }
    last-less level None None own other last none none' =
        absurd (elim (cases_lt other.0 gone) [
          | inl early ↦ none other.0 early (left_was other.0 other.1)
          | inr late ↦ none' other.0 (let differ = not_gone other.0 other.1 in omega (arith, late, differ)) (left_was other.0 other.1)
        ])
    last-less level None (Some at) own other last none next = last_stays level.last at last next
      where
        last_stays : (end at : ℕ) → IsLast (IsOfLevel slots bank side price) (length slots) end → IsFirst (IsOfLevel slots bank side price) (gone + 1) at
            → IsLast (IsOfLevel (set slots gone None) bank side price) (length (set slots gone None)) end
        last_stays end at last next = record {
          below = let below = last.below in omega (arith, below, length-set slots gone None);
          is = left_then end (λ same. let from = next.from_on in last.last at (omega (arith, from, same)) (order_within slots at next.is.order next.is.is) next.is) last.is;
          last = λ place above below in'. last.last place above (let was' = left_was place in' in order_within slots place was'.order was'.is) (left_was place in');
        }
    last-less level (Some before) (Some at) own other last prev next = record {
      below = let below = last.below in omega (arith, below, length-set slots gone None);
      is = left_then level.last (λ same. let from = next.from_on in last.last at (omega (arith, from, same)) (order_within slots at next.is.order next.is.is) next.is) last.is;
      last = λ place above below in'. last.last place above (let was' = left_was place in' in order_within slots place was'.order was'.is) (left_was place in');
    }

    pub level-removed : (level : Level) (before behind : Option ℕ) → HaveLots (λ at. get_or slots at None) → TellsOrders slots bank side price level → is_level (opposite side) bank price order ≡ true
        → IsLastBelow (IsOfLevel slots bank side price) gone before → IsFirstFrom (IsOfLevel slots bank side price) (gone + 1) behind
        → TellsOrders (set slots gone None) bank side price (without_order level order.left before behind)
    level-removed level before behind have is at prev next =
        let part = part_of_sum slots gone order was at in
        let own : IsOfLevel slots bank side price gone = record { order = order; is = was; at = at } in
        let some : 0 < order.left = omega (arith, (have gone order was).0) in
        let more : level.lots ≢ 0 = λ none. omega (arith, none, part, some, is.lots) in
        let left : Level = record { lots = level.lots - order.left; first = first_left level before behind; last = last_left level before behind } in
        let rest : sum_by (slot_lots bank side price) (set slots gone None) ≡ level.lots - order.left = omega (arith, part, is.lots) in
        elim (cases_eq (level.lots - order.left) 0) [
          | inl none ↦
              let empty : (place : ℕ) → IsOfLevel (set slots gone None) bank side price place → ⊥ = none_without (set slots gone None) have_left (rest ∙ none) in
              subst (TellsOrders (set slots gone None) bank side price) (sym (cond-true (eqb (level.lots - order.left) 0) no_level left (eq-eqb (level.lots - order.left) 0 none))) (record {
                first = λ place from in'. empty place in';
                last = λ place below in'. empty place in';
                lots = sym (rest ∙ none);
              })
          | inr some' ↦
              let other = some_with (set slots gone None) (λ none. some' (sym rest ∙ none)) in
              subst (TellsOrders (set slots gone None) bank side price) (sym (cond-false (eqb (level.lots - order.left) 0) no_level left (ne_eqb (level.lots - order.left) 0 some'))) (record {
                first = subst (IsFirstFrom (IsOfLevel (set slots gone None) bank side price) 0) (sym (some_lots left (Some left.first) some'))
                    (first-less level before behind own other (subst (IsFirstFrom (IsOfLevel slots bank side price) 0) (some_lots level (Some level.first) more) is.first) prev next);
                last = subst (IsLastBelow (IsOfLevel (set slots gone None) bank side price) (length (set slots gone None))) (sym (some_lots left (Some left.last) some'))
                    (last-less level before behind own other (subst (IsLastBelow (IsOfLevel slots bank side price) (length slots)) (some_lots level (Some level.last) more) is.last) prev next);
                lots = sym rest;
              })
        ]
      where
        have_left : HaveLots (λ at. get_or (set slots gone None) at None)
        have_left place o is = elim (cases_eq place gone) [
          | inl same ↦ let it : None ≡ Some o = sym (ap (λ p. get_or (set slots gone None) p None) same ∙ get_or-set_same slots gone None None (order_within slots gone order was)) ∙ is in cc
          | inr differ ↦ have place o (sym (get_or-set_other slots gone place None None differ) ∙ is)
        ]

    -- An order of another level goes.
    pub level-apart : (level : Level) → TellsOrders slots bank side price level → is_level (opposite side) bank price order ≡ false → TellsOrders (set slots gone None) bank side price level
    level-apart level is off = record {
      first = first_same (first_of_level level) is.first;
      last = last_same (last_of_level level) is.last;
      lots =
          let counts = sum_by-set (slot_lots bank side price) slots gone None None (order_within slots gone order was) in
          let held : slot_lots bank side price (get_or slots gone None) ≡ 0 = ap (slot_lots bank side price) was ∙ lots_off order off in
          omega (arith, counts, held, is.lots);
    }
      where
        now : (place : ℕ) → IsOfLevel slots bank side price place → IsOfLevel (set slots gone None) bank side price place
        now place in' = left_then place (λ same.
            let own : in'.order ≡ order = order_is slots gone in'.order order (ap (λ p. get_or slots p None) (sym same) ∙ in'.is) was in
            let both : false ≡ true = sym off ∙ ap (is_level (opposite side) bank price) (sym own) ∙ in'.at in cc) in'

        first_same : (link : Option ℕ) → IsFirstFrom (IsOfLevel slots bank side price) 0 link → IsFirstFrom (IsOfLevel (set slots gone None) bank side price) 0 link
        first_same None none = λ other from in'. none other from (left_was other in')
        first_same (Some place) first = record { from_on = first.from_on; is = now place first.is; first = λ other from below in'. first.first other from below (left_was other in') }

        last_same : (link : Option ℕ) → IsLastBelow (IsOfLevel slots bank side price) (length slots) link → IsLastBelow (IsOfLevel (set slots gone None) bank side price) (length (set slots gone None)) link
        last_same None none = λ other below in'. none other (omega (arith, below, length-set slots gone None)) (left_was other in')
        last_same (Some place) last = record {
          below = let below = last.below in omega (arith, below, length-set slots gone None);
          is = now place last.is;
          last = λ other above below in'. last.last other above (omega (arith, below, length-set slots gone None)) (left_was other in');
        }

    -- An order of the level is lowered, or one of another level.
    module _ (left : ℕ) where
      lowered_was : (place : ℕ) → IsOfLevel (set slots gone (Some (record order { left = left }))) bank side price place → IsOfLevel slots bank side price place
      lowered_was place in' =
          elim (cases_eq place gone) [
            | inl same ↦
                let own : record order { left = left } ≡ in'.order = order_is (set slots gone (Some (record order { left = left }))) gone (record order { left = left }) in'.order
                (get_or-set_same slots gone (Some (record order { left = left })) None (order_within slots gone order was)) (ap (λ p. get_or (set slots gone (Some (record order { left = left }))) p None) (sym same) ∙ in'.is) in
                record { order = order; is = ap (λ p. get_or slots p None) same ∙ was; at = ap (is_level (opposite side) bank price) own ∙ in'.at }
            | inr differ ↦ record { order = in'.order; is = sym (get_or-set_other slots gone place (Some (record order { left = left })) None differ) ∙ in'.is; at = in'.at }
          ]

      lowered_now : (place : ℕ) → IsOfLevel slots bank side price place → IsOfLevel (set slots gone (Some (record order { left = left }))) bank side price place
      lowered_now place in' =
          elim (cases_eq place gone) [
            | inl same ↦
                let own : in'.order ≡ order = order_is slots gone in'.order order (ap (λ p. get_or slots p None) (sym same) ∙ in'.is) was in
                record {
                  order = record order { left = left };
                  is = ap (λ p. get_or (set slots gone (Some (record order { left = left }))) p None) same
                      ∙ get_or-set_same slots gone (Some (record order { left = left })) None (order_within slots gone order was);
                  at = ap (is_level (opposite side) bank price) (sym own) ∙ in'.at;
                }
            | inr differ ↦ record { order = in'.order; is = get_or-set_other slots gone place (Some (record order { left = left })) None differ ∙ in'.is; at = in'.at }
          ]

      lowered_first : (link : Option ℕ) → IsFirstFrom (IsOfLevel slots bank side price) 0 link → IsFirstFrom (IsOfLevel (set slots gone (Some (record order { left = left }))) bank side price) 0 link
      lowered_first None none = λ other from in'. none other from (lowered_was other in')
      lowered_first (Some place) first = record { from_on = first.from_on; is = lowered_now place first.is; first = λ other from below in'. first.first other from below (lowered_was other in') }

      lowered_last : (link : Option ℕ) → IsLastBelow (IsOfLevel slots bank side price) (length slots) link
          → IsLastBelow (IsOfLevel (set slots gone (Some (record order { left = left }))) bank side price) (length (set slots gone (Some (record order { left = left })))) link
      lowered_last None none = λ other below in'. none other (omega (arith, below, length-set slots gone (Some (record order { left = left })))) (lowered_was other in')
      lowered_last (Some place) last = record {
        below = let below = last.below in omega (arith, below, length-set slots gone (Some (record order { left = left })));
        is = lowered_now place last.is;
        last = λ other above below in'. last.last other above (omega (arith, below, length-set slots gone (Some (record order { left = left })))) (lowered_was other in');
      }

      pub level-lowered : (level : Level) → TellsOrders slots bank side price level → is_level (opposite side) bank price order ≡ true → 0 < left → left ≤ order.left
          → TellsOrders (set slots gone (Some (record order { left = left }))) bank side price (record level { lots = level.lots - (order.left - left) })
      level-lowered level is at some less =
          let counts = sum_by-set (slot_lots bank side price) slots gone (Some (record order { left = left })) None (order_within slots gone order was) in
          let held : slot_lots bank side price (get_or slots gone None) ≡ order.left = ap (slot_lots bank side price) was ∙ lots_at order at in
          let part = part_of_sum slots gone order was at in
          let new : slot_lots bank side price (Some (record order { left = left })) ≡ left = lots_at (record order { left = left }) at in
          let less' : Level = record level { lots = level.lots - (order.left - left) } in
          let more : level.lots ≢ 0 = λ none. omega (arith, none, part, is.lots, some, less) in
          let more' : less'.lots ≢ 0 = λ none. omega (arith, none, part, is.lots, some, less) in
          record {
            first = subst (IsFirstFrom (IsOfLevel (set slots gone (Some (record order { left = left }))) bank side price) 0)
                (some_lots level (Some level.first) more ∙ sym (some_lots less' (Some level.first) more')) (lowered_first (first_of_level level) is.first);
            last = subst (IsLastBelow (IsOfLevel (set slots gone (Some (record order { left = left }))) bank side price) (length (set slots gone (Some (record order { left = left })))))
                (some_lots level (Some level.last) more ∙ sym (some_lots less' (Some level.last) more')) (lowered_last (last_of_level level) is.last);
            lots = omega (arith, counts, held, part, new, is.lots, less);
          }

      pub level-lowered_apart : (level : Level) → TellsOrders slots bank side price level → is_level (opposite side) bank price order ≡ false
          → TellsOrders (set slots gone (Some (record order { left = left }))) bank side price level
      level-lowered_apart level is off =
          let counts = sum_by-set (slot_lots bank side price) slots gone (Some (record order { left = left })) None (order_within slots gone order was) in
          let held : slot_lots bank side price (get_or slots gone None) ≡ 0 = ap (slot_lots bank side price) was ∙ lots_off order off in
          let new : slot_lots bank side price (Some (record order { left = left })) ≡ 0 = lots_off (record order { left = left }) off in
          record { first = lowered_first (first_of_level level) is.first; last = lowered_last (last_of_level level) is.last; lots = omega (arith, counts, held, new, is.lots) }

-- The neighbours that a list tells are those of the level.
pub same_side : (a b : Side) → is_opposite (opposite a) b ≡ true → a ≡ b
same_side Buy Buy is = refl
same_side Buy Sell is = let it : false ≡ true = is in cc
same_side Sell Buy is = let it : false ≡ true = is in cc
same_side Sell Sell is = refl

pub own_side : (a : Side) → is_opposite (opposite a) a ≡ true
own_side Buy = refl
own_side Sell = refl

pub of-level : (slots : List (Option Resting)) (order : Resting) (place : ℕ) → IsInLevel (λ at. get_or slots at None) order place → IsOfLevel slots order.bank order.side order.price place
of-level slots order place in' = record {
  order = in'.order;
  is = in'.is;
  at = and_from (eqb in'.order.bank order.bank && is_opposite (opposite order.side) in'.order.side) (eqb in'.order.price order.price)
      (and_from (eqb in'.order.bank order.bank) (is_opposite (opposite order.side) in'.order.side) (eq-eqb in'.order.bank order.bank (sym in'.alike.bank))
      (subst (λ side. is_opposite (opposite order.side) side ≡ true) in'.alike.side (own_side order.side)))
      (eq-eqb in'.order.price order.price (sym in'.alike.price));
}

pub in-level : (slots : List (Option Resting)) (order : Resting) (place : ℕ) → IsOfLevel slots order.bank order.side order.price place → IsInLevel (λ at. get_or slots at None) order place
in-level slots order place of =
    let outer = and_parts (eqb of.order.bank order.bank && is_opposite (opposite order.side) of.order.side) (eqb of.order.price order.price) of.at in
    let inner = and_parts (eqb of.order.bank order.bank) (is_opposite (opposite order.side) of.order.side) outer.0 in
    record {
      order = of.order;
      is = of.is;
      alike = record {
        bank = sym (eqb-true of.order.bank order.bank inner.0);
        side = same_side order.side of.order.side inner.1;
        price = sym (eqb-true of.order.price order.price outer.1);
      };
    }

pub level-of_itself : (order : Resting) → is_level (opposite order.side) order.bank order.price order ≡ true
level-of_itself order =
    and_from (eqb order.bank order.bank && is_opposite (opposite order.side) order.side) (eqb order.price order.price)
    (and_from (eqb order.bank order.bank) (is_opposite (opposite order.side) order.side) (eq-eqb order.bank order.bank refl) (own_side order.side))
    (eq-eqb order.price order.price refl)

pub first-told : (slots : List (Option Resting)) (order : Resting) (from : ℕ) (link : Option ℕ) → IsFirstFrom (IsInLevel (λ at. get_or slots at None) order) from link
    → IsFirstFrom (IsOfLevel slots order.bank order.side order.price) from link
first-told slots order from None none = λ place on of. none place on (in-level slots order place of)
first-told slots order from (Some at) first = record {
  from_on = first.from_on;
  is = of-level slots order at first.is;
  first = λ place on below of. first.first place on below (in-level slots order place of);
}

pub last-told : (slots : List (Option Resting)) (order : Resting) (end : ℕ) (link : Option ℕ) → IsLastBelow (IsInLevel (λ at. get_or slots at None) order) end link
    → IsLastBelow (IsOfLevel slots order.bank order.side order.price) end link
last-told slots order end None none = λ place below of. none place below (in-level slots order place of)
last-told slots order end (Some at) last = record {
  below = last.below;
  is = of-level slots order at last.is;
  last = λ place above below of. last.last place above below (in-level slots order place of);
}

-- and the last order of a level is what a list asks for, as one comes
pub last-asked : (slots : List (Option Resting)) (order : Resting) (end : ℕ) (link : Option ℕ) → IsLastBelow (IsOfLevel slots order.bank order.side order.price) end link
    → IsLastBelow (IsInLevel (λ at. get_or slots at None) order) end link
last-asked slots order end None none = λ place below in'. none place below (of-level slots order place in')
last-asked slots order end (Some at) last = record {
  below = last.below;
  is = in-level slots order at last.is;
  last = λ place above below in'. last.last place above below (of-level slots order place in');
}
