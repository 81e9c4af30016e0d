-- A search along a bank's orders of a side for the best one behind an order of any bank.
use Rattle.std.proofs.Common.{ℕ, ◌≡◌, ◌≢◌, ◌≤◌, ◌<◌, true, false, Bool, ◌&&◌, leb, ltb, List, [], ◌∷◌, Option, Some, None, length, get_or, inl, inr, refl, ap, sym, subst, ◌∙◌, arith}
use Rattle.std.proofs.lemmas.Bool.{and_from, and_parts, and_right, both_ways, cases_Bool, cases_order, eq-eqb, eqb-true, false_from_ne_true, le-leb, ltb-true}
use Rattle.std.specs.List.{filter}
use Rattle.fx_amounts.specs.Side.{opposite}
use Rattle.fx_amounts.specs.declared.side.Side.{Side}
use Rattle.fx_amounts.specs.declared.side.Side.TheVariants.{Buy, Sell}
use Rattle.fx_rules.specs.declared.orders.Resting.{Resting}
use Rattle.fx_rules.specs.Lists.{Among}
use Rattle.fx_rules.specs.Plan.{is_behind}
use Rattle.fx_rules.specs.Sweep.{IsBest, is_better, is_opposite, is_preferred}
use Rattle.fx_rules.proofs.ListLemmas.{Each-among, filter_cons_false, filter_cons_true}
use Rattle.fx_rules.proofs.Preference.{preferred_either, preferred_self, preferred_trans}
use Rattle.order_store.specs.Linked.{AreRising}
use Rattle.global_book.specs.Behind.{is_owned_behind, owned_behind}
use Rattle.global_book.specs.Book.{AreInTime, is_of}
use Rattle.global_book.specs.Room.{rank_of}
use Rattle.global_book.specs.inside.Ahead.{SeeksAhead, first_rank, slot_behind, still_ahead}
use Rattle.global_book.specs.inside.Bests.{IsBestAt, IsBestOf, is_own_behind, is_own_from}
use Rattle.global_book.specs.inside.Ends.{orders_of}
use Rattle.global_book.specs.inside.Linked.{Linked, orders_in}
use Rattle.global_book.specs.inside.Owning.{is_own}
use Rattle.global_book.proofs.Ending.{order_is, own_side, same_side}
use Rattle.global_book.proofs.Listing.{among-at, best-listed, none-at}
use Rattle.global_book.proofs.Preferring.{preferred-by}

-- the parts of the tests
sought-parts : (bank : ℕ) (side : Side) (before : ℕ) (past : Option Resting) (o : Resting) → is_owned_behind (opposite side) bank before past o ≡ true → (is_own bank side o ≡ true) × (is_behind (opposite side) past o ≡ true)
sought-parts bank side before past o on =
    let outer = and_parts (is_opposite (opposite side) o.side && is_of bank o && ltb o.arrival before) (is_behind (opposite side) past o) on in
    let inner = and_parts (is_opposite (opposite side) o.side && is_of bank o) (ltb o.arrival before) outer.0 in
    let own = and_parts (is_opposite (opposite side) o.side) (is_of bank o) inner.0 in
    (and_from (is_of bank o) (is_opposite (opposite side) o.side) own.1 own.0, outer.1)

-- an order of the same bank and side as another
like-own : (bank : ℕ) (side : Side) (last o : Resting) → is_own bank side last ≡ true → is_own bank side o ≡ true → (is_of last.bank o && is_opposite (opposite last.side) o.side) ≡ true
like-own bank side last o own own' =
    let parts = and_parts (is_of bank last) (is_opposite (opposite side) last.side) own in
    let bank_is : last.bank ≡ bank = eqb-true last.bank bank parts.0 in
    let side_is : side ≡ last.side = same_side side last.side parts.1 in
    subst (λ b. (is_of b o && is_opposite (opposite last.side) o.side) ≡ true) (sym bank_is) (subst (λ s. (is_of bank o && is_opposite (opposite s) o.side) ≡ true) side_is own')

own-like : (bank : ℕ) (side : Side) (last o : Resting) → is_own bank side last ≡ true → (is_of last.bank o && is_opposite (opposite last.side) o.side) ≡ true → is_own bank side o ≡ true
own-like bank side last o own own' =
    let parts = and_parts (is_of bank last) (is_opposite (opposite side) last.side) own in
    let bank_is : last.bank ≡ bank = eqb-true last.bank bank parts.0 in
    let side_is : side ≡ last.side = same_side side last.side parts.1 in
    subst (λ b. (is_of b o && is_opposite (opposite side) o.side) ≡ true) bank_is (subst (λ s. (is_of last.bank o && is_opposite (opposite s) o.side) ≡ true) (sym side_is) own')

-- The search begins at the price of the order.
pub ahead-begun : (slots : List (Option Resting)) (bank : ℕ) (side : Side) (before : ℕ) (past : Option Resting) (found : Option ℕ) → IsBestOf slots (is_own_from bank side (first_rank side past)) side found
    → SeeksAhead slots bank side before past found
ahead-begun slots bank side before past found best = record {
  rest = is_own_from bank side (first_rank side past);
  best = best;
  own = λ o on. (and_parts (is_own bank side o) (leb (first_rank side past) (rank_of side o.price)) on).0;
  sought = λ place o is on.
      let parts = sought-parts bank side before past o on in
      and_from (is_own bank side o) (leb (first_rank side past) (rank_of side o.price)) parts.0 (le-leb (first_rank side past) (rank_of side o.price) (from-on past o parts.1));
}
  where
    worse-on : (side : Side) (a b : ℕ) → is_better (opposite side) a b ≡ true → rank_of side a ≤ rank_of side b
    worse-on Buy a b is = let it = ltb-true b a is in omega (arith, it)
    worse-on Sell a b is = let it = ltb-true a b is in omega (arith, it)

    from-on : (past : Option Resting) (o : Resting) → is_behind (opposite side) past o ≡ true → first_rank side past ≤ rank_of side o.price
    from-on None o behind = omega arith
    from-on (Some last) o behind =
        elim (preferred-by (opposite side) last o behind) [
          | inl better ↦ worse-on side last.price o.price better
          | inr later ↦ omega (arith, ap (rank_of side) later.0)
        ]

-- It passes an order that is not.
pub ahead-passed : (slots : List (Option Resting)) (bank : ℕ) (side : Side) (before : ℕ) (past : Option Resting) (next next' : Option ℕ) (place : ℕ) (order : Resting) → AreRising (λ at. get_or slots at None)
    → SeeksAhead slots bank side before past next → next ≡ Some place → get_or slots place None ≡ Some order → is_owned_behind (opposite side) bank before past order ≡ false
    → IsBestOf slots (is_own_behind order) order.side next' → SeeksAhead slots bank side before past next'
ahead-passed slots bank side before past next next' place order rising seeks is at passed best =
    let here : IsBestAt slots seeks.rest side place = subst (IsBestOf slots seeks.rest side) is seeks.best in
    let same : here.order ≡ order = order_is slots place here.order order here.is at in
    let own : is_own bank side order ≡ true = seeks.own order (subst (λ o. seeks.rest o ≡ true) same here.passes_it) in
    let side_is : side ≡ order.side = same_side side order.side (and_parts (is_of bank order) (is_opposite (opposite side) order.side) own).1 in
    record {
      rest = is_own_behind order;
      best = subst (λ s. IsBestOf slots (is_own_behind order) s next') (sym side_is) best;
      own = λ o on. own-like bank side order o own (and_parts (is_of order.bank o && is_opposite (opposite order.side) o.side) (is_preferred (opposite order.side) order o) on).0;
      sought = λ other o is' on.
          let below : is_preferred (opposite side) o order ≡ false = subst (λ h. is_preferred (opposite side) o h ≡ false) same (here.best other o is' (seeks.sought other o is' on)) in
          let later : is_preferred (opposite side) order o ≡ true = preferred_either (opposite side) o order (apart other o is' on) below in
          and_from (is_of order.bank o && is_opposite (opposite order.side) o.side) (is_preferred (opposite order.side) order o) (like-own bank side order o own (sought-parts bank side before past o on).0)
          (subst (λ s. is_preferred (opposite s) order o ≡ true) side_is later);
    }
  where
    apart : (other : ℕ) (o : Resting) → get_or slots other None ≡ Some o → is_owned_behind (opposite side) bank before past o ≡ true → o.arrival ≢ order.arrival
    apart other o is' on equal =
        elim (cases_order other place) [
          | inl one ↦
              let alike : o ≡ order = order_is slots place o order (ap (λ p. get_or slots p None) (sym one) ∙ is') at in
              both_ways (is_owned_behind (opposite side) bank before past order) passed (subst (λ h. is_owned_behind (opposite side) bank before past h ≡ true) alike on)
          | inr differ ↦ elim differ [
            | inl earlier ↦ omega (arith, equal, rising other place o order is' at earlier)
            | inr later ↦ omega (arith, equal, rising place other order o at is' later)
          ]
        ]

-- Fewer orders are to come.
pub fewer : (p q : Resting → Bool) (xs : List Resting) (x : Resting) → Among x xs → p x ≡ false → q x ≡ true → ((y : Resting) → p y ≡ true → q y ≡ true) → length (filter p xs) < length (filter q xs)
fewer p q [] x there fails passes within = absurd there
fewer p q (y ∷ ys) x there fails passes within =
    elim (cases_Bool (p y)) [
      | inl on ↦ omega (
        arith,
        fewer p q ys x (later there on) fails passes within,
        ap (λ (zs : List Resting). length zs) (filter_cons_true p y ys on),
        ap (λ (zs : List Resting). length zs) (filter_cons_true q y ys (within y on)),
      )
      | inr off ↦ elim there [
        | inl is ↦ omega (
          arith,
          no-more ys,
          ap (λ (zs : List Resting). length zs) (filter_cons_false p y ys off),
          ap (λ (zs : List Resting). length zs) (filter_cons_true q y ys (ap q (sym is) ∙ passes)),
        )
        | inr after ↦ omega (arith, fewer p q ys x after fails passes within, ap (λ (zs : List Resting). length zs) (filter_cons_false p y ys off), with-first)
      ]
    ]
  where
    later : Among x (y ∷ ys) → p y ≡ true → Among x ys
    later (inl is) on = absurd (both_ways (p x) fails (ap p is ∙ on))
    later (inr after) on = after

    no-more : (zs : List Resting) → length (filter p zs) ≤ length (filter q zs)
    no-more [] = omega arith
    no-more (z ∷ zs) =
        let rest = no-more zs in
        elim (cases_Bool (p z)) [
          | inl on ↦ omega (arith, rest, ap (λ (os : List Resting). length os) (filter_cons_true p z zs on), ap (λ (os : List Resting). length os) (filter_cons_true q z zs (within z on)))
          | inr off ↦ elim (cases_Bool (q z)) [
            | inl on ↦ omega (arith, rest, ap (λ (os : List Resting). length os) (filter_cons_false p z zs off), ap (λ (os : List Resting). length os) (filter_cons_true q z zs on))
            | inr out ↦ omega (arith, rest, ap (λ (os : List Resting). length os) (filter_cons_false p z zs off), ap (λ (os : List Resting). length os) (filter_cons_false q z zs out))
          ]
        ]

    with-first : length (filter q ys) ≤ length (filter q (y ∷ ys))
    with-first =
        elim (cases_Bool (q y)) [
          | inl on ↦ omega (arith, ap (λ (os : List Resting). length os) (filter_cons_true q y ys on))
          | inr off ↦ omega (arith, ap (λ (os : List Resting). length os) (filter_cons_false q y ys off))
        ]

pub ahead-smaller : (slots : List (Option Resting)) (next' : Option ℕ) (place : ℕ) (order : Resting) → get_or slots place None ≡ Some order → IsBestOf slots (is_own_behind order) order.side next'
    → still_ahead slots next' < still_ahead slots (Some place)
ahead-smaller slots None place order at best = subst (λ s. 0 < slot_behind slots s) (sym at) (omega arith)
ahead-smaller slots (Some q) place order at best =
    let one : Resting = best.order in
    let parts = and_parts (is_of order.bank one && is_opposite (opposite order.side) one.side) (is_preferred (opposite order.side) order one) best.passes_it in
    let own : is_own order.bank order.side order ≡ true = and_from (is_of order.bank order) (is_opposite (opposite order.side) order.side) (eq-eqb order.bank order.bank refl) (own_side order.side) in
    let side_is : order.side ≡ one.side = same_side order.side one.side (and_parts (is_of order.bank one) (is_opposite (opposite order.side) one.side) parts.0).1 in
    subst (λ s. slot_behind slots s < slot_behind slots (get_or slots place None)) (sym best.is)
    (subst (λ s. slot_behind slots (Some one) < slot_behind slots s) (sym at)
    (let less = fewer (is_own_behind one) (is_own_behind order) (orders_of slots) one (among-at slots q one best.is)
    (and_right (is_of one.bank one && is_opposite (opposite one.side) one.side) (is_preferred (opposite one.side) one one) (false_from_ne_true (is_preferred (opposite one.side) one one) (preferred_self (opposite one.side) one)))
    best.passes_it
    (λ o on.
    let its = and_parts (is_of one.bank o && is_opposite (opposite one.side) o.side) (is_preferred (opposite one.side) one o) on in
    and_from (is_of order.bank o && is_opposite (opposite order.side) o.side) (is_preferred (opposite order.side) order o) (own-like order.bank order.side one o parts.0 its.0)
    (preferred_trans (opposite order.side) order one o parts.1 (subst (λ s. is_preferred (opposite s) one o ≡ true) (sym side_is) its.1))) in
    omega (arith, less)))

-- Where all orders of the side arrived in time, none that it comes to is too late.
pub ahead-early : (slots : List (Option Resting)) (bank : ℕ) (side : Side) (before : ℕ) (past : Option Resting) (next : Option ℕ) (place : ℕ) (order : Resting) → SeeksAhead slots bank side before past next → next ≡ Some place
    → get_or slots place None ≡ Some order → AreInTime side before (orders_of slots) → order.arrival < before
ahead-early slots bank side before past next place order seeks is at timely =
    let here : IsBestAt slots seeks.rest side place = subst (IsBestOf slots seeks.rest side) is seeks.best in
    let same : here.order ≡ order = order_is slots place here.order order here.is at in
    let own = and_parts (is_of bank order) (is_opposite (opposite side) order.side) (seeks.own order (subst (λ o. seeks.rest o ≡ true) same here.passes_it)) in
    Each-among (λ (o : Resting). o.side ≡ side → o.arrival < before) (orders_of slots) order timely (among-at slots place order at) (sym (same_side side order.side own.1))

-- What callers see of what it answers.
pub ahead-none : (linked : Linked) (orders : List Resting) (bank : ℕ) (side : Side) (before : ℕ) (past : Option Resting) (found : Option ℕ) → orders_in linked ≡ orders
    → IsBestOf linked.orders.slots (is_owned_behind (opposite side) bank before past) side found → found ≡ None → owned_behind side bank before past orders ≡ []
ahead-none linked orders bank side before past found seen best is =
    subst (λ os. owned_behind side bank before past os ≡ []) seen
    (none-at (is_owned_behind (opposite side) bank before past) linked.orders.slots (subst (IsBestOf linked.orders.slots (is_owned_behind (opposite side) bank before past) side) is best))

pub ahead-best : (linked : Linked) (orders : List Resting) (bank : ℕ) (side : Side) (before : ℕ) (past : Option Resting) (found : Option ℕ) (place : ℕ) (order : Resting) → orders_in linked ≡ orders
    → IsBestOf linked.orders.slots (is_owned_behind (opposite side) bank before past) side found → found ≡ Some place → get_or linked.orders.slots place None ≡ Some order
    → IsBest (opposite side) (owned_behind side bank before past orders) order
ahead-best linked orders bank side before past found place order seen best is at =
    let here : IsBestAt linked.orders.slots (is_owned_behind (opposite side) bank before past) side place = subst (IsBestOf linked.orders.slots (is_owned_behind (opposite side) bank before past) side) is best in
    subst (λ os. IsBest (opposite side) (owned_behind side bank before past os) order) seen
    (subst (IsBest (opposite side) (owned_behind side bank before past (orders_in linked))) (order_is linked.orders.slots place here.order order here.is at)
    (best-listed linked.orders.slots (is_owned_behind (opposite side) bank before past) side place here))
