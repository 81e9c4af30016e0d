-- A bank's orders of a side that cross a price, gathered from level to level.
use Rattle.std.proofs.Common.{ℕ, suc, ◌≡◌, ◌≢◌, ◌+◌, ◌≤◌, ◌<◌, ◌^◌, ◌⊎◌, true, false, Bool, ◌&&◌, ◌||◌, eqb, leb, List, [], ◌∷◌, ◌++◌, Option, Some, None, All, IsSome, drop, get_or, length, inl, inr, refl, ap, sym, subst, ◌∙◌, arith}
use Rattle.std.proofs.lemmas.Bool.{and_from, and_parts, both_ways, cases_Bool, cases_lt, eq-eqb, eqb-true, false_from_ne_true, le-leb, leb-true, or_from, or_left, or_right}
use Rattle.std.proofs.lemmas.List.{append-nil, append_assoc, drop-append-le, drop_more}
use Rattle.std.proofs.lemmas.List.Elements.{All-push}
use Rattle.std.proofs.lemmas.List.Sorted.{IsPermutation-append_comm, IsPermutation-append_left, IsPermutation-append_right, IsPermutation-cons, IsPermutation-middle, IsPermutation-refl, IsPermutation-sym, IsPermutation-trans, length_permutation}
use Rattle.std.specs.List.{filter}
use Rattle.std.specs.List.Sorted.{IsPermutation}
use Rattle.std.specs.Option.{IfSome}
use Rattle.fx_amounts.specs.Price.{crosses}
use Rattle.fx_amounts.specs.Side.{opposite}
use Rattle.fx_amounts.specs.declared.side.Side.{Side}
use Rattle.fx_amounts.specs.declared.side.Side.TheVariants.{Buy, Sell}
use Rattle.fx_rules.specs.declared.orders.Resting.{Resting}
use Rattle.fx_rules.specs.Lists.{Among, EachPair}
use Rattle.fx_rules.specs.Sound.{ArrivesBefore}
use Rattle.fx_rules.specs.Sweep.{is_preferred}
use Rattle.fx_rules.proofs.ListLemmas.{Each-among, filter_agree_on, filter_cons_false, filter_cons_true}
use Rattle.order_store.specs.Linked.{AreRising, IsAlike, IsFirst, IsFirstFrom, IsInLevel}
use Rattle.global_book.specs.Book.{crossing, is_crossing, is_level}
use Rattle.global_book.specs.Room.{rank_of}
use Rattle.global_book.specs.inside.Bests.{IsBestAt, IsBestOf, is_own_from}
use Rattle.global_book.specs.inside.Crossing.{FindsLevels, TakesLevels, is_crossing_from, is_level_from, level_from, levels_from}
use Rattle.global_book.specs.inside.Ends.{orders_of}
use Rattle.global_book.specs.inside.Linked.{IsPriced}
use Rattle.global_book.proofs.Listing.{AreUnique, among-at, at-among, none-at, orders-rising}
use Rattle.global_book.proofs.Preferring.{IsOwn, arrival-upto, own-from, own-parts, place-after, preferred-better, preferred-earlier, rank-better}
use Rattle.global_book.proofs.Telling.{rank-one}

-- a test that leaves out one more order, and no other
one_first : (p q : Resting → Bool) (xs : List Resting) (x : Resting) → EachPair ArrivesBefore xs → Among x xs → p x ≡ false → q x ≡ true
    → ((y : Resting) → Among y xs → y.arrival ≢ x.arrival → p y ≡ q y) → IsPermutation (filter q xs) (x ∷ filter p xs)
one_first p q [] x rising there fails passes same = absurd there
one_first p q (y ∷ ys) x rising (inl is) fails passes same =
    let rest : filter p ys ≡ filter q ys = filter_agree_on p q ys (λ o there.
    let later : ArrivesBefore y o = Each-among (ArrivesBefore y) ys o rising.0 there in
    same o (inr there) (λ equal. omega (arith, later.arrival, equal, ap (λ (r : Resting). r.arrival) is))) in
    let with : filter q (y ∷ ys) ≡ x ∷ filter p (y ∷ ys) =
    filter_cons_true q y ys (ap q (sym is) ∙ passes) ∙ ap (λ (o : Resting). o ∷ filter q ys) (sym is) ∙ ap (λ (zs : List Resting). x ∷ zs) (sym rest ∙ sym (filter_cons_false p y ys (ap p (sym is) ∙ fails))) in
    subst (IsPermutation (filter q (y ∷ ys))) with (IsPermutation-refl (filter q (y ∷ ys)))
one_first p q (y ∷ ys) x rising (inr there) fails passes same =
    let rest : IsPermutation (filter q ys) (x ∷ filter p ys) = one_first p q ys x rising.1 there fails passes (λ o in'. same o (inr in')) in
    let earlier : ArrivesBefore y x = Each-among (ArrivesBefore y) ys x rising.0 there in
    let alike : p y ≡ q y = same y (inl refl) (λ equal. omega (arith, earlier.arrival, equal)) in
    elim (cases_Bool (q y)) [
      | inl on ↦
          subst (λ (zs : List Resting). IsPermutation zs (x ∷ filter p (y ∷ ys))) (sym (filter_cons_true q y ys on))
          (subst (λ (zs : List Resting). IsPermutation (y ∷ filter q ys) (x ∷ zs)) (sym (filter_cons_true p y ys (alike ∙ on)))
          (IsPermutation-trans (y ∷ filter q ys) (y ∷ (x ∷ filter p ys)) (x ∷ (y ∷ filter p ys)) (IsPermutation-cons y (filter q ys) (x ∷ filter p ys) rest) (IsPermutation-middle (y ∷ []) x (filter p ys))))
      | inr off ↦
          subst (λ (zs : List Resting). IsPermutation zs (x ∷ filter p (y ∷ ys))) (sym (filter_cons_false q y ys off))
          (subst (λ (zs : List Resting). IsPermutation (filter q ys) (x ∷ zs)) (sym (filter_cons_false p y ys (alike ∙ off))) rest)
    ]

-- a test that is passed where one of two others is, which are not passed together
abbrev IsEither : Bool → Bool → Bool → Type 0
IsEither p q r = ((p && q) ≡ false) × (r ≡ (p || q))

either-of : (p q r : Bool) → (p ≡ true → q ≡ true → ⊥) → (p ≡ true → r ≡ true) → (q ≡ true → r ≡ true) → (r ≡ true → (p ≡ true) ⊎ (q ≡ true)) → IsEither p q r
either-of true true r apart one two back = absurd (apart refl refl)
either-of true false r apart one two back = (refl, one refl)
either-of false true r apart one two back = (refl, two refl)
either-of false false r apart one two back = (refl, false_from_ne_true r (λ is. elim (back is) [ inl it ↦ cc | inr it ↦ cc ]))

filter-either : (p q r : Resting → Bool) (xs : List Resting) → ((x : Resting) → Among x xs → IsEither (p x) (q x) (r x)) → IsPermutation (filter r xs) (filter p xs ++ filter q xs)
filter-either p q r [] either = IsPermutation-refl []
filter-either p q r (x ∷ xs) either =
    let rest : IsPermutation (filter r xs) (filter p xs ++ filter q xs) = filter-either p q r xs (λ y there. either y (inr there)) in
    let under : IsPermutation (x ∷ filter r xs) (x ∷ (filter p xs ++ filter q xs)) = IsPermutation-cons x (filter r xs) (filter p xs ++ filter q xs) rest in
    let it : IsEither (p x) (q x) (r x) = either x (inl refl) in
    elim (cases_Bool (p x)) [
      | inl one ↦
          let other : q x ≡ false = sym (ap (λ b. b && q x) one) ∙ it.0 in
          rw (filter_cons_true r x xs (it.1 ∙ or_left (p x) (q x) one), filter_cons_true p x xs one, filter_cons_false q x xs other) under
      | inr none ↦ elim (cases_Bool (q x)) [
        | inl one ↦
            rw (filter_cons_true r x xs (it.1 ∙ or_right (p x) (q x) one), filter_cons_false p x xs none, filter_cons_true q x xs one)
            (IsPermutation-trans (x ∷ filter r xs) (x ∷ (filter p xs ++ filter q xs)) (filter p xs ++ x ∷ filter q xs) under
            (IsPermutation-sym (filter p xs ++ x ∷ filter q xs) (x ∷ (filter p xs ++ filter q xs)) (IsPermutation-middle (filter p xs) x (filter q xs))))
        | inr neither ↦
            rw (filter_cons_false r x xs (it.1 ∙ or_from (p x) (q x) none neither), filter_cons_false p x xs none, filter_cons_false q x xs neither) rest
      ]
    ]

-- An order of a level from another one of it on.
level_from-says : (first order : Resting) → is_level_from first order ≡ true → IsAlike first order × (first.arrival ≤ order.arrival)
level_from-says first order is =
    let outer = and_parts (is_level (opposite first.side) first.bank first.price order) (leb first.arrival order.arrival) is in
    let own = own-parts first.bank first.side order (eqb order.price first.price) outer.0 in (
      record { bank = sym own.0.bank_is; side = own.0.side_is; price = sym (eqb-true order.price first.price own.1) },
      leb-true first.arrival order.arrival outer.1,
    )

level_from-is : (first order : Resting) → IsAlike first order → first.arrival ≤ order.arrival → is_level_from first order ≡ true
level_from-is first order alike upto =
    and_from (is_level (opposite first.side) first.bank first.price order) (leb first.arrival order.arrival)
    (own-from first.bank first.side order (eqb order.price first.price) (record { bank_is = sym alike.bank; side_is = alike.side }) (eq-eqb order.price first.price (sym alike.price)))
    (le-leb first.arrival order.arrival upto)

same-test : (a b : Bool) → (a ≡ true → b ≡ true) → (b ≡ true → a ≡ true) → a ≡ b
same-test true b on back = sym (on refl)
same-test false b on back = sym (false_from_ne_true b (λ is. let it : false ≡ true = back is in cc))

-- A level from one order on is that order, and the level from the one behind it on.
module _ (slots : List (Option Resting)) (rising : AreRising (λ at. get_or slots at None)) (unique : AreUnique slots) (place : ℕ) (order : Resting) (is : get_or slots place None ≡ Some order) where
  level-itself : is_level_from order order ≡ true
  level-itself = level_from-is order order (record { bank = refl; side = refl; price = refl }) (omega arith)

  -- another order of it is at a later place
  behind-it : (one : Resting) → Among one (orders_of slots) → one.arrival ≢ order.arrival → is_level_from order one ≡ true
      → (other : ℕ) × (place + 1 ≤ other) × IsInLevel (λ at. get_or slots at None) order other × (get_or slots other None ≡ Some one)
  behind-it one there differ of =
      let says = level_from-says order one of in
      let at = at-among slots one there in
      let after = place-after slots place at.0 order one rising is at.1 (omega (arith, says.1, differ)) in
      (at.0, omega (arith, after), record { order = one; is = at.1; alike = says.0 }, at.1)

  level-last : IsFirstFrom (IsInLevel (λ at. get_or slots at None) order) (place + 1) None → IsPermutation (level_from slots (Some order)) (order ∷ [])
  level-last none =
      subst (λ (os : List Resting). IsPermutation (filter (is_level_from order) (orders_of slots)) (order ∷ os)) (none-at (λ _. false) slots (λ other one at. refl))
      (one_first (λ _. false) (is_level_from order) (orders_of slots) order (orders-rising slots rising unique) (among-at slots place order is) refl level-itself
      (λ one there differ. sym (false_from_ne_true (is_level_from order one) (λ of. let at = behind-it one there differ of in none at.0 at.1 at.2))))

  level-next : (next : ℕ) → IsFirst (IsInLevel (λ at. get_or slots at None) order) (place + 1) next → IsPermutation (level_from slots (Some order)) (order ∷ level_from slots (get_or slots next None))
  level-next next first =
      let later : order.arrival < first.is.order.arrival = let on = first.from_on in rising place next order first.is.order is first.is.is (omega (arith, on)) in
      subst (λ (s : Option Resting). IsPermutation (level_from slots (Some order)) (order ∷ level_from slots s)) (sym first.is.is)
      (one_first (is_level_from first.is.order) (is_level_from order) (orders_of slots) order (orders-rising slots rising unique) (among-at slots place order is)
      (false_from_ne_true (is_level_from first.is.order order) (λ of. let says = level_from-says first.is.order order of in omega (arith, says.1, later)))
      level-itself
      (λ one there differ. same-test (is_level_from first.is.order one) (is_level_from order one)
      (λ of.
      let says = level_from-says first.is.order one of in
      level_from-is order one
      (record { bank = first.is.alike.bank ∙ says.0.bank; side = first.is.alike.side ∙ says.0.side; price = first.is.alike.price ∙ says.0.price })
      (omega (arith, says.1, later)))
      (λ of.
      let says = level_from-says order one of in
      let at = behind-it one there differ of in
      let upto : next ≤ at.0 = elim (cases_lt at.0 next) [
        | inl before ↦ absurd (first.first at.0 at.1 before at.2)
        | inr behind ↦ behind
      ] in
      level_from-is first.is.order one
      (record { bank = sym first.is.alike.bank ∙ says.0.bank; side = sym first.is.alike.side ∙ says.0.side; price = sym first.is.alike.price ∙ says.0.price })
      (arrival-upto slots next at.0 first.is.order one rising first.is.is at.3 upto))))

-- Levels that stand one behind the other.
levels-append : (slots : List (Option Resting)) (places more : List ℕ) → levels_from slots (places ++ more) ≡ levels_from slots places ++ levels_from slots more
levels-append slots [] more = refl
levels-append slots (place ∷ places) more =
    ap (λ (os : List Resting). level_from slots (get_or slots place None) ++ os) (levels-append slots places more)
    ∙ sym (append_assoc (level_from slots (get_or slots place None)) (levels_from slots places) (levels_from slots more))

levels-pushed : (slots : List (Option Resting)) (places : List ℕ) (place : ℕ) → levels_from slots (places ++ place ∷ []) ≡ levels_from slots places ++ level_from slots (get_or slots place None)
levels-pushed slots places place =
    levels-append slots places (place ∷ []) ∙ ap (λ (os : List Resting). levels_from slots places ++ os) (append-nil (level_from slots (get_or slots place None)))

-- the places of a queue, with the next one where there is one
abbrev pub queued : List ℕ → Option ℕ → List ℕ
queued places None = places
queued places (Some next) = places ++ next ∷ []

-- the orders of a level from the next one on, where there is one
abbrev level_on : List (Option Resting) → Option ℕ → List Resting
level_on slots None = []
level_on slots (Some next) = level_from slots (get_or slots next None)

-- A queue of places: the order at one of them is taken, and the place of the one behind it in its level comes to the end.
module _ (slots : List (Option Resting)) (rising : AreRising (λ at. get_or slots at None)) (unique : AreUnique slots) (place : ℕ) (order : Resting) (is : get_or slots place None ≡ Some order) where
  level-behind : (next : Option ℕ) → IsFirstFrom (IsInLevel (λ at. get_or slots at None) order) (place + 1) next → IsPermutation (level_from slots (Some order)) (order ∷ level_on slots next)
  level-behind None none = level-last slots rising unique place order is none
  level-behind (Some next) first = level-next slots rising unique place order is next first

  module _ (places : List ℕ) (at : ℕ) (within : at < length places) (here : place ≡ get_or places at place) (next : Option ℕ) (behind : IsFirstFrom (IsInLevel (λ at. get_or slots at None) order) (place + 1) next) where
    abbrev others : List Resting
    others = levels_from slots (drop (at + 1) places)

    queue-now : levels_from slots (drop at places) ≡ level_from slots (Some order) ++ others
    queue-now =
        ap (levels_from slots) (drop_more places at place within)
        ∙ ap (λ (p : ℕ). level_from slots (get_or slots p None) ++ others) (sym here)
        ∙ ap (λ (s : Option Resting). level_from slots s ++ others) is

    queue-then : levels_from slots (drop (at + 1) (queued places next)) ≡ others ++ level_on slots next
    queue-then = of next
      where
        of : (next : Option ℕ) → levels_from slots (drop (at + 1) (queued places next)) ≡ others ++ level_on slots next
        of None = sym (append-nil others)
        of (Some next) = ap (levels_from slots) (drop-append-le (at + 1) places (next ∷ []) (omega (arith, within))) ∙ levels-pushed slots (drop (at + 1) places) next

    queue-step : IsPermutation (levels_from slots (drop at places)) (order ∷ levels_from slots (drop (at + 1) (queued places next)))
    queue-step =
        rw (queue-now, queue-then)
        (IsPermutation-trans (level_from slots (Some order) ++ others) (order ∷ (level_on slots next ++ others)) (order ∷ (others ++ level_on slots next))
        (IsPermutation-append_left others (level_from slots (Some order)) (order ∷ level_on slots next) (level-behind next behind))
        (IsPermutation-cons order (level_on slots next ++ others) (others ++ level_on slots next) (IsPermutation-append_comm (level_on slots next) others)))

    pub queue-takes : (bank : ℕ) (side : Side) (top : ℕ) (taken : List Resting) → TakesLevels slots bank side top taken (drop at places) → TakesLevels slots bank side top (taken ++ order ∷ []) (drop (at + 1) (queued places next))
    queue-takes bank side top taken takes =
        IsPermutation-trans (crossing bank side top (orders_of slots)) (taken ++ levels_from slots (drop at places)) ((taken ++ order ∷ []) ++ levels_from slots (drop (at + 1) (queued places next))) takes
        (subst (IsPermutation (taken ++ levels_from slots (drop at places))) (sym (append_assoc taken (order ∷ []) (levels_from slots (drop (at + 1) (queued places next)))))
        (IsPermutation-append_right taken (levels_from slots (drop at places)) (order ∷ levels_from slots (drop (at + 1) (queued places next))) queue-step))

    pub queue-smaller : length (levels_from slots (drop (at + 1) (queued places next))) < length (levels_from slots (drop at places))
    queue-smaller =
        let it : suc (length (levels_from slots (drop (at + 1) (queued places next)))) ≡ length (levels_from slots (drop at places)) =
        length_permutation (levels_from slots (drop at places)) (order ∷ levels_from slots (drop (at + 1) (queued places next))) queue-step in
        omega (arith, it)

    pub queue-live : All (λ (p : ℕ). IsSome (get_or slots p None)) places → All (λ (p : ℕ). IsSome (get_or slots p None)) (queued places next)
    queue-live live = of next behind
      where
        of : (next : Option ℕ) → IsFirstFrom (IsInLevel (λ at. get_or slots at None) order) (place + 1) next → All (λ (p : ℕ). IsSome (get_or slots p None)) (queued places next)
        of None none = live
        of (Some next) first = All-push (λ (p : ℕ). IsSome (get_or slots p None)) places next live (subst (λ (s : Option Resting). IsSome s) (sym first.is.is) refl)

-- Prices and ranks.
crosses-rank : (side : Side) (price top : ℕ) → crosses side price top ≡ true → rank_of side price ≤ rank_of side top
crosses-rank Buy price top is = let it = leb-true top price is in omega (arith, it)
crosses-rank Sell price top is = leb-true price top is

rank-crosses : (side : Side) (price top : ℕ) → top ≤ 10 ^ 9 → rank_of side price ≤ rank_of side top → crosses side price top ≡ true
rank-crosses Buy price top most upto = le-leb top price (omega (arith, most, upto))
rank-crosses Sell price top most upto = le-leb price top upto

-- The levels that cross, from the best one on.
module _ (slots : List (Option Resting)) (bank : ℕ) (side : Side) (top : ℕ) where
  abbrev left : ℕ → List Resting
  left from = filter (is_crossing_from bank side top from) (orders_of slots)

  pub record IsLeft (from : ℕ) (order : Resting) : Type 0 where
    pub own : IsOwn bank side order
    pub crosses_it : crosses side order.price top ≡ true
    pub from_on : from ≤ rank_of side order.price

  left-says : (from : ℕ) (order : Resting) → is_crossing_from bank side top from order ≡ true → IsLeft from order
  left-says from order is =
      let outer = and_parts (is_crossing bank side top order) (leb from (rank_of side order.price)) is in
      let inner = own-parts bank side order (crosses side order.price top) outer.0 in
      record { own = inner.0; crosses_it = inner.1; from_on = leb-true from (rank_of side order.price) outer.1 }

  left-is : (from : ℕ) (order : Resting) → IsLeft from order → is_crossing_from bank side top from order ≡ true
  left-is from order it =
      and_from (is_crossing bank side top order) (leb from (rank_of side order.price)) (own-from bank side order (crosses side order.price top) it.own it.crosses_it) (le-leb from (rank_of side order.price) it.from_on)

  left-own : (from : ℕ) (order : Resting) → IsLeft from order → is_own_from bank side from order ≡ true
  left-own from order it = own-from bank side order (leb from (rank_of side order.price)) it.own (le-leb from (rank_of side order.price) it.from_on)

  none-left : (from : ℕ) → IsBestOf slots (is_own_from bank side from) side None → left from ≡ []
  none-left from none = none-at (is_crossing_from bank side top from) slots (λ other order at. false_from_ne_true (is_crossing_from bank side top from order) (λ is.
      both_ways (is_own_from bank side from order) (none other order at) (left-own from order (left-says from order is))))

  all-left : crossing bank side top (orders_of slots) ≡ left 0
  all-left = filter_agree_on (is_crossing bank side top) (is_crossing_from bank side top 0) (orders_of slots) (λ order there.
      same-test (is_crossing bank side top order) (is_crossing_from bank side top 0 order)
      (λ is. and_from (is_crossing bank side top order) (leb 0 (rank_of side order.price)) is (le-leb 0 (rank_of side order.price) (omega arith)))
      (λ is. (and_parts (is_crossing bank side top order) (leb 0 (rank_of side order.price)) is).0))

  -- The places of the first orders of levels are found from the best one on.
  pub find-begun : FindsLevels slots bank side top [] 0
  find-begun = subst (IsPermutation (crossing bank side top (orders_of slots))) all-left (IsPermutation-refl (crossing bank side top (orders_of slots)))

  found-all : (places : List ℕ) (from : ℕ) → FindsLevels slots bank side top places from → left from ≡ [] → IsPermutation (crossing bank side top (orders_of slots)) (levels_from slots places)
  found-all places from finds bare =
      subst (IsPermutation (crossing bank side top (orders_of slots))) (ap (λ (os : List Resting). levels_from slots places ++ os) bare ∙ append-nil (levels_from slots places)) finds

  pub find-ended : (places : List ℕ) (from : ℕ) → FindsLevels slots bank side top places from → IsBestOf slots (is_own_from bank side from) side None → IsPermutation (crossing bank side top (orders_of slots)) (levels_from slots places)
  find-ended places from finds none = found-all places from finds (none-left from none)

  -- the best order from a rank on, of those that are left
  module _ (most : top ≤ 10 ^ 9) (priced : (place : ℕ) (order : Resting) → get_or slots place None ≡ Some order → IsPriced order) (from place : ℕ) (best : IsBestAt slots (is_own_from bank side from) side place) where
    abbrev first : Resting
    first = best.order

    first-own : IsOwn bank side first × (from ≤ rank_of side first.price)
    first-own =
        let parts = own-parts bank side first (leb from (rank_of side first.price)) best.passes_it in
        (parts.0, leb-true from (rank_of side first.price) parts.1)

    not-before : (order : Resting) → Among order (orders_of slots) → IsLeft from order → is_preferred (opposite side) order first ≡ false
    not-before order there it = let at = at-among slots order there in best.best at.0 order at.1 (left-own from order it)

    price-in : (order : Resting) → Among order (orders_of slots) → order.price ≤ 10 ^ 9
    price-in order there = let at = at-among slots order there in (priced at.0 order at.1).price

    -- its rank is the least
    least-rank : (order : Resting) → Among order (orders_of slots) → IsLeft from order → rank_of side first.price ≤ rank_of side order.price
    least-rank order there it = elim (cases_lt (rank_of side order.price) (rank_of side first.price)) [
      | inl less ↦
          absurd (both_ways (is_preferred (opposite side) order first) (not-before order there it)
          (preferred-better (opposite side) order first (rank-better side order.price first.price (price-in order there) less)))
      | inr upto ↦ upto
    ]

    -- at its rank stands its level
    of-level : (order : Resting) → Among order (orders_of slots) → IsLeft from order → rank_of side order.price ≡ rank_of side first.price → is_level_from first order ≡ true
    of-level order there it same =
        let price : order.price ≡ first.price = rank-one side order.price first.price (price-in order there) (priced place first best.is).price same in
        level_from-is first order (record { bank = first-own.0.bank_is ∙ sym it.own.bank_is; side = sym first-own.0.side_is ∙ it.own.side_is; price = sym price })
        (elim (cases_lt order.arrival first.arrival) [
          | inl earlier ↦ absurd (both_ways (is_preferred (opposite side) order first) (not-before order there it) (preferred-earlier (opposite side) order first price earlier))
          | inr upto ↦ upto
        ])

    level-first : rank_of side first.price ≤ rank_of side top → IsPermutation (left from) (level_from slots (Some first) ++ left (rank_of side first.price + 1))
    level-first low =
        filter-either (is_level_from first) (is_crossing_from bank side top (rank_of side first.price + 1)) (is_crossing_from bank side top from) (orders_of slots) (λ order there.
        either-of (is_level_from first order) (is_crossing_from bank side top (rank_of side first.price + 1) order) (is_crossing_from bank side top from order)
        (λ of over.
        let says = level_from-says first order of in
        let it = left-says (rank_of side first.price + 1) order over in
        omega (arith, ap (rank_of side) says.0.price, it.from_on))
        (λ of.
        let says = level_from-says first order of in
        let rank : rank_of side first.price ≡ rank_of side order.price = ap (rank_of side) says.0.price in
        left-is from order (record {
          own = record { bank_is = sym says.0.bank ∙ first-own.0.bank_is; side_is = first-own.0.side_is ∙ says.0.side };
          crosses_it = rank-crosses side order.price top most (omega (arith, rank, low));
          from_on = omega (arith, rank, first-own.1);
        }))
        (λ over.
        let it = left-says (rank_of side first.price + 1) order over in
        left-is from order (record { own = it.own; crosses_it = it.crosses_it; from_on = omega (arith, it.from_on, first-own.1) }))
        (λ is.
        let it = left-says from order is in
        let least = least-rank order there it in
        elim (cases_lt (rank_of side first.price) (rank_of side order.price)) [
          | inl over ↦ inr (left-is (rank_of side first.price + 1) order (record { own = it.own; crosses_it = it.crosses_it; from_on = omega (arith, over) }))
          | inr upto ↦ inl (of-level order there it (omega (arith, least, upto)))
        ]))

    -- where it does not cross, none is left
    dear-left : rank_of side top < rank_of side first.price → left from ≡ []
    dear-left dear = none-at (is_crossing_from bank side top from) slots (λ other order at. false_from_ne_true (is_crossing_from bank side top from order) (λ is.
        let it = left-says from order is in
        let least = least-rank order (among-at slots other order at) it in
        omega (arith, least, dear, crosses-rank side order.price top it.crosses_it)))

    module _ (places : List ℕ) (rank : ℕ) (rank_is : IfSome (get_or slots place None) (λ order. rank_of side order.price ≡ rank)) where
      same-rank : rank_of side first.price ≡ rank
      same-rank = subst (λ (s : Option Resting). IfSome s (λ order. rank_of side order.price ≡ rank)) best.is rank_is

      pub find-dear : FindsLevels slots bank side top places from → rank_of side top < rank → IsPermutation (crossing bank side top (orders_of slots)) (levels_from slots places)
      find-dear finds dear = found-all places from finds (dear-left (omega (arith, same-rank, dear)))

      pub find-more : FindsLevels slots bank side top places from → rank ≤ rank_of side top → FindsLevels slots bank side top (places ++ place ∷ []) (rank + 1)
      find-more finds low =
          let it : IsPermutation (left from) (level_from slots (get_or slots place None) ++ left (rank + 1)) =
          subst (λ (s : Option Resting). IsPermutation (left from) (level_from slots s ++ left (rank + 1))) (sym best.is)
          (subst (λ (r : ℕ). IsPermutation (left from) (level_from slots (Some first) ++ left (r + 1))) same-rank (level-first (omega (arith, same-rank, low)))) in
          IsPermutation-trans (crossing bank side top (orders_of slots)) (levels_from slots places ++ left from) (levels_from slots (places ++ place ∷ []) ++ left (rank + 1)) finds
          (subst (IsPermutation (levels_from slots places ++ left from))
          (sym (append_assoc (levels_from slots places) (level_from slots (get_or slots place None)) (left (rank + 1)))
          ∙ ap (λ (os : List Resting). os ++ left (rank + 1)) (sym (levels-pushed slots places place)))
          (IsPermutation-append_right (levels_from slots places) (left from) (level_from slots (get_or slots place None) ++ left (rank + 1)) it))

      pub find-live : (live : All (λ (p : ℕ). IsSome (get_or slots p None)) places) → All (λ (p : ℕ). IsSome (get_or slots p None)) (places ++ place ∷ [])
      find-live live = All-push (λ (p : ℕ). IsSome (get_or slots p None)) places place live (subst (λ (s : Option Resting). IsSome s) (sym best.is) refl)
