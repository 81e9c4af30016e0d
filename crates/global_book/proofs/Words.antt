-- The best orders of all banks of a side, as words tell them.
use Rattle.std.proofs.Common.{ℕ, ◌≡◌, ◌≢◌, ◌+◌, ◌-◌, ◌*◌, ◌/◌, ◌≤◌, ◌<◌, ◌^◌, true, ◌&&◌, eqb, leb, List, [], Option, Some, None, get_or, inl, inr, refl, ap, sym, subst, ◌∙◌, arith}
use Rattle.std.proofs.lemmas.Bool.{and_parts, cases_lt, cases_order, cond-false, cond-true, eq-eqb, eqb-true, ne_eqb}
use Rattle.std.specs.Option.{IfSome}
use Rattle.fx_amounts.specs.Price.{IsPrice}
use Rattle.fx_amounts.specs.Side.{opposite}
use Rattle.fx_amounts.specs.declared.side.Side.{Side}
use Rattle.fx_rules.specs.declared.orders.Resting.{Resting}
use Rattle.fx_rules.specs.Lists.{Among}
use Rattle.fx_rules.specs.Sweep.{is_opposite, is_preferred}
use Rattle.fx_rules.proofs.ListLemmas.{Among-filter}
use Rattle.fx_rules.proofs.Preference.{best_same}
use Rattle.order_store.specs.Linked.{AreRising, HaveLots, IsFirst, IsFirstFrom}
use Rattle.price_levels.specs.declared.level.Level.{Level}
use Rattle.access_index.specs.declared.words.Head.{Head}
use Rattle.access_index.specs.Heads.{IsHead, head_word}
use Rattle.access_index.specs.Ranked.{AreHeadWords, IsHeadOf, TellsHead, bank_level}
use Rattle.global_book.specs.Behind.{is_owned_behind, owned_behind}
use Rattle.global_book.specs.Book.{IsPriceOf, is_of}
use Rattle.global_book.specs.Room.{ladders_of, rank_of}
use Rattle.global_book.specs.Words.{AreBestWords, IsHeadOrder, word_price}
use Rattle.global_book.specs.inside.Bests.{IsBestAt, IsBestOf, is_own_from}
use Rattle.global_book.specs.inside.Ends.{IsOfLevel, TellsOrders}
use Rattle.global_book.specs.inside.Linked.{AreKept, AreLinked, AreTold, IsPriced, Linked, orders_in}
use Rattle.global_book.proofs.Behind.{is-best, is-none, past-none}
use Rattle.global_book.proofs.Ending.{order_is, some_lots}
use Rattle.global_book.proofs.Listing.{each-at, orders-rising}
use Rattle.global_book.proofs.Preferring.{first-found, none-found, preferred-better, preferred-earlier, rank-better}
use Rattle.global_book.proofs.Pricing.{price-found, price-none}
use Rattle.global_book.proofs.Telling.{rank-back, rank-most, rank-one}

-- the best order of a bank and a side is at a place, and a word tells it
pub record TellsBest (slots : List (Option Resting)) (side : Side) (bank word place : ℕ) : Type 0 where
  pub best : IsBestAt slots (is_own_from bank side 0) side place
  pub few : place < 2 ^ 28
  pub low : rank_of side best.order.price ≤ 10 ^ 9
  pub is : word ≡ (rank_of side best.order.price * 2 ^ 28 + place) * 64 + bank

-- the same, or the bank has no order of the side
abbrev pub IsWordOf : List (Option Resting) → Side → ℕ → ℕ → Option ℕ → Type 0
IsWordOf slots side bank word None = (word ≡ 2 ^ 64 - 1) × IsBestOf slots (is_own_from bank side 0) side None
IsWordOf slots side bank word (Some place) = TellsBest slots side bank word place

-- What the levels of a side tell of a bank.
module _ (slots : List (Option Resting)) (bank : ℕ) (side : Side) (levels : ℕ → ℕ → Level) (told : AreTold slots side levels) (priced : (place : ℕ) (order : Resting) → get_or slots place None ≡ Some order → IsPriced order)
    (rising : AreRising (λ at. get_or slots at None)) (have : HaveLots (λ at. get_or slots at None)) where
  -- the first order of a level is at the price of its rank
  pub rank-is : (rank : ℕ) (order : Resting) → (levels bank rank).lots ≢ 0 → get_or slots (levels bank rank).first None ≡ Some order → rank_of side order.price ≡ rank
  rank-is rank order some is =
      let low : rank ≤ 10 ^ 9 = elim (cases_lt (10 ^ 9) rank) [
        | inl high ↦ absurd (some (told.low bank rank high))
        | inr upto ↦ upto
      ] in
      let back : rank_of side (rank_of side rank) ≡ rank = rank-back side rank low in
      let tells : TellsOrders slots bank side (rank_of side rank) (levels bank rank) =
      subst (λ r. TellsOrders slots bank side (rank_of side rank) (levels bank r)) back (told.tells bank (rank_of side rank) (rank-most side rank low)) in
      let first : IsFirst (IsOfLevel slots bank side (rank_of side rank)) 0 (levels bank rank).first =
      subst (IsFirstFrom (IsOfLevel slots bank side (rank_of side rank)) 0) (some_lots (levels bank rank) (Some (levels bank rank).first) some) tells.first in
      let same : first.is.order ≡ order = order_is slots (levels bank rank).first first.is.order order first.is.is is in
      let at = and_parts (is_of bank first.is.order && is_opposite (opposite side) first.is.order.side) (eqb first.is.order.price (rank_of side rank)) first.is.at in
      ap (λ (o : Resting). rank_of side o.price) (sym same) ∙ ap (rank_of side) (eqb-true first.is.order.price (rank_of side rank) at.1) ∙ back

  pub word-of : (word : ℕ) → TellsHead (levels bank) bank word → (found : Option ℕ) × IsWordOf slots side bank word found
  word-of word tells = of-head tells.head tells.best tells.fits tells.is
    where
      of-head : (head : Option Head) → IsHeadOf (levels bank) head → IfSome head IsHead → word ≡ head_word bank head → (found : Option ℕ) × IsWordOf slots side bank word found
      of-head None none fits is = (None, (is, none-found slots bank side levels told priced rising have 0 (λ rank from. none rank)))
      of-head (Some head) best fits is =
          let at : IsBestAt slots (is_own_from bank side 0) side head.place =
          subst (IsBestAt slots (is_own_from bank side 0) side) (sym best.1) (first-found slots bank side levels told priced rising have 0 head.rank best.0) in
          let rank : rank_of side at.order.price ≡ head.rank = rank-is head.rank at.order best.0.some (ap (λ p. get_or slots p None) (sym best.1) ∙ at.is) in (
            Some head.place,
            record {
              best = at;
              few = fits.place;
              low = omega (arith, rank, fits.rank);
              is = is ∙ ap (λ r. (r * 2 ^ 28 + head.place) * 64 + bank) (sym rank);
            },
          )

-- What a word tells.
module _ (slots : List (Option Resting)) (side : Side) where
  -- no two banks with orders have one word
  words-apart : (bank other a b : ℕ) (found found' : Option ℕ) → IsWordOf slots side bank a found → IsWordOf slots side other b found' → bank < 64 → other < 64 → bank ≢ other → a ≡ b → a ≡ 2 ^ 64 - 1
  words-apart bank other a b None found' is is' small small' differ same = is.0
  words-apart bank other a b (Some p) None is is' small small' differ same = same ∙ is'.0
  words-apart bank other a b (Some p) (Some q) is is' small small' differ same = absurd (differ (omega (arith, is.is, is'.is, small, small', same)))

  -- a lower word is of an order that a taker prefers
  preferred-lower : (bank other a b p q : ℕ) (is : TellsBest slots side bank a p) (is' : TellsBest slots side other b q) → AreRising (λ at. get_or slots at None)
      → ((place : ℕ) (order : Resting) → get_or slots place None ≡ Some order → IsPriced order) → bank < 64 → other < 64 → a < b → is_preferred (opposite side) is.best.order is'.best.order ≡ true
  preferred-lower bank other a b p q is is' rising priced small small' less =
      let order : Resting = is.best.order in
      let one : Resting = is'.best.order in
      let most : order.price ≤ 10 ^ 9 = (priced p order is.best.is).price in
      let most' : one.price ≤ 10 ^ 9 = (priced q one is'.best.is).price in
      elim (cases_order (rank_of side order.price) (rank_of side one.price)) [
        | inl same ↦ elim (cases_lt p q) [
          | inl before ↦ preferred-earlier (opposite side) order one (rank-one side order.price one.price most most' same) (rising p q order one is.best.is is'.best.is before)
          | inr upto ↦
              let place : p ≡ q = omega (arith, is.is, is'.is, same, small, small', less, upto) in
              let alike : order ≡ one = order_is slots q order one (ap (λ at. get_or slots at None) (sym place) ∙ is.best.is) is'.best.is in
              let banks : bank ≡ other = sym (own-bank bank order is.best.passes_it) ∙ ap (λ (o : Resting). o.bank) alike ∙ own-bank other one is'.best.passes_it in
              absurd (omega (arith, is.is, is'.is, same, place, banks, less))
        ]
        | inr apart ↦ elim apart [
          | inl lower ↦ preferred-better (opposite side) order one (rank-better side order.price one.price most lower)
          | inr higher ↦ absurd (omega (arith, is.is, is'.is, is.few, is'.few, small, small', less, higher))
        ]
      ]
    where
      own-bank : (bank : ℕ) (order : Resting) → is_own_from bank side 0 order ≡ true → order.bank ≡ bank
      own-bank bank order passes =
          let outer = and_parts (is_of bank order && is_opposite (opposite side) order.side) (leb 0 (rank_of side order.price)) passes in
          let inner = and_parts (is_of bank order) (is_opposite (opposite side) order.side) outer.0 in
          eqb-true order.bank bank inner.0

-- All words of a side.
module _ (banks : ℕ) (linked : Linked) (side : Side) (words : List ℕ) (kept : AreKept banks linked) (ladders : AreLinked linked.orders.slots linked.ladders)
    (are : AreHeadWords (bank_level (ladders_of linked.ladders side)) words) where
  told-of : (bank : ℕ) → bank < 64 → (found : Option ℕ) × IsWordOf linked.orders.slots side bank (get_or words bank 0) found
  told-of bank small =
      word-of linked.orders.slots bank side (bank_level (ladders_of linked.ladders side)) (ladders.told side) ladders.priced kept.listed.rising kept.listed.lots (get_or words bank 0) (are.tell bank small)

  price-of : (bank word : ℕ) (found : Option ℕ) → IsWordOf linked.orders.slots side bank word found → bank < 64 → IsPriceOf (opposite side) bank None (orders_in linked) (word_price side word)
  price-of bank word None is small =
      subst (IsPriceOf (opposite side) bank None (orders_in linked)) (sym (cond-true (eqb word (2 ^ 64 - 1)) None (Some (rank_of side (word / 2 ^ 34))) (eq-eqb word (2 ^ 64 - 1) is.0)))
      (price-none linked (orders_in linked) bank side None None refl tt is.1 refl)
  price-of bank word (Some place) is small =
      let order : Resting = is.best.order in
      let full : word ≢ 2 ^ 64 - 1 = λ none. omega (arith, none, is.is, is.low, is.few, small) in
      let rank : word / 2 ^ 34 ≡ rank_of side order.price = omega (arith, is.is, is.low, is.few, small) in
      let price : rank_of side (word / 2 ^ 34) ≡ order.price = ap (rank_of side) rank ∙ rank-back side order.price (ladders.priced place order is.best.is).price in
      subst (IsPriceOf (opposite side) bank None (orders_in linked))
      (sym (cond-false (eqb word (2 ^ 64 - 1)) None (Some (rank_of side (word / 2 ^ 34))) (ne_eqb word (2 ^ 64 - 1) full) ∙ ap (λ (p : ℕ). Some p) price))
      (price-found linked (orders_in linked) bank side None (Some place) place order refl tt is.best refl is.best.is)

  head-is : (bank word place : ℕ) (is : TellsBest linked.orders.slots side bank word place) (order : Resting) → IsHeadOrder side bank (orders_in linked) order → order ≡ is.best.order
  head-is bank word place is order best =
      best_same (opposite side) (owned_behind side bank (2 ^ 64) None (orders_in linked)) (orders_in linked) order is.best.order
      (λ o there. (Among-filter (is_owned_behind (opposite side) bank (2 ^ 64) None) (orders_in linked) o there).0)
      (orders-rising linked.orders.slots kept.listed.rising kept.listed.valid.unique) best
      (is-best banks linked (orders_in linked) bank side None (Some place) place is.best.order kept refl (past-none linked.orders.slots bank side (Some place) is.best) refl is.best.is)

  no-head : (bank : ℕ) (order : Resting) → IsBestOf linked.orders.slots (is_own_from bank side 0) side None → IsHeadOrder side bank (orders_in linked) order → ⊥
  no-head bank order none best =
      let bare : owned_behind side bank (2 ^ 64) None (orders_in linked) ≡ [] = is-none banks linked (orders_in linked) bank side None None kept refl (past-none linked.orders.slots bank side None none) refl in
      let it : Among order [] = subst (Among order) bare best.there in it

  both-heads : (bank other a b : ℕ) (found found' : Option ℕ) → IsWordOf linked.orders.slots side bank a found → IsWordOf linked.orders.slots side other b found' → bank < 64 → other < 64 → a < b
      → (order head : Resting) → IsHeadOrder side bank (orders_in linked) order → IsHeadOrder side other (orders_in linked) head → is_preferred (opposite side) order head ≡ true
  both-heads bank other a b None found' is is' small small' less order head best best' = absurd (no-head bank order is.1 best)
  both-heads bank other a b (Some p) None is is' small small' less order head best best' = absurd (no-head other head is'.1 best')
  both-heads bank other a b (Some p) (Some q) is is' small small' less order head best best' =
      subst (λ o. is_preferred (opposite side) o head ≡ true) (sym (head-is bank a p is order best))
      (subst (λ o. is_preferred (opposite side) is.best.order o ≡ true) (sym (head-is other b q is' head best'))
      (preferred-lower linked.orders.slots side bank other a b p q is is' kept.listed.rising ladders.priced small small' less))

  pub best-words : AreBestWords side (orders_in linked) words
  best-words = record {
    count = are.count;
    apart = λ bank other small small'. words-apart linked.orders.slots side bank other (get_or words bank 0) (get_or words other 0) (told-of bank small).0 (told-of other small').0 (told-of bank small).1 (told-of other small').1 small small';
    prices = λ bank small. price-of bank (get_or words bank 0) (told-of bank small).0 (told-of bank small).1 small;
    owners = each-at (λ (o : Resting). o.bank < 64) linked.orders.slots (λ place order is. (ladders.priced place order is).bank);
    ticks = each-at (λ (o : Resting). IsPrice o.price) linked.orders.slots (λ place order is. let it = ladders.priced place order is in (it.least, it.price));
    bests = λ bank other small small'. both-heads bank other (get_or words bank 0) (get_or words other 0) (told-of bank small).0 (told-of other small').0 (told-of bank small).1 (told-of other small').1 small small';
  }
