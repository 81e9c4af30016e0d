-- The orders that cross the best price of the other bank are all that can take or be taken.
use Rattle.std.proofs.Common.{ℕ, ◌≡◌, ◌≢◌, ◌≤◌, true, false, not, ◌&&◌, eqb, List, [], length, ◌⊎◌, inl, inr, Option, Some, None, refl, ap, sym, ◌∙◌, subst, arith}
use Rattle.std.proofs.lemmas.Bool.{cond_both, cond-true, cond-false, eq-eqb, eqb-true, ne_eqb, le-leb, leb-true, ltb-false, and_from, false≢true, both_ways}
use Rattle.std.proofs.lemmas.List.Filters.{length-filter_both}
use Rattle.fx_amounts.specs.Price.{crosses}
use Rattle.fx_amounts.specs.Side.{opposite}
use Rattle.fx_amounts.specs.declared.side.Side.{Side}
use Rattle.fx_amounts.specs.declared.side.Side.TheVariants.{Buy, Sell}
use Rattle.fx_rules.specs.declared.orders.Resting.{Resting}
use Rattle.fx_rules.specs.declared.orders.Fill.{Fill}
use Rattle.fx_rules.specs.Lists.{Among, Each, EachPair}
use Rattle.fx_rules.specs.Sound.{ArrivesBefore}
use Rattle.fx_rules.specs.Sweep.{is_opposite, is_better}
use Rattle.fx_rules.specs.Raise.{taker_of_resting}
use Rattle.fx_rules.proofs.ListLemmas.{Each-among, Each-of, Each-filter, EachPair-filter, Among-filter}
use Rattle.fx_rules.proofs.Opens.{is_open-says}
use Rattle.global_book.specs.Book.{Book, IsBook, IsHeld, IsLevelOf, IsPriceOf, is_of, is_worse_of, level_at}
use Rattle.credit_raise.specs.declared.prices.Tops.{Tops}
use Rattle.credit_raise.specs.Two.{is_of_two}
use Rattle.credit_raise.specs.inside.Two.{turns}
use Rattle.credit_raise.specs.inside.Playing.{only, other_of, AreTurns, Played}
use Rattle.credit_raise.specs.inside.Prices.{IsOf, IsTop, AreTops, top_of, crosses_top, crosses_tops, is_live, live_turns}
use Rattle.credit_raise.proofs.Looking.{reached_is, opposite_twice}
use Rattle.credit_raise.proofs.Living.{Spots, played-all}
use Rattle.credit_raise.proofs.Raised.{turns-owners}

-- ---- sides

pub opposite_is : (a b : Side) → is_opposite a b ≡ true → b ≡ opposite a
opposite_is Buy Buy is = absurd (false≢true is)
opposite_is Buy Sell is = refl
opposite_is Sell Buy is = refl
opposite_is Sell Sell is = absurd (false≢true is)

opposite_side : (side : Side) → is_opposite (opposite side) side ≡ true
opposite_side Buy = refl
opposite_side Sell = refl

cross_back : (side : Side) (a b : ℕ) → crosses side a b ≡ true → crosses (opposite side) b a ≡ true
cross_back Buy a b cross = cross
cross_back Sell a b cross = cross

other_is : (i j bank : ℕ) → i ≢ j → (bank ≡ i) ⊎ (bank ≡ j) → ((bank ≡ i) × (other_of i j bank ≡ j)) ⊎ ((bank ≡ j) × (other_of i j bank ≡ i))
other_is i j bank differ (inl is) = inl (is, cond-true (eqb bank i) j i (eq-eqb bank i is))
other_is i j bank differ (inr is) =
    inr (is, cond_both (eqb bank i) j i (λ n. n ≡ i) (λ same. absurd (differ (sym (eqb-true bank i same) ∙ is))) (λ _. refl))

-- ---- best prices

-- the level that is found is the best price
worse_is : (bank : ℕ) (side : Side) (orders : List Resting) (o : Resting) → IsOf bank side orders o → is_worse_of (opposite side) bank None o ≡ true
worse_is bank side orders o is =
    and_from (is_of bank o && is_opposite (opposite side) o.side) true
    (and_from (is_of bank o) (is_opposite (opposite side) o.side) (eq-eqb o.bank bank is.owner)
    (subst (λ (s : Side). is_opposite (opposite side) s ≡ true) (sym is.side_is) (opposite_side side))) refl

top-none : (bank : ℕ) (side : Side) (orders : List Resting) → IsLevelOf (opposite side) bank None orders None → IsTop bank side orders None
top-none bank side orders none o is =
    both_ways (is_worse_of (opposite side) bank None o)
    (Each-among (λ (q : Resting). is_worse_of (opposite side) bank None q ≡ false) orders o none is.rests) (worse_is bank side orders o is)

top-some : (bank : ℕ) (side : Side) (orders : List Resting) (level : ℕ × ℕ) → IsLevelOf (opposite side) bank None orders (Some level) → IsTop bank side orders (Some level.0)
top-some bank side orders level found o is =
    Each-among (λ (q : Resting). is_worse_of (opposite side) bank None q ≡ true → is_better (opposite side) q.price level.0 ≡ false) orders o found.first is.rests
    (worse_is bank side orders o is)

pub top-price : (bank : ℕ) (side : Side) (orders : List Resting) (price : Option ℕ) → IsPriceOf (opposite side) bank None orders price → IsTop bank side orders price
top-price bank side orders None none = top-none bank side orders none
top-price bank side orders (Some price) level = top-some bank side orders (level_at (opposite side) bank orders price) level

top_met : (side : Side) (price bank : ℕ) (orders : List Resting) (w : Resting) (top : Option ℕ) → IsTop bank (opposite side) orders top → IsOf bank (opposite side) orders w → crosses side price w.price ≡ true → crosses_top side price top ≡ true
top_met side price bank orders w None none is cross = absurd (none w is)
top_met Buy price bank orders w (Some top) best is cross = le-leb top price (omega (arith, leb-true w.price price cross, ltb-false w.price top (best w is)))
top_met Sell price bank orders w (Some top) best is cross = le-leb price top (omega (arith, leb-true price w.price cross, ltb-false top w.price (best w is)))

tops_top : (bank : ℕ) (orders : List Resting) (tops : Tops) → AreTops bank orders tops → (side : Side) → IsTop bank side orders (top_of tops side)
tops_top bank orders tops are Buy = are.buy
tops_top bank orders tops are Sell = are.sell

-- an order that crosses one of a bank's crosses the bank's best price
crossed : (bank : ℕ) (orders : List Resting) (tops : Tops) (o w : Resting) → AreTops bank orders tops → Among w orders → w.bank ≡ bank → w.side ≡ opposite o.side → crosses o.side o.price w.price ≡ true → crosses_tops tops o ≡ true
crossed bank orders tops o w are here owner side_is cross =
    top_met o.side o.price bank orders w (top_of tops (opposite o.side)) (tops_top bank orders tops are (opposite o.side))
    (record { rests = here; owner = owner; side_is = side_is }) cross

-- ---- who can take or be taken

pub spots-live : (pair i j : ℕ) (orders : List Resting) (tops_i tops_j : Tops) → i ≢ j → AreTops i orders tops_i → AreTops j orders tops_j → Spots (is_live i tops_i tops_j) pair i j orders
spots-live pair i j orders tops_i tops_j differ are_i are_j = record {
  whatever = λ o left. refl;
  takes = λ o w lots there here owner opens.
      let says = is_open-says (taker_of_resting pair o) (only (other_of i j o.bank) lots w.bank) w opens in
      let maker : w.bank ≡ other_of i j o.bank = reached_is (other_of i j o.bank) lots w.bank (le-leb 1 (only (other_of i j o.bank) lots w.bank) says.reach) in
      let w_side : w.side ≡ opposite o.side = opposite_is o.side w.side says.opposite in
      let o_side : o.side ≡ opposite w.side = sym (opposite_twice o.side) ∙ ap opposite (sym w_side) in
      let cross : crosses o.side o.price w.price ≡ true = says.crosses in
      let back : crosses w.side w.price o.price ≡ true = subst (λ (s : Side). crosses s w.price o.price ≡ true) (sym w_side) (cross_back o.side o.price w.price cross) in
      elim (other_is i j o.bank differ owner) [
        | inl is ↦ (
          ap (λ (ts : Tops). crosses_tops ts o) (cond-true (eqb o.bank i) tops_j tops_i (eq-eqb o.bank i is.0)) ∙ crossed j orders tops_j o w are_j here (maker ∙ is.1) w_side cross,
          ap (λ (ts : Tops). crosses_tops ts w) (cond-false (eqb w.bank i) tops_j tops_i (ne_eqb w.bank i (λ same. differ (sym same ∙ maker ∙ is.1)))) ∙ crossed i orders tops_i w o are_i there is.0 o_side back,
        )
        | inr is ↦ (
          ap (λ (ts : Tops). crosses_tops ts o) (cond-false (eqb o.bank i) tops_j tops_i (ne_eqb o.bank i (λ same. differ (sym same ∙ is.0)))) ∙ crossed i orders tops_i o w are_i here (maker ∙ is.1) w_side cross,
          ap (λ (ts : Tops). crosses_tops ts w) (cond-true (eqb w.bank i) tops_j tops_i (eq-eqb w.bank i (maker ∙ is.1))) ∙ crossed j orders tops_j w o are_j there is.0 o_side back,
        )
      ];
}

turns-among : (i j : ℕ) (orders : List Resting) → Each (λ o. Among o orders) (turns i j orders)
turns-among i j orders =
    Each-of (λ o. Among o orders) (turns i j orders) (λ o there. (Among-filter (is_of_two i j) orders o there).0)

-- What the live turns make all turns make.
pub live-played : (pair weight i j line : ℕ) (orders : List Resting) (tops_i tops_j : Tops) (fills : List Fill) → i ≢ j → EachPair ArrivesBefore orders → AreTops i orders tops_i → AreTops j orders tops_j
    → Played pair weight i j line [] (live_turns i j tops_i tops_j orders) fills → Played pair weight i j line [] (turns i j orders) fills
live-played pair weight i j line orders tops_i tops_j fills differ rising are_i are_j played =
    played-all (is_live i tops_i tops_j) pair i j weight orders (spots-live pair i j orders tops_i tops_j differ are_i are_j) rising line [] (turns i j orders) fills
    (turns-among i j orders) (turns-owners i j orders) tt played

-- they are no more than all turns
pub live-few : (i j : ℕ) (tops_i tops_j : Tops) (orders : List Resting) → length (live_turns i j tops_i tops_j orders) ≤ length (turns i j orders)
live-few i j tops_i tops_j orders =
    omega (arith, length-filter_both (is_live i tops_i tops_j) (λ o. not (is_live i tops_i tops_j o)) (λ _. refl) (turns i j orders))

-- the live turns can be played
pub live-turns : (book : Book) (i j : ℕ) (tops_i tops_j : Tops) → IsBook book → AreTurns i j (live_turns i j tops_i tops_j book.orders)
live-turns book i j tops_i tops_j valid = record {
  owners = Each-filter (λ (o : Resting). (o.bank ≡ i) ⊎ (o.bank ≡ j)) (is_live i tops_i tops_j) (turns i j book.orders) (turns-owners i j book.orders);
  numbers = Each-filter (λ (o : Resting). 1 ≤ o.number) (is_live i tops_i tops_j) (turns i j book.orders)
      (Each-of (λ (o : Resting). 1 ≤ o.number) (turns i j book.orders) (λ o there.
      (Each-among (IsHeld book.banks) book.orders o valid.held (Each-among (λ (q : Resting). Among q book.orders) (turns i j book.orders) o (turns-among i j book.orders) there)).number_least));
  rising = EachPair-filter ArrivesBefore (is_live i tops_i tops_j) (turns i j book.orders)
      (EachPair-filter ArrivesBefore (is_of_two i j) book.orders valid.rising);
}
