-- Two banks' orders in any order, parted by a moment: what the late ones do, once they are sorted, is what all do in arrival order.
use Rattle.std.proofs.Common.{ℕ, ◌≡◌, ◌≤◌, ◌⊎◌, max, List, [], sym, subst}
use Rattle.std.proofs.lemmas.List.Sorted.{IsPermutation-sym, IsPermutation-trans}
use Rattle.std.specs.List.{filter}
use Rattle.std.specs.List.Sorted.{IsPermutation, IsNonDecreasingBy}
use Rattle.fx_rules.specs.declared.orders.Fill.{Fill}
use Rattle.fx_rules.specs.declared.orders.Resting.{Resting}
use Rattle.fx_rules.specs.Lists.{Each}
use Rattle.fx_rules.specs.Sound.{ArrivesBefore}
use Rattle.fx_rules.proofs.ListLemmas.{Each-among, Each-filter, Each-of, EachPair-filter}
use Rattle.credit_raise.specs.inside.Playing.{AreGathered, AreTurns, Played, is_early, is_late}
use Rattle.credit_raise.proofs.Early.{early-before, early-own, filter-permuted, late-turns, played-late}
use Rattle.credit_raise.proofs.Gathering.{Earlier, among_permutation, pairs_weaker, sorted-back}

each_permuted : (P : Resting → Type 0) (xs ys : List Resting) → IsPermutation xs ys → Each P ys → Each P xs
each_permuted P xs ys same all = Each-of P xs (λ o there. Each-among P ys o all (among_permutation ys xs o (IsPermutation-sym xs ys same) there))

-- all of them, once they are sorted
pub gathered-sorted : (i j : ℕ) (orders live sorted : List Resting) → AreGathered i j orders live → IsPermutation orders sorted → IsNonDecreasingBy (λ (o : Resting). o.arrival) sorted → sorted ≡ live
gathered-sorted i j orders live sorted gathered same falls_not =
    sorted-back live sorted (pairs_weaker ArrivesBefore Earlier (λ a b is. is.arrival) live gathered.turns.rising)
    (IsPermutation-trans live orders sorted gathered.same same) falls_not

module _ (i j first_i first_j from : ℕ) (orders read_i read_j read live early late sorted : List Resting) (gathered : AreGathered i j orders live) (is : from ≡ max first_i first_j)
    (orders_i : read_i ≡ orders) (firsts_i : Each (λ o. o.bank ≡ i → first_i ≤ o.arrival) read_i) (orders_j : read_j ≡ orders) (firsts_j : Each (λ o. o.bank ≡ j → first_j ≤ o.arrival) read_j)
    (orders_read : read ≡ orders) (early_read : early ≡ filter (is_early from) read) (late_read : late ≡ filter (is_late from) read)
    (same : IsPermutation late sorted) (falls_not : IsNonDecreasingBy (λ (o : Resting). o.arrival) sorted) where
  back : IsPermutation orders live
  back = IsPermutation-sym live orders gathered.same

  early_is : early ≡ filter (is_early from) orders
  early_is = subst (λ (os : List Resting). early ≡ filter (is_early from) os) orders_read early_read

  late_same : IsPermutation (filter (is_late from) orders) sorted
  late_same = subst (λ (os : List Resting). IsPermutation os sorted) (subst (λ (os : List Resting). late ≡ filter (is_late from) os) orders_read late_read) same

  sorted_is : sorted ≡ filter (is_late from) live
  sorted_is = late-turns from orders live sorted back gathered.turns.rising late_same falls_not

  pub late-turned : AreTurns i j sorted
  late-turned =
      subst (AreTurns i j) (sym sorted_is)
      (record {
        owners = Each-filter (λ (o : Resting). (o.bank ≡ i) ⊎ (o.bank ≡ j)) (is_late from) live gathered.turns.owners;
        numbers = Each-filter (λ (o : Resting). 1 ≤ o.number) (is_late from) live gathered.turns.numbers;
        rising = EachPair-filter ArrivesBefore (is_late from) live gathered.turns.rising;
      })

  pub early-waited : Each (λ w. Each (ArrivesBefore w) sorted) early
  early-waited =
      early-before from live early sorted gathered.turns.rising
      (subst (IsPermutation (filter (is_early from) live)) (sym early_is) (filter-permuted (is_early from) live orders gathered.same))
      sorted_is

  pub parts-played : (pair weight line : ℕ) (fills : List Fill) → Each (λ o. 1 ≤ o.left) read → Played pair weight i j line early sorted fills → Played pair weight i j line [] live fills
  parts-played pair weight line fills lots played =
      let own = early-own i j first_i first_j from live gathered.turns.owners
      (each_permuted (λ (o : Resting). o.bank ≡ i → first_i ≤ o.arrival) live orders gathered.same (subst (Each (λ (o : Resting). o.bank ≡ i → first_i ≤ o.arrival)) orders_i firsts_i))
      (each_permuted (λ (o : Resting). o.bank ≡ j → first_j ≤ o.arrival) live orders gathered.same (subst (Each (λ (o : Resting). o.bank ≡ j → first_j ≤ o.arrival)) orders_j firsts_j)) is in
      played-late pair weight i j line from own.0 orders live early sorted fills back gathered.turns.rising
      (each_permuted (λ (o : Resting). 1 ≤ o.left) live orders gathered.same (subst (Each (λ (o : Resting). 1 ≤ o.left)) orders_read lots))
      own.1 early_is late_same falls_not played
