-- What is open to an order where one bank alone can be reached.
use Rattle.std.proofs.Common.{ℕ, ◌≡◌, ◌≢◌, ◌≤◌, true, false, not, ◌&&◌, eqb, leb, ltb, List, [], None, inl, inr, refl, sym, subst, ◌∙◌, arith}
use Rattle.std.proofs.lemmas.Bool.{cases_eq, cond-true, cond-false, both_ways, false_from_ne_true, false≢true, and_parts, and_from, or_left, eqb-true, eq-eqb, ne_eqb, le-leb, leb-true, lt-ltb, ltb-false, not_from_false}
use Rattle.fx_amounts.specs.Price.{crosses}
use Rattle.fx_amounts.specs.Side.{opposite}
use Rattle.fx_amounts.specs.declared.side.Side.{Side}
use Rattle.fx_amounts.specs.declared.side.Side.TheVariants.{Buy, Sell}
use Rattle.fx_rules.specs.declared.orders.Resting.{Resting}
use Rattle.fx_rules.specs.Lists.{Among}
use Rattle.fx_rules.specs.Sweep.{Taker, is_open, is_opposite, is_better, is_preferred, IsBest, open_in}
use Rattle.fx_rules.proofs.ListLemmas.{Each-among, Each-of, Among-filter, among_filter}
use Rattle.fx_rules.proofs.Opens.{is_open-says}
use Rattle.global_book.specs.Behind.{is_owned_behind, owned_behind}
use Rattle.global_book.specs.Book.{is_of}
use Rattle.credit_raise.specs.inside.Playing.{only}
use Rattle.credit_raise.proofs.Apart.{none_in}

-- a bank that can be reached is the one
pub reached_is : (other lots bank : ℕ) → leb 1 (only other lots bank) ≡ true → bank ≡ other
reached_is other lots bank reached =
    elim (cases_eq bank other) [
      | inl same ↦ same
      | inr differ ↦ absurd (omega (arith, leb-true 1 (only other lots bank) reached, cond-false (eqb bank other) lots 0 (ne_eqb bank other differ)))
    ]

pub opposite_twice : (side : Side) → opposite (opposite side) ≡ side
opposite_twice Buy = refl
opposite_twice Sell = refl

-- a better order is preferred
not_better : (side : Side) (o best : Resting) → is_preferred side o best ≡ false → is_better side o.price best.price ≡ false
not_better side o best fails =
    false_from_ne_true (is_better side o.price best.price)
    (λ better. false≢true (sym fails ∙ or_left (is_better side o.price best.price) (eqb o.price best.price && ltb o.arrival best.arrival) better))

-- who crosses a price crosses one that is no worse
no_worse : (side : Side) (price other best : ℕ) → is_better side other best ≡ false → crosses side price other ≡ true → crosses side price best ≡ true
no_worse Buy price other best worse cross = le-leb best price (omega (arith, ltb-false other best worse, leb-true other price cross))
no_worse Sell price other best worse cross = le-leb price best (omega (arith, ltb-false best other worse, leb-true price other cross))

module _ (other lots : ℕ) (t : Taker) (orders : List Resting) where
  -- what is open is the other bank's, and crosses
  open_owned : (o : Resting) → Among o (open_in (only other lots) t orders) → Among o (owned_behind (opposite t.side) other t.arrival None orders) × (crosses t.side t.price o.price ≡ true)
  open_owned o there =
      let found = Among-filter (λ (q : Resting). is_open t (only other lots q.bank) q) orders o there in
      let says = is_open-says t (only other lots o.bank) o found.1 in
      let owner : o.bank ≡ other = reached_is other lots o.bank (le-leb 1 (only other lots o.bank) says.reach) in
      let taker : Side = opposite (opposite t.side) in
      let sided : is_opposite taker o.side ≡ true = subst (λ (s : Side). is_opposite s o.side ≡ true) (sym (opposite_twice t.side)) says.opposite in (
        among_filter (is_owned_behind taker other t.arrival None) orders o found.0
            (and_from (is_opposite taker o.side && is_of other o && ltb o.arrival t.arrival) true
            (and_from (is_opposite taker o.side && is_of other o) (ltb o.arrival t.arrival)
            (and_from (is_opposite taker o.side) (is_of other o) sided (eq-eqb o.bank other owner))
            (lt-ltb o.arrival t.arrival says.earlier)) refl),
        says.crosses,
      )

  pub open-none : owned_behind (opposite t.side) other t.arrival None orders ≡ [] → open_in (only other lots) t orders ≡ []
  open-none none = none_in (open_in (only other lots) t orders) (λ o there. subst (λ (os : List Resting). Among o os) none (open_owned o there).0)

  -- the best of the other bank's does not cross
  pub open-apart : (best : Resting) → IsBest (opposite (opposite t.side)) (owned_behind (opposite t.side) other t.arrival None orders) best → crosses t.side t.price best.price ≡ false → open_in (only other lots) t orders ≡ []
  open-apart best is_best apart =
      none_in (open_in (only other lots) t orders) (λ o there.
      let is = open_owned o there in
      let worse : is_better t.side o.price best.price ≡ false = subst (λ (s : Side). is_better s o.price best.price ≡ false) (opposite_twice t.side)
      (not_better (opposite (opposite t.side)) o best
      (Each-among (λ (q : Resting). is_preferred (opposite (opposite t.side)) q best ≡ false) (owned_behind (opposite t.side) other t.arrival None orders) o is_best.first is.0)) in
      both_ways (crosses t.side t.price best.price) apart (no_worse t.side t.price o.price best.price worse is.1))

  -- it crosses, and the line pays for a lot
  pub open-best : (best : Resting) → 1 ≤ lots → t.bank ≢ other → IsBest (opposite (opposite t.side)) (owned_behind (opposite t.side) other t.arrival None orders) best → crosses t.side t.price best.price ≡ true → IsBest t.side (open_in (only other lots) t orders) best
  open-best best some differ is_best cross =
      let taker : Side = opposite (opposite t.side) in
      let found = Among-filter (is_owned_behind taker other t.arrival None) orders best is_best.there in
      let three = and_parts (is_opposite taker best.side && is_of other best && ltb best.arrival t.arrival) true found.1 in
      let two = and_parts (is_opposite taker best.side && is_of other best) (ltb best.arrival t.arrival) three.0 in
      let one = and_parts (is_opposite taker best.side) (is_of other best) two.0 in
      let owner : best.bank ≡ other = eqb-true best.bank other one.1 in
      let sided : is_opposite t.side best.side ≡ true = subst (λ (s : Side). is_opposite s best.side ≡ true) (opposite_twice t.side) one.0 in
      let reach : ℕ = only other lots best.bank in
      let reached : 1 ≤ reach = omega (arith, some, cond-true (eqb best.bank other) lots 0 one.1) in
      let foreign : not (eqb best.bank t.bank) ≡ true = not_from_false (eqb best.bank t.bank) (ne_eqb best.bank t.bank (λ own. differ (sym own ∙ owner))) in
      record {
        there = among_filter (λ (q : Resting). is_open t (only other lots q.bank) q) orders best found.0
            (and_from (is_opposite t.side best.side && not (eqb best.bank t.bank) && leb 1 reach && crosses t.side t.price best.price) (ltb best.arrival t.arrival)
            (and_from (is_opposite t.side best.side && not (eqb best.bank t.bank) && leb 1 reach) (crosses t.side t.price best.price)
            (and_from (is_opposite t.side best.side && not (eqb best.bank t.bank)) (leb 1 reach)
            (and_from (is_opposite t.side best.side) (not (eqb best.bank t.bank)) sided foreign) (le-leb 1 reach reached)) cross) two.1);
        first = Each-of (λ (q : Resting). is_preferred t.side q best ≡ false) (open_in (only other lots) t orders) (λ o there.
            subst (λ (s : Side). is_preferred s o best ≡ false) (opposite_twice t.side)
            (Each-among (λ (q : Resting). is_preferred (opposite (opposite t.side)) q best ≡ false) (owned_behind (opposite t.side) other t.arrival None orders) o is_best.first (open_owned o there).0));
      }
