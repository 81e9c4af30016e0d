-- The best order that is sought, found from bank to bank.
use Rattle.std.proofs.Common.{ℕ, ◌≡◌, ◌+◌, ◌≤◌, ◌<◌, ◌↔◌, ◌⊎◌, true, false, ◌&&◌, leb, ltb, List, [], ◌∷◌, Option, Some, None, length, get_or, inl, inr, refl, ap, sym, subst, ◌∙◌, arith}
use Rattle.std.proofs.lemmas.Bool.{and_from, and_parts, both_ways, cases_eq, cases_lt, eqb-true, eq-eqb, false_from_ne_true, le-leb, leb-true}
use Rattle.std.proofs.lemmas.List.{get_or_default}
use Rattle.std.specs.List.{Contains}
use Rattle.std.specs.Option.{IfSome, IsSomeAnd}
use Rattle.fx_amounts.specs.Side.{opposite}
use Rattle.fx_amounts.specs.declared.side.Side.{Side}
use Rattle.fx_rules.specs.declared.orders.Resting.{Resting}
use Rattle.fx_rules.specs.Lists.{Among, EachPair}
use Rattle.fx_rules.specs.Plan.{is_behind}
use Rattle.fx_rules.specs.Sound.{ArrivesBefore}
use Rattle.fx_rules.specs.Sweep.{IsBest, is_opposite, is_preferred}
use Rattle.fx_rules.proofs.ListLemmas.{Among-filter, Each-among, Each-of, among_filter}
use Rattle.fx_rules.proofs.Preference.{preferred_either, preferred_self, preferred_trans, rising_same}
use Rattle.global_book.specs.Behind.{is_owned_behind, owned_behind}
use Rattle.global_book.specs.Book.{AreOwners, Book, IsBook, IsHeld, is_of}
use Rattle.global_book.specs.Sought.{allows, is_sought, sought}
use Rattle.global_book.specs.inside.Reaching.{IsBestYet}
use Rattle.global_book.proofs.Within.{crosses_too}

-- Preference.
pub not-both : (taker : Side) (a b : Resting) → is_preferred taker a b ≡ true → is_preferred taker b a ≡ false
not-both taker a b is = false_from_ne_true (is_preferred taker b a) (λ back. preferred_self taker a (preferred_trans taker a b a is back))

pub not-self : (taker : Side) (a : Resting) → is_preferred taker a a ≡ false
not-self taker a = false_from_ne_true (is_preferred taker a a) (preferred_self taker a)

not-trans : (taker : Side) (orders : List Resting) (a b c : Resting) → EachPair ArrivesBefore orders → Among a orders → Among b orders → is_preferred taker a b ≡ false → is_preferred taker b c ≡ false → is_preferred taker a c ≡ false
not-trans taker orders a b c rising here there first second = false_from_ne_true (is_preferred taker a c) (λ is. elim (cases_eq a.arrival b.arrival) [
  | inl same ↦ both_ways (is_preferred taker b c) second (subst (λ o. is_preferred taker o c ≡ true) (rising_same orders a b rising here there same) is)
  | inr differ ↦ both_ways (is_preferred taker b c) second (preferred_trans taker b a c (preferred_either taker a b differ first) is)
])

some-is : (best : Option Resting) (P : Resting → Type 0) → IsSomeAnd best P → (order : Resting) × (best ≡ Some order) × P order
some-is None P none = absurd none
some-is (Some order) P holds = (order, refl, holds)

-- An order of a bank that is sought.
module _ (side : Side) (reach : List ℕ) (before : ℕ) (past : Option Resting) where
  sought-owned : (orders : List Resting) (bank : ℕ) (o : Resting) → Among o (sought side reach None before past orders) → o.bank ≡ bank → Among o (owned_behind side bank before past orders)
  sought-owned orders bank o there own =
      let found = Among-filter (is_sought (opposite side) reach None before past) orders o there in
      let outer = and_parts (is_opposite (opposite side) o.side && leb 1 (get_or reach o.bank 0) && true && ltb o.arrival before) (is_behind (opposite side) past o) found.1 in
      let early = and_parts (is_opposite (opposite side) o.side && leb 1 (get_or reach o.bank 0) && true) (ltb o.arrival before) outer.0 in
      let allowed = and_parts (is_opposite (opposite side) o.side && leb 1 (get_or reach o.bank 0)) true early.0 in
      let across = and_parts (is_opposite (opposite side) o.side) (leb 1 (get_or reach o.bank 0)) allowed.0 in
      among_filter (is_owned_behind (opposite side) bank before past) orders o found.0
      (and_from (is_opposite (opposite side) o.side && is_of bank o && ltb o.arrival before) (is_behind (opposite side) past o)
      (and_from (is_opposite (opposite side) o.side && is_of bank o) (ltb o.arrival before) (and_from (is_opposite (opposite side) o.side) (is_of bank o) across.0 (eq-eqb o.bank bank own)) early.1) outer.1)

  sought-reached : (orders : List Resting) (o : Resting) → Among o (sought side reach None before past orders) → 1 ≤ get_or reach o.bank 0
  sought-reached orders o there =
      let found = Among-filter (is_sought (opposite side) reach None before past) orders o there in
      let outer = and_parts (is_opposite (opposite side) o.side && leb 1 (get_or reach o.bank 0) && true && ltb o.arrival before) (is_behind (opposite side) past o) found.1 in
      let early = and_parts (is_opposite (opposite side) o.side && leb 1 (get_or reach o.bank 0) && true) (ltb o.arrival before) outer.0 in
      let allowed = and_parts (is_opposite (opposite side) o.side && leb 1 (get_or reach o.bank 0)) true early.0 in
      leb-true 1 (get_or reach o.bank 0) (and_parts (is_opposite (opposite side) o.side) (leb 1 (get_or reach o.bank 0)) allowed.0).1

  owned-sought : (orders : List Resting) (bank : ℕ) (o : Resting) → Among o (owned_behind side bank before past orders) → 1 ≤ get_or reach bank 0 → Among o (sought side reach None before past orders)
  owned-sought orders bank o there reached =
      let found = Among-filter (is_owned_behind (opposite side) bank before past) orders o there in
      let outer = and_parts (is_opposite (opposite side) o.side && is_of bank o && ltb o.arrival before) (is_behind (opposite side) past o) found.1 in
      let inner = and_parts (is_opposite (opposite side) o.side && is_of bank o) (ltb o.arrival before) outer.0 in
      let own = and_parts (is_opposite (opposite side) o.side) (is_of bank o) inner.0 in
      let reaches : leb 1 (get_or reach o.bank 0) ≡ true = le-leb 1 (get_or reach o.bank 0) (subst (λ b. 1 ≤ get_or reach b 0) (sym (eqb-true o.bank bank own.1)) reached) in
      among_filter (is_sought (opposite side) reach None before past) orders o found.0
      (and_from (is_opposite (opposite side) o.side && leb 1 (get_or reach o.bank 0) && true && ltb o.arrival before) (is_behind (opposite side) past o)
      (and_from (is_opposite (opposite side) o.side && leb 1 (get_or reach o.bank 0) && true) (ltb o.arrival before)
      (and_from (is_opposite (opposite side) o.side && leb 1 (get_or reach o.bank 0)) true (and_from (is_opposite (opposite side) o.side) (leb 1 (get_or reach o.bank 0)) own.0 reaches) refl) inner.1) outer.1)

  -- the same with a limit
  sought-limited : (orders : List Resting) (limit : Option ℕ) (o : Resting) → Among o (sought side reach limit before past orders)
      → Among o (sought side reach None before past orders) × (allows (opposite side) limit o.price ≡ true)
  sought-limited orders limit o there =
      let found = Among-filter (is_sought (opposite side) reach limit before past) orders o there in
      let outer = and_parts (is_opposite (opposite side) o.side && leb 1 (get_or reach o.bank 0) && allows (opposite side) limit o.price && ltb o.arrival before) (is_behind (opposite side) past o) found.1 in
      let early = and_parts (is_opposite (opposite side) o.side && leb 1 (get_or reach o.bank 0) && allows (opposite side) limit o.price) (ltb o.arrival before) outer.0 in
      let allowed = and_parts (is_opposite (opposite side) o.side && leb 1 (get_or reach o.bank 0)) (allows (opposite side) limit o.price) early.0 in (
        among_filter (is_sought (opposite side) reach None before past) orders o found.0
            (and_from (is_opposite (opposite side) o.side && leb 1 (get_or reach o.bank 0) && true && ltb o.arrival before) (is_behind (opposite side) past o)
            (and_from (is_opposite (opposite side) o.side && leb 1 (get_or reach o.bank 0) && true) (ltb o.arrival before)
            (and_from (is_opposite (opposite side) o.side && leb 1 (get_or reach o.bank 0)) true allowed.0 refl) early.1) outer.1),
        allowed.1,
      )

  limited-sought : (orders : List Resting) (limit : Option ℕ) (o : Resting) → Among o (sought side reach None before past orders) → allows (opposite side) limit o.price ≡ true → Among o (sought side reach limit before past orders)
  limited-sought orders limit o there allowed =
      let found = Among-filter (is_sought (opposite side) reach None before past) orders o there in
      let outer = and_parts (is_opposite (opposite side) o.side && leb 1 (get_or reach o.bank 0) && true && ltb o.arrival before) (is_behind (opposite side) past o) found.1 in
      let early = and_parts (is_opposite (opposite side) o.side && leb 1 (get_or reach o.bank 0) && true) (ltb o.arrival before) outer.0 in
      let all = and_parts (is_opposite (opposite side) o.side && leb 1 (get_or reach o.bank 0)) true early.0 in
      among_filter (is_sought (opposite side) reach limit before past) orders o found.0
      (and_from (is_opposite (opposite side) o.side && leb 1 (get_or reach o.bank 0) && allows (opposite side) limit o.price && ltb o.arrival before) (is_behind (opposite side) past o)
      (and_from (is_opposite (opposite side) o.side && leb 1 (get_or reach o.bank 0) && allows (opposite side) limit o.price) (ltb o.arrival before)
      (and_from (is_opposite (opposite side) o.side && leb 1 (get_or reach o.bank 0)) (allows (opposite side) limit o.price) all.0 allowed) early.1) outer.1)

-- From bank to bank.
module _ (book : Book) (side : Side) (reach : List ℕ) (before : ℕ) (past : Option Resting) (owners : List ℕ) (valid : IsBook book) where
  abbrev IsYet : ℕ → Option Resting → Type 0
  IsYet = IsBestYet book.orders side reach before past owners

  -- a bank that is not reached
  pub yet-passed : (count bank : ℕ) (best : Option Resting) → IsYet count best → bank ≡ get_or owners count bank → count < length owners → get_or reach bank 0 ≡ 0 → IsYet (count + 1) best
  yet-passed count bank best yet bank_is within none = record {
    there = yet.there;
    first = λ other there at early is. elim (cases_lt at count) [
      | inl before' ↦ yet.first other there at before' is
      | inr late ↦
          let same : at ≡ count = omega (arith, early, late) in
          let own : bank ≡ other.bank = bank_is ∙ get_or_default owners count bank 0 within ∙ ap (λ k. get_or owners k 0) (sym same) ∙ is in
          let some = sought-reached side reach before past book.orders other there in
          absurd (omega (arith, some, none, ap (λ b. get_or reach b 0) own))
    ];
  }

  -- a bank that is
  pub yet-more : (count bank : ℕ) (best found best' : Option Resting) → IsYet count best → bank ≡ get_or owners count bank → count < length owners → 1 ≤ get_or reach bank 0
      → (found ≡ None) ↔ (owned_behind side bank before past book.orders ≡ []) → IfSome found (IsBest (opposite side) (owned_behind side bank before past book.orders))
      → (best' ≡ best) ⊎ (best' ≡ found) → IfSome best (λ one. IsSomeAnd best' (λ order. is_preferred (opposite side) one order ≡ false))
      → IfSome found (λ one. IsSomeAnd best' (λ order. is_preferred (opposite side) one order ≡ false)) → IsYet (count + 1) best'
  yet-more count bank best found best' yet bank_is within reached none is_best either first second = record {
    there = elim either [
      | inl same ↦ subst (λ f. IfSome f (λ order. Among order (sought side reach None before past book.orders))) (sym same) yet.there
      | inr same ↦ subst (λ f. IfSome f (λ order. Among order (sought side reach None before past book.orders))) (sym same) (found-there found is_best)
    ];
    first = λ other there at early is. elim (cases_lt at count) [
      | inl before' ↦ through best other there (yet.first other there at before' is) yet.there first
      | inr late ↦
          let same : at ≡ count = omega (arith, early, late) in
          let own : other.bank ≡ bank = sym (bank_is ∙ get_or_default owners count bank 0 within ∙ ap (λ k. get_or owners k 0) (sym same) ∙ is) in
          through found other there (below found other (sought-owned side reach before past book.orders bank other there own) none is_best) (found-there found is_best) second
    ];
  }
    where
      found-there : (found : Option Resting) → IfSome found (IsBest (opposite side) (owned_behind side bank before past book.orders)) → IfSome found (λ order. Among order (sought side reach None before past book.orders))
      found-there None is = tt
      found-there (Some order) is = owned-sought side reach before past book.orders bank order is.there reached

      below : (found : Option Resting) (other : Resting) → Among other (owned_behind side bank before past book.orders) → (found ≡ None) ↔ (owned_behind side bank before past book.orders ≡ [])
          → IfSome found (IsBest (opposite side) (owned_behind side bank before past book.orders)) → IsSomeAnd found (λ order. is_preferred (opposite side) other order ≡ false)
      below None other there none is = absurd (let it : Among other [] = subst (Among other) (none.0 refl) there in it)
      below (Some order) other there none is = Each-among (λ o. is_preferred (opposite side) o order ≡ false) (owned_behind side bank before past book.orders) other is.first there

      through : (mid : Option Resting) (other : Resting) → Among other (sought side reach None before past book.orders) → IsSomeAnd mid (λ order. is_preferred (opposite side) other order ≡ false)
          → IfSome mid (λ order. Among order (sought side reach None before past book.orders)) → IfSome mid (λ one. IsSomeAnd best' (λ order. is_preferred (opposite side) one order ≡ false))
          → IsSomeAnd best' (λ order. is_preferred (opposite side) other order ≡ false)
      through None other there upto among after = absurd upto
      through (Some one) other there upto among after =
          let last = some-is best' (λ order. is_preferred (opposite side) one order ≡ false) after in
          subst (λ f. IsSomeAnd f (λ order. is_preferred (opposite side) other order ≡ false)) (sym last.1)
          (not-trans (opposite side) book.orders other one last.0 valid.rising (Among-filter (is_sought (opposite side) reach None before past) book.orders other there).0
          (Among-filter (is_sought (opposite side) reach None before past) book.orders one among).0 upto last.2)

  -- At the end.
  module _ (owned : AreOwners book owners) where
    all-first : (best : Option Resting) → IsYet (length owners) best → (other : Resting) → Among other (sought side reach None before past book.orders) → IsSomeAnd best (λ order. is_preferred (opposite side) other order ≡ false)
    all-first best yet other there =
        let at : Contains owners other.bank = Each-among (λ (o : Resting). Contains owners o.bank) book.orders other owned.all (Among-filter (is_sought (opposite side) reach None before past) book.orders other there).0 in
        yet.first other there at.0 at.1 (get_or_default owners at.0 0 other.bank at.1 ∙ at.2)

    none-left : (limit : Option ℕ) → ((o : Resting) → Among o (sought side reach limit before past book.orders) → ⊥) → sought side reach limit before past book.orders ≡ []
    none-left limit none = empty (sought side reach limit before past book.orders) none
      where
        empty : (xs : List Resting) → ((o : Resting) → Among o xs → ⊥) → xs ≡ []
        empty [] none = refl
        empty (x ∷ xs) none = absurd (none x (inl refl))

    pub yet-none_found : (limit : Option ℕ) (best : Option Resting) → IsYet (length owners) best → best ≡ None → sought side reach limit before past book.orders ≡ []
    yet-none_found limit best yet is = none-left limit (λ o there.
        let it : IsSomeAnd None (λ (order : Resting). is_preferred (opposite side) o order ≡ false) =
        subst (λ f. IsSomeAnd f (λ (order : Resting). is_preferred (opposite side) o order ≡ false)) is (all-first best yet o (sought-limited side reach before past book.orders limit o there).0) in
        it)

    first-is : (best : Option Resting) (order : Resting) → IsYet (length owners) best → best ≡ Some order → (o : Resting) → Among o (sought side reach None before past book.orders) → is_preferred (opposite side) o order ≡ false
    first-is best order yet is o there = subst (λ f. IsSomeAnd f (λ one. is_preferred (opposite side) o one ≡ false)) is (all-first best yet o there)

    pub yet-found : (limit : Option ℕ) (best : Option Resting) (order : Resting) → IsYet (length owners) best → best ≡ Some order → allows (opposite side) limit order.price ≡ true
        → IsBest (opposite side) (sought side reach limit before past book.orders) order
    yet-found limit best order yet is allowed = record {
      there = limited-sought side reach before past book.orders limit order (subst (λ f. IfSome f (λ o. Among o (sought side reach None before past book.orders))) is yet.there) allowed;
      first = Each-of (λ o. is_preferred (opposite side) o order ≡ false) (sought side reach limit before past book.orders) (λ o there.
          first-is best order yet is o (sought-limited side reach before past book.orders limit o there).0);
    }

    pub yet-dear : (limit : Option ℕ) (best : Option Resting) (order : Resting) → IsYet (length owners) best → best ≡ Some order → allows (opposite side) limit order.price ≡ false → sought side reach limit before past book.orders ≡ []
    yet-dear limit best order yet is dear = none-left limit (λ o there.
        let it = sought-limited side reach before past book.orders limit o there in
        both_ways (allows (opposite side) limit order.price) dear (allowed-too limit o order (first-is best order yet is o it.0) it.1))
      where
        allowed-too : (limit : Option ℕ) (o order : Resting) → is_preferred (opposite side) o order ≡ false → allows (opposite side) limit o.price ≡ true → allows (opposite side) limit order.price ≡ true
        allowed-too None o order below taken = refl
        allowed-too (Some limit) o order below taken = crosses_too (opposite side) limit order o below taken

  -- the banks of the list are those of the book
  pub owner-within : AreOwners book owners → (count bank : ℕ) → bank ≡ get_or owners count bank → count < length owners → bank < book.banks
  owner-within owned count bank bank_is within =
      let own = owned.owns bank (count, within, sym bank_is) in
      subst (λ b. b < book.banks) own.2 (Each-among (IsHeld book.banks) book.orders own.0 valid.held own.1).bank
