-- What levels tell of the banks that have an order, and their list as orders come, go or are lowered.
use Rattle.std.proofs.Common.{ℕ, ◌≡◌, ◌≢◌, ◌<◌, ◌^◌, ◌++◌, true, false, not, Bool, ◌&&◌, eqb, if◌then◌else◌, List, [], ◌∷◌, Option, Some, None, length, get_or, inl, inr, refl, ap, sym, subst, ◌∙◌, arith}
use Rattle.std.proofs.Math.ListN.{set}
use Rattle.std.proofs.lemmas.Bool.{and_parts, cases_eq, cases_lt, eqb-true, eq-eqb}
use Rattle.std.proofs.lemmas.List.{get_or-set_same, get_or-set_other}
use Rattle.std.specs.List.{filter}
use Rattle.fx_amounts.specs.Side.{opposite}
use Rattle.fx_amounts.specs.declared.side.Side.{Side}
use Rattle.fx_rules.specs.declared.orders.Resting.{Resting}
use Rattle.fx_rules.specs.Sweep.{is_opposite}
use Rattle.fx_rules.proofs.ListLemmas.{Each-of}
use Rattle.order_store.specs.Linked.{IsFirstFrom}
use Rattle.price_levels.specs.declared.level.Level.{Level}
use Rattle.access_index.specs.Ranked.{IsHeadOf, bank_level}
use Rattle.access_index.specs.declared.words.Head.{Head}
use Rattle.global_book.specs.Book.{Owns, is_level, is_of}
use Rattle.global_book.specs.Room.{Ladders, ladders_of, rank_of}
use Rattle.global_book.specs.inside.Ends.{IsOfLevel, first_of_level, orders_of}
use Rattle.global_book.specs.inside.Linked.{AreLinked}
use Rattle.global_book.specs.inside.Owning.{AreOwnersOf, with_bank}
use Rattle.global_book.proofs.Ending.{level-of_itself, order_within, some_lots}
use Rattle.global_book.proofs.Listing.{among-at, at-among, orders-pushed}
use Rattle.global_book.proofs.Owning.{owners-alike, owners-left, owners-put, room-for}
use Rattle.global_book.proofs.Telling.{rank-back, rank-most}

-- a head is that of a rank with orders
pub head-some : (levels : ℕ → Level) (found : Option Head) → IsHeadOf levels found → (found ≡ None → ⊥) → (rank : ℕ) × ((levels rank).lots ≢ 0)
head-some levels None head some = absurd (some refl)
head-some levels (Some found) head some = (found.rank, head.0.some)

-- a level that has lots is of an order that is there
pub lots-owned : (slots : List (Option Resting)) (ladders : Ladders) (side : Side) (bank rank : ℕ) → AreLinked slots ladders → (bank_level (ladders_of ladders side) bank rank).lots ≢ 0 → Owns bank (orders_of slots)
lots-owned slots ladders side bank rank linked some =
    elim (cases_lt (10 ^ 9) rank) [
      | inl high ↦ absurd (some ((linked.told side).low bank rank high))
      | inr upto ↦
          let price : ℕ = rank_of side rank in
          let level : Level = bank_level (ladders_of ladders side) bank rank in
          let tells = (linked.told side).tells bank price (rank-most side rank (omega (arith, upto))) in
          let first : IsFirstFrom (IsOfLevel slots bank side price) 0 (first_of_level level) =
          subst (λ r. IsFirstFrom (IsOfLevel slots bank side price) 0 (first_of_level (bank_level (ladders_of ladders side) bank r))) (rank-back side rank (omega (arith, upto))) tells.first in
          let there : IsFirstFrom (IsOfLevel slots bank side price) 0 (Some level.first) = subst (IsFirstFrom (IsOfLevel slots bank side price) 0) (some_lots level (Some level.first) some) first in
          let it : IsOfLevel slots bank side price level.first = there.is in (
            it.order,
            among-at slots level.first it.order it.is,
            eqb-true it.order.bank bank (and_parts (is_of bank it.order) (is_opposite (opposite side) it.order.side && eqb it.order.price price) (
                let at : is_level (opposite side) bank price it.order ≡ true = it.at in own-first (is_of bank it.order) (is_opposite (opposite side) it.order.side) (eqb it.order.price price) at)).0,
          )
    ]
  where
    own-first : (a b c : Bool) → (a && b && c) ≡ true → (a && (b && c)) ≡ true
    own-first true true c is = is
    own-first true false c is = is
    own-first false b c is = is

-- where no level of a bank has lots it has no order
pub none-owned : (slots : List (Option Resting)) (ladders : Ladders) (bank : ℕ) → AreLinked slots ladders → ((side : Side) (rank : ℕ) → (bank_level (ladders_of ladders side) bank rank).lots ≡ 0) → Owns bank (orders_of slots) → ⊥
none-owned slots ladders bank linked none own =
    let order : Resting = own.0 in
    let at = at-among slots order own.1 in
    let level : Level = bank_level (ladders_of ladders order.side) order.bank (rank_of order.side order.price) in
    let empty : level.lots ≡ 0 = ap (λ b. (bank_level (ladders_of ladders order.side) b (rank_of order.side order.price)).lots) own.2 ∙ none order.side (rank_of order.side order.price) in
    let tells = (linked.told order.side).tells order.bank order.price (linked.priced at.0 order at.1).price in
    let first : IsFirstFrom (IsOfLevel slots order.bank order.side order.price) 0 None =
    subst (IsFirstFrom (IsOfLevel slots order.bank order.side order.price) 0) (ap (λ (b : Bool). if b then None else Some level.first) (eq-eqb level.lots 0 empty)) tells.first in
    first at.0 (omega arith) (record { order = order; is = at.1; at = level-of_itself order })

-- there is room for a bank that is not listed
pub owner-fits : (slots : List (Option Resting)) (ladders : Ladders) (bank : ℕ) (owners : List ℕ) → AreLinked slots ladders → AreOwnersOf (orders_of slots) owners → bank < 64
    → (Owns bank (orders_of slots) → ⊥) → length owners < 64
owner-fits slots ladders bank owners linked are within absent =
    room-for bank 64 owners are.rising
    (Each-of (λ x. x < 64) owners (λ x there.
    let own = are.owns x there in
    let at = at-among slots own.0 own.1 in
    subst (λ b. b < 64) own.2 (linked.priced at.0 own.0 at.1).bank))
    within (λ there. absent (are.owns bank there))

pub owners-pushed : (slots : List (Option Resting)) (order : Resting) (owners : List ℕ) (had : Bool) → (had ≡ true → Owns order.bank (orders_of slots)) → (had ≡ false → Owns order.bank (orders_of slots) → ⊥)
    → AreOwnersOf (orders_of slots) owners → AreOwnersOf (orders_of (slots ++ Some order ∷ [])) (if had then owners else with_bank order.bank owners)
owners-pushed slots order owners had yes' no' are =
    subst (λ os. AreOwnersOf os (if had then owners else with_bank order.bank owners)) (sym (orders-pushed slots order)) (owners-put (orders_of slots) order owners had yes' no' are)

-- The order at a place goes, or has other lots left.
module _ (slots : List (Option Resting)) (place : ℕ) (order : Resting) (was : get_or slots place None ≡ Some order) where
  some_same : (a b : Resting) → Some a ≡ Some b → a ≡ b
  some_same a b is = cc

  no_order : (one : Resting) → None ≡ Some one → ⊥
  no_order one is = cc

  changed : (slot : Option Resting) (other : ℕ) → Owns other (orders_of (set slots place slot)) → ((one : Resting) → slot ≡ Some one → one.bank ≡ other → Owns other (orders_of slots)) → Owns other (orders_of slots)
  changed slot other own here =
      let at = at-among (set slots place slot) own.0 own.1 in
      elim (cases_eq at.0 place) [
        | inl same ↦ here own.0 (sym (ap (λ p. get_or (set slots place slot) p None) same ∙ get_or-set_same slots place slot None (order_within slots place order was)) ∙ at.1) own.2
        | inr differ ↦ (own.0, among-at slots at.0 own.0 (sym (get_or-set_other slots place at.0 slot None differ) ∙ at.1), own.2)
      ]

  others : (slot : Option Resting) (other : ℕ) → other ≢ order.bank → Owns other (orders_of slots) → Owns other (orders_of (set slots place slot))
  others slot other apart own =
      let at = at-among slots own.0 own.1 in
      let differ : at.0 ≢ place = λ same. apart (sym own.2 ∙ ap (λ (o : Resting). o.bank) (some_same own.0 order (sym at.1 ∙ ap (λ p. get_or slots p None) same ∙ was))) in
      (own.0, among-at (set slots place slot) at.0 own.0 (get_or-set_other slots place at.0 slot None differ ∙ at.1), own.2)

  pub owners-removed : (owners : List ℕ) (has : Bool) → (has ≡ true → Owns order.bank (orders_of (set slots place None))) → (has ≡ false → Owns order.bank (orders_of (set slots place None)) → ⊥)
      → AreOwnersOf (orders_of slots) owners → AreOwnersOf (orders_of (set slots place None)) (if has then owners else filter (λ other. not (eqb other order.bank)) owners)
  owners-removed owners has yes' no' are =
      owners-left (orders_of slots) (orders_of (set slots place None)) order.bank owners has yes' no'
      (λ other own. changed None other own (λ one is bank. absurd (no_order one is))) (others None) are

  pub owners-lowered : (owners : List ℕ) (left : ℕ) → AreOwnersOf (orders_of slots) owners → AreOwnersOf (orders_of (set slots place (Some (record order { left = left })))) owners
  owners-lowered owners left are =
      let new : Option Resting = Some (record order { left = left }) in
      owners-alike (orders_of slots) (orders_of (set slots place new)) owners
      (λ other own. elim (cases_eq other order.bank) [
        | inl same ↦ (record order { left = left }, among-at (set slots place new) place (record order { left = left }) (get_or-set_same slots place new None (order_within slots place order was)), sym same)
        | inr differ ↦ others new other differ own
      ])
      (λ other own. changed new other own (λ one is bank. (order, among-at slots place order was, ap (λ (o : Resting). o.bank) (some_same (record order { left = left }) one is) ∙ bank)))
      are
