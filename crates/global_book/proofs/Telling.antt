-- The levels of all banks of a side as an order comes, goes or is lowered.
use Rattle.std.proofs.Common.{ℕ, ◌≡◌, ◌+◌, ◌-◌, ◌≤◌, ◌<◌, ◌^◌, false, Bool, ◌&&◌, if◌then◌else◌, eqb, List, [], ◌∷◌, ◌++◌, Option, Some, None, length, get_or, inl, inr, refl, ap, sym, subst, ◌∙◌, arith}
use Rattle.std.proofs.Math.ListN.{set}
use Rattle.std.proofs.lemmas.Bool.{and_parts, cases_Bool, cases_eq, eq-eqb, eqb-true, ne_eqb}
use Rattle.fx_amounts.specs.Side.{opposite}
use Rattle.fx_amounts.specs.declared.side.Side.{Side}
use Rattle.fx_amounts.specs.declared.side.Side.TheVariants.{Buy, Sell}
use Rattle.fx_rules.specs.declared.orders.Resting.{Resting}
use Rattle.fx_rules.specs.Sweep.{is_opposite}
use Rattle.order_store.specs.Linked.{HaveLots, IsFirstFrom, IsInLevel, IsLastBelow}
use Rattle.price_levels.specs.Ticks.{with_order, without_order}
use Rattle.price_levels.specs.Rungs.{with_level_at}
use Rattle.price_levels.specs.declared.level.Level.{Level}
use Rattle.access_index.specs.Ranked.{with_bank_level}
use Rattle.global_book.specs.Book.{is_level}
use Rattle.global_book.specs.inside.Ends.{TellsOrders}
use Rattle.global_book.specs.Room.{rank_of}
use Rattle.global_book.specs.inside.Linked.{AreTold}
use Rattle.global_book.proofs.Ending.{first-told, last-told, level-apart, level-beside, level-lowered, level-lowered_apart, level-of_itself, level-pushed, level-removed, same_side}

-- Ranks and prices.
pub rank-most : (side : Side) (price : ℕ) → price ≤ 10 ^ 9 → rank_of side price ≤ 10 ^ 9
rank-most Buy price most = omega arith
rank-most Sell price most = most

pub rank-one : (side : Side) (a b : ℕ) → a ≤ 10 ^ 9 → b ≤ 10 ^ 9 → rank_of side a ≡ rank_of side b → a ≡ b
rank-one Buy a b first second same = omega arith
rank-one Sell a b first second same = same

pub rank-back : (side : Side) (rank : ℕ) → rank ≤ 10 ^ 9 → rank_of side (rank_of side rank) ≡ rank
rank-back Buy rank most = omega arith
rank-back Sell rank most = refl

-- An order is not of a level.
pub not-level : (side : Side) (bank price : ℕ) (order : Resting) → (side ≡ order.side → order.bank ≡ bank → order.price ≡ price → ⊥) → is_level (opposite side) bank price order ≡ false
not-level side bank price order differ =
    elim (cases_Bool (is_level (opposite side) bank price order)) [
      | inl is ↦
          let outer = and_parts (eqb order.bank bank && is_opposite (opposite side) order.side) (eqb order.price price) is in
          let inner = and_parts (eqb order.bank bank) (is_opposite (opposite side) order.side) outer.0 in
          absurd (differ (same_side side order.side inner.1) (eqb-true order.bank bank inner.0) (eqb-true order.price price outer.1))
      | inr off ↦ off
    ]

-- The level of one bank at one rank is another one.
with-own : (levels : ℕ → ℕ → Level) (bank rank : ℕ) (level : Level) → with_bank_level levels bank rank level bank rank ≡ level
with-own levels bank rank level =
    ap (λ (b : Bool). if b then with_level_at (levels bank) rank level rank else levels bank rank) (eq-eqb bank bank refl)
    ∙ ap (λ (b : Bool). if b then level else levels bank rank) (eq-eqb rank rank refl)

with-others : (levels : ℕ → ℕ → Level) (bank rank : ℕ) (level : Level) (other at : ℕ) → (other ≡ bank → at ≡ rank → ⊥) → with_bank_level levels bank rank level other at ≡ levels other at
with-others levels bank rank level other at differ =
    elim (cases_eq other bank) [
      | inl same ↦
          ap (λ (b : Bool). if b then with_level_at (levels other) rank level at else levels other at) (eq-eqb other bank same)
          ∙ ap (λ (b : Bool). if b then level else levels other at) (ne_eqb at rank (differ same))
      | inr apart ↦ ap (λ (b : Bool). if b then with_level_at (levels other) rank level at else levels other at) (ne_eqb other bank apart)
    ]

pub told-changed : (slots slots' : List (Option Resting)) (side : Side) (levels levels' : ℕ → ℕ → Level) (bank price : ℕ) (level : Level) → AreTold slots side levels → price ≤ 10 ^ 9
    → ((other at : ℕ) → levels' other at ≡ with_bank_level levels bank (rank_of side price) level other at) → TellsOrders slots' bank side price level
    → ((other at : ℕ) (l : Level) → (other ≡ bank → at ≡ price → ⊥) → TellsOrders slots other side at l → TellsOrders slots' other side at l) → AreTold slots' side levels'
told-changed slots slots' side levels levels' bank price level told most changed own others = record {
  tells = λ other at few. elim (cases_eq other bank) [
    | inl one ↦ elim (cases_eq at price) [
      | inl same ↦
          subst (λ o. TellsOrders slots' o side at (levels' o (rank_of side at))) (sym one)
          (subst (λ p. TellsOrders slots' bank side p (levels' bank (rank_of side p))) (sym same)
          (subst (TellsOrders slots' bank side price) (sym (changed bank (rank_of side price) ∙ with-own levels bank (rank_of side price) level)) own))
      | inr apart ↦ beside other at few (λ _ same. apart same)
    ]
    | inr differ ↦ beside other at few (λ same _. differ same)
  ];
  low = λ other rank high.
      ap (λ (l : Level). l.lots) (changed other rank ∙ with-others levels bank (rank_of side price) level other rank (λ _ same. let upto = rank-most side price most in omega (arith, same, high, upto)))
      ∙ told.low other rank high;
}
  where
    beside : (other at : ℕ) → at ≤ 10 ^ 9 → (other ≡ bank → at ≡ price → ⊥) → TellsOrders slots' other side at (levels' other (rank_of side at))
    beside other at few differ =
        subst (TellsOrders slots' other side at)
        (sym (changed other (rank_of side at) ∙ with-others levels bank (rank_of side price) level other (rank_of side at) (λ one same. differ one (rank-one side at price few most same))))
        (others other at (levels other (rank_of side at)) differ (told.tells other at few))

pub told-beside : (slots slots' : List (Option Resting)) (side : Side) (levels levels' : ℕ → ℕ → Level) → AreTold slots side levels → ((other at : ℕ) → levels' other at ≡ levels other at)
    → ((other at : ℕ) (l : Level) → TellsOrders slots other side at l → TellsOrders slots' other side at l) → AreTold slots' side levels'
told-beside slots slots' side levels levels' told same others = record {
  tells = λ other at few. subst (TellsOrders slots' other side at) (sym (same other (rank_of side at))) (others other at (levels other (rank_of side at)) (told.tells other at few));
  low = λ other rank high. ap (λ (l : Level). l.lots) (same other rank) ∙ told.low other rank high;
}

-- An order comes: what becomes of the levels of its side, and of the other.
module _ (slots : List (Option Resting)) (order : Resting) where
  pub told-pushed : (levels levels' : ℕ → ℕ → Level) → HaveLots (λ at. get_or slots at None) → 0 < order.left → order.price ≤ 10 ^ 9 → AreTold slots order.side levels
      → ((other at : ℕ) → levels' other at ≡ with_bank_level levels order.bank (rank_of order.side order.price) (with_order (levels order.bank (rank_of order.side order.price)) (length slots) order.left) other at)
      → AreTold (slots ++ Some order ∷ []) order.side levels'
  told-pushed levels levels' have some most told changed =
      told-changed slots (slots ++ Some order ∷ []) order.side levels levels' order.bank order.price (with_order (levels order.bank (rank_of order.side order.price)) (length slots) order.left) told most changed
      (level-pushed order.bank order.side order.price slots order (levels order.bank (rank_of order.side order.price)) have (told.tells order.bank order.price most) (level-of_itself order) some)
      (λ other at l differ is. level-beside other order.side at slots order l is (not-level order.side other at order (λ _ bank price. differ (sym bank) (sym price))))

  pub told-pushed_beside : (side : Side) (levels levels' : ℕ → ℕ → Level) → (side ≡ order.side → ⊥) → AreTold slots side levels → ((other at : ℕ) → levels' other at ≡ levels other at)
      → AreTold (slots ++ Some order ∷ []) side levels'
  told-pushed_beside side levels levels' apart told same =
      told-beside slots (slots ++ Some order ∷ []) side levels levels' told same (λ other at l is. level-beside other side at slots order l is (not-level side other at order (λ one _ _. apart one)))

-- An order goes, or is lowered.
module _ (slots : List (Option Resting)) (gone : ℕ) (order : Resting) (was : get_or slots gone None ≡ Some order) where
  pub told-removed : (levels levels' : ℕ → ℕ → Level) (before behind : Option ℕ) → HaveLots (λ at. get_or slots at None) → order.price ≤ 10 ^ 9 → AreTold slots order.side levels
      → IsLastBelow (IsInLevel (λ at. get_or slots at None) order) gone before → IsFirstFrom (IsInLevel (λ at. get_or slots at None) order) (gone + 1) behind
      → ((other at : ℕ) → levels' other at ≡ with_bank_level levels order.bank (rank_of order.side order.price) (without_order (levels order.bank (rank_of order.side order.price)) order.left before behind) other at)
      → AreTold (set slots gone None) order.side levels'
  told-removed levels levels' before behind have most told prev next changed =
      told-changed slots (set slots gone None) order.side levels levels' order.bank order.price (without_order (levels order.bank (rank_of order.side order.price)) order.left before behind) told most changed
      (level-removed order.bank order.side order.price slots gone order was (levels order.bank (rank_of order.side order.price)) before behind have (told.tells order.bank order.price most) (level-of_itself order)
      (last-told slots order gone before prev) (first-told slots order (gone + 1) behind next))
      (λ other at l differ is. level-apart other order.side at slots gone order was l is (not-level order.side other at order (λ _ bank price. differ (sym bank) (sym price))))

  pub told-removed_beside : (side : Side) (levels levels' : ℕ → ℕ → Level) → (side ≡ order.side → ⊥) → AreTold slots side levels → ((other at : ℕ) → levels' other at ≡ levels other at)
      → AreTold (set slots gone None) side levels'
  told-removed_beside side levels levels' apart told same =
      told-beside slots (set slots gone None) side levels levels' told same (λ other at l is. level-apart other side at slots gone order was l is (not-level side other at order (λ one _ _. apart one)))

  pub told-lowered : (left : ℕ) (levels levels' : ℕ → ℕ → Level) → order.price ≤ 10 ^ 9 → 0 < left → left ≤ order.left → AreTold slots order.side levels
      → ((other at : ℕ) → levels' other at ≡ with_bank_level levels order.bank (rank_of order.side order.price)
      (record (levels order.bank (rank_of order.side order.price)) { lots = (levels order.bank (rank_of order.side order.price)).lots - (order.left - left) }) other at)
      → AreTold (set slots gone (Some (record order { left = left }))) order.side levels'
  told-lowered left levels levels' most some less told changed =
      told-changed slots (set slots gone (Some (record order { left = left }))) order.side levels levels' order.bank order.price
      (record (levels order.bank (rank_of order.side order.price)) { lots = (levels order.bank (rank_of order.side order.price)).lots - (order.left - left) }) told most changed
      (level-lowered order.bank order.side order.price slots gone order was left (levels order.bank (rank_of order.side order.price)) (told.tells order.bank order.price most) (level-of_itself order) some less)
      (λ other at l differ is. level-lowered_apart other order.side at slots gone order was left l is (not-level order.side other at order (λ _ bank price. differ (sym bank) (sym price))))

  pub told-lowered_beside : (left : ℕ) (side : Side) (levels levels' : ℕ → ℕ → Level) → (side ≡ order.side → ⊥) → AreTold slots side levels → ((other at : ℕ) → levels' other at ≡ levels other at)
      → AreTold (set slots gone (Some (record order { left = left }))) side levels'
  told-lowered_beside left side levels levels' apart told same =
      told-beside slots (set slots gone (Some (record order { left = left }))) side levels levels' told same
      (λ other at l is. level-lowered_apart other side at slots gone order was left l is (not-level side other at order (λ one _ _. apart one)))
