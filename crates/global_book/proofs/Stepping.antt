-- A level and the price behind it, as the ladders tell them.
use Rattle.std.proofs.Common.{ℕ, ◌≡◌, ◌+◌, ◌≤◌, ◌<◌, ◌^◌, List, [], ◌∷◌, Option, Some, None, sum_by, inl, inr, refl, ap, sym, subst, ◌∙◌, arith}
use Rattle.std.proofs.lemmas.Bool.{cases_Bool}
use Rattle.std.proofs.lemmas.List.Sums.{sum_by-cons}
use Rattle.fx_amounts.specs.Price.{IsPrice}
use Rattle.fx_amounts.specs.Side.{opposite}
use Rattle.fx_amounts.specs.declared.side.Side.{Side}
use Rattle.fx_amounts.specs.declared.side.Side.TheVariants.{Buy, Sell}
use Rattle.fx_rules.specs.declared.orders.Resting.{Resting}
use Rattle.fx_rules.specs.Lists.{total}
use Rattle.fx_rules.proofs.ListLemmas.{filter_cons_false, filter_cons_true}
use Rattle.order_store.specs.Linked.{AreListed}
use Rattle.price_levels.specs.Rungs.{IsNextRank}
use Rattle.price_levels.specs.declared.level.Level.{Level}
use Rattle.access_index.specs.Ranked.{bank_level}
use Rattle.global_book.specs.Book.{IsPriceOf, is_level, level_lots}
use Rattle.global_book.specs.Room.{ladders_of, rank_of}
use Rattle.global_book.specs.inside.Bests.{IsBestAt, is_own_from}
use Rattle.global_book.specs.inside.Ends.{orders_of, slot_lots}
use Rattle.global_book.specs.inside.Linked.{AreLinked, Linked, orders_in}
use Rattle.global_book.proofs.Ending.{lots_at, lots_off}
use Rattle.global_book.proofs.Preferring.{first-found, none-found}
use Rattle.global_book.proofs.Pricing.{price-found, price-none}
use Rattle.global_book.proofs.Telling.{rank-back}
use Rattle.global_book.proofs.Words.{rank-is}

-- a rank of a price is in range
pub rank-low : (side : Side) (rank : ℕ) → IsPrice (rank_of side rank) → rank ≤ 10 ^ 9
rank-low Buy rank valid = omega (arith, valid.0)
rank-low Sell rank valid = valid.1

-- the lots of a level are those of its orders
level-summed : (bank : ℕ) (side : Side) (price : ℕ) (slots : List (Option Resting)) → sum_by (slot_lots bank side price) slots ≡ level_lots (opposite side) bank price (orders_of slots)
level-summed bank side price [] = refl
level-summed bank side price (None ∷ slots) = let rest = level-summed bank side price slots in omega (arith, rest, sum_by-cons (slot_lots bank side price) None slots)
level-summed bank side price (Some order ∷ slots) =
    let rest = level-summed bank side price slots in
    let sums = sum_by-cons (slot_lots bank side price) (Some order) slots in
    elim (cases_Bool (is_level (opposite side) bank price order)) [
      | inl at ↦ omega (arith, rest, sums, lots_at bank side price order at, ap (λ (os : List Resting). total (λ (o : Resting). o.left) os) (filter_cons_true (is_level (opposite side) bank price) order (orders_of slots) at))
      | inr off ↦ omega (arith, rest, sums, lots_off bank side price order off, ap (λ (os : List Resting). total (λ (o : Resting). o.left) os) (filter_cons_false (is_level (opposite side) bank price) order (orders_of slots) off))
    ]

module _ (linked : Linked) (listed : AreListed linked.orders) (are : AreLinked linked.orders.slots linked.ladders) (bank : ℕ) (side : Side) (price : ℕ) (most : price ≤ 10 ^ 9) where
  abbrev levels : ℕ → ℕ → Level
  levels = bank_level (ladders_of linked.ladders side)

  pub lots-are : (levels bank (rank_of side price)).lots ≡ level_lots (opposite side) bank price (orders_in linked)
  lots-are = ((are.told side).tells bank price most).lots ∙ level-summed bank side price linked.orders.slots

  next-at : (rank : ℕ) → IsNextRank (levels bank) (rank_of side price + 1) rank → IsBestAt linked.orders.slots (is_own_from bank side (rank_of side price + 1)) side (levels bank rank).first
  next-at rank next =
      first-found linked.orders.slots bank side levels (are.told side) are.priced listed.rising listed.lots (rank_of side price + 1) rank next

  -- the price of the rank behind it
  price-is : (rank : ℕ) (next : IsNextRank (levels bank) (rank_of side price + 1) rank) → rank_of side rank ≡ (next-at rank next).order.price
  price-is rank next =
      let at : IsBestAt linked.orders.slots (is_own_from bank side (rank_of side price + 1)) side (levels bank rank).first = next-at rank next in
      ap (rank_of side) (sym (rank-is linked.orders.slots bank side levels (are.told side) are.priced listed.rising listed.lots rank at.order next.some at.is))
      ∙ rank-back side at.order.price (are.priced (levels bank rank).first at.order at.is).price

  -- the price of that rank is the next one, or there is none
  pub next-none : ((other : ℕ) → rank_of side price < other → (levels bank other).lots ≡ 0) → IsPriceOf (opposite side) bank (Some price) (orders_in linked) None
  next-none none =
      price-none linked (orders_in linked) bank side (Some price) None refl most
      (none-found linked.orders.slots bank side levels (are.told side) are.priced listed.rising listed.lots (rank_of side price + 1) (λ rank from. none rank (omega (arith, from)))) refl

  pub next-is : (rank : ℕ) → IsNextRank (levels bank) (rank_of side price + 1) rank → IsPriceOf (opposite side) bank (Some price) (orders_in linked) (Some (rank_of side rank))
  next-is rank next =
      let at : IsBestAt linked.orders.slots (is_own_from bank side (rank_of side price + 1)) side (levels bank rank).first = next-at rank next in
      subst (IsPriceOf (opposite side) bank (Some price) (orders_in linked)) (ap (λ (p : ℕ). Some p) (sym (price-is rank next)))
      (price-found linked (orders_in linked) bank side (Some price) (Some (levels bank rank).first) (levels bank rank).first at.order refl most at refl at.is)

  pub next-valid : (rank : ℕ) → IsNextRank (levels bank) (rank_of side price + 1) rank → IsPrice (rank_of side rank)
  next-valid rank next =
      let at : IsBestAt linked.orders.slots (is_own_from bank side (rank_of side price + 1)) side (levels bank rank).first = next-at rank next in
      let own = are.priced (levels bank rank).first at.order at.is in
      subst IsPrice (sym (price-is rank next)) (own.least, own.price)
