-- The level of the price of a rank, and the price of the rank behind it.
use Rattle.std.proofs.Common.{ℕ, ◌≡◌, ◌+◌, ◌<◌, Option, None, Some, option_map, ap, refl, sym, subst, ◌∙◌}
use Rattle.std.specs.Option.{IfSome}
use Rattle.fx_amounts.specs.Price.{IsPrice}
use Rattle.fx_amounts.specs.Side.{opposite}
use Rattle.fx_amounts.specs.declared.side.Side.{Side}
use Rattle.order_store.specs.Linked.{AreListed}
use Rattle.price_levels.specs.Rungs.{IsNextRank}
use Rattle.price_levels.specs.declared.level.Level.{Level}
use Rattle.access_index.specs.Ranked.{bank_level}
use Rattle.global_book.specs.Book.{Book, IsPriceOf, level_lots}
use Rattle.global_book.specs.Room.{ladders_of, rank_of}
use Rattle.global_book.specs.inside.Linked.{AreLinked, Linked, orders_in}
use Rattle.global_book.proofs.Booking.{kept-book}
use Rattle.global_book.proofs.Stepping.{lots-are, next-is, next-none, next-valid, rank-low}
use Rattle.global_book.proofs.Telling.{rank-back}
use Rattle.global_book.proofs.book.PairBook.level_and_next.Goals as goal

-- the first rank behind that of a price tells the next price
behind : (linked : Linked) (bank : ℕ) (side : Side) (rank : ℕ) (next : Option ℕ) → AreListed linked.orders → AreLinked linked.orders.slots linked.ladders → IsPrice (rank_of side rank)
    → IfSome next (IsNextRank (bank_level (ladders_of linked.ladders side) bank) (rank + 1)) → (next ≡ None → (other : ℕ) → rank < other → (bank_level (ladders_of linked.ladders side) bank other).lots ≡ 0)
    → IsPriceOf (opposite side) bank (Some (rank_of side rank)) (orders_in linked) (option_map (rank_of side) next) × IfSome next (λ (r : ℕ). IsPrice (rank_of side r))
behind linked bank side rank None listed are valid found none = (
  next-none linked listed are bank side (rank_of side rank) valid.1
      (subst (λ (r : ℕ). (other : ℕ) → r < other → (bank_level (ladders_of linked.ladders side) bank other).lots ≡ 0) (sym (rank-back side rank (rank-low side rank valid))) (none refl)),
  tt,
)
behind linked bank side rank (Some next) listed are valid found none =
    let it : IsNextRank (bank_level (ladders_of linked.ladders side) bank) (rank_of side (rank_of side rank) + 1) next =
    subst (λ (r : ℕ). IsNextRank (bank_level (ladders_of linked.ladders side) bank) (r + 1) next) (sym (rank-back side rank (rank-low side rank valid))) found in (
      next-is linked listed are bank side (rank_of side rank) valid.1 next it,
      next-valid linked listed are bank side (rank_of side rank) valid.1 next it,
    )

pub level_and_next-next-requires : goal.level_and_next-next-requires
level_and_next-next-requires g c = record { rank = rank-low c.args.side c.args.rank c.requires.price }

pub returns : goal.returns
returns g c =
    let linked : Linked = c.self.inside.linked in
    let told = c.level_and_next-next.ensures in
    let rank : ℕ = c.args.rank in
    let next = behind linked c.args.bank c.args.side rank c.level_and_next-next.result.1 told.valid told.linked c.requires.price told.found told.none in
    record {
      lots = ap (λ (l : Level). l.lots) told.level
          ∙ ap (λ r. (bank_level (ladders_of linked.ladders c.args.side) c.args.bank r).lots) (sym (rank-back c.args.side rank (rank-low c.args.side rank c.requires.price)))
          ∙ lots-are linked told.valid told.linked c.args.bank c.args.side (rank_of c.args.side rank) c.requires.price.1
          ∙ ap (λ (b : Book). level_lots (opposite c.args.side) c.args.bank (rank_of c.args.side rank) b.orders) c.self.view_is;
      next = subst (λ (b : Book). IsPriceOf (opposite c.args.side) c.args.bank (Some (rank_of c.args.side rank)) b.orders (option_map (rank_of c.args.side) c.level_and_next-next.result.1)) c.self.view_is next.0;
      valid_next = next.1;
      step = c.tick.ensures;
      valid = kept-book c.self.inside.banks linked c.args.self.now c.self.invariant (ap (λ (b : Book). b.orders) c.self.view_is) (ap (λ (b : Book). b.banks) c.self.view_is);
    }
