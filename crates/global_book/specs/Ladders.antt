-- What the ladders of a pair's book tell of its orders.
use Rattle.std.specs.Prelude.{ℕ, ◌≡◌, ◌≢◌}
use Rattle.fx_amounts.specs.Price.{IsPrice}
use Rattle.fx_amounts.specs.Side.{opposite}
use Rattle.fx_amounts.specs.declared.side.Side.{Side}
use Rattle.fx_rules.specs.Lists.{Each}
use Rattle.price_levels.specs.declared.level.Level.{Level}
use Rattle.access_index.specs.Ranked.{bank_level}
pub use Rattle.access_index.specs.Ranked.{level_in}
use Rattle.global_book.specs.Book.{Book, level_lots}
use Rattle.global_book.specs.Room.{ladders_of, rank_of}

-- the level of a bank and a side at a rank
abbrev pub book_level : Book → Side → ℕ → ℕ → Level
book_level book side bank rank = bank_level (ladders_of book.room.ladders side) bank rank

-- At the rank of a price a level of a side has the lots that the bank's orders have left there, and some where the bank has an order. All prices are in range.
pub record TellsLots (book : Book) (side : Side) : Type 0 where
  pub lots : (bank rank : ℕ) → IsPrice (rank_of side rank) → (book_level book side bank rank).lots ≡ level_lots (opposite side) bank (rank_of side rank) book.orders
  pub some : Each (λ order. order.side ≡ side → (book_level book side order.bank (rank_of side order.price)).lots ≢ 0) book.orders
  pub ticks : Each (λ order. IsPrice order.price) book.orders
