-- What a bank reaches of a book's side, price by price.
use Rattle.std.specs.Prelude.{ℕ, ◌≡◌, ◌<◌, ◌*◌, ◌^◌, true, List}
use Rattle.fx_amounts.specs.Price.{crosses}
use Rattle.fx_amounts.specs.declared.side.Side.{Side}
use Rattle.fx_rules.specs.declared.orders.Level.{Level}
use Rattle.fx_rules.specs.Lists.{Each}
use Rattle.fx_rules.specs.Sweep.{Taker}
use Rattle.global_book.specs.Book.{Book}
use Rattle.credit_lines.specs.Credit.{Credit}
use Rattle.match_sweep.specs.Sweeps.{IsLevelled}

-- An order takes all that its lines allow: it takes each price of the book, came after all of its orders, and wants more lots
-- than 65 lines can allow.
pub record IsUnlimited (book : Book) (order : Taker) : Type 0 where
  pub crosses : Each (λ other. crosses order.side order.price other.price ≡ true) book.orders
  pub came : Each (λ other. other.arrival < order.arrival) book.orders
  pub wants : 65 * 10 ^ 15 < order.left

-- levels are those of each such order of a bank and a side in the book's pair
abbrev pub IsReached : Book → Credit → ℕ → ℕ → Side → List Level → Type 0
IsReached book credit weight bank side levels =
    (order : Taker) → order.bank ≡ bank → order.pair ≡ book.pair → order.side ≡ side → IsUnlimited book order →
    IsLevelled book credit weight order levels
