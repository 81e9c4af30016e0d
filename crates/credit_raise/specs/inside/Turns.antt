-- What private functions and proofs alone say of it, beside `specs/Turns.antt`.
use Rattle.std.specs.Prelude.{ℕ, List, []}
use Rattle.fx_rules.specs.declared.orders.Resting.{Resting}
use Rattle.global_book.specs.Book.{Book}

-- the book of a pair for so many banks in which these orders rest, with no room for any other
abbrev pub bare : ℕ → ℕ → List Resting → Book
bare pair banks orders = record { pair = pair; banks = banks; orders = orders; room = record { places = []; ladders = record { bids = []; asks = [] } } }
