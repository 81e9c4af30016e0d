-- What private functions and proofs alone say of it, beside `specs/Reaches.antt`.
use Rattle.std.specs.Prelude.{ℕ, zero, suc, ◌≡◌, ◌≢◌, ◌≤◌, ◌<◌, ◌+◌, ◌-◌, ◌*◌, ◌/◌, ◌^◌, ◌==◌, min, Bool, false, not, nat_eq, nat_le, nat_lt, if◌then◌else◌, List, [], ◌∷◌, length, replicate, Option, Some, None, IfSome, slice_index, slice_set, option_map}
use Rattle.std.specs.List.{Contains}
use Rattle.std.specs.List.Sorted.{IsStrictlyIncreasing}
use Rattle.fx_amounts.specs.Price.{IsPrice}
use Rattle.fx_amounts.specs.Side.{opposite}
use Rattle.fx_amounts.specs.declared.side.Side.{Side}
use Rattle.fx_amounts.specs.declared.side.Side.TheVariants.{Buy}
use Rattle.fx_rules.specs.declared.orders.Level.{Level}
use Rattle.fx_rules.specs.declared.orders.Resting.{Resting}
use Rattle.fx_rules.specs.Lists.{Each, total}
use Rattle.fx_rules.specs.Sweep.{is_better}
use Rattle.global_book.specs.Book.{Book, IsBook, IsPriceOf, level_lots}
use Rattle.global_book.specs.Room.{rank_of as rank_at}
use Rattle.credit_lines.specs.Credit.{Credit, line_in}
use Rattle.match_sweep.specs.declared.reached.LevelWalk.{LevelWalk}

-- the lots that a bank's total pays for, of which this is left, where it has one; else more than 65 lines can allow
abbrev pub IsMost : Option ℕ → ℕ → ℕ → Type 0
IsMost None weight most = 65 * 10 ^ 15 < most
IsMost (Some room) weight most = most ≡ room / weight

-- the first levels, up to so many lots in all
abbrev pub cut : ℕ → List Level → List Level
cut zero levels = []
cut (suc most) [] = []
cut (suc most) (level ∷ levels) = record { price = level.price; lots = min (suc most) level.lots } ∷ cut (suc most - level.lots) levels

-- an order behind all others of a price
abbrev pub at_end : ℕ → Resting
at_end price = record { bank = 0; number = 0; side = Buy; price = price; left = 0; arrival = 2 ^ 64 }

abbrev pub past_order : Option ℕ → Option Resting
past_order past = option_map at_end past

-- what is left of the line with a bank, once as many of its lots at a price are taken as the line pays for
abbrev pub line_behind : ℕ → Side → ℕ → List Resting → ℕ → ℕ → ℕ
line_behind weight taker price orders bank line = line - min (level_lots taker bank price orders) (line / weight) * weight

-- a price's rank for a taker of a side: the best price has the lowest, and none the last
abbrev pub rank_of : Side → Option ℕ → ℕ
rank_of taker None = 2 ^ 30 - 1
rank_of taker (Some price) = rank_at (opposite taker) price

-- the price of a rank that has one
abbrev pub price_for : Side → ℕ → ℕ
price_for taker rank = rank_at (opposite taker) rank

-- the price of a rank, where it has one
abbrev pub price_at : Side → ℕ → Option ℕ
price_at taker rank = if nat_eq rank (2 ^ 30 - 1) then None else Some (rank_at (opposite taker) rank)

pub record IsRank (taker : Side) (price : Option ℕ) (rank : ℕ) : Type 0 where
  pub valid : IfSome price IsPrice
  pub is : rank ≡ rank_of taker price

-- the rank is that of its price
abbrev pub HasRank : Side → ℕ → Type 0
HasRank taker rank = IsRank taker (price_at taker rank) rank

-- the price of a bank's rank, and that of one with which the line pays for a lot
abbrev pub price_in : LevelWalk → ℕ → Option ℕ
price_in walk bank = price_at walk.taker (slice_index walk.ranks bank)

abbrev pub price_of : LevelWalk → ℕ → Option ℕ
price_of walk bank = if nat_le walk.weight (slice_index walk.lines bank) then price_in walk bank else None

-- of each bank with which a line pays for a lot, the best price behind this one is that of its rank
abbrev pub HaveLevels : Book → Option ℕ → LevelWalk → Type 0
HaveLevels book past walk =
    (bank : ℕ) → bank < 65 → 1 ≤ slice_index walk.lines bank / walk.weight → IsPriceOf walk.taker bank past book.orders (price_in walk bank)

-- the better of two prices, where there are any
abbrev pub better_price : Side → Option ℕ → Option ℕ → Option ℕ
better_price taker None other = other
better_price taker (Some price) None = Some price
better_price taker (Some price) (Some other) = if is_better taker other price then Some other else Some price

-- each bank's rank is that of the price that it is asked at
abbrev pub AreRanked : LevelWalk → Type 0
AreRanked walk = (bank : ℕ) → bank < 65 → IsRank walk.taker (price_of walk bank) (slice_index walk.ranks bank)

-- a bank's line and rank are written down, where the line pays for a lot, and nothing else changes
pub record Puts (old new : LevelWalk) (bank line rank : ℕ) : Type 0 where
  pub is : new ≡ record old {
    lines = slice_set old.lines bank line;
    ranks = slice_set old.ranks bank (if nat_lt line old.weight then 2 ^ 30 - 1 else rank);
  }

-- the best price of so many banks with which the line pays for a lot, or there is none
abbrev pub IsBestPrice : LevelWalk → ℕ → Option ℕ → Type 0
IsBestPrice walk banks None = (bank : ℕ) → bank < banks → price_of walk bank ≡ None
IsBestPrice walk banks (Some price) =
    ((bank : ℕ) × (bank < banks) × (price_of walk bank ≡ Some price))
    × ((bank other : ℕ) → bank < banks → price_of walk bank ≡ Some other → is_better walk.taker other price ≡ false)

-- the same of these banks
abbrev pub IsBestAmong : LevelWalk → List ℕ → Option ℕ → Type 0
IsBestAmong walk banks None = (bank : ℕ) → Contains banks bank → price_of walk bank ≡ None
IsBestAmong walk banks (Some price) =
    ((bank : ℕ) × Contains banks bank × (price_of walk bank ≡ Some price))
    × ((bank other : ℕ) → Contains banks bank → price_of walk bank ≡ Some other → is_better walk.taker other price ≡ false)

-- the lowest rank of these banks is that of their best price
pub record IsLowest (walk : LevelWalk) (banks : List ℕ) (lowest : ℕ) : Type 0 where
  pub price : Option ℕ
  pub rank : IsRank walk.taker price lowest
  pub best : IsBestAmong walk banks price

-- something can be taken of a bank
abbrev pub is_asked : LevelWalk → ℕ → Bool
is_asked walk bank = not (slice_index walk.ranks bank == 2 ^ 30 - 1)

-- these banks, each once, are all of which something can be taken, and no more than the book has
pub record AreReached (book : Book) (walk : LevelWalk) (banks : List ℕ) : Type 0 where
  pub rising : IsStrictlyIncreasing banks
  pub few : length banks ≤ book.banks
  pub others : (bank : ℕ) → bank < 65 → (Contains banks bank → ⊥) → price_of walk bank ≡ None

-- what is left of a bank once its lots at a price are taken
pub record IsTakenOf (book : Book) (old new : LevelWalk) (price bank : ℕ) : Type 0 where
  pub line : slice_index new.lines bank ≡ line_behind old.weight old.taker price book.orders bank (slice_index old.lines bank)
  pub head : 1 ≤ slice_index new.lines bank / old.weight → IsPriceOf old.taker bank (Some price) book.orders (price_in new bank)

-- a bank is as it was
pub record IsLeft (old new : LevelWalk) (bank : ℕ) : Type 0 where
  pub line : slice_index new.lines bank ≡ slice_index old.lines bank
  pub rank : slice_index new.ranks bank ≡ slice_index old.ranks bank

-- what is left of a bank whose lots are taken where this is its price, and that is as it was where it is not
pub record IsTakenAt (book : Book) (old new : LevelWalk) (price bank : ℕ) : Type 0 where
  pub asked : price_of old bank ≡ Some price → IsTakenOf book old new price bank
  pub other : price_of old bank ≢ Some price → IsLeft old new bank

-- nothing but lines and ranks changed, and the lots are what the lines paid for
pub record IsPaid (old new : LevelWalk) (lots : ℕ) : Type 0 where
  pub same : new ≡ record old { lines = new.lines; ranks = new.ranks }
  pub long : length new.lines ≡ length old.lines
  pub paid : lots * old.weight + total (λ line. line) new.lines ≡ total (λ line. line) old.lines

-- the lots of one bank are taken
pub record TakesOf (book : Book) (old new : LevelWalk) (bank price lots : ℕ) : Type 0 where
  pub taken : IsTakenAt book old new price bank
  pub others : (other : ℕ) → other ≢ bank → IsLeft old new other
  pub sum : IsPaid old new lots

-- the lots of these banks
pub record AreTakenOf (book : Book) (old new : LevelWalk) (price : ℕ) (banks : List ℕ) (lots : ℕ) : Type 0 where
  pub taken : (bank : ℕ) → Contains banks bank → IsTakenAt book old new price bank
  pub left : (bank : ℕ) → (Contains banks bank → ⊥) → IsLeft old new bank
  pub sum : IsPaid old new lots

-- the lots of all banks
pub record AreTaken (book : Book) (old new : LevelWalk) (price lots : ℕ) : Type 0 where
  pub taken : (bank : ℕ) → bank < 65 → IsTakenOf book old new price bank
  pub sum : IsPaid old new lots

-- a level is taken, at the best price; or there is none
abbrev pub TakesLevel : Book → LevelWalk → LevelWalk → Option Level → Type 0
TakesLevel book old new None = (new ≡ old) × IsBestPrice old 65 None
TakesLevel book old new (Some level) = IsBestPrice old 65 (Some level.price) × AreTaken book old new level.price level.lots

-- a walk that has found no line and no price
pub record IsBareLevel (walk : LevelWalk) : Type 0 where
  pub lines : walk.lines ≡ replicate 65 0
  pub ranks : walk.ranks ≡ replicate 65 (2 ^ 30 - 1)

-- nothing but lines and ranks changed
pub record KeepsTaker (old new : LevelWalk) : Type 0 where
  pub same : new ≡ record old { lines = new.lines; ranks = new.ranks }
  pub long : length new.lines ≡ length old.lines

-- the line of a bank with another is found, and where it pays for a lot this is the other's rank
pub record OpensLevel (credit : Credit) (old new : LevelWalk) (bank other rank : ℕ) : Type 0 where
  pub keeps : KeepsTaker old new
  pub line : slice_index new.lines other ≡ line_in credit bank other
  pub most : line_in credit bank other ≤ 10 ^ 15
  pub has : 1 ≤ slice_index new.lines other / old.weight → slice_index new.ranks other ≡ rank
  pub others : (third : ℕ) → third ≢ other → IsLeft old new third

-- a bank's first price is that of its rank, where the line with it pays for a lot
abbrev pub HasFirst : Book → ℕ → Side → LevelWalk → ℕ → Type 0
HasFirst book weight taker walk bank = 1 ≤ slice_index walk.lines bank / weight → IsPriceOf taker bank None book.orders (price_in walk bank)

-- so the lines and the ranks are with each of these banks, and there is no line with the bank's own
pub record HaveOpened (book : Book) (credit : Credit) (banks : List ℕ) (bank : ℕ) (old new : LevelWalk) : Type 0 where
  pub keeps : KeepsTaker old new
  pub most : (other : ℕ) → slice_index new.lines other ≤ 10 ^ 15
  pub few : (other : ℕ) → Contains banks other → other ≢ bank → other < 65
  pub lines : (other : ℕ) → Contains banks other → other ≢ bank → slice_index new.lines other ≡ line_in credit bank other
  pub own : slice_index new.lines bank ≡ 0
  pub heads : (other : ℕ) → HasFirst book old.weight old.taker new other

-- a walk before its first level, by the lines of a bank
pub record BeginsAt (book : Book) (credit : Credit) (weight bank : ℕ) (taker : Side) (walk : LevelWalk) : Type 0 where
  pub valid : IsBook book
  pub few : Each (λ order. order.bank < 65) book.orders
  pub long : length walk.lines ≡ 65
  pub heads : HaveLevels book None walk
  pub is : walk ≡ record walk { weight = weight; taker = taker }
  pub own : slice_index walk.lines bank ≡ 0
  pub line : Each (λ order. order.bank ≢ bank → slice_index walk.lines order.bank ≡ line_in credit bank order.bank) book.orders
  pub most : total (λ line. line) walk.lines ≤ 65 * 10 ^ 15
