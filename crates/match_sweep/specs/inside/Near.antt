-- The levels near the best one of those that a walk reaches: 64 ranks from that one on are looked at together.
use Rattle.std.specs.Prelude.{ℕ, ◌≡◌, ◌+◌, ◌*◌, ◌≤◌, ◌<◌, nat_eq, List, [], length, IfSome, slice_index}
use Rattle.std.specs.Int.{bit_at}
use Rattle.std.specs.List.{Contains}
use Rattle.std.specs.Map.{lookup}
use Rattle.fx_amounts.specs.Quantity.{IsWeight}
use Rattle.fx_amounts.specs.Side.{opposite}
use Rattle.fx_amounts.specs.declared.side.Side.{Side}
use Rattle.fx_rules.specs.declared.orders.Level.{Level}
use Rattle.fx_rules.specs.Lists.{total}
use Rattle.price_levels.specs.Rungs.{AreMarks, lots_below}
use Rattle.global_book.specs.Book.{Book}
use Rattle.global_book.specs.Ladders.{TellsLots, book_level}
use Rattle.global_book.specs.Room.{ladders_of}
use Rattle.credit_lines.specs.Credit.{Credit, room_in}
use Rattle.match_sweep.specs.declared.reached.LevelWalk.{LevelWalk}
use Rattle.match_sweep.specs.Reaches.{IsReached}
use Rattle.match_sweep.specs.inside.Reaches.{AreReached, BeginsAt, IsLowest, IsMost}

-- a word marks the ranks at which a bank has orders, none of which is far from its window, and its ladder tells the lots there
pub record IsSeen (book : Book) (side : Side) (from bank word : ℕ) : Type 0 where
  pub marks : AreMarks (book_level book side bank) from word
  pub near : IfSome (lookup (nat_eq bank) (ladders_of book.room.ladders side)) (λ rungs. rungs.far ≡ [])
  pub tells : TellsLots book side

-- so do the words of the first so many of some banks, and one word marks what any of them marks
pub record AreSeen (book : Book) (side : Side) (from : ℕ) (banks words : List ℕ) (count all : ℕ) : Type 0 where
  pub each : (i : ℕ) → i < count → IsSeen book side from (slice_index banks i) (slice_index words i)
  pub any : (k : ℕ) → k < 64 → bit_at all k ≡ 1 → (i : ℕ) × (i < count) × (bit_at (slice_index words i) k ≡ 1)
  pub each_told : (i k : ℕ) → i < count → k < 64 → bit_at (slice_index words i) k ≡ 1 → bit_at all k ≡ 1

-- the line with each of these banks pays for all lots that it has up to a rank, and at each rank these are added up
pub record ArePaid (book : Book) (walk : LevelWalk) (from last : ℕ) (banks lots : List ℕ) : Type 0 where
  pub pays : (bank : ℕ) → Contains banks bank → lots_below (book_level book (opposite walk.taker) bank) from (last + 1) * walk.weight ≤ slice_index walk.lines bank
  pub sums : (k : ℕ) → k ≤ last → slice_index lots k ≡ total (λ bank. (book_level book (opposite walk.taker) bank (from + k)).lots) banks

-- these are the banks that a walk reaches, from the lowest of their ranks on
pub record IsNear (book : Book) (walk : LevelWalk) (banks : List ℕ) (from last all : ℕ) (lots : List ℕ) : Type 0 where
  pub weight : IsWeight walk.weight
  pub ranks : length walk.ranks ≡ 65
  pub reached : AreReached book walk banks
  pub lowest : IsLowest walk banks from
  pub words : List ℕ
  pub seen : AreSeen book (opposite walk.taker) from banks words (length banks) all
  pub paid : ArePaid book walk from last banks lots

-- levels are those that are shown of what a walk reaches, for whatever bank and by whatever lines it was opened
abbrev pub AreShown : Book → LevelWalk → ℕ → List Level → Type 0
AreShown book walk most levels =
    (credit : Credit) (bank : ℕ) → BeginsAt book credit walk.weight bank walk.taker walk → book.banks ≡ credit.banks → bank < credit.banks → IsMost (room_in credit bank) walk.weight most
    → IsReached book credit walk.weight bank walk.taker levels
