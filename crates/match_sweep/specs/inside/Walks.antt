-- A sweep as it goes, from one best order to the next, over the heads of a book's side. All of this is for this crate's own functions,
-- which plan. A walk keeps the heads of `n` banks, in `g` groups.
use Rattle.std.specs.Prelude.{ℕ, ◌≡◌, ◌≢◌, ◌≤◌, ◌<◌, ◌+◌, ◌-◌, ◌*◌, ◌/◌, ◌^◌, true, false, List, [], ◌∷◌, ◌⊎◌, length, Option, Some, None, IfSome, IsSomeAnd, slice_index, slice_set}
use Rattle.fx_amounts.specs.Side.{opposite}
use Rattle.fx_amounts.specs.declared.side.Side.{Side}
use Rattle.fx_amounts.specs.Quantity.{IsWeight}
use Rattle.fx_rules.specs.declared.orders.Fill.{Fill}
use Rattle.fx_rules.specs.declared.orders.Resting.{Resting}
use Rattle.fx_rules.specs.Lists.{Among, Each, EachPair}
use Rattle.fx_rules.specs.Sound.{ArrivesBefore}
use Rattle.fx_rules.specs.Sweep.{Taker, IsBest, is_open, is_opposite, is_preferred, amount, fill_with, less}
use Rattle.fx_rules.specs.Plan.{Planned, is_behind, open_behind}
use Rattle.global_book.specs.Book.{Book, IsHeld}
use Rattle.global_book.specs.Heads.{Heads, PassesHead, head_in, with_head}
use Rattle.credit_lines.specs.Credit.{Credit, line_in}
use Rattle.match_sweep.specs.declared.walk.Walk.{Walk}

module _ {n g : ℕ} where
  -- what a walk's fills leave of the line with a bank
  abbrev pub left_with : Credit → Walk n g → ℕ → ℕ
  left_with credit walk bank = line_in credit walk.order.bank bank - slice_index walk.used bank

  -- the lots that this pays for
  abbrev pub reach_of : Credit → Walk n g → ℕ → ℕ
  reach_of credit walk bank = left_with credit walk bank / walk.weight

  -- the orders that are still open to a walk, behind the one that it took last, where it took one
  abbrev pub open_from : Credit → Walk n g → Option Resting → List Resting
  open_from credit walk last = open_behind (reach_of credit walk) walk.order last walk.heads.orders

  -- the fills that a walk still makes, and what they leave of its order
  abbrev pub FromHere : Credit → Walk n g → Option Resting → List Fill → ℕ → Type 0
  FromHere credit walk last fills left = Planned walk.weight (left_with credit walk) walk.heads.orders walk.order last fills left

-- a bank's head is an order of the bank, on the other side than a taker's
pub record IsHeadOf (taker : Side) (orders : List Resting) (bank : ℕ) (head : Resting) : Type 0 where
  pub there : Among head orders
  pub owner : head.bank ≡ bank
  pub opposite : is_opposite taker head.side ≡ true

module _ {n g : ℕ} where
  -- The walk goes over the side of a book that is across from its order's, and by the lines of as many banks, of which it keeps them all. What
  -- it has used of a line is at most the line.
  pub record IsWalk (credit : Credit) (walk : Walk n g) : Type 0 where
    pub rising : EachPair ArrivesBefore walk.heads.orders
    pub held : Each (IsHeld credit.banks) walk.heads.orders
    pub bank : walk.order.bank < credit.banks
    pub banks : credit.banks ≤ n
    pub weight : IsWeight walk.weight
    pub side : walk.heads.side ≡ opposite walk.order.side
    pub limit : walk.heads.limit ≡ walk.order.price
    pub count : length walk.heads.next ≡ n
    pub full : length walk.used ≡ n
    pub used : (bank : ℕ) → slice_index walk.used bank ≤ line_in credit walk.order.bank bank
    pub heads : (bank : ℕ) → IfSome (head_in walk.heads bank) (IsHeadOf walk.order.side walk.heads.orders bank)

  -- The walk has come behind the order that it took last, where it took one: so has each head, and none of the orders that are still open
  -- stands before its bank's head.
  pub record HasCome (credit : Credit) (walk : Walk n g) (last : Option Resting) : Type 0 where
    pub behind : (bank : ℕ) → IfSome (head_in walk.heads bank) (λ head. is_behind walk.order.side last head ≡ true)
    pub all : (order : Resting) → Among order walk.heads.orders → is_open walk.order (reach_of credit walk order.bank) order ≡ true → is_behind walk.order.side last order ≡ true
        → IsSomeAnd (head_in walk.heads order.bank) (λ head. is_preferred walk.order.side order head ≡ false)

  -- an order may be taken: it is the best head, of another bank than the walk's own, and what is left of the line pays for a lot
  pub record MayTake (credit : Credit) (walk : Walk n g) (maker : Resting) : Type 0 where
    pub is : head_in walk.heads maker.bank ≡ Some maker
    pub other : maker.bank ≢ walk.order.bank
    pub within : maker.bank < credit.banks
    pub line : walk.weight ≤ left_with credit walk maker.bank
    pub first : (bank : ℕ) → IfSome (head_in walk.heads bank) (λ head. is_preferred walk.order.side head maker ≡ false)

  -- such an order is found, with what is left of the line
  pub record IsFound (credit : Credit) (walk : Walk n g) (found : Resting × ℕ) : Type 0 where
    pub may : MayTake credit walk found.0
    pub line : found.1 ≡ left_with credit walk found.0.bank
    pub most : line_in credit walk.order.bank found.0.bank ≤ 10 ^ 15

  -- the best of the orders that are still open, to which the walk has come; or none is open
  abbrev pub ComesTo : Credit → Walk n g → Option Resting → Option (Resting × ℕ) → Type 0
  ComesTo credit walk last None = open_from credit walk last ≡ []
  ComesTo credit walk last (Some found) = HasCome credit walk last × IsBest walk.order.side (open_from credit walk last) found.0

  -- an order is taken, where so much is left of the line with its bank: of its lots as many as are wanted and as that pays for
  pub record Takes (line : ℕ) (old new : Walk n g) (maker : Resting) (fill : Fill) : Type 0 where
    pub is : fill ≡ fill_with old.order maker (amount old.order maker (line / old.weight))
    pub some : 1 ≤ fill.lots
    pub now : new ≡ record old {
      order = less old.order fill.lots;
      used = slice_set old.used maker.bank (slice_index old.used maker.bank + fill.lots * old.weight);
    }

  -- A fill leads a walk on: what it makes from there it makes behind the fill from here, and its order wants less.
  pub record LeadsOn (credit : Credit) (old new : Walk n g) (last : Option Resting) (fill : Fill) : Type 0 where
    pub maker : Resting
    pub has_come : 1 ≤ new.order.left → HasCome credit new (Some maker)
    pub goes_on : (more : List Fill) (left : ℕ) → FromHere credit new (Some maker) more left → FromHere credit old last (fill ∷ more) left
    pub wants : new.order.left < old.order.left

  -- a step of a walk: a fill leads it on, or it is at its end
  abbrev pub StepsOn : Credit → Walk n g → Walk n g → Option Resting → Option Fill → Type 0
  StepsOn credit old new last None = (new.order ≡ old.order) × FromHere credit old last [] old.order.left
  StepsOn credit old new last (Some fill) = LeadsOn credit old new last fill

  -- a walk is over the same orders as another one
  pub record IsAlong (old new : Walk n g) : Type 0 where
    pub orders : new.heads.orders ≡ old.heads.orders
    pub arrival : new.order.arrival ≡ old.order.arrival

-- The head of a bank is passed, with which so much is left of a line; where that pays for no lot, all orders of the bank are.
abbrev pub GoesBehind : ℕ → ℕ → Heads → Heads → ℕ → Type 0
GoesBehind weight line old new bank = PassesHead old new bank ⊎ ((line < weight) × (new ≡ with_head old bank None))

-- how many orders a search looked at that came to this one
abbrev pub looks_for : Option (Resting × ℕ) → ℕ
looks_for None = 0
looks_for (Some found) = 1

-- how many looks a fill takes
abbrev pub looks_of : Option Fill → ℕ
looks_of None = 0
looks_of (Some fill) = 2

-- Two tables of lines tell the same of an order: they have one line with its bank, or by neither is it open to a taker.
abbrev pub AgreeOn : ℕ → Taker → (ℕ → ℕ) → (ℕ → ℕ) → Resting → Type 0
AgreeOn weight t lines others order =
    (lines order.bank ≡ others order.bank)
    ⊎ ((is_open t (lines order.bank / weight) order ≡ false) × (is_open t (others order.bank / weight) order ≡ false))

-- the same of all orders of a book
abbrev pub AgreeInBook : ℕ → Taker → (ℕ → ℕ) → (ℕ → ℕ) → List Resting → Type 0
AgreeInBook weight t lines others orders = (order : Resting) → Among order orders → AgreeOn weight t lines others order

-- the sweep of an order as the lines of its bank allow it, whatever the bank's total leaves
abbrev pub IsByLines : Book → Credit → ℕ → Taker → List Fill → ℕ → Type 0
IsByLines book credit weight t fills left = Planned weight (line_in credit t.bank) book.orders t None fills left
