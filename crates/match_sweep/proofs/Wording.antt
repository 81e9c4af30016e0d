-- What the words of the banks' best orders tell a taker.
use Rattle.std.proofs.Common.{ℕ, ◌≡◌, ◌≢◌, ◌-◌, ◌/◌, ◌^◌, ◌<◌, true, if◌then◌else◌, eqb, List, Option, Some, None, inl, inr, refl, ap, sym, subst, arith, slice_index}
use Rattle.std.proofs.lemmas.Bool.{cases_Bool, eqb-true}
use Rattle.std.specs.List.{Contains, filter}
use Rattle.std.specs.Prelude.{IfSome}
use Rattle.fx_amounts.specs.Price.{IsPrice}
use Rattle.fx_amounts.specs.Side.{opposite}
use Rattle.fx_amounts.specs.declared.side.Side.{Side}
use Rattle.fx_amounts.specs.declared.side.Side.TheVariants.{Buy, Sell}
use Rattle.fx_rules.specs.declared.orders.Resting.{Resting}
use Rattle.fx_rules.specs.Lists.{Each}
use Rattle.fx_rules.specs.Sweep.{IsBest, is_preferred}
use Rattle.fx_rules.proofs.ListLemmas.{Each-among}
use Rattle.global_book.specs.Behind.{is_owned_behind}
use Rattle.global_book.specs.Book.{AreOwners, Book, IsPriceOf}
use Rattle.global_book.specs.Room.{rank_of}
use Rattle.global_book.specs.Words.{AreBestWords, word_price}
use Rattle.global_book.proofs.Sought.{opposite-opposite}
use Rattle.match_sweep.specs.inside.Reaches.{IsRank}

-- The words of a side that a taker looks at.

-- a bank's best order of the side across from the taker's
abbrev pub IsFirstOf : Side → ℕ → List Resting → Resting → Type 0
IsFirstOf taker bank orders order = IsBest taker (filter (is_owned_behind taker bank (2 ^ 64) None) orders) order

pub record TellBests (taker : Side) (orders : List Resting) (words : List ℕ) : Type 0 where
  pub prices : (bank : ℕ) → bank < 64 → IsPriceOf taker bank None orders (word_price (opposite taker) (slice_index words bank))
  pub owners : Each (λ order. order.bank < 64) orders
  pub ticks : Each (λ order. IsPrice order.price) orders
  pub apart : (bank other : ℕ) → bank < 64 → other < 64 → bank ≢ other → slice_index words bank ≡ slice_index words other → slice_index words bank ≡ 2 ^ 64 - 1
  pub bests : (bank other : ℕ) → bank < 64 → other < 64 → slice_index words bank < slice_index words other
      → (order head : Resting) → IsFirstOf taker bank orders order → IsFirstOf taker other orders head → is_preferred taker order head ≡ true

pub tell-bests : (taker side : Side) (orders : List Resting) (words : List ℕ) → side ≡ opposite taker → AreBestWords side orders words → TellBests taker orders words
tell-bests taker side orders words side_is are' =
    let are : AreBestWords (opposite taker) orders words = subst (λ (s : Side). AreBestWords s orders words) side_is are' in
    let back : opposite (opposite taker) ≡ taker = opposite-opposite taker in
    record {
      prices = λ bank below. subst (λ (s : Side). IsPriceOf s bank None orders (word_price (opposite taker) (slice_index words bank))) back (are.prices bank below);
      owners = are.owners;
      ticks = are.ticks;
      apart = are.apart;
      bests = subst (λ (s : Side). (bank other : ℕ) → bank < 64 → other < 64 → slice_index words bank < slice_index words other
          → (order head : Resting) → IsFirstOf s bank orders order → IsFirstOf s other orders head → is_preferred s order head ≡ true) back are.bests;
    }

-- a bank that has an order has a word
pub owner_few : (book : Book) (owners : List ℕ) (bank : ℕ) → AreOwners book owners → Each (λ (order : Resting). order.bank < 64) book.orders → Contains owners bank → bank < 64
owner_few book owners bank are few there =
    let owns = are.owns bank there in
    subst (λ (b : ℕ). b < 64) owns.2 (Each-among (λ (o : Resting). o.bank < 64) book.orders owns.0 few owns.1)

-- The rank in a word is that of its price.

valid_price : (taker : Side) (bank : ℕ) (orders : List Resting) (price : Option ℕ) → Each (λ (order : Resting). IsPrice order.price) orders → IsPriceOf taker bank None orders price → IfSome price IsPrice
valid_price taker bank orders None ticks is = tt
valid_price taker bank orders (Some price) ticks is = subst IsPrice is.price (Each-among (λ (order : Resting). IsPrice order.price) orders is.order ticks is.there)

some_rank : (taker : Side) (rank : ℕ) → IsPrice (rank_of (opposite taker) rank) → rank ≡ rank_of (opposite taker) (rank_of (opposite taker) rank)
some_rank Buy rank is = refl
some_rank Sell rank is = omega (arith, is.0)

pub word-rank : (taker : Side) (bank : ℕ) (orders : List Resting) (words : List ℕ) → TellBests taker orders words → bank < 64 → IsRank taker (word_price (opposite taker) (slice_index words bank)) (slice_index words bank / 2 ^ 34)
word-rank taker bank orders words tell below =
    let word : ℕ = slice_index words bank in
    let valid : IfSome (word_price (opposite taker) word) IsPrice = valid_price taker bank orders (word_price (opposite taker) word) tell.ticks (tell.prices bank below) in
    elim (cases_Bool (eqb word (2 ^ 64 - 1))) [
      | inl none ↦
          let is : word_price (opposite taker) word ≡ None = ap (λ b. if b then None else Some (rank_of (opposite taker) (word / 2 ^ 34))) none in
          subst (λ (p : Option ℕ). IsRank taker p (word / 2 ^ 34)) (sym is) (record { valid = tt; is = ap (λ w. w / 2 ^ 34) (eqb-true word (2 ^ 64 - 1) none) })
      | inr some ↦
          let is : word_price (opposite taker) word ≡ Some (rank_of (opposite taker) (word / 2 ^ 34)) = ap (λ b. if b then None else Some (rank_of (opposite taker) (word / 2 ^ 34))) some in
          let ticks : IsPrice (rank_of (opposite taker) (word / 2 ^ 34)) = subst (λ (p : Option ℕ). IfSome p IsPrice) is valid in
          subst (λ (p : Option ℕ). IsRank taker p (word / 2 ^ 34)) (sym is) (record { valid = ticks; is = some_rank taker (word / 2 ^ 34) ticks })
    ]
