-- The ranks of prices, by which a walk keeps them: the lowest is that of the best price.
use Rattle.std.proofs.Common.{ℕ, ◌≡◌, ◌++◌, ◌-◌, ◌≤◌, ◌<◌, ◌^◌, ◌↔◌, IfSome, IsSome, option_map, unwrap_or, min, true, false, if◌then◌else◌, List, [], ◌∷◌, inl, inr, refl, ap, sym, subst, ◌∙◌, arith, Option, Some, None, slice_index, take}
use Rattle.std.proofs.lemmas.Bool.{cases_Bool, lt-leb, ltb-true, ltb-false}
use Rattle.std.proofs.lemmas.List.{get_or-replicate}
use Rattle.std.specs.List.{Contains}
use Rattle.fx_amounts.specs.Price.{IsPrice}
use Rattle.fx_amounts.specs.Side.{opposite}
use Rattle.fx_amounts.specs.declared.side.Side.{Side}
use Rattle.fx_amounts.specs.declared.side.Side.TheVariants.{Buy, Sell}
use Rattle.fx_rules.specs.Sweep.{is_better}
use Rattle.global_book.specs.Book.{Book, IsPriceOf, level_lots}
use Rattle.global_book.specs.Room.{rank_of as rank_at}
use Rattle.global_book.proofs.Sought.{opposite-opposite}
use Rattle.match_sweep.specs.declared.reached.LevelWalk.{LevelWalk}
use Rattle.match_sweep.specs.inside.Reaches.{AreRanked, IsBareLevel, IsBestAmong, IsLeft, IsLowest, IsPaid, IsRank, better_price, price_for, price_in, price_of, rank_of}
use Rattle.match_sweep.proofs.Reaching.{asked_left, better-on, taker_same}
use Rattle.match_sweep.proofs.Tables.{replicate-at}

-- Ranks of two prices.

rank-most : (taker : Side) (price : Option ℕ) (rank : ℕ) → IsRank taker price rank → rank ≤ 2 ^ 30 - 1
rank-most taker None rank is = omega (arith, is.is)
rank-most Buy (Some price) rank is = omega (arith, is.is, is.valid.1)
rank-most Sell (Some price) rank is = omega (arith, is.is)

-- a better price has a lower rank, and any other none that is lower
better-below : (taker : Side) (p q x y : ℕ) → IsRank taker (Some p) x → IsRank taker (Some q) y → is_better taker q p ≡ true → y ≤ x
better-below Buy p q x y first second better = omega (arith, first.is, second.is, ltb-true q p better)
better-below Sell p q x y first second better = omega (arith, first.is, second.is, ltb-true p q better)

other-above : (taker : Side) (p q x y : ℕ) → IsRank taker (Some p) x → IsRank taker (Some q) y → is_better taker q p ≡ false → x ≤ y
other-above Buy p q x y first second other = omega (arith, first.is, second.is, ltb-false q p other)
other-above Sell p q x y first second other = omega (arith, first.is, second.is, ltb-false p q other)

-- the lower of two ranks is that of the better price
lower : (taker : Side) (a b : Option ℕ) (x y : ℕ) → IsRank taker a x → IsRank taker b y → IsRank taker (better_price taker a b) (min x y)
lower taker None b x y first second =
    record { valid = second.valid; is = let it : min x y ≡ y = omega (arith, first.is, rank-most taker b y second) in it ∙ second.is }
lower taker (Some p) None x y first second =
    record { valid = first.valid; is = let it : min x y ≡ x = omega (arith, second.is, rank-most taker (Some p) x first) in it ∙ first.is }
lower taker (Some p) (Some q) x y first second =
    elim (cases_Bool (is_better taker q p)) [
      | inl better ↦
          subst (λ (o : Option ℕ). IsRank taker o (min x y)) (sym (ap (λ b. if b then Some q else Some p) better))
          (record { valid = second.valid; is = let it : min x y ≡ y = omega (arith, better-below taker p q x y first second better) in it ∙ second.is })
      | inr other ↦
          subst (λ (o : Option ℕ). IsRank taker o (min x y)) (sym (ap (λ b. if b then Some q else Some p) other))
          (record { valid = first.valid; is = let it : min x y ≡ x = omega (arith, other-above taker p q x y first second other) in it ∙ first.is })
    ]

-- a rank is that of one price alone
pub same_rank : (taker : Side) (found : Option ℕ) (price rank other : ℕ) → IsRank taker found rank → IsRank taker (Some price) other → rank ≡ other → found ≡ Some price
same_rank Buy None price rank other is there same = absurd (omega (arith, is.is, there.is, there.valid.1, same))
same_rank Sell None price rank other is there same = absurd (omega (arith, is.is, there.is, there.valid.0, there.valid.1, same))
same_rank Buy (Some found) price rank other is there same = ap Some (let it : found ≡ price = omega (arith, is.is, there.is, same) in it)
same_rank Sell (Some found) price rank other is there same =
    ap Some (let it : found ≡ price = omega (arith, is.is, there.is, is.valid.1, there.valid.1, same) in it)

-- and a price has one rank
pub one_rank : (taker : Side) (found : Option ℕ) (price rank other : ℕ) → IsRank taker found rank → IsRank taker (Some price) other → found ≡ Some price → rank ≡ other
one_rank taker found price rank other is there same = is.is ∙ ap (rank_of taker) same ∙ sym there.is

-- The ranks of a walk.

-- before any bank is opened
pub bare-ranked : (walk : LevelWalk) → 1 ≤ walk.weight → IsBareLevel walk → AreRanked walk
bare-ranked walk some bare = λ bank below.
    let line : slice_index walk.lines bank ≡ 0 = ap (λ (xs : List ℕ). slice_index xs bank) bare.lines ∙ replicate-at {X = ℕ} 0 65 bank in
    let none : price_of walk bank ≡ None
    = ap (λ b. if b then price_in walk bank else None) (lt-leb walk.weight (slice_index walk.lines bank) (omega (arith, line, some))) in
    subst (λ (p : Option ℕ). IsRank walk.taker p (slice_index walk.ranks bank)) (sym none)
    (record { valid = tt; is = ap (λ (xs : List ℕ). slice_index xs bank) bare.ranks ∙ get_or-replicate 65 bank (2 ^ 30 - 1) 0 (omega arith) })

-- The rank that a search of a book answers.

-- the rank of the price of a rank
rank-twice : (side : Side) (rank : ℕ) → rank ≤ 10 ^ 9 → rank_at side (rank_at side rank) ≡ rank
rank-twice Buy rank most = omega arith
rank-twice Sell rank most = refl

pub found-rank : (taker : Side) (next : Option ℕ) → IfSome next (λ (rank : ℕ). IsPrice (rank_at (opposite taker) rank)) → IsRank taker (option_map (rank_at (opposite taker)) next) (unwrap_or next (2 ^ 30 - 1))
found-rank taker None valid = record { valid = tt; is = refl }
found-rank Buy (Some rank) valid = record { valid = valid; is = refl }
found-rank Sell (Some rank) valid = record { valid = valid; is = let it : rank ≡ 10 ^ 9 - (10 ^ 9 - rank) = omega (arith, valid.0) in it }

-- what it tells of a side it tells the side's taker
pub told-at : (book : Book) (taker side : Side) (bank rank lots : ℕ) (next : Option ℕ) → side ≡ opposite taker → lots ≡ level_lots (opposite side) bank (rank_at side rank) book.orders
    → IsPriceOf (opposite side) bank (Some (rank_at side rank)) book.orders (option_map (rank_at side) next)
    → (lots ≡ level_lots taker bank (price_for taker rank) book.orders) × IsPriceOf taker bank (Some (price_for taker rank)) book.orders (option_map (rank_at (opposite taker)) next)
told-at book taker side bank rank lots next side_is lots_are next_is =
    let turned : opposite side ≡ taker = ap opposite side_is ∙ opposite-opposite taker in (
      lots_are ∙ ap (λ (s : Side). level_lots s bank (rank_at side rank) book.orders) turned ∙ ap (λ (s : Side). level_lots taker bank (rank_at s rank) book.orders) side_is,
      subst (λ (s : Side). IsPriceOf taker bank (Some (rank_at s rank)) book.orders (option_map (rank_at s) next)) side_is
          (subst (λ (s : Side). IsPriceOf s bank (Some (rank_at side rank)) book.orders (option_map (rank_at side) next)) turned next_is),
    )

-- a rank that has a price is that of it
pub price-rank : (taker : Side) (rank : ℕ) → IsPrice (price_for taker rank) → IsRank taker (Some (price_for taker rank)) rank
price-rank Buy rank valid = record { valid = valid; is = refl }
price-rank Sell rank valid = record { valid = valid; is = let it : rank ≡ 10 ^ 9 - (10 ^ 9 - rank) = omega (arith, valid.0) in it }

-- and the price that is made of a rank is the one whose rank it is
none_priced : (taker : Side) (rank : ℕ) → IsRank taker None rank → IsPrice (price_for taker rank) → ⊥
none_priced Buy rank is valid = omega (arith, is.is, valid.1)
none_priced Sell rank is valid = omega (arith, is.is, valid.0)

price_back : (taker : Side) (price rank : ℕ) → IsRank taker (Some price) rank → price_for taker rank ≡ price
price_back taker price rank is = ap (price_for taker) is.is ∙ rank-twice (opposite taker) price is.valid.1

made-price : (taker : Side) (price made : Option ℕ) (rank : ℕ) → (IsSome made) ↔ (IsPrice (price_for taker rank)) → IfSome made (λ (p : ℕ). p ≡ price_for taker rank) → IsRank taker price rank → made ≡ price
made-price taker None None rank valid value is = refl
made-price taker None (Some made) rank valid value is = absurd (none_priced taker rank is (valid.0 refl))
made-price taker (Some price) None rank valid value is = let it : false ≡ true = valid.1 (subst IsPrice (sym (price_back taker price rank is)) is.valid) in cc
made-price taker (Some price) (Some made) rank valid value is = ap (λ (p : ℕ). Some p) (value ∙ price_back taker price rank is)

pub told-price : (taker side : Side) (price made : Option ℕ) (rank : ℕ) → side ≡ opposite taker → (IsSome made) ↔ (IsPrice (rank_at side rank)) → IfSome made (λ (p : ℕ). p ≡ rank_at side rank) → IsRank taker price rank → made ≡ price
told-price taker side price made rank side_is valid value is =
    made-price taker price made rank (subst (λ (s : Side). (IsSome made) ↔ (IsPrice (rank_at s rank))) side_is valid) (subst (λ (s : Side). IfSome made (λ (p : ℕ). p ≡ rank_at s rank)) side_is value) is

-- The lowest rank.

pub lowest-begins : (walk : LevelWalk) (banks : List ℕ) → IsLowest walk (take 0 banks) (2 ^ 30 - 1)
lowest-begins walk banks = record { price = None; rank = record { valid = tt; is = refl }; best = λ bank there. absurd (omega (arith, there.1)) }

pub lowest-on : (walk : LevelWalk) (banks : List ℕ) (n lowest : ℕ) → n < 65 → AreRanked walk → IsLowest walk banks lowest → IsLowest walk (banks ++ n ∷ []) (min lowest (slice_index walk.ranks n))
lowest-on walk banks n lowest below ranked so_far = record {
  price = better_price walk.taker so_far.price (price_of walk n);
  rank = lower walk.taker so_far.price (price_of walk n) lowest (slice_index walk.ranks n) so_far.rank (ranked n below);
  best = better-on walk banks n so_far.price (price_of walk n) refl so_far.best;
}

-- and once another walk asks the same of these banks
best-same : (old new : LevelWalk) (banks : List ℕ) (price : Option ℕ) → new.taker ≡ old.taker → ((bank : ℕ) → Contains banks bank → price_of new bank ≡ price_of old bank) → IsBestAmong old banks price → IsBestAmong new banks price
best-same old new banks None taker same best = λ bank there. same bank there ∙ best bank there
best-same old new banks (Some price) taker same best = (
  (best.0.0, best.0.1, same best.0.0 best.0.1 ∙ best.0.2),
  λ bank other there at. subst (λ (s : Side). is_better s other price ≡ false) (sym taker) (best.1 bank other there (sym (same bank there) ∙ at)),
)

pub lowest-same : (old new : LevelWalk) (banks : List ℕ) (lowest : ℕ) → new.taker ≡ old.taker → ((bank : ℕ) → Contains banks bank → price_of new bank ≡ price_of old bank) → IsLowest old banks lowest → IsLowest new banks lowest
lowest-same old new banks lowest taker same low = record {
  price = low.price;
  rank = subst (λ (s : Side). IsRank s low.price lowest) (sym taker) low.rank;
  best = best-same old new banks low.price taker same low.best;
}

-- as once lots of other banks are taken
pub lowest-kept : (old new : LevelWalk) (banks : List ℕ) (lots lowest : ℕ) → IsPaid old new lots → ((bank : ℕ) → Contains banks bank → IsLeft old new bank) → IsLowest old banks lowest → IsLowest new banks lowest
lowest-kept old new banks lots lowest paid left low = lowest-same old new banks lowest (taker_same old new lots paid) (λ bank there. asked_left old new bank lots paid (left bank there)) low
