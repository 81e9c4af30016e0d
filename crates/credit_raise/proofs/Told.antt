-- The best price of a bank, as the word of its best order tells it.
use Rattle.std.proofs.Common.{ℕ, ◌≡◌, ◌≤◌, ◌<◌, ◌/◌, ◌-◌, ◌^◌, ◌↔◌, IfSome, IsSome, List, Option, Some, None, eqb, inl, inr, refl, ap, sym, subst, ◌∙◌, arith, slice_index}
use Rattle.std.proofs.lemmas.Bool.{cases_eq, cond-false, cond-true, eq-eqb, false≢true, ne_eqb}
use Rattle.fx_amounts.specs.Price.{IsPrice}
use Rattle.fx_amounts.specs.Side.{opposite}
use Rattle.fx_amounts.specs.declared.side.Side.{Side}
use Rattle.fx_amounts.specs.declared.side.Side.TheVariants.{Buy, Sell}
use Rattle.fx_rules.specs.declared.orders.Resting.{Resting}
use Rattle.fx_rules.specs.Lists.{Each}
use Rattle.fx_rules.proofs.ListLemmas.{Each-among}
use Rattle.global_book.specs.Book.{IsPriceOf}
use Rattle.global_book.specs.Room.{rank_of}
use Rattle.global_book.specs.Words.{AreBestWords, word_price}
use Rattle.credit_raise.specs.inside.Prices.{IsTop}
use Rattle.credit_raise.proofs.Facing.{top-price}

-- a price that is made of so many ticks
made_none : (price : Option ℕ) (ticks : ℕ) → (IsSome price → IsPrice ticks) → (IsPrice ticks → ⊥) → price ≡ None
made_none None ticks says none = refl
made_none (Some made) ticks says none = absurd (none (says refl))

made_some : (price : Option ℕ) (ticks : ℕ) → (IsPrice ticks → IsSome price) → IfSome price (λ (made : ℕ). made ≡ ticks) → IsPrice ticks → price ≡ Some ticks
made_some None ticks says value valid = absurd (false≢true (says valid))
made_some (Some made) ticks says value valid = ap (λ (n : ℕ). Some n) value

-- all bits set are at no price's rank
no_price : (side : Side) (word : ℕ) → word ≡ 2 ^ 64 - 1 → IsPrice (rank_of side (word / 2 ^ 34)) → ⊥
no_price Buy word all valid = omega (arith, all, valid.0)
no_price Sell word all valid = omega (arith, all, valid.1)

-- a bank's best price is one in range
pub valid_price : (side : Side) (bank : ℕ) (orders : List Resting) (price : Option ℕ) → Each (λ (order : Resting). IsPrice order.price) orders → IsPriceOf (opposite side) bank None orders price → IfSome price IsPrice
valid_price side bank orders None ticks is = tt
valid_price side bank orders (Some price) ticks is = subst IsPrice is.price (Each-among (λ (order : Resting). IsPrice order.price) orders is.order ticks is.there)

-- the price at the rank in a word is the one that the word tells
told_price : (side : Side) (word : ℕ) (price : Option ℕ) → (IsSome price) ↔ (IsPrice (rank_of side (word / 2 ^ 34))) → IfSome price (λ (made : ℕ). made ≡ rank_of side (word / 2 ^ 34))
    → IfSome (word_price side word) IsPrice → price ≡ word_price side word
told_price side word price valid value in_range =
    let ticks : ℕ = rank_of side (word / 2 ^ 34) in
    elim (cases_eq word (2 ^ 64 - 1)) [
      | inl all ↦ made_none price ticks valid.0 (no_price side word all) ∙ sym (cond-true (eqb word (2 ^ 64 - 1)) None (Some ticks) (eq-eqb word (2 ^ 64 - 1) all))
      | inr some ↦
          let is : word_price side word ≡ Some ticks = cond-false (eqb word (2 ^ 64 - 1)) None (Some ticks) (ne_eqb word (2 ^ 64 - 1) some) in
          made_some price ticks valid.1 value (subst (λ (p : Option ℕ). IfSome p IsPrice) is in_range) ∙ sym is
    ]

-- and it is the bank's best
pub told-top : (side : Side) (bank : ℕ) (orders : List Resting) (words : List ℕ) (top : Option ℕ) → bank < 64
    → (IsSome top) ↔ (IsPrice (rank_of side (slice_index words bank / 2 ^ 34))) → IfSome top (λ (made : ℕ). made ≡ rank_of side (slice_index words bank / 2 ^ 34))
    → AreBestWords side orders words → IsTop bank side orders top
told-top side bank orders words top below valid value are =
    let told : Option ℕ = word_price side (slice_index words bank) in
    let best : IsPriceOf (opposite side) bank None orders told = are.prices bank below in
    subst (IsTop bank side orders) (sym (told_price side (slice_index words bank) top valid value (valid_price side bank orders told are.ticks best)))
    (top-price bank side orders told best)

-- who has no word has no orders
pub untold-top : (side : Side) (bank : ℕ) (orders : List Resting) (words : List ℕ) → 64 ≤ bank → AreBestWords side orders words → IsTop bank side orders None
untold-top side bank orders words above are o is = absurd (omega (arith, above, is.owner, Each-among (λ (q : Resting). q.bank < 64) orders o are.owners is.rests))
