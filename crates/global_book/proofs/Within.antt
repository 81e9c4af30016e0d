-- What a search within a limit leaves out.
use Rattle.std.proofs.Common.{ℕ, ◌≡◌, true, false, ◌&&◌, eqb, ltb, List, arith}
use Rattle.std.proofs.lemmas.Bool.{or_left, both_ways, false_from_ne_true, leb-true, le-leb, ltb-false}
use Rattle.fx_amounts.specs.Price.{crosses}
use Rattle.fx_amounts.specs.declared.side.Side.{Side}
use Rattle.fx_amounts.specs.declared.side.Side.TheVariants.{Buy, Sell}
use Rattle.fx_rules.specs.declared.orders.Resting.{Resting}
use Rattle.fx_rules.specs.Lists.{Each}
use Rattle.fx_rules.specs.Sweep.{is_better, is_preferred, IsBest}
use Rattle.fx_rules.proofs.ListLemmas.{Each-among, Each-of}

-- a price that is no worse than one that is taken is taken
pub better_or_same : (side : Side) (price p q : ℕ) → is_better side q p ≡ false → crosses side price q ≡ true → crosses side price p ≡ true
better_or_same Buy price p q not_worse taken = le-leb p price (omega (arith, ltb-false q p not_worse, leb-true q price taken))
better_or_same Sell price p q not_worse taken = le-leb price p (omega (arith, ltb-false p q not_worse, leb-true price q taken))

pub crosses_too : (side : Side) (price : ℕ) (h o : Resting) → is_preferred side o h ≡ false → crosses side price o.price ≡ true → crosses side price h.price ≡ true
crosses_too side price h o below taken =
    better_or_same side price h.price o.price
    (false_from_ne_true (is_better side o.price h.price) (λ better. both_ways (is_preferred side o h) below (or_left (is_better side o.price h.price) (eqb o.price h.price && ltb o.arrival h.arrival) better)))
    taken

-- where the limit does not allow the best of some orders it allows none
pub none_allowed : (side : Side) (limit : ℕ) (orders : List Resting) (best : Resting) → IsBest side orders best → crosses side limit best.price ≡ false → Each (λ o. crosses side limit o.price ≡ false) orders
none_allowed side limit orders best is dear =
    Each-of (λ o. crosses side limit o.price ≡ false) orders (λ o there. false_from_ne_true (crosses side limit o.price) (λ taken.
    both_ways (crosses side limit best.price) dear
    (crosses_too side limit best o (Each-among (λ q. is_preferred side q best ≡ false) orders o is.first there) taken)))
