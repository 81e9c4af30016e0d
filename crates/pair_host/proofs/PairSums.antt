-- All orders, by their pairs.
use Rattle.std.proofs.Common.{ℕ, ◌≡◌, ◌+◌, ltb, eqb, List, length, ap, sym, ◌∙◌}
use Rattle.std.proofs.lemmas.List.{length-map}
use Rattle.std.specs.List.{filter}
use Rattle.fx_rules.specs.declared.orders.ActiveOrder.{ActiveOrder}
use Rattle.fx_rules.specs.State.{orders_in}
use Rattle.pair_host.proofs.Counted.{length-keys}

-- the orders of the pairs below a number
abbrev pub of_pairs_below : ℕ → List ActiveOrder → List ActiveOrder
of_pairs_below n orders = filter (λ active. ltb active.pair n) orders

pub one-pair-more : (n : ℕ) (orders : List ActiveOrder) → length (of_pairs_below (n + 1) orders) ≡ length (of_pairs_below n orders) + length (orders_in n orders)
one-pair-more n orders =
    length-keys (λ (a : ActiveOrder). a.pair) n orders
    ∙ ap (λ k. length (of_pairs_below n orders) + k) (sym (length-map (filter (λ (a : ActiveOrder). eqb a.pair n) orders) (λ (a : ActiveOrder). a.order)))
