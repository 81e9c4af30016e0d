-- What comes of a state by fills and by orders that are taken out or lowered: no order is new, and no line is more.
use Rattle.std.proofs.Common.{ℕ, ◌≡◌, ◌≢◌, ◌-◌, ◌/◌, ◌≤◌, ◌<◌, Bool, eqb, ltb, true, false, if◌then◌else◌, List, [], ◌∷◌, map, ◌⊎◌, inl, inr, refl, ap, sym, subst, ◌∙◌, arith}
use Rattle.std.specs.List.{filter}
use Rattle.std.proofs.lemmas.Bool.{cond_both, eq-eqb, false_from_ne_true}
use Rattle.fx_amounts.specs.Price.{crosses}
use Rattle.fx_rules.specs.declared.orders.ActiveOrder.{ActiveOrder}
use Rattle.fx_rules.specs.declared.orders.Resting.{Resting}
use Rattle.fx_rules.specs.declared.orders.Fill.{Fill}
use Rattle.fx_rules.specs.Lists.{Among}
use Rattle.fx_rules.specs.Session.{Header, IsSession, weight_of}
use Rattle.fx_rules.specs.State.{State, line, reach, orders_in}
use Rattle.fx_rules.specs.Sweep.{Taker, Swept, filled, filled_all, lowered, is_order, is_open, is_opposite, open_orders, less, with_left}
use Rattle.fx_rules.specs.Step.{reduced}
use Rattle.fx_rules.specs.Sound.{IsSound, IsKept}
use Rattle.fx_rules.proofs.ListLemmas.{Each-among, Among-filter, Among-map, among_filter}
pub use Rattle.fx_rules.proofs.Credit.{line_swap}
use Rattle.fx_rules.proofs.Credit.{line-falls}
use Rattle.fx_rules.proofs.Planning.{div_mono, open_parts}
use Rattle.fx_rules.proofs.SweepSound.{weight_of-least}

-- the same order, whatever each has left
abbrev pub IsLess : ActiveOrder → ActiveOrder → Type 0
IsLess after before = after ≡ with_left before after.order.left

-- each order that is left was there, with as much or more
pub lowered_from : (bank number lots : ℕ) (orders : List ActiveOrder) (a : ActiveOrder) → Among a (lowered bank number lots orders) → (b : ActiveOrder) × Among b orders × IsLess a b
lowered_from bank number lots [] a there = absurd there
lowered_from bank number lots (b ∷ orders) a there =
    cond_both (is_order bank number b.order)
    (if ltb lots b.order.left then with_left b (b.order.left - lots) ∷ orders else orders) (b ∷ lowered bank number lots orders)
    (λ os. Among a os → (c : ActiveOrder) × Among c (b ∷ orders) × IsLess a c)
    (λ _. cond_both (ltb lots b.order.left) (with_left b (b.order.left - lots) ∷ orders) orders
    (λ os. Among a os → (c : ActiveOrder) × Among c (b ∷ orders) × IsLess a c)
    (λ _ among. elim among [
      | inl is ↦ (b, inl refl, subst (λ q. IsLess q b) (sym is) refl)
      | inr later ↦ (a, inr later, refl)
    ])
    (λ _ among. (a, inr among, refl)))
    (λ _ among. elim among [
      | inl is ↦ (b, inl refl, subst (λ q. IsLess q b) (sym is) refl)
      | inr later ↦ let found = lowered_from bank number lots orders a later in (found.0, inr found.1, found.2)
    ])
    there

-- The second state came of the first: its orders were there, with as much left or more, and no line was less.
pub record Follows (h : Header) (S S' : State) : Type 0 where
  pub orders : (a : ActiveOrder) → Among a S'.orders → (b : ActiveOrder) × Among b S.orders × IsLess a b
  pub lines : (i j : ℕ) → line h S' i j ≤ line h S i j

pub less_trans : (a b c : ActiveOrder) → IsLess a b → IsLess b c → IsLess a c
less_trans a b c ab bc = ab ∙ ap (λ (q : ActiveOrder). with_left q a.order.left) bc

pub filled-follows : (h : Header) (S : State) (f : Fill) → Follows h S (filled S f)
filled-follows h S f = record {
  orders = λ a there.
      let once = lowered_from f.taker f.taker_number f.lots (lowered f.maker f.maker_number f.lots S.orders) a there in
      let twice = lowered_from f.maker f.maker_number f.lots S.orders once.0 once.1 in
      (twice.0, twice.1, less_trans a once.0 twice.0 once.2 twice.2);
  lines = line-falls h S f;
}

pub follows-then : (h : Header) (S T U : State) → Follows h S T → Follows h T U → Follows h S U
follows-then h S T U first next = record {
  orders = λ a there.
      let once = next.orders a there in
      let twice = first.orders once.0 once.1 in
      (twice.0, twice.1, less_trans a once.0 twice.0 once.2 twice.2);
  lines = λ i j. omega (arith, first.lines i j, next.lines i j);
}

pub follows-self : (h : Header) (S : State) → Follows h S S
follows-self h S = record { orders = λ a there. (a, there, refl); lines = λ i j. omega arith }

pub filled_all-follows : (h : Header) (S : State) (fills : List Fill) → Follows h S (filled_all S fills)
filled_all-follows h S [] = follows-self h S
filled_all-follows h S (f ∷ fills) = follows-then h S (filled S f) (filled_all (filled S f) fills) (filled-follows h S f) (filled_all-follows h (filled S f) fills)

-- some orders are taken out
pub fewer-follows : (h : Header) (S : State) (stays : ActiveOrder → Bool) → Follows h S (record S { orders = filter stays S.orders })
fewer-follows h S stays = record {
  orders = λ a there. (a, (Among-filter stays S.orders a there).0, refl);
  lines = λ i j. omega arith;
}

-- an order is reduced
pub reduced-follows : (h : Header) (S : State) (bank number left : ℕ) → Follows h S (record S { orders = reduced bank number left S.orders })
reduced-follows h S bank number left = record {
  orders = λ a there.
      let found = Among-map (λ (b : ActiveOrder). if is_order bank number b.order then with_left b left else b) S.orders a there in (
        found.0,
        found.1,
        cond_both (is_order bank number found.0.order) (with_left found.0 left) found.0 (λ c. a ≡ c → IsLess a found.0)
            (λ _ is. subst (λ c. IsLess c found.0) (sym is) refl) (λ _ is. subst (λ c. IsLess c found.0) (sym is) refl) found.2,
      );
  lines = λ i j. omega arith;
}

pub among_map : {X Y : Type 0} (f : X → Y) (xs : List X) (x : X) → Among x xs → Among (f x) (map f xs)
among_map f [] x there = absurd there
among_map f (y ∷ xs) x (inl is) = inl (ap f is)
among_map f (y ∷ xs) x (inr there) = inr (among_map f xs x there)

pub among_orders_in : (pair : ℕ) (orders : List ActiveOrder) (a : ActiveOrder) → Among a orders → a.pair ≡ pair → Among a.order (orders_in pair orders)
among_orders_in pair orders a there of_pair =
    among_map (λ (q : ActiveOrder). q.order) (filter (λ (q : ActiveOrder). eqb q.pair pair) orders) a
    (among_filter (λ (q : ActiveOrder). eqb q.pair pair) orders a there (eq-eqb a.pair pair of_pair))

pub pair_known : (h : Header) (S : State) (a : ActiveOrder) → IsSession h → IsSound h S → Among a S.orders → 0 < weight_of h a.pair
pair_known h S a session sound there = weight_of-least h a.pair session (Each-among (IsKept h S.counts) S.orders a sound.kept there).pair

pub reach_falls : (h : Header) (S S' : State) (i j pair : ℕ) → 0 < weight_of h pair → line h S' i j ≤ line h S i j → reach h S' i j pair ≤ reach h S i j pair
reach_falls h S S' i j pair some falls = div_mono (line h S' i j) (line h S i j) (weight_of h pair) some falls

-- at its end a taker has nothing left, or nothing is open to it
pub swept_end : (h : Header) (S : State) (t : Taker) (fills : List Fill) (left : ℕ) → Swept h S t fills left → (left ≡ 0) ⊎ (open_orders h (filled_all S fills) t ≡ [])
swept_end h S t [] left swept = elim swept.1 [
  | inl none_left ↦ inl (swept.0 ∙ none_left)
  | inr none_open ↦ inr none_open
]
swept_end h S t (f ∷ fills) left swept = swept_end h (filled S f) (less t f.lots) fills left swept.4

pub reach_swap : (h : Header) (S : State) (i j pair : ℕ) → reach h S i j pair ≡ reach h S j i pair
reach_swap h S i j pair = ap (λ l. l / weight_of h pair) (line_swap h S i j)

-- where nothing is open to a taker, it crosses no earlier order of the other side that it can reach
pub crosses_none : (h : Header) (S : State) (t : Taker) (a : ActiveOrder) → open_orders h S t ≡ [] → Among a S.orders → a.pair ≡ t.pair → a.order.arrival < t.arrival → is_opposite t.side a.order.side ≡ true → a.order.bank ≢ t.bank → 1 ≤ reach h S t.bank a.order.bank t.pair → crosses t.side t.price a.order.price ≡ false
crosses_none h S t a none_open there of_pair earlier opposite other reached =
    false_from_ne_true (crosses t.side t.price a.order.price) (λ crossing.
    let is = open_parts t (reach h S t.bank a.order.bank t.pair) a.order (record {
      opposite = opposite;
      other = other;
      reach = reached;
      crosses = crossing;
      earlier = earlier;
    }) in
    let found = among_filter (λ (q : Resting). is_open t (reach h S t.bank q.bank t.pair) q) (orders_in t.pair S.orders) a.order
    (among_orders_in t.pair S.orders a there of_pair) is in
    absurd (subst (Among a.order) none_open found))
