-- What the lots that orders have left come to, where each lot is worth something by its order's pair, bank and number.
use Rattle.std.proofs.Common.{ℕ, ◌≡◌, ◌+◌, ◌-◌, ◌*◌, ◌≤◌, Bool, true, false, not, ◌&&◌, eqb, ltb, List, [], ◌∷◌, inl, inr, refl, ap, sym, ◌∙◌, arith, Option}
use Rattle.std.proofs.Math.Nat.{add-mul}
use Rattle.std.proofs.lemmas.Bool.{cases_Bool, and_parts, cond-true, cond-false, eqb-true, ltb-false, not_from_true, not_from_false}
use Rattle.fx_rules.specs.declared.orders.ActiveOrder.{ActiveOrder}
use Rattle.fx_rules.specs.Lists.{total}
use Rattle.fx_rules.specs.Session.{Header, weight_of}
use Rattle.fx_rules.specs.Sweep.{is_order, lowered, with_left}
use Rattle.fx_rules.proofs.ListLemmas.{filter_cons_true, filter_cons_false}
use Rattle.fx_rules.proofs.Lowering.{is_order-says}
use Rattle.client_desk.specs.Clients.{when, is_client, left_cost, reserved_of}
use Rattle.client_desk.specs.Standing.{left_of}
use Rattle.client_desk.specs.Draws.{Offers, taken_out}
use Rattle.client_desk.proofs.Draws.{offers-cases, lowered-here, lowered-later}

abbrev pub worth_of : (ℕ → ℕ → ℕ → ℕ) → ActiveOrder → ℕ
worth_of worth a = a.order.left * worth a.pair a.order.bank a.order.number

abbrev pub lots_worth : (ℕ → ℕ → ℕ → ℕ) → List ActiveOrder → ℕ
lots_worth worth orders = total (worth_of worth) orders

less_of : (all part w : ℕ) → part ≤ all → (all - part) * w + part * w ≡ all * w
less_of all part w within = sym (add-mul (all - part) part w) ∙ ap (λ n. n * w) (omega arith)

worth_same : (worth : ℕ → ℕ → ℕ → ℕ) (a : ActiveOrder) (pair bank number : ℕ) → a.pair ≡ pair → is_order bank number a.order ≡ true → worth a.pair a.order.bank a.order.number ≡ worth pair bank number
worth_same worth a pair bank number of_pair is =
    let says = is_order-says bank number a.order is in
    ap (λ p. worth p a.order.bank a.order.number) of_pair ∙ ap (λ b. worth pair b a.order.number) says.0 ∙ ap (worth pair bank) says.1

-- an order that is lowered
pub worth-lowered : (worth : ℕ → ℕ → ℕ → ℕ) (pair bank number lots : ℕ) (orders : List ActiveOrder) → Offers orders pair bank number lots → lots_worth worth (lowered bank number lots orders) + lots * worth pair bank number ≡ lots_worth worth orders
worth-lowered worth pair bank number lots [] offers = absurd offers
worth-lowered worth pair bank number lots (a ∷ orders) offers =
    elim (offers-cases a orders pair bank number lots offers) [
      | inl here ↦
          let same : worth a.pair a.order.bank a.order.number ≡ worth pair bank number = worth_same worth a pair bank number here.1 here.0 in
          let mine : lots * worth a.pair a.order.bank a.order.number ≡ lots * worth pair bank number = ap (λ w. lots * w) same in
          let parts : (a.order.left - lots) * worth a.pair a.order.bank a.order.number + lots * worth a.pair a.order.bank a.order.number ≡ worth_of worth a =
          less_of a.order.left lots (worth a.pair a.order.bank a.order.number) here.2 in
          elim (cases_Bool (ltb lots a.order.left)) [
            | inl more ↦
                let is : lots_worth worth (lowered bank number lots (a ∷ orders)) ≡ (a.order.left - lots) * worth a.pair a.order.bank a.order.number + lots_worth worth orders =
                ap (lots_worth worth) (lowered-here bank number lots a orders here.0 ∙ cond-true (ltb lots a.order.left) (with_left a (a.order.left - lots) ∷ orders) orders more) in
                omega arith
            | inr all ↦
                let le : a.order.left ≤ lots = ltb-false lots a.order.left all in
                let is : lots_worth worth (lowered bank number lots (a ∷ orders)) ≡ lots_worth worth orders =
                ap (lots_worth worth) (lowered-here bank number lots a orders here.0 ∙ cond-false (ltb lots a.order.left) (with_left a (a.order.left - lots) ∷ orders) orders all) in
                let whole : lots * worth a.pair a.order.bank a.order.number ≡ worth_of worth a =
                ap (λ n. n * worth a.pair a.order.bank a.order.number) (omega (arith, here.2)) in
                omega arith
          ]
      | inr later ↦
          let is : lots_worth worth (lowered bank number lots (a ∷ orders)) ≡ worth_of worth a + lots_worth worth (lowered bank number lots orders) =
          ap (lots_worth worth) (lowered-later bank number lots a orders later.0) in
          let rest : lots_worth worth (lowered bank number lots orders) + lots * worth pair bank number ≡ lots_worth worth orders = worth-lowered worth pair bank number lots orders later.1 in
          omega arith
    ]

-- the order of a pair, bank and number taken out
pub worth-out : (worth : ℕ → ℕ → ℕ → ℕ) (pair bank number : ℕ) (orders : List ActiveOrder) → lots_worth worth (taken_out pair bank number orders) + left_of orders pair bank number * worth pair bank number ≡ lots_worth worth orders
worth-out worth pair bank number [] = omega arith
worth-out worth pair bank number (a ∷ orders) =
    let keep : ActiveOrder → Bool = λ (b : ActiveOrder). not (eqb b.pair pair && is_order bank number b.order) in
    let rest : lots_worth worth (taken_out pair bank number orders) + left_of orders pair bank number * worth pair bank number ≡ lots_worth worth orders = worth-out worth pair bank number orders in
    elim (cases_Bool (eqb a.pair pair && is_order bank number a.order)) [
      | inl is ↦
          let parts = and_parts (eqb a.pair pair) (is_order bank number a.order) is in
          let gone : lots_worth worth (taken_out pair bank number (a ∷ orders)) ≡ lots_worth worth (taken_out pair bank number orders) =
          ap (lots_worth worth) (filter_cons_false keep a orders (not_from_true (eqb a.pair pair && is_order bank number a.order) is)) in
          let left : left_of (a ∷ orders) pair bank number ≡ a.order.left + left_of orders pair bank number =
          ap (λ t. when t a.order.left + left_of orders pair bank number) is in
          let split : left_of (a ∷ orders) pair bank number * worth pair bank number ≡ a.order.left * worth pair bank number + left_of orders pair bank number * worth pair bank number =
          ap (λ n. n * worth pair bank number) left ∙ add-mul a.order.left (left_of orders pair bank number) (worth pair bank number) in
          let mine : worth_of worth a ≡ a.order.left * worth pair bank number = ap (λ w. a.order.left * w) (worth_same worth a pair bank number (eqb-true a.pair pair parts.0) parts.1) in
          omega arith
      | inr other ↦
          let stays : lots_worth worth (taken_out pair bank number (a ∷ orders)) ≡ worth_of worth a + lots_worth worth (taken_out pair bank number orders) =
          ap (lots_worth worth) (filter_cons_true keep a orders (not_from_false (eqb a.pair pair && is_order bank number a.order) other)) in
          let left : left_of (a ∷ orders) pair bank number ≡ 0 + left_of orders pair bank number =
          ap (λ t. when t a.order.left + left_of orders pair bank number) other in
          let same : left_of (a ∷ orders) pair bank number * worth pair bank number ≡ left_of orders pair bank number * worth pair bank number =
          ap (λ n. n * worth pair bank number) (omega arith) in
          omega arith
    ]

-- ---- the two worths that a book keeps

pub when_mul : (t : Bool) (n w : ℕ) → when t (n * w) ≡ n * when t w
when_mul true n w = refl
when_mul false n w = omega arith

when_one : (t : Bool) (n : ℕ) → when t n ≡ n * when t 1
when_one true n = omega arith
when_one false n = omega arith

pub total-same : {X : Type 0} (f g : X → ℕ) (xs : List X) → ((x : X) → f x ≡ g x) → total f xs ≡ total g xs
total-same f g [] agree = refl
total-same f g (x ∷ xs) agree =
    let here : f x ≡ g x = agree x in
    let rest : total f xs ≡ total g xs = total-same f g xs agree in
    omega arith

-- a lot of a client's order is worth its pair's weight
abbrev pub client_worth : Header → (ℕ → ℕ → Option ℕ) → ℕ → ℕ → ℕ → ℕ → ℕ
client_worth h own c pair bank number = when (is_client (own bank number) c) (weight_of h pair)

-- a lot of one order is worth one
abbrev pub order_worth : ℕ → ℕ → ℕ → ℕ → ℕ → ℕ → ℕ
order_worth pair bank number its_pair its_bank its_number = when (eqb its_pair pair && (eqb its_bank bank && eqb its_number number)) 1

pub reserved-worth : (h : Header) (own : ℕ → ℕ → Option ℕ) (c : ℕ) (orders : List ActiveOrder) → reserved_of h own c orders ≡ lots_worth (client_worth h own c) orders
reserved-worth h own c orders =
    total-same (left_cost h own c) (worth_of (client_worth h own c)) orders
    (λ a. when_mul (is_client (own a.order.bank a.order.number) c) a.order.left (weight_of h a.pair))

pub left-worth : (orders : List ActiveOrder) (pair bank number : ℕ) → left_of orders pair bank number ≡ lots_worth (order_worth pair bank number) orders
left-worth orders pair bank number =
    total-same (λ (a : ActiveOrder). when (eqb a.pair pair && is_order bank number a.order) a.order.left) (worth_of (order_worth pair bank number)) orders
    (λ a. when_one (eqb a.pair pair && is_order bank number a.order) a.order.left)
