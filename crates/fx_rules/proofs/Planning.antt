-- What is open to a taker before and after a fill, and how a fill lowers its lines.
use Rattle.std.proofs.Common.{ℕ, ◌≡◌, ◌≢◌, ◌-◌, ◌*◌, ◌/◌, ◌≤◌, ◌<◌, Bool, true, false, not, cond, ◌&&◌, eqb, leb, ltb, List, [], ◌∷◌, ◌⊎◌, inl, inr, refl, ap, sym, subst, ◌∙◌, arith, map, Option}
use Rattle.std.proofs.Math.Nat.{mul-le-mul_left}
use Rattle.std.proofs.lemmas.Bool.{cases_Bool, cond_both, cond-true, cond-false, and_parts, and_from, and_right, or_left, eqb-true, eqb-false, eq-eqb, ne_eqb, ltb-true, le-leb, lt-ltb, not_from_false, not_from_true, false_from_ne_true, cases_lt}
use Rattle.std.specs.List.{filter}
use Rattle.fx_amounts.specs.Price.{crosses}
use Rattle.fx_rules.specs.declared.orders.ActiveOrder.{ActiveOrder}
use Rattle.fx_rules.specs.declared.orders.Resting.{Resting}
use Rattle.fx_rules.specs.declared.orders.Fill.{Fill}
use Rattle.fx_rules.specs.Lists.{Among, Each, EachPair}
use Rattle.fx_rules.specs.Session.{Header, bank_count, weight_of}
use Rattle.fx_rules.specs.State.{State, orders_in, line, left_of_limits, headroom, at_most, is_between}
use Rattle.fx_rules.specs.Sweep.{Taker, is_open, is_opposite, is_order, fill_with, filled, lowered, with_left}
use Rattle.fx_rules.specs.Sound.{ArrivesBefore, IsCovered, Rises}
use Rattle.fx_rules.specs.Plan.{spend}
use Rattle.fx_rules.proofs.ListLemmas.{Each-among, filter_agree_on, filter_cons_true, filter_cons_false, EachPair-filter, EachPair-map}
use Rattle.fx_rules.proofs.Credit.{room_less, most_pays, most_same, line-pays, line-other}
use Rattle.fx_rules.proofs.Opens.{IsOpen, is_open-says, orders_in-among}

-- the orders of a pair arrive one after another
pub orders_in-rising : (pair : ℕ) (orders : List ActiveOrder) → EachPair Rises orders → EachPair ArrivesBefore (orders_in pair orders)
orders_in-rising pair orders rising =
    EachPair-map ArrivesBefore (λ (a : ActiveOrder). a.order) (filter (λ a. eqb a.pair pair) orders)
    (EachPair-filter Rises (λ (a : ActiveOrder). eqb a.pair pair) orders rising)

-- whether an order is open, by its parts
pub open_parts : (t : Taker) (r : ℕ) (o : Resting) → IsOpen t r o → is_open t r o ≡ true
open_parts t r o says =
    and_from (is_opposite t.side o.side && not (eqb o.bank t.bank) && leb 1 r && crosses t.side t.price o.price) (ltb o.arrival t.arrival)
    (and_from (is_opposite t.side o.side && not (eqb o.bank t.bank) && leb 1 r) (crosses t.side t.price o.price)
    (and_from (is_opposite t.side o.side && not (eqb o.bank t.bank)) (leb 1 r)
    (and_from (is_opposite t.side o.side) (not (eqb o.bank t.bank)) says.opposite (not_from_false (eqb o.bank t.bank) (ne_eqb o.bank t.bank says.other)))
    (le-leb 1 r says.reach))
    says.crosses)
    (lt-ltb o.arrival t.arrival says.earlier)

-- with less reach no more orders are open
pub open_more : (t : Taker) (r s : ℕ) (o : Resting) → r ≤ s → is_open t r o ≡ true → is_open t s o ≡ true
open_more t r s o more h =
    let says = is_open-says t r o h in
    open_parts t s o (record { opposite = says.opposite; other = says.other; reach = omega (arith, says.reach); crosses = says.crosses; earlier = says.earlier })

-- an order that has no reach is not open
pub open_none : (t : Taker) (r : ℕ) (o : Resting) → r ≡ 0 → is_open t r o ≡ false
open_none t r o none = false_from_ne_true (is_open t r o) (λ h. omega (arith, (is_open-says t r o h).reach, none))

-- an order of the taker's own bank is not open
pub open_own : (t : Taker) (r : ℕ) (o : Resting) → o.bank ≡ t.bank → is_open t r o ≡ false
open_own t r o own = false_from_ne_true (is_open t r o) (λ h. (is_open-says t r o h).other own)

-- Tests of the orders of one pair, head by head.

pub orders_in-here : (pair : ℕ) (a : ActiveOrder) (orders : List ActiveOrder) → eqb a.pair pair ≡ true → orders_in pair (a ∷ orders) ≡ a.order ∷ orders_in pair orders
orders_in-here pair a orders here =
    ap (map (λ (b : ActiveOrder). b.order)) (filter_cons_true (λ (b : ActiveOrder). eqb b.pair pair) a orders here)

pub orders_in-there : (pair : ℕ) (a : ActiveOrder) (orders : List ActiveOrder) → eqb a.pair pair ≡ false → orders_in pair (a ∷ orders) ≡ orders_in pair orders
orders_in-there pair a orders there =
    ap (map (λ (b : ActiveOrder). b.order)) (filter_cons_false (λ (b : ActiveOrder). eqb b.pair pair) a orders there)

closed_head : (test : Resting → Bool) (pair : ℕ) (a : ActiveOrder) (orders : List ActiveOrder) → test a.order ≡ false → filter test (orders_in pair (a ∷ orders)) ≡ filter test (orders_in pair orders)
closed_head test pair a orders closed =
    elim (cases_Bool (eqb a.pair pair)) [
      | inl here ↦ ap (filter test) (orders_in-here pair a orders here) ∙ filter_cons_false test a.order (orders_in pair orders) closed
      | inr there ↦ ap (filter test) (orders_in-there pair a orders there)
    ]

same_head : (test other : Resting → Bool) (pair : ℕ) (a : ActiveOrder) (xs ys : List ActiveOrder) → test a.order ≡ other a.order → filter test (orders_in pair xs) ≡ filter other (orders_in pair ys) → filter test (orders_in pair (a ∷ xs)) ≡ filter other (orders_in pair (a ∷ ys))
same_head test other pair a xs ys same rest =
    elim (cases_Bool (eqb a.pair pair)) [
      | inl here ↦ ap (filter test) (orders_in-here pair a xs here)
          ∙ elim (cases_Bool (test a.order)) [
            | inl kept ↦ filter_cons_true test a.order (orders_in pair xs) kept ∙ ap (λ os. a.order ∷ os) rest
                ∙ sym (filter_cons_true other a.order (orders_in pair ys) (sym same ∙ kept))
            | inr dropped ↦ filter_cons_false test a.order (orders_in pair xs) dropped ∙ rest
                ∙ sym (filter_cons_false other a.order (orders_in pair ys) (sym same ∙ dropped))
          ]
          ∙ sym (ap (filter other) (orders_in-here pair a ys here))
      | inr there ↦ ap (filter test) (orders_in-there pair a xs there) ∙ rest ∙ sym (ap (filter other) (orders_in-there pair a ys there))
    ]

pub and_not_false : (a b : Bool) → b ≡ false → (a && not b) ≡ a
and_not_false true b none = ap not none
and_not_false false b none = refl

-- lowering an order that is closed, however much it has left, changes no open order
pub closed_lowered : (test : Resting → Bool) (pair bank number lots : ℕ) (orders : List ActiveOrder) → ((o : Resting) → o.bank ≡ bank → test o ≡ false) → filter test (orders_in pair (lowered bank number lots orders)) ≡ filter test (orders_in pair orders)
closed_lowered test pair bank number lots [] closed = refl
closed_lowered test pair bank number lots (a ∷ rest) closed =
    cond_both (is_order bank number a.order) (cond (ltb lots a.order.left) (with_left a (a.order.left - lots) ∷ rest) rest)
    (a ∷ lowered bank number lots rest) (λ orders. filter test (orders_in pair orders) ≡ filter test (orders_in pair (a ∷ rest)))
    (λ is.
    let own : a.order.bank ≡ bank = eqb-true a.order.bank bank (and_parts (eqb a.order.bank bank) (eqb a.order.number number) is).0 in
    let back : filter test (orders_in pair rest) ≡ filter test (orders_in pair (a ∷ rest)) = sym (closed_head test pair a rest (closed a.order own)) in
    cond_both (ltb lots a.order.left) (with_left a (a.order.left - lots) ∷ rest) rest
    (λ orders. filter test (orders_in pair orders) ≡ filter test (orders_in pair (a ∷ rest)))
    (λ _. closed_head test pair (with_left a (a.order.left - lots)) rest (closed (with_left a (a.order.left - lots)).order own) ∙ back)
    (λ _. back))
    (λ _. same_head test test pair a (lowered bank number lots rest) rest refl (closed_lowered test pair bank number lots rest closed))

-- none of the later orders is of the same command
other_commands : (pair bank number : ℕ) (a : ActiveOrder) (rest : List ActiveOrder) → Each (Rises a) rest → is_order bank number a.order ≡ true → (o : Resting) → Among o (orders_in pair rest) → is_order bank number o ≡ false
other_commands pair bank number a rest rises is o there =
    let found = orders_in-among pair rest o there in
    let before : Rises a found.0 = Each-among (Rises a) rest found.0 rises found.1 in
    let p = and_parts (eqb a.order.bank bank) (eqb a.order.number number) is in
    false_from_ne_true (is_order bank number o) (λ too.
    let q = and_parts (eqb o.bank bank) (eqb o.number number) too in
    before.number (eqb-true a.order.bank bank p.0 ∙ sym (eqb-true o.bank bank q.0) ∙ ap (λ (r : Resting). r.bank) found.3)
    (eqb-true a.order.number number p.1 ∙ sym (eqb-true o.number number q.1) ∙ ap (λ (r : Resting). r.number) found.3))

-- after an order is lowered for good, the open orders are those that were open, but for it
pub lowered_closes : (test : Resting → Bool) (pair bank number lots : ℕ) (orders : List ActiveOrder) → EachPair Rises orders → ((a : ActiveOrder) → Among a orders → is_order bank number a.order ≡ true → (a.order.left ≤ lots) ⊎ (test (with_left a (a.order.left - lots)).order ≡ false)) → filter test (orders_in pair (lowered bank number lots orders)) ≡ filter (λ o. test o && not (is_order bank number o)) (orders_in pair orders)
lowered_closes test pair bank number lots [] rising closes = refl
lowered_closes test pair bank number lots (a ∷ rest) rising closes =
    let kept : Resting → Bool = λ o. test o && not (is_order bank number o) in
    cond_both (is_order bank number a.order) (cond (ltb lots a.order.left) (with_left a (a.order.left - lots) ∷ rest) rest)
    (a ∷ lowered bank number lots rest) (λ orders. filter test (orders_in pair orders) ≡ filter kept (orders_in pair (a ∷ rest)))
    (λ is.
    let back : filter test (orders_in pair rest) ≡ filter kept (orders_in pair (a ∷ rest)) =
    filter_agree_on test kept (orders_in pair rest)
    (λ o there. sym (and_not_false (test o) (is_order bank number o) (other_commands pair bank number a rest rising.0 is o there)))
    ∙ sym (closed_head kept pair a rest (and_right (test a.order) (not (is_order bank number a.order)) (not_from_true (is_order bank number a.order) is))) in
    cond_both (ltb lots a.order.left) (with_left a (a.order.left - lots) ∷ rest) rest
    (λ orders. filter test (orders_in pair orders) ≡ filter kept (orders_in pair (a ∷ rest)))
    (λ more. elim (closes a (inl refl) is) [
      | inl gone ↦ absurd (omega (arith, ltb-true lots a.order.left more))
      | inr closed ↦ closed_head test pair (with_left a (a.order.left - lots)) rest closed ∙ back
    ])
    (λ _. back))
    (λ not_it. same_head test kept pair a (lowered bank number lots rest) rest
    (sym (and_not_false (test a.order) (is_order bank number a.order) not_it))
    (lowered_closes test pair bank number lots rest rising.1 (λ b there. closes b (inr there))))

-- Numbers: how a line and its reach fall.

pub div_mono : (a b w : ℕ) → 0 < w → a ≤ b → a / w ≤ b / w
div_mono a b w some le =
    elim (cases_lt (b / w) (a / w)) [
      | inl above ↦ absurd (omega (arith, mul-le-mul_left w above))
      | inr fine ↦ fine
    ]

pub div_none : (a w : ℕ) → a < w → a / w ≡ 0
div_none a w small =
    elim (cases_lt 0 (a / w)) [
      | inl some ↦ absurd (omega (arith, mul-le-mul_left w some))
      | inr none ↦ omega arith
    ]

-- what a reach that is used up leaves is no reach
pub reach_used : (line w : ℕ) → 0 < w → (line - line / w * w) / w ≡ 0
reach_used line w some = div_none (line - line / w * w) w (omega arith)

-- a taker's fill is between its bank and the maker's
pub between_taker : (t : Taker) (o : Resting) (lots : ℕ) → is_between t.bank o.bank (fill_with t o lots) ≡ true
between_taker t o lots =
    or_left (eqb t.bank t.bank && eqb o.bank o.bank) (eqb t.bank o.bank && eqb o.bank t.bank)
    (and_from (eqb t.bank t.bank) (eqb o.bank o.bank) (eq-eqb t.bank t.bank refl) (eq-eqb o.bank o.bank refl))

-- `lines` tells, with what the total of the taker's bank leaves, its line with each other bank
abbrev pub Agrees : Header → State → ℕ → Option ℕ → (ℕ → ℕ) → Type 0
Agrees h S bank purse lines = (other : ℕ) → other < bank_count h → other ≢ bank → at_most purse (lines other) ≡ line h S bank other

pub agrees-filled : (h : Header) (S : State) (t : Taker) (o : Resting) (lots : ℕ) (purse : Option ℕ) (lines : ℕ → ℕ) → IsCovered h S → t.bank < bank_count h → o.bank < bank_count h → o.bank ≢ t.bank → purse ≡ headroom h S t.bank → Agrees h S t.bank purse lines → Agrees h (filled S (fill_with t o lots)) t.bank (room_less purse (lots * weight_of h t.pair)) (spend lines o.bank (lots * weight_of h t.pair))
agrees-filled h S t o lots purse lines covered sender within differ purse_is agrees other other_in not_own =
    let f : Fill = fill_with t o lots in
    let units : ℕ = lots * weight_of h t.pair in
    let both : is_between t.bank o.bank f ≡ true = between_taker t o lots in
    let apart : t.bank ≢ o.bank = λ same. differ (sym same) in
    elim (cases_Bool (eqb other o.bank)) [
      | inl is ↦
          let same : other ≡ o.bank = eqb-true other o.bank is in
          ap (at_most (room_less purse units)) (cond-true (eqb other o.bank) (lines other - units) (lines other) is)
          ∙ most_pays purse (lines other) (lines other - units) units refl
          ∙ ap (λ n. n - units) (agrees other other_in not_own)
          ∙ subst (λ b. line h S t.bank b - units ≡ line h (filled S f) t.bank b) (sym same)
          (sym (line-pays h S f t.bank o.bank covered sender within apart both))
      | inr is_not ↦
          let rest : ℕ = at_most (headroom h S other) (left_of_limits h S t.bank other) in
          let same : at_most purse (lines other) ≡ at_most purse rest =
          agrees other other_in not_own ∙ ap (λ p. at_most p rest) (sym purse_is) in
          ap (at_most (room_less purse units)) (cond-false (eqb other o.bank) (lines other - units) (lines other) is_not)
          ∙ most_same purse (lines other) rest units same
          ∙ ap (λ p. at_most (room_less p units) rest) purse_is
          ∙ sym (line-other h S f t.bank o.bank other covered within apart both not_own (eqb-false other o.bank is_not))
    ]
