-- What is open to an order where nothing rests crossed but between two banks.
use Rattle.std.proofs.Common.{ℕ, ◌≡◌, ◌≢◌, ◌≤◌, ◌<◌, Bool, true, false, ◌&&◌, ◌||◌, eqb, List, [], ◌∷◌, ◌⊎◌, inl, inr, refl, ap, sym, subst, ◌∙◌, arith}
use Rattle.std.proofs.lemmas.Bool.{cases_Bool, both_ways, and_parts, or_cases, or_left, or_right, eqb-true, eq-eqb, leb-true, false≢true}
use Rattle.fx_amounts.specs.declared.side.Side.{Side}
use Rattle.fx_amounts.specs.declared.side.Side.TheVariants.{Buy, Sell}
use Rattle.fx_amounts.specs.Price.{crosses}
use Rattle.fx_rules.specs.declared.orders.Resting.{Resting}
use Rattle.fx_rules.specs.Lists.{Among}
use Rattle.fx_rules.specs.Session.{Header, weight_of}
use Rattle.fx_rules.specs.State.{State, orders_in, reach}
use Rattle.fx_rules.specs.Sweep.{Taker, is_open, is_opposite, open_orders}
use Rattle.fx_rules.specs.Raise.{taker_of_resting}
use Rattle.fx_rules.proofs.ListLemmas.{Among-filter}
use Rattle.fx_rules.proofs.Opens.{IsOpen, is_open-says}
use Rattle.fx_rules.proofs.Following.{Follows, reach_falls, reach_swap}
use Rattle.fx_rules.proofs.Settling.{was_there}
use Rattle.credit_raise.specs.Two.{is_of_two, are_the_two, NoCrossBut}

-- what comes of a state in which nothing else rests crossed is such a state
pub apart-follows : (h : Header) (S S' : State) (pair i j : ℕ) → 0 < weight_of h pair → Follows h S S' → NoCrossBut h S pair i j → NoCrossBut h S' pair i j
apart-follows h S S' pair i j some follows apart b s b_rests s_rests buys sells others not_two reached =
    let b_was = was_there h S S' pair b follows b_rests in
    let s_was = was_there h S S' pair s follows s_rests in
    let buy : Resting = b_was.0 in
    let sell : Resting = s_was.0 in
    let b_bank : b.bank ≡ buy.bank = ap (λ (q : Resting). q.bank) b_was.2 in
    let s_bank : s.bank ≡ sell.bank = ap (λ (q : Resting). q.bank) s_was.2 in
    let reached_now : 1 ≤ reach h S' buy.bank sell.bank pair =
    subst (λ n. 1 ≤ reach h S' buy.bank n pair) s_bank (subst (λ n. 1 ≤ reach h S' n s.bank pair) b_bank reached) in
    let falls = reach_falls h S S' buy.bank sell.bank pair some (follows.lines buy.bank sell.bank) in
    let below : buy.price < sell.price = apart buy sell b_was.1 s_was.1
    (sym (ap (λ (q : Resting). q.side) b_was.2) ∙ buys) (sym (ap (λ (q : Resting). q.side) s_was.2) ∙ sells)
    (λ same. others (b_bank ∙ same ∙ sym s_bank))
    (subst (λ n. are_the_two i j buy.bank n ≡ false) s_bank (subst (λ n. are_the_two i j n s.bank ≡ false) b_bank not_two))
    (omega (arith, reached_now, falls)) in
    omega (arith, below, ap (λ (q : Resting). q.price) b_was.2, ap (λ (q : Resting). q.price) s_was.2)

-- ---- two banks

swap_both : (p q r s : Bool) → ((p && q) || (r && s)) ≡ ((s && r) || (q && p))
swap_both true true true true = refl
swap_both true true true false = refl
swap_both true true false true = refl
swap_both true true false false = refl
swap_both true false true true = refl
swap_both true false true false = refl
swap_both true false false true = refl
swap_both true false false false = refl
swap_both false true true true = refl
swap_both false true true false = refl
swap_both false true false true = refl
swap_both false true false false = refl
swap_both false false true true = refl
swap_both false false true false = refl
swap_both false false false true = refl
swap_both false false false false = refl

pub the_two-swap : (i j a b : ℕ) → are_the_two i j a b ≡ are_the_two i j b a
the_two-swap i j a b = swap_both (eqb a i) (eqb b j) (eqb a j) (eqb b i)

pub the_two-cases : (i j a b : ℕ) → are_the_two i j a b ≡ true → ((a ≡ i) × (b ≡ j)) ⊎ ((a ≡ j) × (b ≡ i))
the_two-cases i j a b is = elim (or_cases (eqb a i && eqb b j) (eqb a j && eqb b i) is) [
  | inl one ↦ let both = and_parts (eqb a i) (eqb b j) one in inl (eqb-true a i both.0, eqb-true b j both.1)
  | inr two ↦ let both = and_parts (eqb a j) (eqb b i) two in inr (eqb-true a j both.0, eqb-true b i both.1)
]

pub two-owner : (i j : ℕ) (o : Resting) → is_of_two i j o ≡ true → (o.bank ≡ i) ⊎ (o.bank ≡ j)
two-owner i j o is = elim (or_cases (eqb o.bank i) (eqb o.bank j) is) [
  | inl one ↦ inl (eqb-true o.bank i one)
  | inr two ↦ inr (eqb-true o.bank j two)
]

pub owner-two : (i j : ℕ) (o : Resting) → (o.bank ≡ i) ⊎ (o.bank ≡ j) → is_of_two i j o ≡ true
owner-two i j o (inl one) = or_left (eqb o.bank i) (eqb o.bank j) (eq-eqb o.bank i one)
owner-two i j o (inr two) = or_right (eqb o.bank i) (eqb o.bank j) (eq-eqb o.bank j two)

pub first-two : (i j : ℕ) (o : Resting) (b : ℕ) → are_the_two i j o.bank b ≡ true → is_of_two i j o ≡ true
first-two i j o b is = owner-two i j o (elim (the_two-cases i j o.bank b is) [ inl one ↦ inl one.0 | inr two ↦ inr two.0 ])

pub second-two : (i j : ℕ) (o : Resting) (b : ℕ) → are_the_two i j b o.bank ≡ true → is_of_two i j o ≡ true
second-two i j o b is = owner-two i j o (elim (the_two-cases i j b o.bank is) [ inl one ↦ inr one.1 | inr two ↦ inl two.1 ])

-- ---- what is open

-- two orders of other banks do not cross
not_crossed : (h : Header) (X : State) (pair i j : ℕ) (now o : Resting) (side other : Side) → NoCrossBut h X pair i j → Among now (orders_in pair X.orders) → Among o (orders_in pair X.orders) → now.side ≡ side → o.side ≡ other → is_opposite side other ≡ true → o.bank ≢ now.bank → are_the_two i j o.bank now.bank ≡ false → 1 ≤ reach h X now.bank o.bank pair → crosses side now.price o.price ≡ true → ⊥
not_crossed h X pair i j now o Buy Buy apart rests o_rests now_is o_is opposite differ not_two reached crossed = false≢true opposite
not_crossed h X pair i j now o Buy Sell apart rests o_rests now_is o_is opposite differ not_two reached crossed =
    let below : now.price < o.price = apart now o rests o_rests now_is o_is (λ same. differ (sym same)) (the_two-swap i j now.bank o.bank ∙ not_two) reached in
    omega (arith, below, leb-true o.price now.price crossed)
not_crossed h X pair i j now o Sell Buy apart rests o_rests now_is o_is opposite differ not_two reached crossed =
    let below : o.price < now.price = apart o now o_rests rests o_is now_is differ not_two (omega (arith, reached, reach_swap h X now.bank o.bank pair)) in
    omega (arith, below, leb-true now.price o.price crossed)
not_crossed h X pair i j now o Sell Sell apart rests o_rests now_is o_is opposite differ not_two reached crossed = false≢true opposite

-- what is open to a resting order is between the two banks
pub open_between : (h : Header) (X : State) (pair i j : ℕ) (now o : Resting) → NoCrossBut h X pair i j → Among now (orders_in pair X.orders) → Among o (open_orders h X (taker_of_resting pair now)) → are_the_two i j o.bank now.bank ≡ true
open_between h X pair i j now o apart rests opens =
    let t : Taker = taker_of_resting pair now in
    let found = Among-filter (λ (q : Resting). is_open t (reach h X t.bank q.bank t.pair) q) (orders_in pair X.orders) o opens in
    let says : IsOpen t (reach h X now.bank o.bank pair) o = is_open-says t (reach h X now.bank o.bank pair) o found.1 in
    elim (cases_Bool (are_the_two i j o.bank now.bank)) [
      | inl are ↦ are
      | inr not_two ↦ absurd (not_crossed h X pair i j now o now.side o.side apart rests found.0 refl refl says.opposite says.other not_two says.reach says.crosses)
    ]

pub none_in : {X : Type 0} (xs : List X) → ((x : X) → Among x xs → ⊥) → xs ≡ []
none_in [] none = refl
none_in (x ∷ xs) none = absurd (none x (inl refl))

-- to a third bank's order nothing is open
pub third-closed : (h : Header) (X : State) (pair i j : ℕ) (now : Resting) → NoCrossBut h X pair i j → Among now (orders_in pair X.orders) → is_of_two i j now ≡ false → open_orders h X (taker_of_resting pair now) ≡ []
third-closed h X pair i j now apart rests third =
    none_in (open_orders h X (taker_of_resting pair now)) (λ o opens.
    both_ways (is_of_two i j now) third (second-two i j now o.bank (open_between h X pair i j now o apart rests opens)))
