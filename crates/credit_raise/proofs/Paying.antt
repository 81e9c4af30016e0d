-- What the fills of a play cost, and between whom they are.
use Rattle.std.proofs.Common.{ℕ, ◌≡◌, ◌≢◌, ◌+◌, ◌-◌, ◌*◌, ◌/◌, ◌≤◌, min, List, [], ◌∷◌, ◌⊎◌, refl, ap, sym, subst, ◌∙◌, arith}
use Rattle.std.proofs.Math.Nat.{add-mul, div_self, mul-le-mul_left}
use Rattle.std.proofs.lemmas.Bool.{le-leb}
use Rattle.fx_rules.specs.declared.orders.Resting.{Resting}
use Rattle.fx_rules.specs.declared.orders.Fill.{Fill}
use Rattle.fx_rules.specs.Lists.{Each}
use Rattle.fx_rules.specs.Sweep.{Taker, less}
use Rattle.fx_rules.specs.Raise.{taker_of_resting}
use Rattle.fx_rules.proofs.ListLemmas.{Each-append, total-append}
use Rattle.fx_rules.proofs.Planning.{div_mono}
use Rattle.credit_raise.specs.Two.{IsFillOf, lots_of}
use Rattle.credit_raise.specs.inside.Playing.{only, other_of, lessened, lessened_all, joined, paid, SweptAmong, Played}
use Rattle.credit_raise.proofs.Playing.{maker-of}
use Rattle.credit_raise.proofs.Looking.{reached_is}
use Rattle.credit_raise.proofs.Meeting.{fill-between}

least_last : (a b r : ℕ) → min a (min b r) ≤ r
least_last a b r = omega arith

-- a line of a lot's cost or more pays for a lot
pub pays-one : (line weight : ℕ) → 1 ≤ weight → weight ≤ line → 1 ≤ line / weight
pays-one line weight some enough = omega (arith, div_mono weight line weight some enough, div_self some)

one_cost : (lots line weight : ℕ) → 1 ≤ weight → lots ≤ line / weight → lots * weight ≤ line
one_cost lots line weight some most = omega (arith, mul-le-mul_left weight most)

cost_numbers : (first rest weight left line : ℕ) → first * weight ≤ line → rest * weight + left ≡ line - first * weight → (first + rest) * weight + left ≡ line
cost_numbers first rest weight left line fits is = omega (arith, add-mul first rest weight, fits, is)

-- a sweep's fills are paid for by what the line falls
pub swept-cost : (weight other line : ℕ) (waiting : List Resting) (t : Taker) (own : List Fill) (left : ℕ) → 1 ≤ weight → SweptAmong weight other line waiting t own left → lots_of own * weight + paid weight line own ≡ line
swept-cost weight other line waiting t [] left some swept = omega arith
swept-cost weight other line waiting t (f ∷ own) left some swept =
    let best : Resting = swept.0 in
    let most : f.lots ≤ line / weight = omega (arith, ap (λ (g : Fill). g.lots) swept.3, least_last t.left best.left (line / weight)) in
    cost_numbers f.lots (lots_of own) weight (paid weight (line - f.lots * weight) own) line (one_cost f.lots line weight some most)
    (swept-cost weight other (line - f.lots * weight) (lessened f.maker f.maker_number f.lots waiting) (less t f.lots) own left some swept.4)

pub played-cost : (pair weight i j line : ℕ) (waiting orders : List Resting) (fills : List Fill) → 1 ≤ weight → Played pair weight i j line waiting orders fills → lots_of fills * weight ≤ line
played-cost pair weight i j line waiting [] fills some played = subst (λ (fs : List Fill). lots_of fs * weight ≤ line) (sym played) (omega arith)
played-cost pair weight i j line waiting (order ∷ orders) fills some played =
    let own : List Fill = played.0 in
    let more : List Fill = played.1 in
    let first = swept-cost weight (other_of i j order.bank) line waiting (taker_of_resting pair order) own played.2 some played.3 in
    let rest = played-cost pair weight i j (paid weight line own) (joined order played.2 (lessened_all waiting own)) orders more some played.5 in
    subst (λ (fs : List Fill). lots_of fs * weight ≤ line) (sym played.4)
    (omega (arith, first, rest, add-mul (lots_of own) (lots_of more) weight, ap (λ n. n * weight) (total-append (λ (f : Fill). f.lots) own more)))

-- a sweep's fills are between its order and those of the other bank
swept-parties : (pair weight i j line : ℕ) (waiting : List Resting) (t : Taker) (own : List Fill) (left : ℕ) → i ≢ j → t.pair ≡ pair → (t.bank ≡ i) ⊎ (t.bank ≡ j) → SweptAmong weight (other_of i j t.bank) line waiting t own left → Each (IsFillOf pair i j) own
swept-parties pair weight i j line waiting t [] left differ pair_is owner swept = tt
swept-parties pair weight i j line waiting t (f ∷ own) left differ pair_is owner swept =
    let other : ℕ = other_of i j t.bank in
    let best : Resting = swept.0 in
    let maker = maker-of (line / weight) other t waiting best swept.2.there in
    let maker_is : best.bank ≡ other = reached_is other (line / weight) best.bank (le-leb 1 (only other (line / weight) best.bank) maker.opens.reach) in (
      record {
        pair_is = ap (λ (g : Fill). g.pair) swept.3 ∙ pair_is;
        between = fill-between i j t.bank f owner differ (ap (λ (g : Fill). g.taker) swept.3) (ap (λ (g : Fill). g.maker) swept.3 ∙ maker_is);
      },
      swept-parties pair weight i j (line - f.lots * weight) (lessened f.maker f.maker_number f.lots waiting) (less t f.lots) own left differ pair_is owner swept.4,
    )

pub played-parties : (pair weight i j line : ℕ) (waiting orders : List Resting) (fills : List Fill) → i ≢ j → Each (λ (o : Resting). (o.bank ≡ i) ⊎ (o.bank ≡ j)) orders → Played pair weight i j line waiting orders fills → Each (IsFillOf pair i j) fills
played-parties pair weight i j line waiting [] fills differ owners played = subst (Each (IsFillOf pair i j)) (sym played) tt
played-parties pair weight i j line waiting (order ∷ orders) fills differ owners played =
    subst (Each (IsFillOf pair i j)) (sym played.4)
    (Each-append (IsFillOf pair i j) played.0 played.1
    (swept-parties pair weight i j line waiting (taker_of_resting pair order) played.0 played.2 differ refl owners.0 played.3)
    (played-parties pair weight i j (paid weight line played.0) (joined order played.2 (lessened_all waiting played.0)) orders played.1 differ owners.1 played.5))
