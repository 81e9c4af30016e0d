-- Use, what is spent and lines, and what a fill does to them.
use Rattle.std.proofs.Common.{ℕ, ◌≡◌, ◌≢◌, ◌+◌, ◌-◌, ◌≤◌, ◌<◌, min, Bool, true, false, ◌&&◌, ◌||◌, eqb, List, [], ◌∷◌, ◌++◌, ◌⊎◌, inl, inr, refl, ap, sym, subst, ◌∙◌, arith, add-zero, Option, Some, None}
use Rattle.std.proofs.lemmas.Bool.{cases_Bool, cases_eq, or_cases, or_left, or_from, and_left, and_right, and_parts, and_from, eqb-true, eq-eqb, ne_eqb}
use Rattle.std.proofs.lemmas.List.Elements.{filter-append, filter_agree}
use Rattle.std.specs.List.{filter}
use Rattle.std.specs.Option.{option_map}
use Rattle.fx_rules.specs.declared.orders.Fill.{Fill}
use Rattle.fx_rules.specs.Lists.{total}
use Rattle.fx_rules.specs.Session.{Header, bank_count}
use Rattle.fx_rules.specs.State.{State, Settlement, is_between, cost, cost_between, settles, settled_between, used, others, spent, headroom, at_most, left_of_limits, line, Within}
use Rattle.fx_rules.specs.Sweep.{filled}
use Rattle.fx_rules.specs.Sound.{IsCovered}
use Rattle.fx_rules.proofs.ListLemmas.{total-append, filter_cons_true, filter_cons_false}
use Rattle.fx_rules.proofs.Totals.{total_rises, total_adds, total_others-one, total_others-none}

or_swap : (a b : Bool) → (a || b) ≡ (b || a)
or_swap true true = refl
or_swap true false = refl
or_swap false true = refl
or_swap false false = refl

pub is_between-swap : (i j : ℕ) (f : Fill) → is_between i j f ≡ is_between j i f
is_between-swap i j f = or_swap (eqb f.taker i && eqb f.maker j) (eqb f.taker j && eqb f.maker i)

pub cost_between-swap : (h : Header) (i j : ℕ) (fills : List Fill) → cost_between h i j fills ≡ cost_between h j i fills
cost_between-swap h i j fills = ap (total (cost h)) (filter_agree (is_between i j) (is_between j i) (is_between-swap i j) fills)

pub cost_between-append : (h : Header) (i j : ℕ) (xs ys : List Fill) → cost_between h i j (xs ++ ys) ≡ cost_between h i j xs + cost_between h i j ys
cost_between-append h i j xs ys =
    ap (total (cost h)) (filter-append (is_between i j) xs ys) ∙ total-append (cost h) (filter (is_between i j) xs) (filter (is_between i j) ys)

pub cost_between-one : (h : Header) (i j : ℕ) (f : Fill) → is_between i j f ≡ true → cost_between h i j (f ∷ []) ≡ cost h f
cost_between-one h i j f is = ap (total (cost h)) (filter_cons_true (is_between i j) f [] is) ∙ add-zero (cost h f)

pub cost_between-other : (h : Header) (i j : ℕ) (f : Fill) → is_between i j f ≡ false → cost_between h i j (f ∷ []) ≡ 0
cost_between-other h i j f is = ap (total (cost h)) (filter_cons_false (is_between i j) f [] is)

settles-swap : (i j : ℕ) (s : Settlement) → settles i j s ≡ settles j i s
settles-swap i j s = or_swap (eqb s.a i && eqb s.b j) (eqb s.a j && eqb s.b i)

pub settled_between-swap : (i j : ℕ) (settlements : List Settlement) → settled_between i j settlements ≡ settled_between j i settlements
settled_between-swap i j settlements =
    ap (total (λ (s : Settlement). s.units)) (filter_agree (settles i j) (settles j i) (settles-swap i j) settlements)

pub settled_between-append : (i j : ℕ) (xs ys : List Settlement) → settled_between i j (xs ++ ys) ≡ settled_between i j xs + settled_between i j ys
settled_between-append i j xs ys =
    ap (total (λ (s : Settlement). s.units)) (filter-append (settles i j) xs ys)
    ∙ total-append (λ (s : Settlement). s.units) (filter (settles i j) xs) (filter (settles i j) ys)

pub settled_between-one : (i j : ℕ) (s : Settlement) → settles i j s ≡ true → settled_between i j (s ∷ []) ≡ s.units
settled_between-one i j s is = ap (total (λ (r : Settlement). r.units)) (filter_cons_true (settles i j) s [] is) ∙ add-zero s.units

pub settled_between-other : (i j : ℕ) (s : Settlement) → settles i j s ≡ false → settled_between i j (s ∷ []) ≡ 0
settled_between-other i j s is = ap (total (λ (r : Settlement). r.units)) (filter_cons_false (settles i j) s [] is)

pub used-swap : (h : Header) (S : State) (i j : ℕ) → used h S i j ≡ used h S j i
used-swap h S i j = omega (arith, cost_between-swap h i j S.fills, settled_between-swap i j S.settlements)

-- the two banks of a fill, in one order or the other
pub between_cases : (i j : ℕ) (f : Fill) → is_between i j f ≡ true → ((f.taker ≡ i) × (f.maker ≡ j)) ⊎ ((f.taker ≡ j) × (f.maker ≡ i))
between_cases i j f is =
    elim (or_cases (eqb f.taker i && eqb f.maker j) (eqb f.taker j && eqb f.maker i) is) [
      | inl here ↦ let p = and_parts (eqb f.taker i) (eqb f.maker j) here in inl (eqb-true f.taker i p.0, eqb-true f.maker j p.1)
      | inr here ↦ let p = and_parts (eqb f.taker j) (eqb f.maker i) here in inr (eqb-true f.taker j p.0, eqb-true f.maker i p.1)
    ]

-- the banks of a settlement, likewise
pub settles_cases : (i j : ℕ) (s : Settlement) → settles i j s ≡ true → ((s.a ≡ i) × (s.b ≡ j)) ⊎ ((s.a ≡ j) × (s.b ≡ i))
settles_cases i j s is =
    elim (or_cases (eqb s.a i && eqb s.b j) (eqb s.a j && eqb s.b i) is) [
      | inl here ↦ let p = and_parts (eqb s.a i) (eqb s.b j) here in inl (eqb-true s.a i p.0, eqb-true s.b j p.1)
      | inr here ↦ let p = and_parts (eqb s.a j) (eqb s.b i) here in inr (eqb-true s.a j p.0, eqb-true s.b i p.1)
    ]

-- a fill is between its banks
pub between-own : (f : Fill) → is_between f.taker f.maker f ≡ true
between-own f =
    or_left (eqb f.taker f.taker && eqb f.maker f.maker) (eqb f.taker f.maker && eqb f.maker f.taker)
    (and_from (eqb f.taker f.taker) (eqb f.maker f.maker) (eq-eqb f.taker f.taker refl) (eq-eqb f.maker f.maker refl))

-- it is not between others: of the two banks that are asked about one is none of its own
pub between-none : (i k : ℕ) (f : Fill) → i ≢ f.taker → i ≢ f.maker → is_between i k f ≡ false
between-none i k f not_taker not_maker =
    or_from (eqb f.taker i && eqb f.maker k) (eqb f.taker k && eqb f.maker i)
    (and_left (eqb f.taker i) (eqb f.maker k) (ne_eqb f.taker i (λ e. not_taker (sym e))))
    (and_right (eqb f.taker k) (eqb f.maker i) (ne_eqb f.maker i (λ e. not_maker (sym e))))

-- and of one of its banks it is with the other one alone
between_only : (i j k : ℕ) (f : Fill) → i ≢ j → is_between i j f ≡ true → k ≢ j → is_between i k f ≡ false
between_only i j k f differ is not_other =
    elim (between_cases i j f is) [
      | inl same ↦
          or_from (eqb f.taker i && eqb f.maker k) (eqb f.taker k && eqb f.maker i)
          (and_right (eqb f.taker i) (eqb f.maker k) (ne_eqb f.maker k (λ e. not_other (sym e ∙ same.1))))
          (and_right (eqb f.taker k) (eqb f.maker i) (ne_eqb f.maker i (λ e. differ (sym e ∙ same.1))))
      | inr same ↦
          or_from (eqb f.taker i && eqb f.maker k) (eqb f.taker k && eqb f.maker i)
          (and_left (eqb f.taker i) (eqb f.maker k) (ne_eqb f.taker i (λ e. differ (sym e ∙ same.0))))
          (and_left (eqb f.taker k) (eqb f.maker i) (ne_eqb f.taker k (λ e. not_other (sym e ∙ same.0))))
    ]

-- ---- what a fill adds to use, and to what is spent

-- A fill that the credit allows: between two banks, for a lot at least, within their line.
pub record IsAllowed (h : Header) (S : State) (f : Fill) : Type 0 where
  pub differ : f.taker ≢ f.maker
  pub taker : f.taker < bank_count h
  pub maker : f.maker < bank_count h
  pub least : 1 ≤ f.lots
  pub credit : cost h f ≤ line h S f.taker f.maker

pub used-filled : (h : Header) (S : State) (f : Fill) (i j : ℕ) → IsCovered h S → used h (filled S f) i j ≡ used h S i j + cost_between h i j (f ∷ [])
used-filled h S f i j covered = omega (arith, covered i j, cost_between-append h i j S.fills (f ∷ []))

used-between : (h : Header) (S : State) (f : Fill) (i j : ℕ) → IsCovered h S → is_between i j f ≡ true → used h (filled S f) i j ≡ used h S i j + cost h f
used-between h S f i j covered is = omega (arith, used-filled h S f i j covered, cost_between-one h i j f is)

used-apart : (h : Header) (S : State) (f : Fill) (i j : ℕ) → is_between i j f ≡ false → used h (filled S f) i j ≡ used h S i j
used-apart h S f i j is_not = omega (arith, cost_between-append h i j S.fills (f ∷ []), cost_between-other h i j f is_not)

-- use is no less after a fill, whatever was given back
used-rises : (h : Header) (S : State) (f : Fill) (i j : ℕ) → used h S i j ≤ used h (filled S f) i j
used-rises h S f i j = omega (arith, cost_between-append h i j S.fills (f ∷ []))

spent-rises : (h : Header) (S : State) (f : Fill) (i : ℕ) → spent h S i ≤ spent h (filled S f) i
spent-rises h S f i = total_rises (used h S i) (used h (filled S f) i) (others h i) (used-rises h S f i)

-- what a bank has spent rises by the cost of a fill that it makes with any other bank
pub spent-filled : (h : Header) (S : State) (f : Fill) (i : ℕ) → IsCovered h S → spent h (filled S f) i ≡ spent h S i + total (λ j. cost_between h i j (f ∷ [])) (others h i)
spent-filled h S f i covered =
    total_adds (used h S i) (used h (filled S f) i) (λ j. cost_between h i j (f ∷ [])) (others h i) (λ j. used-filled h S f i j covered)

pub spent-between : (h : Header) (S : State) (f : Fill) (i j : ℕ) → IsCovered h S → j < bank_count h → i ≢ j → is_between i j f ≡ true → spent h (filled S f) i ≡ spent h S i + cost h f
spent-between h S f i j covered j_in differ is =
    let one : total (λ k. cost_between h i k (f ∷ [])) (others h i) ≡ cost_between h i j (f ∷ []) =
    total_others-one h i j (λ k. cost_between h i k (f ∷ [])) j_in (λ e. differ (sym e))
    (λ k not_other. cost_between-other h i k f (between_only i j k f differ is not_other)) in
    omega (arith, spent-filled h S f i covered, one, cost_between-one h i j f is)

-- a bank that makes no fill has spent what it had
pub spent-other : (h : Header) (S : State) (f : Fill) (i : ℕ) → IsCovered h S → i ≢ f.taker → i ≢ f.maker → spent h (filled S f) i ≡ spent h S i
spent-other h S f i covered not_taker not_maker =
    let none : total (λ k. cost_between h i k (f ∷ [])) (others h i) ≡ 0 =
    total_others-none h i (λ k. cost_between h i k (f ∷ [])) (λ k. cost_between-other h i k f (between-none i k f not_taker not_maker)) in
    omega (arith, spent-filled h S f i covered, none)

-- ---- lines: the bounds by what limits and totals leave

-- what a total leaves, less what is spent of it
abbrev pub room_less : Option ℕ → ℕ → Option ℕ
room_less room units = option_map (λ left. left - units) room

less_less : (most spent units : ℕ) → most - (spent + units) ≡ most - spent - units
less_less most spent units = omega arith

room_by : (total : Option ℕ) (before now units : ℕ) → now ≡ before + units → option_map (λ most. most - now) total ≡ room_less (option_map (λ most. most - before) total) units
room_by None before now units more = refl
room_by (Some most) before now units more = ap (λ n. Some (most - n)) more ∙ ap Some (less_less most before units)

pub headroom-by : (h : Header) (S : State) (f : Fill) (i units : ℕ) → spent h (filled S f) i ≡ spent h S i + units → headroom h (filled S f) i ≡ room_less (headroom h S i) units
headroom-by h S f i units more = room_by (S.totals i) (spent h S i) (spent h (filled S f) i) units more

most_swap : (a b : Option ℕ) (n : ℕ) → at_most a (at_most b n) ≡ at_most b (at_most a n)
most_swap None b n = refl
most_swap (Some x) None n = refl
most_swap (Some x) (Some y) n = omega arith

most_within : (o : Option ℕ) (n : ℕ) → at_most o n ≤ n
most_within None n = omega arith
most_within (Some most) n = omega arith

most_falls : (o : Option ℕ) (a b m n : ℕ) → a ≤ b → m ≤ n → at_most (option_map (λ most. most - b) o) m ≤ at_most (option_map (λ most. most - a) o) n
most_falls None a b m n spent less = less
most_falls (Some most) a b m n spent less = omega (arith, spent, less)

pub most_pays : (o : Option ℕ) (n m units : ℕ) → m ≡ n - units → at_most (room_less o units) m ≡ at_most o n - units
most_pays None n m units less = less
most_pays (Some most) n m units less = omega (arith, less)

-- where a number bounds two alike, the lesser number does
pub most_same : (o : Option ℕ) (m n units : ℕ) → at_most o m ≡ at_most o n → at_most (room_less o units) m ≡ at_most (room_less o units) n
most_same None m n units same = same
most_same (Some most) m n units same = omega (arith, same)

-- What is used of a line: it is at most what the limits leave, no fill raises one, and a fill lowers its own by its cost.

pub line-within : (h : Header) (S : State) (i j : ℕ) → line h S i j ≤ left_of_limits h S i j
line-within h S i j =
    omega (arith, most_within (headroom h S i) (at_most (headroom h S j) (left_of_limits h S i j)), most_within (headroom h S j) (left_of_limits h S i j))

-- it is at most what the total of either leaves
room_within : (total : Option ℕ) (most spent n : ℕ) → total ≡ Some most → at_most (option_map (λ m. m - spent) total) n ≤ most - spent
room_within None most spent n has = cc
room_within (Some m) most spent n has = let same : m ≡ most = cc in omega (arith, same)

pub line-within_total : (h : Header) (S : State) (i j most : ℕ) → S.totals i ≡ Some most → line h S i j ≤ most - spent h S i
line-within_total h S i j most has = room_within (S.totals i) most (spent h S i) (at_most (headroom h S j) (left_of_limits h S i j)) has

pub line_swap : (h : Header) (S : State) (i j : ℕ) → line h S i j ≡ line h S j i
line_swap h S i j =
    most_swap (headroom h S i) (headroom h S j) (left_of_limits h S i j)
    ∙ ap (λ n. at_most (headroom h S j) (at_most (headroom h S i) n)) (omega (arith, used-swap h S i j))

pub line-falls : (h : Header) (S : State) (f : Fill) (i j : ℕ) → line h (filled S f) i j ≤ line h S i j
line-falls h S f i j =
    most_falls (S.totals i) (spent h S i) (spent h (filled S f) i)
    (at_most (headroom h (filled S f) j) (left_of_limits h (filled S f) i j)) (at_most (headroom h S j) (left_of_limits h S i j))
    (spent-rises h S f i)
    (most_falls (S.totals j) (spent h S j) (spent h (filled S f) j) (left_of_limits h (filled S f) i j) (left_of_limits h S i j) (spent-rises h S f j)
    (omega (arith, used-rises h S f i j)))

pub line-pays : (h : Header) (S : State) (f : Fill) (i j : ℕ) → IsCovered h S → i < bank_count h → j < bank_count h → i ≢ j → is_between i j f ≡ true → line h (filled S f) i j ≡ line h S i j - cost h f
line-pays h S f i j covered i_in j_in differ is =
    let back : is_between j i f ≡ true = sym (is_between-swap i j f) ∙ is in
    let first : headroom h (filled S f) i ≡ room_less (headroom h S i) (cost h f) = headroom-by h S f i (cost h f) (spent-between h S f i j covered j_in differ is) in
    let second : headroom h (filled S f) j ≡ room_less (headroom h S j) (cost h f) =
    headroom-by h S f j (cost h f) (spent-between h S f j i covered i_in (λ e. differ (sym e)) back) in
    let limits : left_of_limits h (filled S f) i j ≡ left_of_limits h S i j - cost h f = omega (arith, used-between h S f i j covered is) in
    ap (λ o. at_most o (at_most (headroom h (filled S f) j) (left_of_limits h (filled S f) i j))) first
    ∙ ap (λ o. at_most (room_less (headroom h S i) (cost h f)) (at_most o (left_of_limits h (filled S f) i j))) second
    ∙ most_pays (headroom h S i) (at_most (headroom h S j) (left_of_limits h S i j)) (at_most (room_less (headroom h S j) (cost h f)) (left_of_limits h (filled S f) i j)) (cost h f)
    (most_pays (headroom h S j) (left_of_limits h S i j) (left_of_limits h (filled S f) i j) (cost h f) limits)

-- what a bank has of its line with a third bank, after its fill with another
pub line-other : (h : Header) (S : State) (f : Fill) (i j k : ℕ) → IsCovered h S → j < bank_count h → i ≢ j → is_between i j f ≡ true → k ≢ i → k ≢ j → line h (filled S f) i k ≡ at_most (room_less (headroom h S i) (cost h f)) (at_most (headroom h S k) (left_of_limits h S i k))
line-other h S f i j k covered j_in differ is not_own not_other =
    let same : used h (filled S f) i k ≡ used h S i k = used-apart h S f i k (between_only i j k f differ is not_other) in
    let first : headroom h (filled S f) i ≡ room_less (headroom h S i) (cost h f) = headroom-by h S f i (cost h f) (spent-between h S f i j covered j_in differ is) in
    let outside : (k ≢ f.taker) × (k ≢ f.maker) = elim (between_cases i j f is) [
      | inl banks ↦ ((λ e. not_own (e ∙ banks.0)), (λ e. not_other (e ∙ banks.1)))
      | inr banks ↦ ((λ e. not_other (e ∙ banks.0)), (λ e. not_own (e ∙ banks.1)))
    ] in
    let third : spent h (filled S f) k ≡ spent h S k = spent-other h S f k covered outside.0 outside.1 in
    ap (λ o. at_most o (at_most (headroom h (filled S f) k) (left_of_limits h (filled S f) i k))) first
    ∙ ap (λ n. at_most (room_less (headroom h S i) (cost h f)) (at_most (option_map (λ most. most - n) (S.totals k)) (left_of_limits h (filled S f) i k))) third
    ∙ ap (λ n. at_most (room_less (headroom h S i) (cost h f)) (at_most (headroom h S k) (min (S.limits i k) (S.limits k i) - n))) same

-- ---- a fill that the credit allows exceeds no line

within_numbers : (u v a b c : ℕ) → u ≤ a → v ≤ b → u ≡ v → c ≤ min a b - u → u + c ≤ min a b
within_numbers u v a b c there back same credit = omega arith

within_one : (h : Header) (S : State) (f : Fill) → Within h S → IsAllowed h S f → used h S f.taker f.maker + cost h f ≤ min (S.limits f.taker f.maker) (S.limits f.maker f.taker)
within_one h S f within allowed =
    within_numbers (used h S f.taker f.maker) (used h S f.maker f.taker) (S.limits f.taker f.maker) (S.limits f.maker f.taker) (cost h f)
    (within.lines f.taker f.maker allowed.taker allowed.maker allowed.differ)
    (within.lines f.maker f.taker allowed.maker allowed.taker (λ e. allowed.differ (sym e)))
    (used-swap h S f.taker f.maker) (omega (arith, allowed.credit, line-within h S f.taker f.maker))

fits_here : (h : Header) (S : State) (f : Fill) (i j : ℕ) → f.taker ≡ i → f.maker ≡ j → used h S f.taker f.maker + cost h f ≤ min (S.limits f.taker f.maker) (S.limits f.maker f.taker) → used h S i j + cost h f ≤ S.limits i j
fits_here h S f i j t m all =
    let P : ℕ → ℕ → Type 0 = λ a b. used h S a b + cost h f ≤ S.limits a b in
    let here : P f.taker f.maker = omega arith in
    subst (λ a. P a j) t (subst (P f.taker) m here)

fits_there : (h : Header) (S : State) (f : Fill) (i j : ℕ) → f.taker ≡ j → f.maker ≡ i → used h S f.taker f.maker + cost h f ≤ min (S.limits f.taker f.maker) (S.limits f.maker f.taker) → used h S i j + cost h f ≤ S.limits i j
fits_there h S f i j t m all =
    let swap : used h S f.taker f.maker ≡ used h S f.maker f.taker = used-swap h S f.taker f.maker in
    let P : ℕ → ℕ → Type 0 = λ a b. used h S a b + cost h f ≤ S.limits a b in
    let here : P f.maker f.taker = omega arith in
    subst (λ a. P a j) m (subst (P f.maker) t here)

lines-filled : (h : Header) (S : State) (f : Fill) → IsCovered h S → Within h S → IsAllowed h S f → (i j : ℕ) → i < bank_count h → j < bank_count h → i ≢ j → used h (filled S f) i j ≤ S.limits i j
lines-filled h S f covered within allowed i j i_in j_in differ =
    elim (cases_Bool (is_between i j f)) [
      | inl is ↦
          let fits : used h S i j + cost h f ≤ S.limits i j = elim (between_cases i j f is) [
            | inl same ↦ fits_here h S f i j same.0 same.1 (within_one h S f within allowed)
            | inr same ↦ fits_there h S f i j same.0 same.1 (within_one h S f within allowed)
          ] in
          omega (arith, fits, used-between h S f i j covered is)
      | inr is ↦ omega (arith, within.lines i j i_in j_in differ, used-apart h S f i j is)
    ]

totals_numbers : (spent now cost most line : ℕ) → now ≡ spent + cost → spent ≤ most → cost ≤ line → line ≤ most - spent → now ≤ most
totals_numbers spent now cost most line more within credit least = omega arith

-- the taker and the maker have both a line that pays for the fill
totals-filled : (h : Header) (S : State) (f : Fill) → IsCovered h S → Within h S → IsAllowed h S f → (i most : ℕ) → i < bank_count h → S.totals i ≡ Some most → spent h (filled S f) i ≤ most
totals-filled h S f covered within allowed i most i_in has =
    let had : spent h S i ≤ most = within.totals i most i_in has in
    elim (cases_eq i f.taker) [
      | inl taker ↦
          let is : is_between i f.maker f ≡ true = subst (λ n. is_between n f.maker f ≡ true) (sym taker) (between-own f) in
          totals_numbers (spent h S i) (spent h (filled S f) i) (cost h f) most (line h S i f.maker)
          (spent-between h S f i f.maker covered allowed.maker (λ e. allowed.differ (sym taker ∙ e)) is) had
          (subst (λ n. cost h f ≤ line h S n f.maker) (sym taker) allowed.credit) (line-within_total h S i f.maker most has)
      | inr not_taker ↦ elim (cases_eq i f.maker) [
        | inl maker ↦
            let is : is_between i f.taker f ≡ true = subst (λ n. is_between n f.taker f ≡ true) (sym maker) (sym (is_between-swap f.taker f.maker f) ∙ between-own f) in
            let credit : cost h f ≤ line h S i f.taker =
            subst (λ n. cost h f ≤ line h S n f.taker) (sym maker) (omega (arith, allowed.credit, line_swap h S f.taker f.maker)) in
            totals_numbers (spent h S i) (spent h (filled S f) i) (cost h f) most (line h S i f.taker)
            (spent-between h S f i f.taker covered allowed.taker not_taker is) had credit (line-within_total h S i f.taker most has)
        | inr not_maker ↦ omega (arith, had, spent-other h S f i covered not_taker not_maker)
      ]
    ]

pub Within-filled : (h : Header) (S : State) (f : Fill) → IsCovered h S → Within h S → IsAllowed h S f → Within h (filled S f)
Within-filled h S f covered within allowed = record {
  lines = lines-filled h S f covered within allowed;
  totals = totals-filled h S f covered within allowed;
}

pub covered-filled : (h : Header) (S : State) (f : Fill) → IsCovered h S → IsCovered h (filled S f)
covered-filled h S f covered i j = omega (arith, covered i j, cost_between-append h i j S.fills (f ∷ []))
