-- The steps of a planned sweep by a table of lines, what it fills in all, and the sweep that it is.
use Rattle.std.proofs.Common.{ℕ, ◌≡◌, ◌≢◌, ◌+◌, ◌-◌, ◌*◌, ◌/◌, ◌≤◌, ◌<◌, min, Bool, true, false, cond, ◌&&◌, eqb, List, [], ◌∷◌, inl, inr, refl, ap, sym, subst, ◌∙◌, arith, length, get_or, Option, Some, None, get_or-set_same, get_or-set_other}
use Rattle.std.proofs.Math.ListN.{set}
use Rattle.std.proofs.Math.Path.{fun_ext}
use Rattle.std.proofs.Math.Nat.{mul-le-mul_left, div-mul-le_self, div-le_self}
use Rattle.std.proofs.lemmas.Bool.{both_ways, cases_Bool, cases_eq, cond-true, cond-false, and_parts, eqb-true, eqb-false, ne_eqb, cases_lt}
use Rattle.std.proofs.lemmas.List.{get_or_past}
use Rattle.std.specs.List.{filter}
use Rattle.fx_rules.specs.declared.orders.Resting.{Resting}
use Rattle.fx_rules.specs.declared.orders.Fill.{Fill}
use Rattle.fx_rules.specs.Lists.{Among, total}
use Rattle.fx_rules.specs.Session.{Header, bank_count, weight_of}
use Rattle.fx_rules.specs.State.{State, orders_in, at_most, line, reach}
use Rattle.fx_rules.specs.Sweep.{Taker, is_open, open_orders, IsBest, amount, fill_with, less}
use Rattle.fx_rules.specs.Plan.{Planned, is_behind, open_behind, spend}
use Rattle.fx_rules.proofs.ListLemmas.{Each-among, Among-filter, filter_agree_on}
use Rattle.fx_rules.proofs.Opens.{is_open-says}
use Rattle.fx_rules.proofs.Capped.{affordable}
use Rattle.fx_rules.proofs.Planning.{open_own, Agrees}
use Rattle.fx_rules.proofs.PlanSwept.{planned-swept}
use Rattle.global_book.specs.Book.{Book, IsBook, IsHeld}
use Rattle.credit_lines.specs.Credit.{Credit, left_in, line_in, room_in}
use Rattle.credit_lines.proofs.MarketLemmas.{line_in-line, room_in-headroom}
use Rattle.match_sweep.specs.Sweeps.{IsSweep}
use Rattle.match_sweep.specs.inside.Walks.{AgreeInBook, AgreeOn, IsByLines}
use Rattle.match_sweep.proofs.Tables.{total-changed}

-- One step.

spent_here : (lines : List ℕ) (bank units other : ℕ) → bank < length lines → other ≡ bank → get_or (set lines bank (get_or lines bank 0 - units)) other 0 ≡ get_or lines other 0 - units
spent_here lines bank units other within same =
    ap (λ b. get_or (set lines bank (get_or lines bank 0 - units)) b 0) same ∙ get_or-set_same lines bank (get_or lines bank 0 - units) 0 within
    ∙ ap (λ b. get_or lines b 0 - units) (sym same)

-- what is left of one line in the table
pub spend-set : (lines : List ℕ) (bank units : ℕ) → bank < length lines → (λ other. get_or (set lines bank (get_or lines bank 0 - units)) other 0) ≡ spend (λ other. get_or lines other 0) bank units
spend-set lines bank units within =
    fun_ext
    (λ other. elim (cases_Bool (eqb other bank)) [
      | inl is ↦ spent_here lines bank units other within (eqb-true other bank is)
          ∙ sym (cond-true (eqb other bank) (get_or lines other 0 - units) (get_or lines other 0) is)
      | inr is_not ↦ get_or-set_other lines bank other (get_or lines bank 0 - units) 0 (eqb-false other bank is_not)
          ∙ sym (cond-false (eqb other bank) (get_or lines other 0 - units) (get_or lines other 0) is_not)
    ])

-- a fill with the best order, and then a sweep from behind it, are a sweep
pub walk-step : (weight : ℕ) (lines : List ℕ) (book : List Resting) (t : Taker) (last : Option Resting) (best : Resting) (lots : ℕ) (more : List Fill) (left : ℕ) → 1 ≤ t.left → IsBest t.side (open_behind (λ bank. get_or lines bank 0 / weight) t last book) best → lots ≡ amount t best (get_or lines best.bank 0 / weight) → best.bank < length lines → Planned weight (λ bank. get_or (set lines best.bank (get_or lines best.bank 0 - lots * weight)) bank 0) book (less t lots) (Some best) more left → Planned weight (λ bank. get_or lines bank 0) book t last (fill_with t best lots ∷ more) left
walk-step weight lines book t last best lots more left some is lots_are within planned = (
  best,
  some,
  is,
  ap (fill_with t best) lots_are,
  subst (λ (l : ℕ → ℕ). Planned weight l book (less t lots) (Some best) more left) (spend-set lines best.bank (lots * weight) within) planned,
)

-- a best open order is in reach
best-reach : (reaches : ℕ → ℕ) (book : List Resting) (t : Taker) (last : Option Resting) (best : Resting) → IsBest t.side (open_behind reaches t last book) best → 1 ≤ reaches best.bank
best-reach reaches book t last best is =
    let found = Among-filter (λ (o : Resting). is_open t (reaches o.bank) o && is_behind t.side last o) book best is.there in
    (is_open-says t (reaches best.bank) best (and_parts (is_open t (reaches best.bank) best) (is_behind t.side last best) found.1).0).reach

-- What a planned sweep fills and leaves is what its order wants.

least_first : (a b r : ℕ) → min a (min b r) ≤ a
least_first a b r = omega arith

least_last : (a b r : ℕ) → min a (min b r) ≤ r
least_last a b r = omega arith

fill_most : (t : Taker) (best : Resting) (r : ℕ) (f : Fill) → f ≡ fill_with t best (amount t best r) → f.lots ≤ t.left
fill_most t best r f is = subst (λ (g : Fill). g.lots ≤ t.left) (sym is) (least_first t.left best.left r)

fill_fits : (t : Taker) (best : Resting) (r : ℕ) (f : Fill) → f ≡ fill_with t best (amount t best r) → f.lots ≤ r
fill_fits t best r f is = subst (λ (g : Fill). g.lots ≤ r) (sym is) (least_last t.left best.left r)

pub planned-sum : (weight : ℕ) (lines : ℕ → ℕ) (book : List Resting) (t : Taker) (last : Option Resting) (fills : List Fill) (left : ℕ) → Planned weight lines book t last fills left → total (λ (f : Fill). f.lots) fills + left ≡ t.left
planned-sum weight lines book t last [] left planned = omega (arith, planned.0)
planned-sum weight lines book t last (f ∷ fills) left planned =
    let best : Resting = planned.0 in
    let rest : total (λ (g : Fill). g.lots) fills + left ≡ t.left - f.lots =
    planned-sum weight (spend lines best.bank (f.lots * weight)) book (less t f.lots) (Some best) fills left planned.4 in
    omega (arith, rest, fill_most t best (lines best.bank / weight) f planned.3)

-- It fills no more lots than its lines have units.

pub within_table : (lines : List ℕ) (bank : ℕ) → 1 ≤ get_or lines bank 0 → bank < length lines
within_table lines bank some =
    elim (cases_lt bank (length lines)) [
      | inl within ↦ within
      | inr past ↦ absurd (omega (arith, some, get_or_past lines bank 0 past))
    ]

pub lots_cost : (lots line weight : ℕ) → lots ≤ line / weight → lots * weight ≤ line
lots_cost lots line weight fits = omega (arith, mul-le-mul_left weight fits, div-mul-le_self line weight)

pub planned-paid : (weight : ℕ) (lines : List ℕ) (book : List Resting) (t : Taker) (last : Option Resting) (fills : List Fill) (left : ℕ) → 1 ≤ weight → Planned weight (λ bank. get_or lines bank 0) book t last fills left → total (λ (f : Fill). f.lots) fills ≤ total (λ (n : ℕ). n) lines
planned-paid weight lines book t last [] left some planned = omega arith
planned-paid weight lines book t last (f ∷ fills) left some planned =
    let best : Resting = planned.0 in
    let line : ℕ = get_or lines best.bank 0 in
    let units : ℕ = f.lots * weight in
    let fits : units ≤ line = lots_cost f.lots line weight (fill_fits t best (line / weight) f planned.3) in
    let pays : 1 ≤ line / weight = best-reach (λ bank. get_or lines bank 0 / weight) book t last best planned.2 in
    let within : best.bank < length lines = within_table lines best.bank (omega (arith, pays, div-le_self line weight)) in
    let rest : total (λ (g : Fill). g.lots) fills ≤ total (λ (n : ℕ). n) (set lines best.bank (line - units)) =
    planned-paid weight (set lines best.bank (line - units)) book (less t f.lots) (Some best) fills left some
    (subst (λ (l : ℕ → ℕ). Planned weight l book (less t f.lots) (Some best) fills left) (sym (spend-set lines best.bank units within)) planned.4) in
    omega (arith, rest, total-changed lines best.bank (line - units) within, fits, mul-le-mul_left f.lots some)

-- Two tables of lines that tell the same of each order of a book.

-- with an order that is open by one there is the same line by the other
pub agrees-open : (weight : ℕ) (lines others : ℕ → ℕ) (t : Taker) (o : Resting) → AgreeOn weight t lines others o → is_open t (lines o.bank / weight) o ≡ true → lines o.bank ≡ others o.bank
agrees-open weight lines others t o (inl same) open_it = same
agrees-open weight lines others t o (inr closed) open_it = absurd (both_ways (is_open t (lines o.bank / weight) o) closed.0 open_it)

same_test : (weight : ℕ) (lines others : ℕ → ℕ) (t : Taker) (o : Resting) → AgreeOn weight t lines others o → is_open t (lines o.bank / weight) o ≡ is_open t (others o.bank / weight) o
same_test weight lines others t o (inl same) = ap (λ line. is_open t (line / weight) o) same
same_test weight lines others t o (inr closed) = closed.0 ∙ sym closed.1

-- so the same orders are open
pub agrees-behind : (weight : ℕ) (lines others : ℕ → ℕ) (t : Taker) (last : Option Resting) (book : List Resting) → AgreeInBook weight t lines others book → open_behind (λ bank. lines bank / weight) t last book ≡ open_behind (λ bank. others bank / weight) t last book
agrees-behind weight lines others t last book agree =
    filter_agree_on (λ o. is_open t (lines o.bank / weight) o && is_behind t.side last o) (λ o. is_open t (others o.bank / weight) o && is_behind t.side last o) book
    (λ o there. ap (λ test. test && is_behind t.side last o) (same_test weight lines others t o (agree o there)))

spent_other : (lines : ℕ → ℕ) (bank units other : ℕ) → other ≢ bank → lines other ≡ spend lines bank units other
spent_other lines bank units other differ = sym (cond-false (eqb other bank) (lines other - units) (lines other) (ne_eqb other bank differ))

-- and once some of a line with which they agree is used
spent_agree : (weight : ℕ) (lines others : ℕ → ℕ) (t : Taker) (o : Resting) (bank units lots : ℕ) → lines bank ≡ others bank → AgreeOn weight t lines others o → AgreeOn weight (less t lots) (spend lines bank units) (spend others bank units) o
spent_agree weight lines others t o bank units lots here agree =
    let both = λ (same : lines o.bank ≡ others o.bank). ap (λ line. cond (eqb o.bank bank) (line - units) line) same in
    elim (cases_eq o.bank bank) [
      | inl same ↦ inl (both (ap lines same ∙ here ∙ sym (ap others same)))
      | inr differ ↦
          elim agree [
            | inl same ↦ inl (both same)
            | inr closed ↦ inr (
              subst (λ line. is_open t (line / weight) o ≡ false) (spent_other lines bank units o.bank differ) closed.0,
              subst (λ line. is_open t (line / weight) o ≡ false) (spent_other others bank units o.bank differ) closed.1,
            )
          ]
    ]

-- a sweep planned by one is planned by the other
pub planned-agrees : (weight : ℕ) (lines others : ℕ → ℕ) (book : List Resting) (t : Taker) (last : Option Resting) (fills : List Fill) (left : ℕ) → AgreeInBook weight t lines others book → Planned weight lines book t last fills left → Planned weight others book t last fills left
planned-agrees weight lines others book t last [] left agree planned = (
  planned.0,
  elim planned.1 [
    | inl whole ↦ inl whole
    | inr none ↦ inr (sym (agrees-behind weight lines others t last book agree) ∙ none)
  ],
)
planned-agrees weight lines others book t last (f ∷ fills) left agree planned =
    let best : Resting = planned.0 in
    let found = Among-filter (λ (o : Resting). is_open t (lines o.bank / weight) o && is_behind t.side last o) book best planned.2.there in
    let here : lines best.bank ≡ others best.bank = agrees-open weight lines others t best (agree best found.0) (and_parts (is_open t (lines best.bank / weight) best) (is_behind t.side last best) found.1).0 in (
      best,
      planned.1,
      subst (λ (os : List Resting). IsBest t.side os best) (agrees-behind weight lines others t last book agree) planned.2,
      planned.3 ∙ ap (λ line. fill_with t best (amount t best (line / weight))) here,
      planned-agrees weight (spend lines best.bank (f.lots * weight)) (spend others best.bank (f.lots * weight)) book (less t f.lots) (Some best) fills left
          (λ o there. spent_agree weight lines others t o best.bank (f.lots * weight) f.lots here (agree o there)) planned.4,
    )

-- Book and lines of a state.

and_true_right : (a : Bool) → (a && true) ≡ a
and_true_right true = refl
and_true_right false = refl

-- as the sweep begins, the orders behind none are the open ones
opens_first : (h : Header) (S : State) (t : Taker) (lines : ℕ → ℕ) (book : List Resting) → book ≡ orders_in t.pair S.orders → ((o : Resting) → Among o book → o.bank < bank_count h) → Agrees h S t.bank None lines → open_behind (λ bank. lines bank / weight_of h t.pair) t None book ≡ open_orders h S t
opens_first h S t lines book is owners agrees =
    filter_agree_on (λ o. is_open t (lines o.bank / weight_of h t.pair) o && is_behind t.side None o) (λ o. is_open t (reach h S t.bank o.bank t.pair) o) book
    (λ o there. and_true_right (is_open t (lines o.bank / weight_of h t.pair) o)
    ∙ elim (cases_eq o.bank t.bank) [
      | inl own ↦ open_own t (lines o.bank / weight_of h t.pair) o own ∙ sym (open_own t (reach h S t.bank o.bank t.pair) o own)
      | inr other ↦ ap (λ n. is_open t (n / weight_of h t.pair) o) (agrees o.bank (owners o there) other)
    ])
    ∙ ap (filter (λ o. is_open t (reach h S t.bank o.bank t.pair) o)) is

most_twice : (room : Option ℕ) (n : ℕ) → at_most room (at_most room n) ≡ at_most room n
most_twice None n = refl
most_twice (Some most) n = omega arith

-- A sweep of no more lots than the total of the order's bank pays for, as the lines allow it, is the sweep of each state that the book
-- and the lines are of. What it leaves is what the lesser order leaves and what the total took off.
pub planned-sweep : (book : Book) (credit : Credit) (weight : ℕ) (t : Taker) (fills : List Fill) (rest left : ℕ) → IsBook book → book.banks ≡ credit.banks → t.bank < credit.banks → t.pair ≡ book.pair → 0 < weight
    → left + (affordable (room_in credit t.bank) weight t).left ≡ t.left + rest → IsByLines book credit weight (affordable (room_in credit t.bank) weight t) fills rest → IsSweep book credit weight t fills left
planned-sweep book credit weight t fills rest left is banks bank pair some sum planned h S sound fits =
    let same : credit.banks ≡ bank_count h = fits.lines.banks in
    let sender : t.bank < bank_count h = omega (arith, same, bank) in
    let purse : Option ℕ = room_in credit t.bank in
    let lines : ℕ → ℕ = line_in credit t.bank in
    let agrees : Agrees h S t.bank purse lines = λ other other_in not_own.
    most_twice purse (at_most (room_in credit other) (left_in credit t.bank other))
    ∙ line_in-line h S credit t.bank other fits.lines sender other_in (λ e. not_own (sym e)) in
    let owners : (o : Resting) → Among o book.orders → o.bank < bank_count h = λ o there.
    let held : IsHeld book.banks o = Each-among (IsHeld book.banks) book.orders o is.held there in
    omega (arith, held.bank, banks, same) in
    let weighs : weight ≡ weight_of h t.pair = fits.weighs ∙ ap (weight_of h) (sym pair) in
    planned-swept h S t lines purse book.orders None fills rest left
    (record {
      sound = sound;
      bank = sender;
      weight = omega (arith, weighs, some);
      purse_is = room_in-headroom h S credit t.bank fits.lines sender;
      agrees = agrees;
      rising = is.rising;
      owners = owners;
      opens = λ _. opens_first h S t (λ b. at_most purse (lines b)) book.orders (fits.orders ∙ ap (λ p. orders_in p S.orders) (sym pair)) owners agrees;
    })
    (subst (λ w. left + (affordable purse w t).left ≡ t.left + rest) weighs sum)
    (subst (λ w. Planned w lines book.orders (affordable purse w t) None fills rest) weighs planned)

sum_swap : (m n : ℕ) → m + n ≡ n + m
sum_swap m n = omega arith

-- where the order's bank has no total
pub unbounded-sweep : (book : Book) (credit : Credit) (weight : ℕ) (t : Taker) (fills : List Fill) (left : ℕ) → IsBook book → book.banks ≡ credit.banks → t.bank < credit.banks → t.pair ≡ book.pair → 0 < weight
    → room_in credit t.bank ≡ None → IsByLines book credit weight t fills left → IsSweep book credit weight t fills left
unbounded-sweep book credit weight t fills left is banks bank pair some none planned =
    planned-sweep book credit weight t fills left left is banks bank pair some
    (subst (λ (purse : Option ℕ). left + (affordable purse weight t).left ≡ t.left + left) (sym none) (sum_swap left t.left))
    (subst (λ (purse : Option ℕ). IsByLines book credit weight (affordable purse weight t) fills left) (sym none) planned)

cut_sum : (a n rest left reach : ℕ) → n ≡ min a reach → left ≡ rest + (a - n) → left + min reach a ≡ a + rest
cut_sum a n rest left reach least sum = omega (arith, least, sum)

-- where it has one, which leaves so much room
pub bounded-sweep : (book : Book) (credit : Credit) (weight : ℕ) (t : Taker) (fills : List Fill) (room lots rest left : ℕ) → IsBook book → book.banks ≡ credit.banks → t.bank < credit.banks → t.pair ≡ book.pair → 0 < weight
    → room_in credit t.bank ≡ Some room → lots ≡ min t.left (room / weight) → IsByLines book credit weight (record t { left = lots }) fills rest → left ≡ rest + (t.left - lots) → IsSweep book credit weight t fills left
bounded-sweep book credit weight t fills room lots rest left is banks bank pair some has least planned sum =
    let same : lots ≡ min (room / weight) t.left = omega (arith, least) in
    planned-sweep book credit weight t fills rest left is banks bank pair some
    (subst (λ (purse : Option ℕ). left + (affordable purse weight t).left ≡ t.left + rest) (sym has) (cut_sum t.left lots rest left (room / weight) least sum))
    (subst (λ (purse : Option ℕ). IsByLines book credit weight (affordable purse weight t) fills rest) (sym has)
    (subst (λ n. IsByLines book credit weight (record t { left = n }) fills rest) same planned))
