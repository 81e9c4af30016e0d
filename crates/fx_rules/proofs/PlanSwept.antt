-- A sweep planned over an unchanged book is the sweep: the open orders after a fill are those behind it.
use Rattle.std.proofs.Common.{ℕ, ◌≡◌, ◌≢◌, ◌+◌, ◌-◌, ◌*◌, ◌/◌, ◌≤◌, ◌<◌, min, Bool, true, false, not, ◌&&◌, eqb, List, [], ◌∷◌, inl, inr, refl, ap, sym, subst, ◌∙◌, arith, map, Option, Some, None}
use Rattle.std.proofs.lemmas.Bool.{cases_Bool, cond-true, cond-false, and_parts, and_from, not_from_false, not-true, eqb-true, eq-eqb, false_from_ne_true, both_ways, cases_lt}
use Rattle.std.specs.List.{filter}
use Rattle.fx_amounts.specs.declared.side.Side.{Side}
use Rattle.fx_rules.specs.declared.orders.ActiveOrder.{ActiveOrder}
use Rattle.fx_rules.specs.declared.orders.Resting.{Resting}
use Rattle.fx_rules.specs.declared.orders.Fill.{Fill}
use Rattle.fx_rules.specs.Lists.{Among, EachPair}
use Rattle.fx_rules.specs.Session.{Header, bank_count, weight_of}
use Rattle.fx_rules.specs.State.{State, orders_in, line, headroom, at_most, reach}
use Rattle.fx_rules.specs.Sweep.{Taker, Swept, is_open, is_order, is_preferred, open_orders, IsBest, amount, fill_with, filled, less, lowered, with_left}
use Rattle.fx_rules.specs.Sound.{IsSound, IsCovered, ArrivesBefore, Rises}
use Rattle.fx_rules.specs.Plan.{Planned, is_behind, open_behind, spend}
use Rattle.fx_rules.proofs.ListLemmas.{Each-among, Among-filter, among_filter, filter_agree_on, filter_filter, EachPair-map}
use Rattle.fx_rules.proofs.Credit.{IsAllowed, room_less, headroom-by, spent-between, line-falls, line-pays}
use Rattle.fx_rules.proofs.Opens.{is_open-says, allowed-open, maker_of, IsMaker}
use Rattle.fx_rules.proofs.Soundness.{filled-sound}
use Rattle.fx_rules.proofs.Preference.{preferred_self, preferred_trans, preferred_either, rising_same, command_same}
use Rattle.fx_rules.proofs.Planning.{open_more, open_none, open_own, closed_lowered, lowered_closes, div_mono, reach_used, between_taker, Agrees, agrees-filled}
use Rattle.fx_rules.proofs.Capped.{PlannedIn, affordable, affordable-planned}

bool_ext : (a b : Bool) → (a ≡ true → b ≡ true) → (b ≡ true → a ≡ true) → a ≡ b
bool_ext true b there back = sym (there refl)
bool_ext false true there back = back refl
bool_ext false false there back = refl

among_map : {X Y : Type 0} (f : X → Y) (xs : List X) (x : X) → Among x xs → Among (f x) (map f xs)
among_map f [] x there = absurd there
among_map f (y ∷ xs) x (inl is) = inl (ap f is)
among_map f (y ∷ xs) x (inr there) = inr (among_map f xs x there)

-- two active orders of one command are one
active_same : (orders : List ActiveOrder) (a b : ActiveOrder) → EachPair Rises orders → Among a orders → Among b orders → a.order.bank ≡ b.order.bank → a.order.number ≡ b.order.number → a.order ≡ b.order
active_same orders a b rising here there bank number =
    command_same (map (λ (c : ActiveOrder). c.order) orders) a.order b.order
    (EachPair-map ArrivesBefore (λ (c : ActiveOrder). c.order) orders rising)
    (among_map (λ (c : ActiveOrder). c.order) orders a here) (among_map (λ (c : ActiveOrder). c.order) orders b there) bank number

is_order-parts : (bank number : ℕ) (o : Resting) → is_order bank number o ≡ true → (o.bank ≡ bank) × (o.number ≡ number)
is_order-parts bank number o is =
    let p = and_parts (eqb o.bank bank) (eqb o.number number) is in (eqb-true o.bank bank p.0, eqb-true o.number number p.1)

is_order-self : (o : Resting) → is_order o.bank o.number o ≡ true
is_order-self o = and_from (eqb o.bank o.bank) (eqb o.number o.number) (eq-eqb o.bank o.bank refl) (eq-eqb o.number o.number refl)

-- what a plan knows of a sweep that it has brought so far: the state, the taker, the lines, what the total of the taker's bank leaves,
-- the book and the last taken
pub record Stands (h : Header) (S : State) (t : Taker) (lines : ℕ → ℕ) (purse : Option ℕ) (book : List Resting) (last : Option Resting) : Type 0 where
  pub sound : IsSound h S
  pub bank : t.bank < bank_count h
  pub weight : 0 < weight_of h t.pair
  pub purse_is : purse ≡ headroom h S t.bank
  pub agrees : Agrees h S t.bank purse lines
  pub rising : EachPair ArrivesBefore book
  pub owners : (o : Resting) → Among o book → o.bank < bank_count h
  pub opens : 1 ≤ t.left → open_behind (λ bank. at_most purse (lines bank) / weight_of h t.pair) t last book ≡ open_orders h S t

least_is : (a b r : ℕ) → min a (min b r) < a → min a (min b r) < b → min a (min b r) ≡ r
least_is a b r f g = omega arith

-- no reach is more after a fill
fallen : (h : Header) (S : State) (t : Taker) (best : Resting) (lots : ℕ) (bank : ℕ) → 0 < weight_of h t.pair → reach h (filled S (fill_with t best lots)) t.bank bank t.pair ≤ reach h S t.bank bank t.pair
fallen h S t best lots bank some =
    div_mono (line h (filled S (fill_with t best lots)) t.bank bank) (line h S t.bank bank) (weight_of h t.pair) some
    (line-falls h S (fill_with t best lots) t.bank bank)

closed : (line now w : ℕ) → 0 < w → now ≤ line - line / w * w → now / w ≡ 0
closed line now w some most = omega (arith, reach_used line w some, div_mono now (line - line / w * w) w some most)

same_le : (new old : ℕ) → new ≡ old → new ≤ old
same_le new old same = omega arith

-- a maker that is left with something, by a taker that is too, is out of reach
maker_closes : (h : Header) (S : State) (t : Taker) (best : Resting) → IsCovered h S → t.bank < bank_count h → best.bank < bank_count h → best.bank ≢ t.bank → 0 < weight_of h t.pair → amount t best (reach h S t.bank best.bank t.pair) < best.left → amount t best (reach h S t.bank best.bank t.pair) < t.left → reach h (filled S (fill_with t best (amount t best (reach h S t.bank best.bank t.pair)))) t.bank best.bank t.pair ≡ 0
maker_closes h S t best covered sender owner differ some maker taker =
    let lots : ℕ = amount t best (reach h S t.bank best.bank t.pair) in
    let all : lots ≡ reach h S t.bank best.bank t.pair = least_is t.left best.left (reach h S t.bank best.bank t.pair) taker maker in
    closed (line h S t.bank best.bank) (line h (filled S (fill_with t best lots)) t.bank best.bank) (weight_of h t.pair) some
    (subst (λ n. line h (filled S (fill_with t best lots)) t.bank best.bank ≤ line h S t.bank best.bank - n * weight_of h t.pair) all
    (same_le (line h (filled S (fill_with t best lots)) t.bank best.bank) (line h S t.bank best.bank - lots * weight_of h t.pair)
    (line-pays h S (fill_with t best lots) t.bank best.bank covered sender owner (λ same. differ (sym same)) (between_taker t best lots))))

-- The orders that are open after the fill with the best one: those that were open, but for the maker.
still_open : (h : Header) (S : State) (t : Taker) (best : Resting) (lots : ℕ) → IsSound h S → t.bank < bank_count h → 0 < weight_of h t.pair → Among best (open_orders h S t) → lots ≡ amount t best (reach h S t.bank best.bank t.pair) → lots < t.left → open_orders h (filled S (fill_with t best lots)) (less t lots) ≡ filter (λ o. (is_open t (reach h (filled S (fill_with t best lots)) t.bank o.bank t.pair) o) && not (is_order best.bank best.number o)) (orders_in t.pair S.orders)
still_open h S t best lots sound sender some there lots_are taker =
    let S' : State = filled S (fill_with t best lots) in
    let test : Resting → Bool = λ o. is_open t (reach h S' t.bank o.bank t.pair) o in
    let maker : IsMaker h S t best = maker_of h S t best sound there in
    let owner : best.bank < bank_count h = omega (arith, maker.kept.bank, ap (λ (o : Resting). o.bank) maker.order) in
    closed_lowered test t.pair t.bank t.number lots (lowered best.bank best.number lots S.orders)
    (λ o own. open_own t (reach h S' t.bank o.bank t.pair) o own)
    ∙ lowered_closes test t.pair best.bank best.number lots S.orders sound.rising
    (λ a a_there is.
    let same = is_order-parts best.bank best.number a.order is in
    let a_is : a.order ≡ best =
    active_same S.orders a maker.active sound.rising a_there maker.among
    (same.0 ∙ ap (λ (q : Resting). q.bank) maker.order) (same.1 ∙ ap (λ (q : Resting). q.number) maker.order)
    ∙ sym maker.order in
    elim (cases_lt lots a.order.left) [
      | inl more ↦ inr (open_none t (reach h S' t.bank a.order.bank t.pair) (with_left a (a.order.left - lots)).order
          (subst (λ b. reach h S' t.bank b t.pair ≡ 0) (sym same.0)
          (subst (λ n. reach h (filled S (fill_with t best n)) t.bank best.bank t.pair ≡ 0) (sym lots_are)
          (maker_closes h S t best sound.covered sender owner maker.is_open.other some
          (subst (λ n. n < best.left) lots_are (subst (λ (q : Resting). lots < q.left) a_is more))
          (subst (λ n. n < t.left) lots_are taker)))))
      | inr gone ↦ inl gone
    ])

behind_trans : (side : Side) (last : Option Resting) (best o : Resting) → is_behind side last best ≡ true → is_preferred side best o ≡ true → is_behind side last o ≡ true
behind_trans side None best o behind next = refl
behind_trans side (Some l) best o behind next = preferred_trans side l best o behind next

-- Of an order of the book: it is open behind the maker exactly where it is still open, another command's, and was behind
-- the last.
behind_next : (t : Taker) (last : Option Resting) (book : List Resting) (best o : Resting) (spent had now : ℕ) → Among o book → Among best book → EachPair ArrivesBefore book → is_behind t.side last best ≡ true → ((is_open t had o && is_behind t.side last o) ≡ true → is_preferred t.side o best ≡ false) → (o.bank ≢ t.bank → spent ≡ now) → spent ≤ had → (is_open t spent o && is_preferred t.side best o) ≡ (is_open t now o && not (is_order best.bank best.number o) && (is_open t had o && is_behind t.side last o))
behind_next t last book best o spent had now o_there best_there rising behind first same less' =
    bool_ext (is_open t spent o && is_preferred t.side best o) (is_open t now o && not (is_order best.bank best.number o) && (is_open t had o && is_behind t.side last o))
    (λ next.
    let p = and_parts (is_open t spent o) (is_preferred t.side best o) next in
    and_from (is_open t now o && not (is_order best.bank best.number o)) (is_open t had o && is_behind t.side last o)
    (and_from (is_open t now o) (not (is_order best.bank best.number o))
    (subst (λ r. is_open t r o ≡ true) (same (is_open-says t spent o p.0).other) p.0)
    (not_from_false (is_order best.bank best.number o) (false_from_ne_true (is_order best.bank best.number o) (λ is.
    let parts = is_order-parts best.bank best.number o is in
    preferred_self t.side best
    (subst (λ q. is_preferred t.side best q ≡ true) (command_same book o best rising o_there best_there parts.0 parts.1) p.1)))))
    (and_from (is_open t had o) (is_behind t.side last o) (open_more t spent had o less' p.0) (behind_trans t.side last best o behind p.1)))
    (λ was.
    let p = and_parts (is_open t now o && not (is_order best.bank best.number o)) (is_open t had o && is_behind t.side last o) was in
    let q = and_parts (is_open t now o) (not (is_order best.bank best.number o)) p.0 in
    and_from (is_open t spent o) (is_preferred t.side best o)
    (subst (λ r. is_open t r o ≡ true) (sym (same (is_open-says t now o q.0).other)) q.0)
    (preferred_either t.side o best
    (λ arrival. both_ways (is_order best.bank best.number o) (not-true (is_order best.bank best.number o) q.1)
    (subst (λ r. is_order best.bank best.number r ≡ true) (sym (rising_same book o best rising o_there best_there arrival)) (is_order-self best)))
    (first p.1)))

minus_le : (new old cost : ℕ) → new ≡ old - cost → new ≤ old
minus_le new old cost fell = omega arith

-- the lesser of two bounds, both lowered
room_le : (purse : Option ℕ) (units m n : ℕ) → m ≤ n → at_most (room_less purse units) m ≤ at_most purse n
room_le None units m n less = less
room_le (Some left) units m n less = omega (arith, less)

spend_le : (lines : ℕ → ℕ) (bank units other : ℕ) → spend lines bank units other ≤ lines other
spend_le lines bank units other =
    elim (cases_Bool (eqb other bank)) [
      | inl is ↦ minus_le (spend lines bank units other) (lines other) units (cond-true (eqb other bank) (lines other - units) (lines other) is)
      | inr is_not ↦ same_le (spend lines bank units other) (lines other) (cond-false (eqb other bank) (lines other - units) (lines other) is_not)
    ]

-- The same over the book that stays as it is: the orders behind the maker.
opens_next : (h : Header) (S : State) (t : Taker) (lines : ℕ → ℕ) (purse : Option ℕ) (book : List Resting) (last : Option Resting) (best : Resting) (lots : ℕ) → Stands h S t lines purse book last → IsBest t.side (open_behind (λ bank. at_most purse (lines bank) / weight_of h t.pair) t last book) best → lots ≡ amount t best (reach h S t.bank best.bank t.pair) → lots < t.left → open_behind (λ bank. at_most (room_less purse (lots * weight_of h t.pair)) (spend lines best.bank (lots * weight_of h t.pair) bank) / weight_of h t.pair) (less t lots) (Some best) book ≡ open_orders h (filled S (fill_with t best lots)) (less t lots)
opens_next h S t lines purse book last best lots stands best_is lots_are taker =
    let w : ℕ = weight_of h t.pair in
    let S' : State = filled S (fill_with t best lots) in
    let had : ℕ → ℕ = λ bank. at_most purse (lines bank) in
    let has : ℕ → ℕ = λ bank. at_most (room_less purse (lots * w)) (spend lines best.bank (lots * w) bank) in
    let opens : open_behind (λ bank. had bank / w) t last book ≡ open_orders h S t = stands.opens (omega arith) in
    let there : Among best (open_orders h S t) = subst (Among best) opens best_is.there in
    let maker : IsMaker h S t best = maker_of h S t best stands.sound there in
    let best_book = Among-filter (λ (o : Resting). is_open t (had o.bank / w) o && is_behind t.side last o) book best best_is.there in
    let best_in : best.bank < bank_count h = stands.owners best best_book.0 in
    let differ : best.bank ≢ t.bank = maker.is_open.other in
    let agrees : Agrees h S' t.bank (room_less purse (lots * w)) (spend lines best.bank (lots * w)) =
    agrees-filled h S t best lots purse lines stands.sound.covered stands.bank best_in differ stands.purse_is stands.agrees in
    let kept : Resting → Bool = λ o. is_open t (reach h S' t.bank o.bank t.pair) o && not (is_order best.bank best.number o) in
    let was : Resting → Bool = λ o. is_open t (reach h S t.bank o.bank t.pair) o in
    let behind : Resting → Bool = λ o. is_open t (had o.bank / w) o && is_behind t.side last o in
    let next : Resting → Bool = λ o. is_open t (has o.bank / w) o && is_preferred t.side best o in
    let implied : (o : Resting) → (kept o && was o) ≡ kept o = λ o.
    bool_ext (kept o && was o) (kept o) (λ both. (and_parts (kept o) (was o) both).0)
    (λ is.
    let p = and_parts (is_open t (reach h S' t.bank o.bank t.pair) o) (not (is_order best.bank best.number o)) is in
    and_from (kept o) (was o) is
    (open_more t (reach h S' t.bank o.bank t.pair) (reach h S t.bank o.bank t.pair) o
    (fallen h S t best lots o.bank stands.weight) p.0)) in
    let pointwise : (o : Resting) → Among o book → next o ≡ (kept o && behind o) = λ o o_there.
    behind_next t last book best o (has o.bank / w) (had o.bank / w) (reach h S' t.bank o.bank t.pair)
    o_there best_book.0 stands.rising (and_parts (is_open t (had best.bank / w) best) (is_behind t.side last best) best_book.1).1
    (λ in_it. Each-among (λ other. is_preferred t.side other best ≡ false) (open_behind (λ bank. had bank / w) t last book) o best_is.first
    (among_filter behind book o o_there in_it))
    (λ not_own. ap (λ n. n / w) (agrees o.bank (stands.owners o o_there) not_own))
    (div_mono (has o.bank) (had o.bank) w stands.weight
    (room_le purse (lots * w) (spend lines best.bank (lots * w) o.bank) (lines o.bank) (spend_le lines best.bank (lots * w) o.bank))) in
    filter_agree_on next (λ o. kept o && behind o) book pointwise
    ∙ sym (filter_filter kept behind book)
    ∙ ap (filter kept) opens
    ∙ filter_filter kept was (orders_in t.pair S.orders)
    ∙ filter_agree_on (λ o. kept o && was o) kept (orders_in t.pair S.orders) (λ o _. implied o)
    ∙ sym (still_open h S t best lots stands.sound stands.bank stands.weight there lots_are taker)

-- What stands after a fill.
stands_next : (h : Header) (S : State) (t : Taker) (lines : ℕ → ℕ) (purse : Option ℕ) (book : List Resting) (last : Option Resting) (best : Resting) (lots : ℕ) → Stands h S t lines purse book last → 1 ≤ t.left → IsBest t.side (open_behind (λ bank. at_most purse (lines bank) / weight_of h t.pair) t last book) best → lots ≡ amount t best (reach h S t.bank best.bank t.pair) → Stands h (filled S (fill_with t best lots)) (less t lots) (spend lines best.bank (lots * weight_of h t.pair)) (room_less purse (lots * weight_of h t.pair)) book (Some best)
stands_next h S t lines purse book last best lots stands some best_is lots_are =
    let w : ℕ = weight_of h t.pair in
    let there : Among best (open_orders h S t) = subst (Among best) (stands.opens some) best_is.there in
    let maker : IsMaker h S t best = maker_of h S t best stands.sound there in
    let best_book = Among-filter (λ (o : Resting). is_open t (at_most purse (lines o.bank) / w) o && is_behind t.side last o) book best best_is.there in
    let best_in : best.bank < bank_count h = stands.owners best best_book.0 in
    let pays : headroom h (filled S (fill_with t best lots)) t.bank ≡ room_less (headroom h S t.bank) (lots * w) =
    headroom-by h S (fill_with t best lots) t.bank (lots * w)
    (spent-between h S (fill_with t best lots) t.bank best.bank stands.sound.covered best_in (λ same. maker.is_open.other (sym same)) (between_taker t best lots)) in
    record {
      sound = filled-sound h S (fill_with t best lots) stands.sound
          (subst (λ n. IsAllowed h S (fill_with t best n)) (sym lots_are) (allowed-open h S t best stands.sound stands.bank stands.weight some there));
      bank = stands.bank;
      weight = stands.weight;
      purse_is = ap (λ p. room_less p (lots * w)) stands.purse_is ∙ sym pays;
      agrees = agrees-filled h S t best lots purse lines stands.sound.covered stands.bank best_in maker.is_open.other stands.purse_is stands.agrees;
      rising = stands.rising;
      owners = stands.owners;
      opens = λ more. opens_next h S t lines purse book last best lots stands best_is lots_are (omega (arith, more));
    }

-- A sweep that was planned with a purse is the sweep.
planned_in-swept : (h : Header) (S : State) (t : Taker) (lines : ℕ → ℕ) (purse : Option ℕ) (book : List Resting) (last : Option Resting) (fills : List Fill) (left : ℕ) → Stands h S t lines purse book last → PlannedIn (weight_of h t.pair) lines purse book t last fills left → Swept h S t fills left
planned_in-swept h S t lines purse book last [] left stands planned = (
  planned.0,
  elim (cases_lt 0 t.left) [
    | inl some ↦ elim planned.1 [ inl none ↦ inl none | inr closed ↦ inr (sym (stands.opens some) ∙ closed) ]
    | inr none ↦ inl (omega arith)
  ],
)
planned_in-swept h S t lines purse book last (f ∷ fills) left stands planned =
    let w : ℕ = weight_of h t.pair in
    let best : Resting = planned.0 in
    let best_is : IsBest t.side (open_behind (λ bank. at_most purse (lines bank) / w) t last book) best = planned.2 in
    let best_book = Among-filter (λ (o : Resting). is_open t (at_most purse (lines o.bank) / w) o && is_behind t.side last o) book best best_is.there in
    let not_own : best.bank ≢ t.bank = (is_open-says t (at_most purse (lines best.bank) / w) best (and_parts (is_open t (at_most purse (lines best.bank) / w) best) (is_behind t.side last best) best_book.1).0).other in
    let reach_is : at_most purse (lines best.bank) / w ≡ reach h S t.bank best.bank t.pair = ap (λ n. n / w) (stands.agrees best.bank (stands.owners best best_book.0) not_own) in
    let fill_is : f ≡ fill_with t best (amount t best (reach h S t.bank best.bank t.pair)) = planned.3 ∙ ap (λ r. fill_with t best (amount t best r)) reach_is in
    let lots_are : f.lots ≡ amount t best (reach h S t.bank best.bank t.pair) = ap (λ (g : Fill). g.lots) fill_is in
    let is_fill : f ≡ fill_with t best f.lots = fill_is ∙ ap (fill_with t best) (sym lots_are) in (
      best,
      planned.1,
      subst (λ orders. IsBest t.side orders best) (stands.opens planned.1) best_is,
      fill_is,
      planned_in-swept h (filled S f) (less t f.lots) (spend lines best.bank (f.lots * w)) (room_less purse (f.lots * w)) book (Some best) fills left
          (subst (λ (g : Fill). Stands h (filled S g) (less t f.lots) (spend lines best.bank (f.lots * w)) (room_less purse (f.lots * w)) book (Some best)) (sym is_fill)
          (stands_next h S t lines purse book last best f.lots stands planned.1 best_is lots_are))
          planned.4,
    )

-- A sweep that was planned by the lines alone, of no more lots than the total of the taker's bank pays for, is the sweep. Where the bank
-- has no total, it is the sweep of all lots.
pub planned-swept : (h : Header) (S : State) (t : Taker) (lines : ℕ → ℕ) (purse : Option ℕ) (book : List Resting) (last : Option Resting) (fills : List Fill) (rest left : ℕ) → Stands h S t lines purse book last → left + (affordable purse (weight_of h t.pair) t).left ≡ t.left + rest → Planned (weight_of h t.pair) lines book (affordable purse (weight_of h t.pair) t) last fills rest → Swept h S t fills left
planned-swept h S t lines purse book last fills rest left stands sum planned =
    planned_in-swept h S t lines purse book last fills left stands
    (affordable-planned (weight_of h t.pair) lines purse book t last fills rest left stands.weight sum planned)
