-- The sweep of an order that wants more than its lines allow, and the local book.
use Rattle.std.proofs.Common.{ℕ, ◌≡◌, ◌+◌, ◌-◌, ◌/◌, ◌^◌, ◌*◌, ◌≤◌, ◌<◌, min, true, false, not, ◌&&◌, eqb, leb, ltb, cond, List, [], ◌∷◌, ◌⊎◌, inl, inr, refl, ap, sym, subst, ◌∙◌, arith, map, take}
use Rattle.std.proofs.Math.Path.{fun_ext}
use Rattle.std.proofs.lemmas.Bool.{cond-false, false_from_ne_true, le-leb, lt-ltb}
use Rattle.std.specs.List.{filter}
use Rattle.std.specs.Option.{option_map}
use Rattle.std.specs.Prelude.{slice_index}
use Rattle.fx_amounts.specs.Price.{IsPrice, crosses}
use Rattle.fx_amounts.specs.declared.side.Side.{Side}
use Rattle.fx_amounts.specs.declared.side.Side.TheVariants.{Buy, Sell}
use Rattle.fx_rules.specs.declared.orders.ActiveOrder.{ActiveOrder}
use Rattle.fx_rules.specs.declared.orders.Resting.{Resting}
use Rattle.fx_rules.specs.declared.orders.Fill.{Fill}
use Rattle.fx_rules.specs.declared.orders.Level.{Level}
use Rattle.fx_rules.specs.Lists.{Among, Each, total}
use Rattle.fx_rules.specs.Session.{Header, bank_count, weight_of}
use Rattle.fx_rules.specs.State.{State, orders_in, count_of, arrivals, at_most, headroom, left_of_limits, line, others, reach, cost_between, settled_between, spent, used}
use Rattle.fx_rules.specs.Sweep.{Taker, Swept, is_opposite, is_open, open_orders, is_order, IsBest, amount, fill_with, lowered, with_left, filled, less}
use Rattle.fx_rules.specs.Depth.{any_price, lots_against, with_fill, levels_of}
use Rattle.fx_rules.specs.Sound.{IsSound, IsKept}
use Rattle.fx_rules.proofs.ListLemmas.{Each-of, Each-among, Each-weaker, filter_agree_on}
use Rattle.fx_rules.proofs.Credit.{IsAllowed, cost_between-append}
use Rattle.fx_rules.proofs.Falling.{Terms, terms}
use Rattle.fx_rules.proofs.Opens.{orders_in-among, IsMaker, maker_of, allowed-open}
use Rattle.fx_rules.proofs.Planning.{orders_in-rising}
use Rattle.fx_rules.proofs.SweepSound.{filled-sound}
use Rattle.fx_rules.proofs.Lowering.{Each-lowered, is_order-says}
use Rattle.fx_rules.proofs.Following.{among_orders_in}
use Rattle.fx_rules.proofs.Levels.{lots_of}
use Rattle.fx_rules.proofs.Truth.{swept-lots}
use Rattle.fx_rules.proofs.ViewLists.{lower_order, orders_in-lowered}
use Rattle.fx_rules.proofs.ViewOpen.{twin, SameFill}
use Rattle.fx_rules.proofs.ViewFill.{are_of_one, cost_same}
use Rattle.fx_rules.proofs.ViewSweep.{lots_on, among_lots, lots_on-taken}
use Rattle.global_book.specs.Book.{Book}
use Rattle.credit_lines.specs.Credit.{Credit}
use Rattle.match_sweep.specs.Reaches.{IsReached, IsUnlimited}
use Rattle.match_sweep.specs.Sweeps.{Fits, IsLevelled}
use Rattle.local_view.specs.inside.LocalBook.{IsShown}

-- ---- orders of no command that rests

-- a number that is no command's, or of a command that is still to come
IsFresh : State → ℕ → ℕ → Type 0
IsFresh S bank number = (number ≡ 0) ⊎ (count_of S bank < number)

fresh_absent : (h : Header) (S : State) (bank number : ℕ) → IsSound h S → IsFresh S bank number → Each (λ (a : ActiveOrder). is_order bank number a.order ≡ false) S.orders
unfolding IsFresh
fresh_absent h S bank number sound fresh =
    Each-weaker (IsKept h S.counts) (λ (a : ActiveOrder). is_order bank number a.order ≡ false)
    (λ a kept. false_from_ne_true (is_order bank number a.order) (λ is.
    let parts = is_order-says bank number a.order is in
    let most : a.order.number ≤ slice_index S.counts bank = subst (λ b. a.order.number ≤ slice_index S.counts b) parts.0 kept.number_most in
    elim fresh [
      | inl none ↦ omega (arith, kept.number_least, parts.1, none)
      | inr later ↦ omega (arith, parts.1, most, later)
    ]))
    S.orders sound.kept

-- lowering one that does not rest changes nothing
lowered_absent : (bank number lots : ℕ) (orders : List ActiveOrder) → Each (λ (a : ActiveOrder). is_order bank number a.order ≡ false) orders → lowered bank number lots orders ≡ orders
lowered_absent bank number lots [] none = refl
lowered_absent bank number lots (a ∷ orders) none =
    cond-false (is_order bank number a.order) (cond (ltb lots a.order.left) (with_left a (a.order.left - lots) ∷ orders) orders) (a ∷ lowered bank number lots orders) none.0
    ∙ ap (λ (os : List ActiveOrder). a ∷ os) (lowered_absent bank number lots orders none.1)

-- so a fill of a taker that does not rest lowers the maker alone
maker_alone : (h : Header) (S : State) (f : Fill) → IsSound h S → IsFresh S f.taker f.taker_number → (filled S f).orders ≡ lowered f.maker f.maker_number f.lots S.orders
maker_alone h S f sound fresh =
    lowered_absent f.taker f.taker_number f.lots (lowered f.maker f.maker_number f.lots S.orders)
    (Each-lowered (λ (a : ActiveOrder). is_order f.taker f.taker_number a.order ≡ false) (λ a left is _ _. is) f.maker f.maker_number f.lots S.orders
    (fresh_absent h S f.taker f.taker_number sound fresh))

-- ---- two states that differ in the numbers of takers alone

-- the fill, made by an order of another number
abbrev renumbered : ℕ → Fill → Fill
renumbered number fill = record fill { taker_number = number }

-- the same orders rest, the terms of credit are the same, and the fills between any two banks cost as much
record IsLike (h : Header) (S T : State) : Type 0 where
  pub orders : S.orders ≡ T.orders
  pub same_terms : terms S ≡ terms T
  pub costs : (i k : ℕ) → cost_between h i k S.fills ≡ cost_between h i k T.fills

-- so each line is the same
module _ (h : Header) (S T : State) (like : IsLike h S T) where
  like_used : (i k : ℕ) → used h S i k ≡ used h T i k
  like_used i k =
      ap (λ n. n - settled_between i k S.settlements) (like.costs i k)
      ∙ ap (λ (t : Terms). cost_between h i k T.fills - settled_between i k t.2) like.same_terms

  like_room : (i : ℕ) → headroom h S i ≡ headroom h T i
  like_room i =
      ap (λ (u : ℕ → ℕ). option_map (λ most. most - total u (others h i)) (S.totals i)) (fun_ext (like_used i))
      ∙ ap (λ (t : Terms). option_map (λ most. most - spent h T i) (t.1 i)) like.same_terms

  like_line : (i k : ℕ) → line h S i k ≡ line h T i k
  like_line i k =
      let left : left_of_limits h S i k ≡ left_of_limits h T i k =
      ap (λ n. min (S.limits i k) (S.limits k i) - n) (like_used i k) ∙ ap (λ (t : Terms). min (t.0 i k) (t.0 k i) - used h T i k) like.same_terms in
      ap (λ o. at_most o (at_most (headroom h S k) (left_of_limits h S i k))) (like_room i)
      ∙ ap (λ o. at_most (headroom h T i) (at_most o (left_of_limits h S i k))) (like_room k)
      ∙ ap (λ n. at_most (headroom h T i) (at_most (headroom h T k) n)) left

-- to a bank that is not its taker it looks the same
renumbered_same : (number : ℕ) (f : Fill) → SameFill (f.taker + 1) f (renumbered number f)
renumbered_same number f = record {
  pair = refl;
  taker = refl;
  taker_number = λ is. absurd (omega (arith, is));
  taker_side = refl;
  maker = refl;
  maker_number = λ _. refl;
  price = refl;
  lots = refl;
}

like_filled : (h : Header) (S T : State) (f : Fill) (number : ℕ) → IsSound h S → IsLike h S T → IsFresh S f.taker f.taker_number → IsFresh S f.taker number → IsLike h (filled S f) (filled T (renumbered number f))
like_filled h S T f number sound like fresh other =
    let g : Fill = renumbered number f in
    record {
      orders = maker_alone h S f sound fresh ∙ sym (maker_alone h S g sound other)
          ∙ ap (λ os. lowered f.taker number f.lots (lowered f.maker f.maker_number f.lots os)) like.orders;
      same_terms = like.same_terms;
      costs = λ i k. cost_between-append h i k S.fills (f ∷ []) ∙ ap (λ n. n + cost_between h i k (f ∷ [])) (like.costs i k)
          ∙ ap (λ n. cost_between h i k T.fills + n) (cost_same h (f.taker + 1) i k f g (renumbered_same number f)) ∙ sym (cost_between-append h i k T.fills (g ∷ []));
    }

-- ---- the order with another number, as many lots as there are, and another arrival

record Instead (h : Header) (S T : State) (t : Taker) (number left arrival : ℕ) : Type 0 where
  pub sound : IsSound h S
  pub like : IsLike h S T
  pub sender : t.bank < bank_count h
  pub weight : 0 < weight_of h t.pair
  pub fresh : IsFresh S t.bank t.number
  pub fresh_other : IsFresh S t.bank number
  pub here : arrivals S ≤ t.arrival
  pub there : arrivals S ≤ arrival
  pub enough : lots_against S t.pair t.side ≤ left

arrived : (t : Taker) (number left arrival r : ℕ) (o : Resting) → o.arrival < t.arrival → o.arrival < arrival → is_open t r o ≡ is_open (twin t number left arrival) r o
arrived t number left arrival r o here there =
    ap (λ b. is_opposite t.side o.side && not (eqb o.bank t.bank) && leb 1 r && crosses t.side t.price o.price && b)
    (lt-ltb o.arrival t.arrival here ∙ sym (lt-ltb o.arrival arrival there))

open_instead : (h : Header) (S T : State) (t : Taker) (number left arrival : ℕ) → Instead h S T t number left arrival → open_orders h S t ≡ open_orders h T (twin t number left arrival)
open_instead h S T t number left arrival instead =
    let test : Resting → _ = λ (o : Resting). is_open (twin t number left arrival) (reach h T t.bank o.bank t.pair) o in
    filter_agree_on (λ (o : Resting). is_open t (reach h S t.bank o.bank t.pair) o) test (orders_in t.pair S.orders)
    (λ o among.
    let found = orders_in-among t.pair S.orders o among in
    let kept : IsKept h S.counts found.0 = Each-among (IsKept h S.counts) S.orders found.0 instead.sound.kept found.1 in
    let came : o.arrival < arrivals S = subst (λ (p : Resting). p.arrival < arrivals S) (sym found.3) kept.arrival in
    let here : o.arrival < t.arrival = omega (arith, came, instead.here) in
    let there : o.arrival < arrival = omega (arith, came, instead.there) in
    ap (λ l. is_open t (l / weight_of h t.pair) o) (like_line h S T instead.like t.bank o.bank)
    ∙ arrived t number left arrival (reach h T t.bank o.bank t.pair) o here there)
    ∙ ap (λ os. filter test (orders_in t.pair os)) instead.like.orders

-- a fill takes its lots of the other side
against_taken : (h : Header) (S : State) (t : Taker) (best : Resting) (f : Fill) → IsSound h S → IsFresh S f.taker f.taker_number → Among best (open_orders h S t) → f.maker ≡ best.bank → f.maker_number ≡ best.number → f.lots ≤ best.left → lots_against (filled S f) t.pair t.side + f.lots ≤ lots_against S t.pair t.side
unfolding lots_on
against_taken h S t best f sound fresh open_is bank number most =
    let m : IsMaker h S t best = maker_of h S t best sound open_is in
    let book : List Resting = orders_in t.pair S.orders in
    let in_book : Among best book = subst (λ (o : Resting). Among o book) (sym m.order) (among_orders_in t.pair S.orders m.active m.among m.pair) in
    let is : orders_in t.pair (filled S f).orders ≡ lower_order best.bank best.number f.lots book =
    ap (orders_in t.pair) (maker_alone h S f sound fresh)
    ∙ ap (λ n. orders_in t.pair (lowered n f.maker_number f.lots S.orders)) bank
    ∙ ap (λ n. orders_in t.pair (lowered best.bank n f.lots S.orders)) number
    ∙ orders_in-lowered t.pair best.bank best.number f.lots S.orders
    (subst (λ (o : Resting). (a : ActiveOrder) → Among a S.orders → a.order.bank ≡ o.bank → a.order.number ≡ o.number → a.pair ≡ t.pair) (sym m.order)
    (are_of_one S.orders m.active t.pair sound.rising m.among m.pair)) in
    let falls : lots_on t.side (lower_order best.bank best.number f.lots book) + f.lots ≤ lots_on t.side book =
    lots_on-taken t.side f.lots book best (orders_in-rising t.pair S.orders sound.rising) in_book m.is_open.opposite most in
    subst (λ os. lots_on t.side os + f.lots ≤ lots_on t.side book) (sym is) falls

against_most : (h : Header) (S : State) (t : Taker) (best : Resting) → IsSound h S → Among best (open_orders h S t) → best.left ≤ lots_against S t.pair t.side
unfolding lots_on
against_most h S t best sound open_is =
    let m : IsMaker h S t best = maker_of h S t best sound open_is in
    let book : List Resting = orders_in t.pair S.orders in
    let in_book : Among best book = subst (λ (o : Resting). Among o book) (sym m.order) (among_orders_in t.pair S.orders m.active m.among m.pair) in
    among_lots t.side book best in_book m.is_open.opposite

same_amount : (a b r n lots : ℕ) → lots ≡ min a (min b r) → lots < a → b ≤ n → lots ≡ min n (min b r)
same_amount a b r n lots is more enough = omega arith

none_left : (a : ℕ) (P : Type 0) → 1 ≤ a → (a ≡ 0) ⊎ P → P
none_left a P some (inl none) = absurd (omega arith)
none_left a P some (inr holds) = holds

parted : (n lots rest : ℕ) → n - lots - rest ≡ n - (lots + rest)
parted n lots rest = omega arith

-- An order that has something left in the end takes what one does that wants as much as there is.
swept-instead : (h : Header) (S T : State) (t : Taker) (number n arrival : ℕ) (fills : List Fill) (left : ℕ) → Instead h S T t number n arrival → 1 ≤ left → Swept h S t fills left → Swept h T (twin t number n arrival) (map (renumbered number) fills) (n - lots_of fills)
unfolding lots_of IsFresh
swept-instead h S T t number n arrival [] left instead more swept = (
  omega arith,
  inr (sym (open_instead h S T t number n arrival instead) ∙ none_left t.left (open_orders h S t ≡ []) (omega (arith, swept.0)) swept.1),
)
swept-instead h S T t number n arrival (f ∷ fills) left instead more swept =
    let best : Resting = swept.0 in
    let best_is : IsBest t.side (open_orders h S t) best = swept.2 in
    let u : Taker = twin t number n arrival in
    let r : ℕ = reach h S t.bank best.bank t.pair in
    let m : IsMaker h S t best = maker_of h S t best instead.sound best_is.there in
    let lots_are : f.lots ≡ amount t best r = ap (λ (g : Fill). g.lots) swept.3 in
    let sum : lots_of fills + left ≡ t.left - f.lots = swept-lots h (filled S f) (less t f.lots) fills left swept.4 in
    let below : f.lots < t.left = omega arith in
    let small : f.lots ≤ best.left = omega arith in
    let against : best.left ≤ lots_against S t.pair t.side = against_most h S t best instead.sound best_is.there in
    let all : best.left ≤ n = omega (arith, against, instead.enough) in
    let one : 1 ≤ best.left = omega (arith, m.kept.left.0, ap (λ (o : Resting). o.left) m.order) in
    let reach_is : r ≡ reach h T t.bank best.bank t.pair = ap (λ l. l / weight_of h t.pair) (like_line h S T instead.like t.bank best.bank) in
    let same : f.lots ≡ amount u best (reach h T t.bank best.bank t.pair) = same_amount t.left best.left r n f.lots lots_are below all ∙ ap (amount u best) reach_is in
    let is_fill : f ≡ fill_with t best f.lots = swept.3 ∙ ap (fill_with t best) (sym lots_are) in
    let taker : f.taker ≡ t.bank = ap (λ (g : Fill). g.taker) is_fill in
    let taker_number : f.taker_number ≡ t.number = ap (λ (g : Fill). g.taker_number) is_fill in
    let fresh : IsFresh S f.taker f.taker_number = subst (λ b. IsFresh S b f.taker_number) (sym taker) (subst (IsFresh S t.bank) (sym taker_number) instead.fresh) in
    let fresh_other : IsFresh S f.taker number = subst (λ b. IsFresh S b number) (sym taker) instead.fresh_other in
    let allowed : IsAllowed h S f = subst (IsAllowed h S) (sym swept.3) (allowed-open h S t best instead.sound instead.sender instead.weight swept.1 best_is.there) in
    let falls : lots_against (filled S f) t.pair t.side + f.lots ≤ lots_against S t.pair t.side =
    against_taken h S t best f instead.sound fresh best_is.there (ap (λ (g : Fill). g.maker) is_fill) (ap (λ (g : Fill). g.maker_number) is_fill) small in
    let next : Instead h (filled S f) (filled T (renumbered number f)) (less t f.lots) number (n - f.lots) arrival = record {
      sound = filled-sound h S f instead.sound allowed;
      like = like_filled h S T f number instead.sound instead.like fresh fresh_other;
      sender = instead.sender;
      weight = instead.weight;
      fresh = instead.fresh;
      fresh_other = instead.fresh_other;
      here = instead.here;
      there = instead.there;
      enough = omega (arith, falls, instead.enough);
    } in
    let rest : Swept h (filled T (renumbered number f)) (twin (less t f.lots) number (n - f.lots) arrival) (map (renumbered number) fills) (n - f.lots - lots_of fills) =
    swept-instead h (filled S f) (filled T (renumbered number f)) (less t f.lots) number (n - f.lots) arrival fills left next more swept.4 in (
      best,
      omega (arith, one, all),
      subst (λ (os : List Resting). IsBest t.side os best) (open_instead h S T t number n arrival instead) best_is,
      ap (renumbered number) is_fill ∙ ap (fill_with u best) same,
      subst (Swept h (filled T (renumbered number f)) (twin (less t f.lots) number (n - f.lots) arrival) (map (renumbered number) fills)) (parted n f.lots (lots_of fills)) rest,
    )

-- another number changes no level
with_fill-renumbered : (number : ℕ) (f : Fill) (levels : List Level) → with_fill (renumbered number f) levels ≡ with_fill f levels
with_fill-renumbered number f [] = refl
with_fill-renumbered number f (l ∷ levels) = refl

levels_of-renumbered : (number : ℕ) (fills : List Fill) → levels_of (map (renumbered number) fills) ≡ levels_of fills
levels_of-renumbered number [] = refl
levels_of-renumbered number (f ∷ fills) =
    with_fill-renumbered number f (levels_of (map (renumbered number) fills)) ∙ ap (with_fill f) (levels_of-renumbered number fills)

-- ---- the local book

still_wants : (lots left : ℕ) → lots + left ≡ 2 ^ 64 - 1 → lots ≤ 65 * 10 ^ 15 → 1 ≤ left
still_wants lots left sum most = omega arith

-- An order of a bank in a pair that takes any price, wants more than its lines allow, and comes after all others.
unlimited_order : ℕ → ℕ → Side → Taker
unlimited_order pair bank side = record {
  bank = bank;
  number = 0;
  pair = pair;
  side = side;
  price = any_price side;
  left = 2 ^ 64 - 1;
  arrival = 2 ^ 64 - 1;
}

any_crosses : (side : Side) (price : ℕ) → IsPrice price → crosses side (any_price side) price ≡ true
any_crosses Buy price is = le-leb price (10 ^ 9) is.1
any_crosses Sell price is = le-leb 1 price is.0

-- in each state of the book it takes all that its lines allow
is_unlimited : (h : Header) (S : State) (book : Book) (credit : Credit) (weight bank : ℕ) (side : Side) → IsSound h S → Fits h S book credit weight → arrivals S < 2 ^ 64 → IsUnlimited book (unlimited_order book.pair bank side)
unfolding unlimited_order
is_unlimited h S book credit weight bank side sound fits few =
    let kept : (o : Resting) → Among o book.orders → IsPrice o.price × (o.arrival < arrivals S) = λ o there.
    let found = orders_in-among book.pair S.orders o (subst (Among o) fits.orders there) in
    let active : IsKept h S.counts found.0 = Each-among (IsKept h S.counts) S.orders found.0 sound.kept found.1 in
    subst (λ (q : Resting). IsPrice q.price × (q.arrival < arrivals S)) (sym found.3) (active.price, active.arrival) in
    record {
      crosses = Each-of (λ (o : Resting). crosses side (any_price side) o.price ≡ true) book.orders (λ o there. any_crosses side o.price (kept o there).0);
      came = Each-of (λ (o : Resting). o.arrival < 2 ^ 64 - 1) book.orders (λ o there. let it = (kept o there).1 in omega arith);
      wants = omega arith;
    }

-- the first levels of its sweep show the local book of each state
shown-levelled : (book : Book) (credit : Credit) (weight bank : ℕ) (side : Side) (levels : List Level) → bank < credit.banks → 0 < weight → IsLevelled book credit weight (unlimited_order book.pair bank side) levels → IsShown book credit weight bank side levels
unfolding IsFresh lots_of unlimited_order
shown-levelled book credit weight bank side levels bank_in some levelled h S sound fits few =
    let t : Taker = unlimited_order book.pair bank side in
    let number : ℕ = count_of S bank + 1 in
    let n : ℕ = lots_against S book.pair side in
    let fills : List Fill = levelled.fills in
    let swept : Swept h S t fills levelled.left = levelled.sweep h S sound fits in
    let instead : Instead h S S t number n (arrivals S) = record {
      sound = sound;
      like = record { orders = refl; same_terms = refl; costs = λ i k. refl };
      sender = omega (arith, bank_in, fits.lines.banks);
      weight = omega (arith, some, fits.weighs);
      fresh = inl refl;
      fresh_other = inr (omega arith);
      here = omega (arith, few);
      there = omega arith;
      enough = omega arith;
    } in (
      map (renumbered number) fills,
      n - lots_of fills,
      swept-instead h S S t number n (arrivals S) fills levelled.left instead
          (still_wants (lots_of fills) levelled.left (swept-lots h S t fills levelled.left swept) levelled.lots) swept,
      levelled.first ∙ ap (take 10) (sym (levels_of-renumbered number fills)),
    )

pub shown-reached : (book : Book) (credit : Credit) (weight bank : ℕ) (side : Side) (levels : List Level) → bank < credit.banks → 0 < weight → IsReached book credit weight bank side levels → IsShown book credit weight bank side levels
unfolding unlimited_order
shown-reached book credit weight bank side levels bank_in some reached h S sound fits few =
    shown-levelled book credit weight bank side levels bank_in some
    (reached (unlimited_order book.pair bank side) refl refl refl (is_unlimited h S book credit weight bank side sound fits few)) h S sound fits few
