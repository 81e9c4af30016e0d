-- A local book is truthful: what it shows can be taken.
use Rattle.std.proofs.Common.{ℕ, ◌≡◌, ◌≢◌, ◌+◌, ◌-◌, ◌≤◌, ◌<◌, min, Bool, true, false, List, [], ◌∷◌, ◌++◌, take, inl, refl, ap, sym, subst, ◌∙◌, arith}
use Rattle.std.specs.List.{filter}
use Rattle.std.proofs.lemmas.Bool.{or_parts, le-leb, leb-true, ltb-false}
use Rattle.std.specs.Prelude.{◌==◌, ◌&&◌, nat_lt}
use Rattle.fx_amounts.specs.Price.{IsPrice, crosses}
use Rattle.fx_amounts.specs.declared.side.Side.{Side}
use Rattle.fx_amounts.specs.declared.side.Side.TheVariants.{Buy, Sell}
use Rattle.fx_rules.specs.declared.orders.Resting.{Resting}
use Rattle.fx_rules.specs.declared.orders.Fill.{Fill}
use Rattle.fx_rules.specs.declared.orders.Level.{Level}
use Rattle.fx_rules.specs.Lists.{Among, Each, EachPair}
use Rattle.fx_rules.specs.Session.{Header, IsSession, bank_count, pair_count, weight_of}
use Rattle.fx_rules.specs.State.{State, orders_in, reach}
use Rattle.fx_rules.specs.Sweep.{Taker, Swept, is_open, open_orders, is_better, is_preferred, IsBest, fill_with, filled, less, taker_of}
use Rattle.fx_rules.specs.Depth.{any_price, unlimited, levels_of, Shows, IsDepth}
use Rattle.fx_rules.specs.Truthful.{lots_shown, last_price, IsTruthful}
use Rattle.fx_rules.specs.Sound.{IsSound}
use Rattle.fx_rules.proofs.ListLemmas.{Each-of, Each-first, Each-both, EachPair-first, Each-among, Among-filter, among_filter}
use Rattle.fx_rules.proofs.Credit.{IsAllowed}
use Rattle.fx_rules.proofs.Opens.{is_open-says, IsMaker, maker_of, allowed-open}
use Rattle.fx_rules.proofs.Planning.{open_parts, open_more}
use Rattle.fx_rules.proofs.Preference.{better_self}
use Rattle.fx_rules.proofs.SweepSound.{filled-sound, weight_of-least}
use Rattle.fx_rules.proofs.Following.{filled-follows, reach_falls}
use Rattle.fx_rules.proofs.Settling.{was_there}
use Rattle.fx_rules.proofs.Levels.{lots_of, shown-lots, IsPrefix, first_levels, last_price-more, last_price-among}

-- ---- the fills of a sweep come with prices from the best on

-- an order that is open after a fill was open before, with as much left or more
pub open-was : (h : Header) (S : State) (t : Taker) (f : Fill) (o : Resting) → 0 < weight_of h t.pair → Among o (open_orders h (filled S f) (less t f.lots)) → (was : Resting) × Among was (open_orders h S t) × (o ≡ record was { left = o.left })
open-was h S t f o some there =
    let S' : State = filled S f in
    let kept = Among-filter (λ (q : Resting). is_open (less t f.lots) (reach h S' t.bank q.bank t.pair) q) (orders_in t.pair S'.orders) o there in
    let found = was_there h S S' t.pair o (filled-follows h S f) kept.0 in
    let was : Resting = found.0 in
    let open_is : is_open t (reach h S' t.bank was.bank t.pair) was ≡ true =
    subst (λ (q : Resting). is_open t (reach h S' t.bank q.bank t.pair) q ≡ true) found.2 kept.1 in
    let opened : is_open t (reach h S t.bank was.bank t.pair) was ≡ true =
    open_more t (reach h S' t.bank was.bank t.pair) (reach h S t.bank was.bank t.pair) was
    (reach_falls h S S' t.bank was.bank t.pair some ((filled-follows h S f).lines t.bank was.bank)) open_is in (
      was,
      among_filter (λ (q : Resting). is_open t (reach h S t.bank q.bank t.pair) q) (orders_in t.pair S.orders) was found.1 opened,
      found.2,
    )

-- no order that is open to the taker has a better price
NoBetter : Header → State → Taker → ℕ → Type 0
NoBetter h S t price = (o : Resting) → Among o (open_orders h S t) → is_better t.side o.price price ≡ false

no_better_filled : (h : Header) (S : State) (t : Taker) (f : Fill) (price : ℕ) → 0 < weight_of h t.pair → NoBetter h S t price → NoBetter h (filled S f) (less t f.lots) price
unfolding NoBetter
no_better_filled h S t f price some none o there =
    let was = open-was h S t f o some there in
    subst (λ (q : Resting). is_better t.side q.price price ≡ false) (sym was.2) (none was.0 was.1)

no_better_best : (h : Header) (S : State) (t : Taker) (best : Resting) → IsBest t.side (open_orders h S t) best → NoBetter h S t best.price
unfolding NoBetter
no_better_best h S t best is o there =
    (or_parts (is_better t.side o.price best.price) ((o.price == best.price) && nat_lt o.arrival best.arrival)
    (Each-among (λ other. is_preferred t.side other best ≡ false) (open_orders h S t) o is.first there)).0

swept_no_better : (h : Header) (S : State) (t : Taker) (fills : List Fill) (left price : ℕ) → 0 < weight_of h t.pair → NoBetter h S t price → Swept h S t fills left → Each (λ (f : Fill). is_better t.side f.price price ≡ false) fills
unfolding NoBetter
swept_no_better h S t [] left price some none swept = tt
swept_no_better h S t (f ∷ fills) left price some none swept = (
  subst (λ p. is_better t.side p price ≡ false) (sym (ap (λ (g : Fill). g.price) swept.3)) (none swept.0 swept.2.there),
  swept_no_better h (filled S f) (less t f.lots) fills left price some (no_better_filled h S t f price some none) swept.4,
)

-- no later fill has a better price
swept-ordered : (h : Header) (S : State) (t : Taker) (fills : List Fill) (left : ℕ) → 0 < weight_of h t.pair → Swept h S t fills left → EachPair (λ (f g : Fill). is_better t.side g.price f.price ≡ false) fills
swept-ordered h S t [] left some swept = tt
swept-ordered h S t (f ∷ fills) left some swept =
    let price : f.price ≡ swept.0.price = ap (λ (g : Fill). g.price) swept.3 in
    let none : NoBetter h S t f.price = subst (NoBetter h S t) (sym price) (no_better_best h S t swept.0 swept.2) in (
      swept_no_better h (filled S f) (less t f.lots) fills left f.price some (no_better_filled h S t f f.price some none) swept.4,
      swept-ordered h (filled S f) (less t f.lots) fills left some swept.4,
    )

-- ---- lots and prices of a sweep's fills

-- the fills and what is left are what the taker had
pub swept-lots : (h : Header) (S : State) (t : Taker) (fills : List Fill) (left : ℕ) → Swept h S t fills left → lots_of fills + left ≡ t.left
unfolding lots_of
swept-lots h S t [] left swept = omega (arith, swept.0)
swept-lots h S t (f ∷ fills) left swept =
    let best : Resting = swept.0 in
    let lots : f.lots ≡ min t.left (min best.left (reach h S t.bank best.bank t.pair)) = ap (λ (g : Fill). g.lots) swept.3 in
    let rest : lots_of fills + left ≡ t.left - f.lots = swept-lots h (filled S f) (less t f.lots) fills left swept.4 in
    omega arith

-- a fill that is worth its name
abbrev pub IsWhole : Fill → Type 0
IsWhole f = IsPrice f.price × (1 ≤ f.lots)

swept-whole : (h : Header) (S : State) (t : Taker) (fills : List Fill) (left : ℕ) → IsSound h S → t.bank < bank_count h → 0 < weight_of h t.pair → Swept h S t fills left → Each IsWhole fills
swept-whole h S t [] left sound sender some swept = tt
swept-whole h S t (f ∷ fills) left sound sender some swept =
    let best : Resting = swept.0 in
    let m : IsMaker h S t best = maker_of h S t best sound swept.2.there in
    let allowed : IsAllowed h S f = subst (IsAllowed h S) (sym swept.3) (allowed-open h S t best sound sender some swept.1 swept.2.there) in
    let price : f.price ≡ m.active.order.price = ap (λ (g : Fill). g.price) swept.3 ∙ ap (λ (o : Resting). o.price) m.order in (
      (subst IsPrice (sym price) m.kept.price, allowed.least),
      swept-whole h (filled S f) (less t f.lots) fills left (filled-sound h S f sound allowed) sender some swept.4,
    )

-- ---- the taker of some of the first fills

abbrev pub narrowed : Taker → ℕ → ℕ → Taker
narrowed t price left = record t { price = price; left = left }

crosses_within : (side : Side) (most price other : ℕ) → crosses side most price ≡ true → crosses side price other ≡ true → crosses side most other ≡ true
crosses_within Buy most price other within crossed = le-leb other most (omega (arith, leb-true price most within, leb-true other price crossed))
crosses_within Sell most price other within crossed = le-leb most other (omega (arith, leb-true most price within, leb-true price other crossed))

-- at a narrower price no more orders are open
open_narrowed : (t : Taker) (price left r : ℕ) (o : Resting) → crosses t.side t.price price ≡ true → is_open (narrowed t price left) r o ≡ true → is_open t r o ≡ true
open_narrowed t price left r o within is =
    let says = is_open-says (narrowed t price left) r o is in
    open_parts t r o (record {
      opposite = says.opposite;
      other = says.other;
      reach = says.reach;
      crosses = crosses_within t.side t.price price o.price within says.crosses;
      earlier = says.earlier;
    })

-- an order that is best and crosses the narrower price is best at that price
best_narrowed : (h : Header) (S : State) (t : Taker) (price left : ℕ) (best : Resting) → crosses t.side t.price price ≡ true → crosses t.side price best.price ≡ true → IsBest t.side (open_orders h S t) best → IsBest t.side (open_orders h S (narrowed t price left)) best
best_narrowed h S t price left best within crossed is =
    let book : List Resting = orders_in t.pair S.orders in
    let test : Resting → Bool = λ q. is_open t (reach h S t.bank q.bank t.pair) q in
    let narrow : Resting → Bool = λ q. is_open (narrowed t price left) (reach h S t.bank q.bank t.pair) q in
    let found = Among-filter test book best is.there in
    let says = is_open-says t (reach h S t.bank best.bank t.pair) best found.1 in
    record {
      there = among_filter narrow book best found.0
          (open_parts (narrowed t price left) (reach h S t.bank best.bank t.pair) best
          (record { opposite = says.opposite; other = says.other; reach = says.reach; crosses = crossed; earlier = says.earlier }));
      first = Each-of (λ other. is_preferred t.side other best ≡ false) (filter narrow book) (λ o there.
          let o_in = Among-filter narrow book o there in
          Each-among (λ other. is_preferred t.side other best ≡ false) (filter test book) o is.first
          (among_filter test book o o_in.0 (open_narrowed t price left (reach h S t.bank o.bank t.pair) o within o_in.1)));
    }

amount_narrowed : (own more had m lots : ℕ) → lots ≡ min had m → own ≡ lots + more → more ≤ had - lots → lots ≡ min own m
amount_narrowed own more had m lots is own_is most = omega arith

lots_first : (xs ys : List Fill) → lots_of xs ≤ lots_of (xs ++ ys)
unfolding lots_of
lots_first [] ys = omega arith
lots_first (f ∷ xs) ys = let rest : lots_of xs ≤ lots_of (xs ++ ys) = lots_first xs ys in omega arith

-- The first fills of a sweep are the sweep of a taker that wants just their lots, at a price that they all cross.
swept_first : (h : Header) (S : State) (t : Taker) (xs ys : List Fill) (left price : ℕ) → crosses t.side t.price price ≡ true → Each (λ (f : Fill). (crosses t.side price f.price ≡ true) × (1 ≤ f.lots)) xs → Swept h S t (xs ++ ys) left → Swept h S (narrowed t price (lots_of xs)) xs 0
unfolding lots_of
swept_first h S t [] ys left price within all swept = (refl, inl refl)
swept_first h S t (f ∷ xs) ys left price within all swept =
    let best : Resting = swept.0 in
    let r : ℕ = reach h S t.bank best.bank t.pair in
    let lots : f.lots ≡ min t.left (min best.left r) = ap (λ (g : Fill). g.lots) swept.3 in
    let sum : lots_of (xs ++ ys) + left ≡ t.left - f.lots = swept-lots h (filled S f) (less t f.lots) (xs ++ ys) left swept.4 in
    let part : lots_of xs ≤ lots_of (xs ++ ys) = lots_first xs ys in
    let price_is : f.price ≡ best.price = ap (λ (g : Fill). g.price) swept.3 in
    let amount_is : f.lots ≡ min (f.lots + lots_of xs) (min best.left r) =
    amount_narrowed (f.lots + lots_of xs) (lots_of xs) t.left (min best.left r) f.lots lots refl (omega arith) in
    let rest : Swept h (filled S f) (narrowed (less t f.lots) price (lots_of xs)) xs 0 =
    swept_first h (filled S f) (less t f.lots) xs ys left price within all.1 swept.4 in
    let back : lots_of xs ≡ (f.lots + lots_of xs) - f.lots = omega arith in (
      best,
      omega (arith, all.0.1),
      best_narrowed h S t price (f.lots + lots_of xs) best within (subst (λ p. crosses t.side price p ≡ true) price_is all.0.0) swept.2,
      swept.3 ∙ ap (fill_with t best) (sym lots ∙ amount_is),
      subst (λ n. Swept h (filled S f) (narrowed (less t f.lots) price n) xs 0) back rest,
    )

-- the last price of a sweep's first fills is crossed by each of them
last_is_worst : (side : Side) (xs : List Fill) → EachPair (λ (f g : Fill). is_better side g.price f.price ≡ false) xs → Each (λ (f : Fill). is_better side (last_price (levels_of xs)) f.price ≡ false) xs
last_is_worst side [] ordered = tt
last_is_worst side (f ∷ []) ordered = (better_self side f.price, tt)
last_is_worst side (f ∷ g ∷ xs) ordered =
    let more = last_price-more f g xs in
    let found = last_price-among g xs in (
      subst (λ p. is_better side p f.price ≡ false) (sym (more ∙ found.2))
          (Each-among (λ (k : Fill). is_better side k.price f.price ≡ false) (g ∷ xs) found.0 ordered.0 found.1),
      subst (λ p. Each (λ (k : Fill). is_better side p k.price ≡ false) (g ∷ xs)) (sym more) (last_is_worst side (g ∷ xs) ordered.1),
    )

crosses_worst : (side : Side) (last price : ℕ) → is_better side last price ≡ false → crosses side last price ≡ true
crosses_worst Buy last price none = le-leb price last (ltb-false last price none)
crosses_worst Sell last price none = le-leb last price (ltb-false price last none)

any_price-crosses : (side : Side) (price : ℕ) → IsPrice price → crosses side (any_price side) price ≡ true
any_price-crosses Buy price is = le-leb price 1000000000 is.1
any_price-crosses Sell price is = le-leb 1 price is.0

-- what is known of the first fills of an unlimited sweep, where there are any
record IsTakable (h : Header) (S : State) (bank pair : ℕ) (side : Side) (xs : List Fill) : Type 0 where
  pub price : IsPrice (last_price (levels_of xs))
  pub lots : 1 ≤ lots_of xs
  pub swept : Swept h S (taker_of S bank side pair (last_price (levels_of xs)) (lots_of xs)) xs 0

takable : (h : Header) (S : State) (bank pair : ℕ) (side : Side) (xs ys : List Fill) (left : ℕ) → IsSound h S → bank < bank_count h → 0 < weight_of h pair → xs ≢ [] → Swept h S (unlimited S bank pair side) (xs ++ ys) left → IsTakable h S bank pair side xs
unfolding lots_of
takable h S bank pair side [] ys left sound sender some any swept = absurd (any refl)
takable h S bank pair side (f ∷ xs) ys left sound sender some any swept =
    let t : Taker = unlimited S bank pair side in
    let last : ℕ = last_price (levels_of (f ∷ xs)) in
    let whole : Each IsWhole (f ∷ xs) = Each-first IsWhole (f ∷ xs) ys (swept-whole h S t (f ∷ (xs ++ ys)) left sound sender some swept) in
    let ordered : EachPair (λ (f g : Fill). is_better side g.price f.price ≡ false) (f ∷ xs)
    = EachPair-first (λ (f g : Fill). is_better side g.price f.price ≡ false) (f ∷ xs) ys (swept-ordered h S t (f ∷ (xs ++ ys)) left some swept) in
    let worst = last_is_worst side (f ∷ xs) ordered in
    let found = last_price-among f xs in
    let price : IsPrice last = subst IsPrice (sym found.2) (Each-among IsWhole (f ∷ xs) found.0 whole found.1).0 in
    record {
      price = price;
      lots = omega (arith, whole.0.1);
      swept = swept_first h S t (f ∷ xs) ys left last (any_price-crosses side last price)
          (Each-both IsWhole (λ (k : Fill). is_better side last k.price ≡ false) (λ (k : Fill). (crosses side last k.price ≡ true) × (1 ≤ k.lots))
          (λ k is none. (crosses_worst side last k.price none, is.1)) (f ∷ xs) whole worst)
          swept;
    }

nothing_left : (n : ℕ) → 0 ≡ n - n
nothing_left n = omega arith

-- an order for the levels of takable fills is filled whole
truthful-of : (h : Header) (S : State) (bank pair : ℕ) (side : Side) (xs : List Fill) → bank < bank_count h → pair < pair_count h → (levels_of xs ≢ [] → IsTakable h S bank pair side xs) → IsTruthful h S bank pair side (levels_of xs)
truthful-of h S bank pair side xs sender pair_in takes some most =
    let takable_is = takes some in
    let lots : lots_of xs ≡ lots_shown (levels_of xs) = sym (shown-lots xs) in
    let shown : ℕ = lots_shown (levels_of xs) in
    let price : ℕ = last_price (levels_of xs) in
    let swept : Swept h S (taker_of S bank side pair price shown) xs 0 =
    subst (λ n. Swept h S (taker_of S bank side pair price n) xs 0) lots takable_is.swept in (
      record { sends = sender; values = (pair_in, takable_is.price, (omega (arith, takable_is.lots, lots), most)) },
      (
        xs,
        (subst (λ n. Swept h S (taker_of S bank side pair price shown) xs n) (nothing_left shown) swept, omega arith, refl),
        refl,
      ),
    )

shows-truthful : (h : Header) (S : State) (bank pair : ℕ) (side : Side) (levels : List Level) → IsSession h → IsSound h S → bank < bank_count h → pair < pair_count h → Shows h S bank pair side levels → IsTruthful h S bank pair side levels
shows-truthful h S bank pair side levels session sound sender pair_in shows =
    let fills : List Fill = shows.0 in
    let prefix : IsPrefix fills (take 10 (levels_of fills)) = first_levels 10 fills in
    let is : levels_of prefix.first ≡ levels = prefix.made ∙ sym shows.3 in
    subst (IsTruthful h S bank pair side) is
    (truthful-of h S bank pair side prefix.first sender pair_in (λ some.
    takable h S bank pair side prefix.first prefix.rest shows.1 sound sender (weight_of-least h pair session pair_in)
    (λ none. some (ap levels_of none))
    (subst (λ (fs : List Fill). Swept h S (unlimited S bank pair side) fs shows.1) prefix.parts shows.2)))

pub books-truthful : (h : Header) (S : State) (bank pair : ℕ) (bids asks : List Level) → IsSession h → IsSound h S → bank < bank_count h → pair < pair_count h → IsDepth h S bank pair bids asks → IsTruthful h S bank pair Sell bids × IsTruthful h S bank pair Buy asks
books-truthful h S bank pair bids asks session sound sender pair_in depth = (
  shows-truthful h S bank pair Sell bids session sound sender pair_in depth.sells,
  shows-truthful h S bank pair Buy asks session sound sender pair_in depth.buys,
)
