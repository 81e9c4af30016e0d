-- Two states that look alike to a bank, and what is open in them to takers that look alike: the same orders, and the same best.
use Rattle.std.proofs.Common.{ℕ, ◌≡◌, ◌≢◌, ◌/◌, ◌≤◌, ◌<◌, Bool, true, false, not, ◌&&◌, ◌||◌, eqb, leb, ltb, List, [], ◌∷◌, ◌⊎◌, inl, inr, ap, sym, subst, ◌∙◌, arith}
use Rattle.std.specs.List.{filter}
use Rattle.fx_amounts.specs.Price.{crosses}
use Rattle.fx_amounts.specs.declared.side.Side.{Side}
use Rattle.fx_rules.specs.declared.orders.Resting.{Resting}
use Rattle.fx_rules.specs.declared.orders.Fill.{Fill}
use Rattle.fx_rules.specs.Lists.{Among, EachPair}
use Rattle.fx_rules.specs.Session.{Header, bank_count, pair_count, weight_of}
use Rattle.fx_rules.specs.State.{State, orders_in, headroom, line, reach}
use Rattle.fx_rules.specs.Sweep.{Taker, is_open, is_opposite, open_orders, is_preferred, is_better, IsBest}
use Rattle.fx_rules.specs.Depth.{lots_against}
use Rattle.fx_rules.specs.Sound.{IsSound, ArrivesBefore}
use Rattle.fx_rules.specs.View.{seen_as}
use Rattle.fx_rules.proofs.ListLemmas.{Each-among, Among-filter, among_filter, EachPair-filter}
use Rattle.fx_rules.proofs.Opens.{IsMaker, maker_of}
use Rattle.fx_rules.proofs.Preference.{preferred_neither, rising_same}
use Rattle.fx_rules.proofs.Planning.{orders_in-rising}
use Rattle.fx_rules.proofs.Following.{Follows, line_swap}
use Rattle.fx_rules.proofs.ViewLists.{Paired, Together, together-like, together-first, together-second, partner, partner_other, together-earlier, AreOf, AreMatched}

-- a bank's orders of a pair are shown to b: they are its own, or it could reach the bank as it began
abbrev pub shown : Header → ℕ → State → ℕ → ℕ → Bool
shown h b L pair bank = eqb bank b || leb 1 (reach h L b bank pair)

-- the orders of a pair that are shown to b
abbrev pub visible : Header → ℕ → State → State → ℕ → List Resting
visible h b L X pair = filter (λ o. shown h b L pair o.bank) (orders_in pair X.orders)

-- Two states look alike to b that came of L and M: its total leaves the same, it has the same lines, and the orders shown to it look
-- the same.
pub record AreAlike (h : Header) (b : ℕ) (L M X Y : State) : Type 0 where
  pub sound : IsSound h X
  pub sound_other : IsSound h Y
  pub from : Follows h L X
  pub from_other : Follows h M Y
  pub room : headroom h X b ≡ headroom h Y b
  pub lines : (bank : ℕ) → bank < bank_count h → bank ≢ b → line h X b bank ≡ line h Y b bank
  pub orders : (pair : ℕ) → pair < pair_count h → Paired b (visible h b L X pair) (visible h b L Y pair)

-- a taker meets an order: one of the two is b's, and the order is shown to it
pub record IsMet (h : Header) (b : ℕ) (L : State) (pair bank owner : ℕ) : Type 0 where
  pub one : (bank ≡ b) ⊎ (owner ≡ b)
  pub is_shown : shown h b L pair owner ≡ true

-- the taker in the other state
abbrev pub twin : Taker → ℕ → ℕ → ℕ → Taker
twin t number left arrival = record t { number = number; left = left; arrival = arrival }

-- Two takers look alike to b in two states.
pub record TakersAlike (h : Header) (b : ℕ) (L X Y : State) (t : Taker) (number left arrival : ℕ) : Type 0 where
  pub sender : t.bank < bank_count h
  pub pair : t.pair < pair_count h
  pub weight : 0 < weight_of h t.pair
  pub is_shown : shown h b L t.pair t.bank ≡ true
  pub commands : t.bank ≡ b → t.number ≡ number
  pub keys : AreMatched t.bank t.number t.bank number (visible h b L X t.pair) (visible h b L Y t.pair)
  pub earlier : (x y : Resting) → Together x y (visible h b L X t.pair) (visible h b L Y t.pair) → ltb x.arrival t.arrival ≡ ltb y.arrival arrival
  pub home : AreOf t.pair t.bank t.number X.orders
  pub home_other : AreOf t.pair t.bank number Y.orders
  pub makers : (o : Resting) → Among o (open_orders h X t) → IsMet h b L t.pair t.bank o.bank
  pub makers_other : (o : Resting) → Among o (open_orders h Y (twin t number left arrival)) → IsMet h b L t.pair t.bank o.bank
  pub lefts : (t.left ≡ left) ⊎ ((lots_against X t.pair t.side ≤ t.left) × (lots_against Y t.pair t.side ≤ left))

-- Two fills look the same to b: what differs is at most the number of the other's order.
pub record SameFill (b : ℕ) (f g : Fill) : Type 0 where
  pub pair : f.pair ≡ g.pair
  pub taker : f.taker ≡ g.taker
  pub taker_number : f.taker ≡ b → f.taker_number ≡ g.taker_number
  pub taker_side : f.taker_side ≡ g.taker_side
  pub maker : f.maker ≡ g.maker
  pub maker_number : f.maker ≡ b → f.maker_number ≡ g.maker_number
  pub price : f.price ≡ g.price
  pub lots : f.lots ≡ g.lots

abbrev pub FillsAlike : ℕ → List Fill → List Fill → Type 0
FillsAlike b [] [] = Unit {0}
FillsAlike b (f ∷ fs) (g ∷ gs) = SameFill b f g × FillsAlike b fs gs
FillsAlike b _ _ = ⊥

-- ---- what is open

pub like_bank : (b : ℕ) (x y : Resting) → seen_as b x ≡ seen_as b y → x.bank ≡ y.bank
like_bank b x y like = ap (λ (o : Resting). o.bank) like

-- the reach is the same where one of the two banks is b
pub reach_same : (h : Header) (b : ℕ) (L M X Y : State) (i k pair : ℕ) → AreAlike h b L M X Y → i < bank_count h → k < bank_count h → k ≢ i → (i ≡ b) ⊎ (k ≡ b) → reach h X i k pair ≡ reach h Y i k pair
reach_same h b L M X Y i k pair alike i_in k_in differ (inl is) =
    ap (λ l. l / weight_of h pair)
    (subst (λ n. line h X n k ≡ line h Y n k) (sym is) (alike.lines k k_in (λ same. differ (same ∙ sym is))))
reach_same h b L M X Y i k pair alike i_in k_in differ (inr is) =
    ap (λ l. l / weight_of h pair)
    (line_swap h X i k ∙ subst (λ n. line h X n i ≡ line h Y n i) (sym is) (alike.lines i i_in (λ same. differ (is ∙ sym same))) ∙ line_swap h Y k i)

open_test : Taker → Side → ℕ → ℕ → ℕ → Bool → Bool
open_test t side bank r price early =
    is_opposite t.side side && not (eqb bank t.bank) && leb 1 r && crosses t.side t.price price && early

open_same : (b : ℕ) (t : Taker) (number left arrival r r' : ℕ) (x y : Resting) → seen_as b x ≡ seen_as b y → r ≡ r' → ltb x.arrival t.arrival ≡ ltb y.arrival arrival → is_open t r x ≡ is_open (twin t number left arrival) r' y
unfolding open_test
open_same b t number left arrival r r' x y like same early =
    ap (λ (o : Resting). open_test t o.side o.bank r o.price (ltb x.arrival t.arrival)) like
    ∙ ap (λ n. open_test t y.side y.bank n y.price (ltb x.arrival t.arrival)) same
    ∙ ap (open_test t y.side y.bank r' y.price) early

preferred_test : Side → ℕ → ℕ → Bool → Bool
preferred_test side price other early = is_better side price other || (eqb price other && early)

preferred_same : (b : ℕ) (side : Side) (x v y w : Resting) → seen_as b x ≡ seen_as b y → seen_as b v ≡ seen_as b w → ltb x.arrival v.arrival ≡ ltb y.arrival w.arrival → is_preferred side x v ≡ is_preferred side y w
unfolding preferred_test
preferred_same b side x v y w like like' early =
    ap (λ (o : Resting). preferred_test side o.price v.price (ltb x.arrival v.arrival)) like
    ∙ ap (λ (o : Resting). preferred_test side y.price o.price (ltb x.arrival v.arrival)) like'
    ∙ ap (preferred_test side y.price w.price) early

-- an order that is open stands among those shown
pub open_shown : (h : Header) (b : ℕ) (L X : State) (t : Taker) (o : Resting) → Among o (open_orders h X t) → IsMet h b L t.pair t.bank o.bank → Among o (visible h b L X t.pair) × (is_open t (reach h X t.bank o.bank t.pair) o ≡ true)
open_shown h b L X t o there met =
    let found = Among-filter (λ (q : Resting). is_open t (reach h X t.bank q.bank t.pair) q) (orders_in t.pair X.orders) o there in
    (among_filter (λ (q : Resting). shown h b L t.pair q.bank) (orders_in t.pair X.orders) o found.0 met.is_shown, found.1)

pub shown_rests : (h : Header) (b : ℕ) (L X : State) (pair : ℕ) (o : Resting) → Among o (visible h b L X pair) → Among o (orders_in pair X.orders)
shown_rests h b L X pair o there = (Among-filter (λ (q : Resting). shown h b L pair q.bank) (orders_in pair X.orders) o there).0

pub visible-rising : (h : Header) (b : ℕ) (L X : State) (pair : ℕ) → IsSound h X → EachPair ArrivesBefore (visible h b L X pair)
visible-rising h b L X pair sound =
    EachPair-filter ArrivesBefore (λ (q : Resting). shown h b L pair q.bank) (orders_in pair X.orders) (orders_in-rising pair X.orders sound.rising)

-- what is open in one state is open in the other
pub open_across : (h : Header) (b : ℕ) (L M X Y : State) (t : Taker) (number left arrival : ℕ) (x y : Resting) → AreAlike h b L M X Y → TakersAlike h b L X Y t number left arrival → Together x y (visible h b L X t.pair) (visible h b L Y t.pair) → Among x (open_orders h X t) → Among y (open_orders h Y (twin t number left arrival))
open_across h b L M X Y t number left arrival x y alike takers together there =
    let like = together-like b x y (visible h b L X t.pair) (visible h b L Y t.pair) (alike.orders t.pair takers.pair) together in
    let met = takers.makers x there in
    let m : IsMaker h X t x = maker_of h X t x alike.sound there in
    let x_in : x.bank < bank_count h = omega (arith, m.kept.bank, ap (λ (o : Resting). o.bank) m.order) in
    let same : reach h X t.bank x.bank t.pair ≡ reach h Y t.bank y.bank t.pair =
    reach_same h b L M X Y t.bank x.bank t.pair alike takers.sender x_in m.is_open.other met.one ∙ ap (λ k. reach h Y t.bank k t.pair) (like_bank b x y like) in
    let u : Taker = twin t number left arrival in
    among_filter (λ (q : Resting). is_open u (reach h Y t.bank q.bank t.pair) q) (orders_in t.pair Y.orders) y
    (shown_rests h b L Y t.pair y (together-second x y (visible h b L X t.pair) (visible h b L Y t.pair) together))
    (sym (open_same b t number left arrival (reach h X t.bank x.bank t.pair) (reach h Y t.bank y.bank t.pair) x y like same (takers.earlier x y together))
    ∙ (open_shown h b L X t x there met).1)

pub open_back : (h : Header) (b : ℕ) (L M X Y : State) (t : Taker) (number left arrival : ℕ) (x y : Resting) → AreAlike h b L M X Y → TakersAlike h b L X Y t number left arrival → Together x y (visible h b L X t.pair) (visible h b L Y t.pair) → Among y (open_orders h Y (twin t number left arrival)) → Among x (open_orders h X t)
open_back h b L M X Y t number left arrival x y alike takers together there =
    let like = together-like b x y (visible h b L X t.pair) (visible h b L Y t.pair) (alike.orders t.pair takers.pair) together in
    let u : Taker = twin t number left arrival in
    let met = takers.makers_other y there in
    let m : IsMaker h Y u y = maker_of h Y u y alike.sound_other there in
    let y_in : y.bank < bank_count h = omega (arith, m.kept.bank, ap (λ (o : Resting). o.bank) m.order) in
    let same : reach h X t.bank x.bank t.pair ≡ reach h Y t.bank y.bank t.pair =
    ap (λ k. reach h X t.bank k t.pair) (like_bank b x y like) ∙ reach_same h b L M X Y t.bank y.bank t.pair alike takers.sender y_in m.is_open.other met.one in
    among_filter (λ (q : Resting). is_open t (reach h X t.bank q.bank t.pair) q) (orders_in t.pair X.orders) x
    (shown_rests h b L X t.pair x (together-first x y (visible h b L X t.pair) (visible h b L Y t.pair) together))
    (open_same b t number left arrival (reach h X t.bank x.bank t.pair) (reach h Y t.bank y.bank t.pair) x y like same (takers.earlier x y together)
    ∙ (open_shown h b L Y u y there met).1)

-- the two best open orders stand together
pub best_together : (h : Header) (b : ℕ) (L M X Y : State) (t : Taker) (number left arrival : ℕ) (a c : Resting) → AreAlike h b L M X Y → TakersAlike h b L X Y t number left arrival → IsBest t.side (open_orders h X t) a → IsBest t.side (open_orders h Y (twin t number left arrival)) c → Together a c (visible h b L X t.pair) (visible h b L Y t.pair)
best_together h b L M X Y t number left arrival a c alike takers best_a best_c =
    let u : Taker = twin t number left arrival in
    let VX : List Resting = visible h b L X t.pair in
    let VY : List Resting = visible h b L Y t.pair in
    let paired : Paired b VX VY = alike.orders t.pair takers.pair in
    let of_a = partner b a VX VY paired (open_shown h b L X t a best_a.there (takers.makers a best_a.there)).0 in
    let of_c = partner_other b c VX VY paired (open_shown h b L Y u c best_c.there (takers.makers_other c best_c.there)).0 in
    let y : Resting = of_a.0 in
    let x : Resting = of_c.0 in
    let y_open = open_across h b L M X Y t number left arrival a y alike takers of_a.1 best_a.there in
    let x_open = open_back h b L M X Y t number left arrival x c alike takers of_c.1 best_c.there in
    let early = together-earlier x c a y VX VY (visible-rising h b L X t.pair alike.sound) (visible-rising h b L Y t.pair alike.sound_other) of_c.1 of_a.1 in
    let not_before : is_preferred t.side c y ≡ false =
    sym (preferred_same b t.side x a c y (together-like b x c VX VY paired of_c.1) (together-like b a y VX VY paired of_a.1) early)
    ∙ Each-among (λ other. is_preferred t.side other a ≡ false) (open_orders h X t) x best_a.first x_open in
    let not_after : is_preferred t.side y c ≡ false =
    Each-among (λ other. is_preferred t.side other c ≡ false) (open_orders h Y u) y best_c.first y_open in
    let same : y ≡ c = rising_same VY y c (visible-rising h b L Y t.pair alike.sound_other)
    (together-second a y VX VY of_a.1) (together-second x c VX VY of_c.1) (preferred_neither t.side y c not_after not_before) in
    subst (λ (o : Resting). Together a o VX VY) same of_a.1
