-- Two fills that look the same to a bank lead from states that look alike to it to states that do.
use Rattle.std.proofs.Common.{ℕ, ◌≡◌, ◌≢◌, ◌-◌, ◌*◌, ◌<◌, Bool, true, ◌&&◌, ◌||◌, eqb, List, [], ◌∷◌, map, ◌⊎◌, inl, inr, refl, ap, sym, subst, ◌∙◌}
use Rattle.std.specs.List.{filter}
use Rattle.std.proofs.lemmas.Bool.{cases_Bool, cond-true, cases_eq, eq-eqb}
use Rattle.fx_rules.specs.declared.orders.ActiveOrder.{ActiveOrder}
use Rattle.fx_rules.specs.declared.orders.Resting.{Resting}
use Rattle.fx_rules.specs.declared.orders.Fill.{Fill}
use Rattle.fx_rules.specs.Lists.{Among, EachPair}
use Rattle.fx_rules.specs.Session.{Header, bank_count, pair_count, weight_of}
use Rattle.fx_rules.specs.State.{State, orders_in, headroom, at_most, left_of_limits, line, is_between, cost, cost_between}
use Rattle.fx_rules.specs.Sweep.{Taker, open_orders, is_order, fill_with, filled, lowered}
use Rattle.fx_rules.specs.Sound.{IsSound, IsCovered, Rises}
use Rattle.fx_rules.specs.View.{seen_as}
use Rattle.fx_rules.proofs.Credit.{IsAllowed, is_between-swap, between-own, cost_between-one, cost_between-other, room_less, headroom-by, spent-between, most_same, line-pays, line-other}
use Rattle.fx_rules.proofs.Opens.{IsMaker, maker_of}
use Rattle.fx_rules.proofs.Following.{lowered_from}
use Rattle.fx_rules.proofs.Staying.{Elsewhere, active_same, filled_elsewhere}
use Rattle.fx_rules.proofs.ViewLists.{Paired, Together, together-order, lower_order, AreOf, orders_in-lowered, filter-lowered, AreMatched, paired-lowered, StoodTogether, together-lowered}
use Rattle.fx_rules.proofs.ViewOpen.{shown, visible, AreAlike, IsMet, twin, TakersAlike, SameFill, like_bank, visible-rising}

-- all orders of a command that rests in a pair are of that pair
pub are_of_one : (orders : List ActiveOrder) (a : ActiveOrder) (pair : ℕ) → EachPair Rises orders → Among a orders → a.pair ≡ pair → AreOf pair a.order.bank a.order.number orders
are_of_one orders a pair rising there of_pair o o_there bank number =
    ap (λ (q : ActiveOrder). q.pair) (active_same orders o a rising o_there there bank number) ∙ of_pair

pub are_of_lowered : (bank number lots : ℕ) (orders : List ActiveOrder) (pair i n : ℕ) → AreOf pair i n orders → AreOf pair i n (lowered bank number lots orders)
are_of_lowered bank number lots orders pair i n are a there owner command =
    let was = lowered_from bank number lots orders a there in
    ap (λ (q : ActiveOrder). q.pair) was.2
    ∙ are was.0 was.1 (sym (ap (λ (q : ActiveOrder). q.order.bank) was.2) ∙ owner) (sym (ap (λ (q : ActiveOrder). q.order.number) was.2) ∙ command)

pub are_of_filled : (X : State) (f : Fill) (pair i n : ℕ) → AreOf pair i n X.orders → AreOf pair i n (filled X f).orders
are_of_filled X f pair i n are =
    are_of_lowered f.taker f.taker_number f.lots (lowered f.maker f.maker_number f.lots X.orders) pair i n
    (are_of_lowered f.maker f.maker_number f.lots X.orders pair i n are)

elsewhere_from : (orders : List ActiveOrder) (pair bank number q : ℕ) → AreOf pair bank number orders → q ≢ pair → Elsewhere orders bank number q
elsewhere_from orders pair bank number q are differ a there owner command is = differ (sym is ∙ are a there owner command)

-- what is known of a taker and its maker in one state
pub record IsTaken (h : Header) (b : ℕ) (L X : State) (t : Taker) (a : Resting) : Type 0 where
  pub home : AreOf t.pair t.bank t.number X.orders
  pub maker_home : AreOf t.pair a.bank a.number X.orders
  pub taker_shown : shown h b L t.pair t.bank ≡ true
  pub maker_shown : shown h b L t.pair a.bank ≡ true

pub taken_of : (h : Header) (b : ℕ) (L X : State) (t : Taker) (a : Resting) → IsSound h X → AreOf t.pair t.bank t.number X.orders → shown h b L t.pair t.bank ≡ true → IsMet h b L t.pair t.bank a.bank → Among a (open_orders h X t) → IsTaken h b L X t a
taken_of h b L X t a sound home taker_shown met there =
    let m : IsMaker h X t a = maker_of h X t a sound there in
    record {
      home = home;
      maker_home = subst (λ (o : Resting). AreOf t.pair o.bank o.number X.orders) (sym m.order)
          (are_of_one X.orders m.active t.pair sound.rising m.among m.pair);
      taker_shown = taker_shown;
      maker_shown = met.is_shown;
    }

-- the orders of the pair after a fill
pub orders_filled : (h : Header) (b : ℕ) (L X : State) (t : Taker) (a : Resting) (lots : ℕ) → IsTaken h b L X t a → orders_in t.pair (filled X (fill_with t a lots)).orders ≡ lower_order t.bank t.number lots (lower_order a.bank a.number lots (orders_in t.pair X.orders))
orders_filled h b L X t a lots taken =
    orders_in-lowered t.pair t.bank t.number lots (lowered a.bank a.number lots X.orders)
    (are_of_lowered a.bank a.number lots X.orders t.pair t.bank t.number taken.home)
    ∙ ap (lower_order t.bank t.number lots) (orders_in-lowered t.pair a.bank a.number lots X.orders taken.maker_home)

visible_filled : (h : Header) (b : ℕ) (L X : State) (t : Taker) (a : Resting) (lots : ℕ) → IsTaken h b L X t a → visible h b L (filled X (fill_with t a lots)) t.pair ≡ lower_order t.bank t.number lots (lower_order a.bank a.number lots (visible h b L X t.pair))
visible_filled h b L X t a lots taken =
    ap (filter (λ (o : Resting). shown h b L t.pair o.bank)) (orders_filled h b L X t a lots taken)
    ∙ filter-lowered (shown h b L t.pair) t.bank t.number lots (lower_order a.bank a.number lots (orders_in t.pair X.orders)) taken.taker_shown
    ∙ ap (lower_order t.bank t.number lots) (filter-lowered (shown h b L t.pair) a.bank a.number lots (orders_in t.pair X.orders) taken.maker_shown)

visible_elsewhere : (h : Header) (b : ℕ) (L X : State) (t : Taker) (a : Resting) (lots q : ℕ) → IsTaken h b L X t a → q ≢ t.pair → visible h b L (filled X (fill_with t a lots)) q ≡ visible h b L X q
visible_elsewhere h b L X t a lots q taken differ =
    ap (λ (orders : List ActiveOrder). filter (λ (o : Resting). shown h b L q o.bank) (map (λ (c : ActiveOrder). c.order) orders))
    (filled_elsewhere X (fill_with t a lots) q
    (elsewhere_from X.orders t.pair a.bank a.number q taken.maker_home differ)
    (elsewhere_from X.orders t.pair t.bank t.number q taken.home differ))

pub like_number : (b : ℕ) (x y : Resting) → seen_as b x ≡ seen_as b y → x.bank ≡ b → x.number ≡ y.number
like_number b x y like own =
    sym (cond-true (eqb x.bank b) x.number 0 (eq-eqb x.bank b own)) ∙ ap (λ (o : Resting). o.number) like
    ∙ cond-true (eqb y.bank b) y.number 0 (eq-eqb y.bank b (sym (like_bank b x y like) ∙ own))

pub same_fill : (b : ℕ) (t : Taker) (number left arrival : ℕ) (a c : Resting) (lots lots' : ℕ) → seen_as b a ≡ seen_as b c → (t.bank ≡ b → t.number ≡ number) → lots ≡ lots' → SameFill b (fill_with t a lots) (fill_with (twin t number left arrival) c lots')
same_fill b t number left arrival a c lots lots' like commands same = record {
  pair = refl;
  taker = refl;
  taker_number = commands;
  taker_side = refl;
  maker = like_bank b a c like;
  maker_number = like_number b a c like;
  price = ap (λ (o : Resting). o.price) like;
  lots = same;
}

between_banks : ℕ → ℕ → ℕ → ℕ → Bool
between_banks i k taker maker = (eqb taker i && eqb maker k) || (eqb taker k && eqb maker i)

-- fills that look the same are of the same two banks
between_same : (b i k : ℕ) (f g : Fill) → SameFill b f g → is_between i k f ≡ is_between i k g
unfolding between_banks
between_same b i k f g same = ap (λ n. between_banks i k n f.maker) same.taker ∙ ap (between_banks i k g.taker) same.maker

-- fills that look the same use the same
pub cost_same : (h : Header) (b i k : ℕ) (f g : Fill) → SameFill b f g → cost_between h i k (f ∷ []) ≡ cost_between h i k (g ∷ [])
cost_same h b i k f g same =
    let between : is_between i k f ≡ is_between i k g = between_same b i k f g same in
    let costs : cost h f ≡ cost h g = ap (λ n. n * weight_of h f.pair) same.lots ∙ ap (λ p. g.lots * weight_of h p) same.pair in
    elim (cases_Bool (is_between i k f)) [
      | inl is ↦ cost_between-one h i k f is ∙ costs ∙ sym (cost_between-one h i k g (sym between ∙ is))
      | inr isnt ↦ cost_between-other h i k f isnt ∙ sym (cost_between-other h i k g (sym between ∙ isnt))
    ]

-- Two fills that look the same, each of which its state's credit allows, and of which one bank is b.
pub record FillsMatch (h : Header) (b : ℕ) (X Y : State) (f g : Fill) : Type 0 where
  pub covered : IsCovered h X
  pub covered_other : IsCovered h Y
  pub same : SameFill b f g
  pub allowed : IsAllowed h X f
  pub own : (f.taker ≡ b) ⊎ (f.maker ≡ b)

-- the bank that b has a fill with
pub record IsPartner (h : Header) (b partner : ℕ) (f g : Fill) : Type 0 where
  pub within : partner < bank_count h
  pub differ : b ≢ partner
  pub between : is_between b partner f ≡ true
  pub between_other : is_between b partner g ≡ true

module _ (h : Header) (b : ℕ) (X Y : State) (f g : Fill) (match : FillsMatch h b X Y f g) where
  partner_of : (partner : ℕ) × IsPartner h b partner f g
  partner_of = elim match.own [
    | inl taker ↦
        let is : is_between b f.maker f ≡ true = subst (λ n. is_between n f.maker f ≡ true) taker (between-own f) in (
          f.maker,
          record {
            within = match.allowed.maker;
            differ = λ same. match.allowed.differ (taker ∙ same);
            between = is;
            between_other = sym (between_same b b f.maker f g match.same) ∙ is;
          },
        )
    | inr maker ↦
        let is : is_between b f.taker f ≡ true =
        subst (λ n. is_between n f.taker f ≡ true) maker (sym (is_between-swap f.taker f.maker f) ∙ between-own f) in (
          f.taker,
          record {
            within = match.allowed.taker;
            differ = λ same. match.allowed.differ (sym same ∙ sym maker);
            between = is;
            between_other = sym (between_same b b f.taker f g match.same) ∙ is;
          },
        )
  ]

  costs : cost h f ≡ cost h g
  costs = ap (λ n. n * weight_of h f.pair) match.same.lots ∙ ap (λ p. g.lots * weight_of h p) match.same.pair

  room_filled : (Z : State) (k : Fill) (partner : ℕ) → IsCovered h Z → partner < bank_count h → b ≢ partner → is_between b partner k ≡ true → headroom h (filled Z k) b ≡ room_less (headroom h Z b) (cost h k)
  room_filled Z k partner covered within differ between =
      headroom-by h Z k b (cost h k) (spent-between h Z k b partner covered within differ between)

  -- what the total of b leaves stays the same
  pub room-filled : headroom h X b ≡ headroom h Y b → headroom h (filled X f) b ≡ headroom h (filled Y g) b
  room-filled same =
      let found = partner_of in
      let p : IsPartner h b found.0 f g = found.1 in
      room_filled X f found.0 match.covered p.within p.differ p.between
      ∙ ap (λ o. room_less o (cost h f)) same ∙ ap (room_less (headroom h Y b)) costs
      ∙ sym (room_filled Y g found.0 match.covered_other p.within p.differ p.between_other)

  -- and so does each line of b
  pub lines-filled : headroom h X b ≡ headroom h Y b → b < bank_count h → (bank : ℕ) → bank < bank_count h → bank ≢ b → line h X b bank ≡ line h Y b bank → line h (filled X f) b bank ≡ line h (filled Y g) b bank
  lines-filled room b_in bank bank_in other same =
      let found = partner_of in
      let p : IsPartner h b found.0 f g = found.1 in
      elim (cases_eq bank found.0) [
        | inl is ↦
            let between : is_between b bank f ≡ true = subst (λ n. is_between b n f ≡ true) (sym is) p.between in
            let between_other : is_between b bank g ≡ true = subst (λ n. is_between b n g ≡ true) (sym is) p.between_other in
            let apart : b ≢ bank = λ e. other (sym e) in
            line-pays h X f b bank match.covered b_in bank_in apart between
            ∙ ap (λ l. l - cost h f) same ∙ ap (λ n. line h Y b bank - n) costs
            ∙ sym (line-pays h Y g b bank match.covered_other b_in bank_in apart between_other)
        | inr third ↦
            let rest : State → ℕ = λ Z. at_most (headroom h Z bank) (left_of_limits h Z b bank) in
            let bounded : at_most (headroom h X b) (rest X) ≡ at_most (headroom h X b) (rest Y) = same ∙ ap (λ o. at_most o (rest Y)) (sym room) in
            line-other h X f b found.0 bank match.covered p.within p.differ p.between other third
            ∙ most_same (headroom h X b) (rest X) (rest Y) (cost h f) bounded
            ∙ ap (λ o. at_most (room_less o (cost h f)) (rest Y)) room ∙ ap (λ n. at_most (room_less (headroom h Y b) n) (rest Y)) costs
            ∙ sym (line-other h Y g b found.0 bank match.covered_other p.within p.differ p.between_other other third)
      ]

-- what two fills that look the same leave looks the same
matched_lowered : (b i m j l bank number bank' number' lots : ℕ) (xs ys : List Resting) → Paired b xs ys → AreMatched bank number bank' number' xs ys → AreMatched i m j l xs ys → AreMatched i m j l (lower_order bank number lots xs) (lower_order bank' number' lots ys)
matched_lowered b i m j l bank number bank' number' lots xs ys paired lowers matched x y together =
    let stood = together-lowered b bank number bank' number' lots x y xs ys paired lowers together in
    ap (is_order i m) stood.first_is ∙ matched stood.first stood.second stood.together ∙ sym (ap (is_order j l) stood.second_is)

pub stood_before : (x y : Resting) (xs ys vs ws : List Resting) → StoodTogether x y vs ws → ((v w : Resting) → Together v w vs ws → StoodTogether v w xs ys) → StoodTogether x y xs ys
stood_before x y xs ys vs ws stood before =
    let earlier = before stood.first stood.second stood.together in
    record {
      first = earlier.first;
      second = earlier.second;
      together = earlier.together;
      first_is = stood.first_is ∙ ap (λ (o : Resting). record o { left = x.left }) earlier.first_is;
      second_is = stood.second_is ∙ ap (λ (o : Resting). record o { left = y.left }) earlier.second_is;
    }

-- two fills of takers that look alike, with makers at one place
pub record FillTogether (h : Header) (b : ℕ) (L M X Y : State) (t : Taker) (number left arrival : ℕ) (a c : Resting) : Type 0 where
  pub alike : AreAlike h b L M X Y
  pub takers : TakersAlike h b L X Y t number left arrival
  pub together : Together a c (visible h b L X t.pair) (visible h b L Y t.pair)
  pub one : (t.bank ≡ b) ⊎ (a.bank ≡ b)
  pub taken : IsTaken h b L X t a
  pub taken_other : IsTaken h b L Y (twin t number left arrival) c

pub makers_matched : (h : Header) (b : ℕ) (L M X Y : State) (t : Taker) (number left arrival : ℕ) (a c : Resting) → FillTogether h b L M X Y t number left arrival a c → AreMatched a.bank a.number c.bank c.number (visible h b L X t.pair) (visible h b L Y t.pair)
makers_matched h b L M X Y t number left arrival a c fill x y together =
    together-order a c x y (visible h b L X t.pair) (visible h b L Y t.pair)
    (visible-rising h b L X t.pair fill.alike.sound) (visible-rising h b L Y t.pair fill.alike.sound_other) fill.together together

takers_matched : (h : Header) (b : ℕ) (L M X Y : State) (t : Taker) (number left arrival : ℕ) (a c : Resting) (lots : ℕ) → FillTogether h b L M X Y t number left arrival a c → AreMatched t.bank t.number t.bank number (lower_order a.bank a.number lots (visible h b L X t.pair)) (lower_order c.bank c.number lots (visible h b L Y t.pair))
takers_matched h b L M X Y t number left arrival a c lots fill =
    matched_lowered b t.bank t.number t.bank number a.bank a.number c.bank c.number lots (visible h b L X t.pair) (visible h b L Y t.pair)
    (fill.alike.orders t.pair fill.takers.pair) (makers_matched h b L M X Y t number left arrival a c fill) fill.takers.keys

-- what stands together after the fills stood together before
pub stood_filled : (h : Header) (b : ℕ) (L M X Y : State) (t : Taker) (number left arrival : ℕ) (a c : Resting) (lots : ℕ) → FillTogether h b L M X Y t number left arrival a c → (x y : Resting) → Together x y (visible h b L (filled X (fill_with t a lots)) t.pair) (visible h b L (filled Y (fill_with (twin t number left arrival) c lots)) t.pair) → StoodTogether x y (visible h b L X t.pair) (visible h b L Y t.pair)
stood_filled h b L M X Y t number left arrival a c lots fill x y together =
    let u : Taker = twin t number left arrival in
    let VX : List Resting = visible h b L X t.pair in
    let VY : List Resting = visible h b L Y t.pair in
    let paired : Paired b VX VY = fill.alike.orders t.pair fill.takers.pair in
    let matched = makers_matched h b L M X Y t number left arrival a c fill in
    let now : Together x y (lower_order t.bank t.number lots (lower_order a.bank a.number lots VX)) (lower_order t.bank number lots (lower_order c.bank c.number lots VY)) =
    subst (Together x y (lower_order t.bank t.number lots (lower_order a.bank a.number lots VX))) (visible_filled h b L Y u c lots fill.taken_other)
    (subst (λ os. Together x y os (visible h b L (filled Y (fill_with u c lots)) t.pair)) (visible_filled h b L X t a lots fill.taken) together) in
    stood_before x y VX VY (lower_order a.bank a.number lots VX) (lower_order c.bank c.number lots VY)
    (together-lowered b t.bank t.number t.bank number lots x y (lower_order a.bank a.number lots VX) (lower_order c.bank c.number lots VY)
    (paired-lowered b a.bank a.number c.bank c.number lots VX VY paired matched)
    (takers_matched h b L M X Y t number left arrival a c lots fill) now)
    (λ v w there. together-lowered b a.bank a.number c.bank c.number lots v w VX VY paired matched there)

paired_filled : (h : Header) (b : ℕ) (L M X Y : State) (t : Taker) (number left arrival : ℕ) (a c : Resting) (lots : ℕ) → FillTogether h b L M X Y t number left arrival a c → Paired b (visible h b L (filled X (fill_with t a lots)) t.pair) (visible h b L (filled Y (fill_with (twin t number left arrival) c lots)) t.pair)
paired_filled h b L M X Y t number left arrival a c lots fill =
    let u : Taker = twin t number left arrival in
    let VX : List Resting = visible h b L X t.pair in
    let VY : List Resting = visible h b L Y t.pair in
    subst (Paired b (visible h b L (filled X (fill_with t a lots)) t.pair)) (sym (visible_filled h b L Y u c lots fill.taken_other))
    (subst (λ os. Paired b os (lower_order t.bank number lots (lower_order c.bank c.number lots VY))) (sym (visible_filled h b L X t a lots fill.taken))
    (paired-lowered b t.bank t.number t.bank number lots (lower_order a.bank a.number lots VX) (lower_order c.bank c.number lots VY)
    (paired-lowered b a.bank a.number c.bank c.number lots VX VY (fill.alike.orders t.pair fill.takers.pair)
    (makers_matched h b L M X Y t number left arrival a c fill))
    (takers_matched h b L M X Y t number left arrival a c lots fill)))

pub paired_everywhere : (h : Header) (b : ℕ) (L M X Y : State) (t : Taker) (number left arrival : ℕ) (a c : Resting) (lots : ℕ) → FillTogether h b L M X Y t number left arrival a c → (q : ℕ) → q < pair_count h → Paired b (visible h b L (filled X (fill_with t a lots)) q) (visible h b L (filled Y (fill_with (twin t number left arrival) c lots)) q)
paired_everywhere h b L M X Y t number left arrival a c lots fill q q_in =
    let u : Taker = twin t number left arrival in
    let X' : State = filled X (fill_with t a lots) in
    let Y' : State = filled Y (fill_with u c lots) in
    elim (cases_eq q t.pair) [
      | inl is ↦ subst (λ p. Paired b (visible h b L X' p) (visible h b L Y' p)) (sym is) (paired_filled h b L M X Y t number left arrival a c lots fill)
      | inr differ ↦
          subst (Paired b (visible h b L X' q)) (sym (visible_elsewhere h b L Y u c lots q fill.taken_other differ))
          (subst (λ os. Paired b os (visible h b L Y q)) (sym (visible_elsewhere h b L X t a lots q fill.taken differ)) (fill.alike.orders q q_in))
    ]
