-- States that a bank sees alike tell it the same of each command.
use Rattle.std.proofs.Common.{ℕ, ◌≡◌, ◌≢◌, ◌+◌, ◌-◌, ◌/◌, ◌≤◌, ◌<◌, true, false, not, ◌||◌, eqb, leb, ltb, List, [], ◌∷◌, map, ◌⊎◌, inl, inr, refl, ap, sym, subst, ◌∙◌, arith}
use Rattle.std.proofs.lemmas.Bool.{cases_eq, or_left, or_right, eq-eqb, ne_eqb, le-leb, lt-ltb, not_from_false, false_from_ne_true}
use Rattle.fx_amounts.specs.declared.side.Side.{Side}
use Rattle.fx_rules.specs.declared.orders.Resting.{Resting}
use Rattle.fx_rules.specs.declared.orders.Fill.{Fill}
use Rattle.fx_rules.specs.declared.outcome.Outcome.TheVariants.{Ordered}
use Rattle.std.specs.Option.{option_map}
use Rattle.fx_rules.specs.Lists.{Among, Each, below, total}
use Rattle.fx_rules.specs.Session.{Header, IsSession, bank_count, pair_count, weight_of}
use Rattle.fx_rules.specs.State.{State, orders_in, count_of, arrivals, others, spent, headroom, line, reach}
use Rattle.fx_rules.specs.Sweep.{Taker, Swept, is_order, less, filled}
use Rattle.fx_rules.specs.Depth.{lots_against}
use Rattle.fx_rules.specs.Sound.{IsSound, IsKept}
use Rattle.fx_rules.specs.View.{sees, seen_as, orders_seen, CreditSeen, credit_seen, View, view, told_fill, told}
use Rattle.fx_rules.proofs.ListLemmas.{Each-among, among_filter, filter_agree_on}
use Rattle.fx_rules.proofs.Totals.{total_map}
use Rattle.fx_rules.proofs.Opens.{orders_in-among, IsMaker, maker_of}
use Rattle.fx_rules.proofs.SweepSound.{weight_of-least}
use Rattle.fx_rules.proofs.Following.{follows-self}
use Rattle.fx_rules.proofs.Lowering.{is_order-says}
use Rattle.fx_rules.proofs.ViewLists.{paired-map, together-first, together-second, AreOf, among_below, map_same_at}
use Rattle.fx_rules.proofs.ViewOpen.{shown, visible, AreAlike, TakersAlike, SameFill, FillsAlike, shown_rests}
use Rattle.fx_rules.proofs.ViewSweep.{SweptAlike, swept-alike}

-- ---- the parts of a view

pub credit_same : (h : Header) (S T : State) (b k : ℕ) → view h S b ≡ view h T b → k < bank_count h → k ≢ b → credit_seen h S b k ≡ credit_seen h T b k
credit_same h S T b k same within differ =
    map_same_at (credit_seen h S b) (credit_seen h T b) (others h b) k (ap (λ (v : View). v.credit) same)
    (among_filter (λ other. not (eqb other b)) (below (bank_count h)) k (among_below (bank_count h) k within) (not_from_false (eqb k b) (ne_eqb k b differ)))

-- what the bank has spent is in its view, use by use
pub spent_same : (h : Header) (S T : State) (b : ℕ) → view h S b ≡ view h T b → spent h S b ≡ spent h T b
spent_same h S T b same =
    sym (total_map (λ (c : CreditSeen). c.used) (credit_seen h S b) (others h b))
    ∙ ap (λ (v : View). total (λ (c : CreditSeen). c.used) v.credit) same
    ∙ total_map (λ (c : CreditSeen). c.used) (credit_seen h T b) (others h b)

pub rooms_same : (h : Header) (S T : State) (b : ℕ) → view h S b ≡ view h T b → headroom h S b ≡ headroom h T b
rooms_same h S T b same =
    ap (λ n. option_map (λ most. most - n) (S.totals b)) (spent_same h S T b same)
    ∙ ap (λ (v : View). option_map (λ most. most - spent h T b) v.own_total) same

pub lines_same : (h : Header) (S T : State) (b k : ℕ) → view h S b ≡ view h T b → k < bank_count h → k ≢ b → line h S b k ≡ line h T b k
lines_same h S T b k same within differ = ap (λ (c : CreditSeen). c.line) (credit_same h S T b k same within differ)

pub reaches_same : (h : Header) (S T : State) (b k pair : ℕ) → view h S b ≡ view h T b → k < bank_count h → k ≢ b → reach h S b k pair ≡ reach h T b k pair
reaches_same h S T b k pair same within differ = ap (λ l. l / weight_of h pair) (lines_same h S T b k same within differ)

-- an order that rests is of a bank of the session
pub owner_in : (h : Header) (S : State) (pair : ℕ) (o : Resting) → IsSound h S → Among o (orders_in pair S.orders) → o.bank < bank_count h
owner_in h S pair o sound there =
    let stands = orders_in-among pair S.orders o there in
    let kept = Each-among (IsKept h S.counts) S.orders stands.0 sound.kept stands.1 in
    omega (arith, kept.bank, ap (λ (q : Resting). q.bank) stands.3)

-- what is shown by the lines of the one state is what is seen in the other
pub seen_is_shown : (h : Header) (S T : State) (b pair : ℕ) (o : Resting) → view h S b ≡ view h T b → o.bank < bank_count h → sees h T b pair o ≡ shown h b S pair o.bank
seen_is_shown h S T b pair o same within =
    elim (cases_eq o.bank b) [
      | inl own ↦
          ap (λ e. e || leb 1 (reach h T b o.bank pair)) (eq-eqb o.bank b own) ∙ sym (ap (λ e. e || leb 1 (reach h S b o.bank pair)) (eq-eqb o.bank b own))
      | inr differ ↦ ap (λ r. eqb o.bank b || leb 1 r) (sym (reaches_same h S T b o.bank pair same within differ))
    ]

pub views-alike : (h : Header) (S T : State) (b : ℕ) → IsSound h S → IsSound h T → view h S b ≡ view h T b → AreAlike h b S T S T
views-alike h S T b sound sound_other same = record {
  sound = sound;
  sound_other = sound_other;
  from = follows-self h S;
  from_other = follows-self h T;
  room = rooms_same h S T b same;
  lines = λ k within differ. lines_same h S T b k same within differ;
  orders = λ pair within.
      let seen : orders_seen h S b pair ≡ orders_seen h T b pair =
      map_same_at (orders_seen h S b) (orders_seen h T b) (below (pair_count h)) pair (ap (λ (v : View). v.orders) same) (among_below (pair_count h) pair within) in
      paired-map b (visible h b S S pair) (visible h b S T pair)
      (seen ∙ ap (map (seen_as b)) (filter_agree_on (sees h T b pair) (λ (o : Resting). shown h b S pair o.bank) (orders_in pair T.orders)
      (λ o there. seen_is_shown h S T b pair o same (owner_in h T pair o sound_other there))));
}

-- ---- a command of the bank as it is swept

-- the next order of a bank
abbrev pub next_taker : State → ℕ → ℕ → Side → ℕ → ℕ → Taker
next_taker S bank pair side price left = record {
  bank = bank;
  number = count_of S bank + 1;
  pair = pair;
  side = side;
  price = price;
  left = left;
  arrival = arrivals S;
}

-- no order rests under the next number
not_next : (h : Header) (S : State) (bank pair : ℕ) (o : Resting) → IsSound h S → Among o (orders_in pair S.orders) → is_order bank (count_of S bank + 1) o ≡ false
not_next h S bank pair o sound there = false_from_ne_true (is_order bank (count_of S bank + 1) o) (λ is.
    let parts = is_order-says bank (count_of S bank + 1) o is in
    let stands = orders_in-among pair S.orders o there in
    let kept = Each-among (IsKept h S.counts) S.orders stands.0 sound.kept stands.1 in
    let owner : stands.0.order.bank ≡ bank = sym (ap (λ (q : Resting). q.bank) stands.3) ∙ parts.0 in
    let most : stands.0.order.number ≤ count_of S bank = subst (λ k. stands.0.order.number ≤ count_of S k) owner kept.number_most in
    omega (arith, parts.1, ap (λ (q : Resting). q.number) stands.3))

next_home : (h : Header) (S : State) (bank pair : ℕ) → IsSound h S → AreOf pair bank (count_of S bank + 1) S.orders
next_home h S bank pair sound a there owner command =
    let kept = Each-among (IsKept h S.counts) S.orders a sound.kept there in
    let most : a.order.number ≤ count_of S bank = subst (λ k. a.order.number ≤ count_of S k) owner kept.number_most in
    absurd (omega (arith, command))

arrived : (h : Header) (S : State) (pair : ℕ) (o : Resting) → IsSound h S → Among o (orders_in pair S.orders) → ltb o.arrival (arrivals S) ≡ true
arrived h S pair o sound there =
    let stands = orders_in-among pair S.orders o there in
    let kept = Each-among (IsKept h S.counts) S.orders stands.0 sound.kept stands.1 in
    lt-ltb o.arrival (arrivals S) (omega (arith, kept.arrival, ap (λ (q : Resting). q.arrival) stands.3))

-- the next orders of a bank look alike in states that it sees alike
next-alike : (h : Header) (S T : State) (b pair : ℕ) (side : Side) (price left left' : ℕ) → IsSession h → IsSound h S → IsSound h T → b < bank_count h → pair < pair_count h → view h S b ≡ view h T b → (left ≡ left') ⊎ ((lots_against S pair side ≤ left) × (lots_against T pair side ≤ left')) → TakersAlike h b S S T (next_taker S b pair side price left) (count_of T b + 1) left' (arrivals T)
next-alike h S T b pair side price left left' session sound sound_other sender within same lefts =
    let t : Taker = next_taker S b pair side price left in
    let u : Taker = next_taker T b pair side price left' in
    record {
      sender = sender;
      pair = within;
      weight = weight_of-least h pair session within;
      is_shown = or_left (eqb b b) (leb 1 (reach h S b b pair)) (eq-eqb b b refl);
      commands = λ _. ap (λ (v : View). v.count + 1) same;
      keys = λ x y together.
          not_next h S b pair x sound (shown_rests h b S S pair x (together-first x y (visible h b S S pair) (visible h b S T pair) together))
          ∙ sym (not_next h T b pair y sound_other (shown_rests h b S T pair y (together-second x y (visible h b S S pair) (visible h b S T pair) together)));
      earlier = λ x y together.
          arrived h S pair x sound (shown_rests h b S S pair x (together-first x y (visible h b S S pair) (visible h b S T pair) together))
          ∙ sym (arrived h T pair y sound_other (shown_rests h b S T pair y (together-second x y (visible h b S S pair) (visible h b S T pair) together)));
      home = next_home h S b pair sound;
      home_other = next_home h T b pair sound_other;
      makers = λ o there.
          let m : IsMaker h S t o = maker_of h S t o sound there in
          record { one = inl refl; is_shown = or_right (eqb o.bank b) (leb 1 (reach h S b o.bank pair)) (le-leb 1 (reach h S b o.bank pair) m.is_open.reach) };
      makers_other = λ o there.
          let m : IsMaker h T u o = maker_of h T u o sound_other there in
          let o_in : o.bank < bank_count h = omega (arith, m.kept.bank, ap (λ (q : Resting). q.bank) m.order) in
          record {
            one = inl refl;
            is_shown = or_right (eqb o.bank b) (leb 1 (reach h S b o.bank pair))
                (le-leb 1 (reach h S b o.bank pair) (omega (arith, m.is_open.reach, reaches_same h S T b o.bank pair same o_in m.is_open.other)));
          };
      lefts = lefts;
    }

-- ---- fills as they are told

unfoldable pub made : ℕ → ℕ → ℕ → Side → ℕ → ℕ → ℕ → ℕ → Fill
made pair taker taker_number taker_side maker maker_number price lots = record {
  pair = pair;
  taker = taker;
  taker_number = taker_number;
  taker_side = taker_side;
  maker = maker;
  maker_number = maker_number;
  price = price;
  lots = lots;
}

pub made_same : (p p' t t' n n' : ℕ) (s s' : Side) (m m' k k' x x' l l' : ℕ) → p ≡ p' → t ≡ t' → n ≡ n' → s ≡ s' → m ≡ m' → k ≡ k' → x ≡ x' → l ≡ l' → made p t n s m k x l ≡ made p' t' n' s' m' k' x' l'
made_same p p' t t' n n' s s' m m' k k' x x' l l' a b c d e f g i = cc

told_same : (b : ℕ) (f g : Fill) → f.taker ≡ b → SameFill b f g → told_fill f ≡ told_fill g
unfolding made
told_same b f g own same =
    made_same f.pair g.pair f.taker g.taker f.taker_number g.taker_number f.taker_side g.taker_side f.maker g.maker 0 0 f.price g.price f.lots g.lots
    same.pair same.taker (same.taker_number own) same.taker_side same.maker refl same.price same.lots

pub cons_told : (x y : Fill) (xs ys : List Fill) → x ≡ y → xs ≡ ys → x ∷ xs ≡ y ∷ ys
cons_told x y xs ys a b = cc

fills-told : (b : ℕ) (fs gs : List Fill) → Each (λ (f : Fill). f.taker ≡ b) fs → FillsAlike b fs gs → map told_fill fs ≡ map told_fill gs
fills-told b [] [] own alike = refl
fills-told b [] (g ∷ gs) own alike = absurd alike
fills-told b (f ∷ fs) [] own alike = absurd alike
fills-told b (f ∷ fs) (g ∷ gs) own alike =
    cons_told (told_fill f) (told_fill g) (map told_fill fs) (map told_fill gs) (told_same b f g own.0 alike.0) (fills-told b fs gs own.1 alike.1)

pub swept-taker : (h : Header) (S : State) (t : Taker) (fills : List Fill) (left : ℕ) → Swept h S t fills left → Each (λ (f : Fill). f.taker ≡ t.bank) fills
swept-taker h S t [] left swept = tt
swept-taker h S t (f ∷ fills) left swept =
    (ap (λ (g : Fill). g.taker) swept.3, swept-taker h (filled S f) (less t f.lots) fills left swept.4)

-- what both sweeps of the bank's next orders tell it
pub record ToldAlike (b : ℕ) (fs gs : List Fill) : Type 0 where
  pub alike : FillsAlike b fs gs
  pub told : map told_fill fs ≡ map told_fill gs

pub next-told : (h : Header) (S T : State) (b pair : ℕ) (side : Side) (price left left' : ℕ) (fs gs : List Fill) (end end' : ℕ) → IsSession h → IsSound h S → IsSound h T → b < bank_count h → pair < pair_count h → view h S b ≡ view h T b → (left ≡ left') ⊎ ((lots_against S pair side ≤ left) × (lots_against T pair side ≤ left')) → Swept h S (next_taker S b pair side price left) fs end → Swept h T (next_taker T b pair side price left') gs end' → ToldAlike b fs gs
next-told h S T b pair side price left left' fs gs end end' session sound sound_other sender within same lefts one other =
    let t : Taker = next_taker S b pair side price left in
    let swept : SweptAlike h b S T S T pair fs gs =
    swept-alike h b S T S T t (count_of T b + 1) left' (arrivals T) fs gs end end' (views-alike h S T b sound sound_other same)
    (next-alike h S T b pair side price left left' session sound sound_other sender within same lefts) one other in
    record { alike = swept.fills; told = fills-told b fs gs (swept-taker h S t fs end one) swept.fills }

ordered_cc : (d r d' r' : ℕ) (xs ys : List Fill) → d ≡ d' → r ≡ r' → xs ≡ ys → Ordered d r xs ≡ Ordered d' r' ys
ordered_cc d r d' r' xs ys a b c = cc

pub ordered_told : (d r d' r' : ℕ) (fs gs : List Fill) → d ≡ d' → r ≡ r' → map told_fill fs ≡ map told_fill gs → told (Ordered d r fs) ≡ told (Ordered d' r' gs)
ordered_told d r d' r' fs gs a b c = ordered_cc d r d' r' (map told_fill fs) (map told_fill gs) a b c
