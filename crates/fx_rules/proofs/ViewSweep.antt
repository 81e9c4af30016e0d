-- Two sweeps that look the same to a bank, step by step.
use Rattle.std.proofs.Common.{ℕ, ◌≡◌, ◌+◌, ◌-◌, ◌≤◌, ◌<◌, min, true, false, ltb, cond, List, [], ◌∷◌, ◌⊎◌, inl, inr, refl, ap, sym, subst, ◌∙◌, arith}
use Rattle.std.specs.List.{filter}
use Rattle.std.specs.Prelude.{nat_lt}
use Rattle.std.proofs.lemmas.Bool.{cases_Bool, cond_both, cond-true, cond-false, ltb-false, both_ways}
use Rattle.fx_amounts.specs.declared.side.Side.{Side}
use Rattle.fx_rules.specs.declared.orders.Resting.{Resting}
use Rattle.fx_rules.specs.declared.orders.Fill.{Fill}
use Rattle.fx_rules.specs.Lists.{Among, EachPair, total}
use Rattle.fx_rules.specs.Session.{Header, bank_count, weight_of}
use Rattle.fx_rules.specs.State.{State, orders_in, reach}
use Rattle.fx_rules.specs.Sweep.{Taker, Swept, is_open, is_opposite, open_orders, is_order, IsBest, amount, fill_with, filled, filled_all, less}
use Rattle.fx_rules.specs.Depth.{lots_against}
use Rattle.fx_rules.specs.Sound.{IsSound, ArrivesBefore}
use Rattle.fx_rules.specs.View.{seen_as}
use Rattle.fx_rules.proofs.ListLemmas.{Among-filter, filter_cons_true, filter_cons_false}
use Rattle.fx_rules.proofs.Credit.{IsAllowed}
use Rattle.fx_rules.proofs.Opens.{is_open-says, IsMaker, maker_of, allowed-open}
use Rattle.fx_rules.proofs.Preference.{command_same}
use Rattle.fx_rules.proofs.Planning.{orders_in-rising}
use Rattle.fx_rules.proofs.SweepSound.{filled-sound}
use Rattle.fx_rules.proofs.Following.{filled-follows, follows-then}
use Rattle.fx_rules.proofs.Levels.{lots_of}
use Rattle.fx_rules.proofs.Truth.{open-was, swept-lots}
use Rattle.fx_rules.proofs.Lowering.{is_order-says, is_order-from}
use Rattle.fx_rules.proofs.ViewLists.{Together, together-like, partner, partner_other, StoodTogether, lower_order}
use Rattle.fx_rules.proofs.ViewOpen.{visible, AreAlike, IsMet, twin, TakersAlike, FillsAlike, like_bank, reach_same, open_shown, open_across, open_back, best_together}
use Rattle.fx_rules.proofs.ViewFill.{are_of_filled, taken_of, IsTaken, same_fill, FillsMatch, room-filled, lines-filled, stood_before, FillTogether, stood_filled, paired_everywhere, orders_filled}

-- ---- the lots of the other side

-- the lots of an order that is on the other side
against : Side → Resting → ℕ
against side o = cond (is_opposite side o.side) o.left 0

unfoldable pub lots_on : Side → List Resting → ℕ
lots_on side orders = total (λ (o : Resting). o.left) (filter (λ (o : Resting). is_opposite side o.side) orders)

none_more : (n : ℕ) → n ≡ 0 + n
none_more n = omega arith

lots_on-head : (side : Side) (o : Resting) (orders : List Resting) → lots_on side (o ∷ orders) ≡ against side o + lots_on side orders
unfolding lots_on against
lots_on-head side o orders = elim (cases_Bool (is_opposite side o.side)) [
  | inl is ↦ ap (total (λ (q : Resting). q.left)) (filter_cons_true (λ (q : Resting). is_opposite side q.side) o orders is)
      ∙ ap (λ n. n + lots_on side orders) (sym (cond-true (is_opposite side o.side) o.left 0 is))
  | inr isnt ↦ ap (total (λ (q : Resting). q.left)) (filter_cons_false (λ (q : Resting). is_opposite side q.side) o orders isnt)
      ∙ none_more (lots_on side orders) ∙ ap (λ n. n + lots_on side orders) (sym (cond-false (is_opposite side o.side) o.left 0 isnt))
]

against-less : (side : Side) (o : Resting) (lots : ℕ) → against side (record o { left = o.left - lots }) ≤ against side o
unfolding against
against-less side o lots = cond_both (is_opposite side o.side) o.left 0 (λ n. cond (is_opposite side o.side) (o.left - lots) 0 ≤ n)
    (λ is. subst (λ n. n ≤ o.left) (sym (cond-true (is_opposite side o.side) (o.left - lots) 0 is)) (omega arith))
    (λ isnt. subst (λ n. n ≤ 0) (sym (cond-false (is_opposite side o.side) (o.left - lots) 0 isnt)) (omega arith))

-- a lowered order takes no lots to the other side
lots_on-lowered : (side : Side) (bank number lots : ℕ) (orders : List Resting) → lots_on side (lower_order bank number lots orders) ≤ lots_on side orders
unfolding lower_order
lots_on-lowered side bank number lots [] = omega arith
lots_on-lowered side bank number lots (o ∷ orders) =
    let less_o : Resting = record o { left = o.left - lots } in
    let head : lots_on side (o ∷ orders) ≡ against side o + lots_on side orders = lots_on-head side o orders in
    let head_less : lots_on side (less_o ∷ orders) ≡ against side less_o + lots_on side orders = lots_on-head side less_o orders in
    let falls : against side less_o ≤ against side o = against-less side o lots in
    let rest : lots_on side (lower_order bank number lots orders) ≤ lots_on side orders = lots_on-lowered side bank number lots orders in
    let head_rest : lots_on side (o ∷ lower_order bank number lots orders) ≡ against side o + lots_on side (lower_order bank number lots orders)
    = lots_on-head side o (lower_order bank number lots orders) in
    cond_both (is_order bank number o) (cond (nat_lt lots o.left) (less_o ∷ orders) orders) (o ∷ lower_order bank number lots orders)
    (λ os. lots_on side os ≤ lots_on side (o ∷ orders))
    (λ _. cond_both (nat_lt lots o.left) (less_o ∷ orders) orders (λ os. lots_on side os ≤ lots_on side (o ∷ orders))
    (λ _. omega arith) (λ _. omega arith))
    (λ _. omega arith)

against-is : (side : Side) (o : Resting) → is_opposite side o.side ≡ true → against side o ≡ o.left
unfolding against
against-is side o is = cond-true (is_opposite side o.side) o.left 0 is

pub among_lots : (side : Side) (orders : List Resting) (a : Resting) → Among a orders → is_opposite side a.side ≡ true → a.left ≤ lots_on side orders
among_lots side [] a there is = absurd there
among_lots side (o ∷ orders) a (inl same) is =
    let here : against side a ≡ a.left = against-is side a is in
    omega (arith, lots_on-head side o orders, ap (against side) same)
among_lots side (o ∷ orders) a (inr there) is = omega (arith, lots_on-head side o orders, among_lots side orders a there is)

not_head : (o : Resting) (orders : List Resting) (a : Resting) → Among a (o ∷ orders) → is_order a.bank a.number o ≡ false → Among a orders
not_head o orders a (inl is) isnt = absurd (both_ways (is_order a.bank a.number o) isnt
    (is_order-from a.bank a.number o (ap (λ (q : Resting). q.bank) (sym is)) (ap (λ (q : Resting). q.number) (sym is))))
not_head o orders a (inr later) isnt = later

-- a fill takes its lots of the other side
pub lots_on-taken : (side : Side) (lots : ℕ) (orders : List Resting) (a : Resting) → EachPair ArrivesBefore orders → Among a orders → is_opposite side a.side ≡ true → lots ≤ a.left → lots_on side (lower_order a.bank a.number lots orders) + lots ≤ lots_on side orders
unfolding lower_order
lots_on-taken side lots [] a rising there opposite most = absurd there
lots_on-taken side lots (o ∷ orders) a rising there opposite most =
    let less_o : Resting = record o { left = o.left - lots } in
    let head : lots_on side (o ∷ orders) ≡ against side o + lots_on side orders = lots_on-head side o orders in
    cond_both (is_order a.bank a.number o) (cond (nat_lt lots o.left) (less_o ∷ orders) orders) (o ∷ lower_order a.bank a.number lots orders)
    (λ os. lots_on side os + lots ≤ lots_on side (o ∷ orders))
    (λ is.
    let parts = is_order-says a.bank a.number o is in
    let same : o ≡ a = command_same (o ∷ orders) o a rising (inl refl) there parts.0 parts.1 in
    let o_opposite : is_opposite side o.side ≡ true = ap (λ (q : Resting). is_opposite side q.side) same ∙ opposite in
    let left : o.left ≡ a.left = ap (λ (q : Resting). q.left) same in
    let o_against : against side o ≡ o.left = against-is side o o_opposite in
    cond_both (nat_lt lots o.left) (less_o ∷ orders) orders (λ os. lots_on side os + lots ≤ lots_on side (o ∷ orders))
    (λ _. let less_against : against side less_o ≡ o.left - lots = against-is side less_o o_opposite in
    omega (arith, lots_on-head side less_o orders))
    (λ none. omega (arith, ltb-false lots o.left none)))
    (λ isnt.
    let later : Among a orders = not_head o orders a there isnt in
    let rest : lots_on side (lower_order a.bank a.number lots orders) + lots ≤ lots_on side orders = lots_on-taken side lots orders a rising.1 later opposite most in
    omega (arith, lots_on-head side o (lower_order a.bank a.number lots orders)))

left_numbers : (now own maker lots book left : ℕ) → now ≡ own → own ≤ maker → maker + lots ≤ book → book ≤ left → now ≤ left - lots
left_numbers now own maker lots book left a b c d = omega arith

-- ---- after a fill

module _ (h : Header) (b : ℕ) (L M X Y : State) (t : Taker) (number left arrival : ℕ) (a c : Resting) (lots : ℕ) (fill : FillTogether h b L M X Y t number left arrival a c) where
  like_makers : seen_as b a ≡ seen_as b c
  like_makers = together-like b a c (visible h b L X t.pair) (visible h b L Y t.pair) (fill.alike.orders t.pair fill.takers.pair) fill.together

  pub alike-filled : IsAllowed h X (fill_with t a lots) → IsAllowed h Y (fill_with (twin t number left arrival) c lots) → AreAlike h b L M (filled X (fill_with t a lots)) (filled Y (fill_with (twin t number left arrival) c lots))
  alike-filled allowed allowed_other =
      let f : Fill = fill_with t a lots in
      let g : Fill = fill_with (twin t number left arrival) c lots in
      let match : FillsMatch h b X Y f g = record {
        covered = fill.alike.sound.covered;
        covered_other = fill.alike.sound_other.covered;
        same = same_fill b t number left arrival a c lots lots like_makers fill.takers.commands refl;
        allowed = allowed;
        own = fill.one;
      } in
      let b_in : b < bank_count h = elim fill.one [
        | inl taker ↦ subst (λ n. n < bank_count h) taker allowed.taker
        | inr maker ↦ subst (λ n. n < bank_count h) maker allowed.maker
      ] in
      record {
        sound = filled-sound h X f fill.alike.sound allowed;
        sound_other = filled-sound h Y g fill.alike.sound_other allowed_other;
        from = follows-then h L X (filled X f) fill.alike.from (filled-follows h X f);
        from_other = follows-then h M Y (filled Y g) fill.alike.from_other (filled-follows h Y g);
        room = room-filled h b X Y f g match fill.alike.room;
        lines = λ bank bank_in other. lines-filled h b X Y f g match fill.alike.room b_in bank bank_in other (fill.alike.lines bank bank_in other);
        orders = paired_everywhere h b L M X Y t number left arrival a c lots fill;
      }

  maker_stays : (X : State) (u : Taker) (a : Resting) (o : Resting) → 0 < weight_of h u.pair → ((q : Resting) → Among q (open_orders h X u) → IsMet h b L u.pair u.bank q.bank) → Among o (open_orders h (filled X (fill_with u a lots)) (less u lots)) → IsMet h b L u.pair u.bank o.bank
  maker_stays X u a o some makers there =
      let was = open-was h X u (fill_with u a lots) o some there in
      subst (IsMet h b L u.pair u.bank) (sym (ap (λ (q : Resting). q.bank) was.2)) (makers was.0 was.1)

  enough_filled : (X : State) (u : Taker) (a : Resting) → IsSound h X → IsTaken h b L X u a → Among a (orders_in u.pair X.orders) → is_opposite u.side a.side ≡ true → lots ≤ a.left → lots_against X u.pair u.side ≤ u.left → lots_against (filled X (fill_with u a lots)) u.pair u.side ≤ u.left - lots
  unfolding lots_on
  enough_filled X u a sound taken there opposite most enough =
      let book : List Resting = orders_in u.pair X.orders in
      let now : lots_on u.side (orders_in u.pair (filled X (fill_with u a lots)).orders) ≡ lots_on u.side (lower_order u.bank u.number lots (lower_order a.bank a.number lots book))
      = ap (lots_on u.side) (orders_filled h b L X u a lots taken) in
      let own : lots_on u.side (lower_order u.bank u.number lots (lower_order a.bank a.number lots book)) ≤ lots_on u.side (lower_order a.bank a.number lots book)
      = lots_on-lowered u.side u.bank u.number lots (lower_order a.bank a.number lots book) in
      let falls : lots_on u.side (lower_order a.bank a.number lots book) + lots ≤ lots_on u.side book
      = lots_on-taken u.side lots book a (orders_in-rising u.pair X.orders sound.rising) there opposite most in
      let had : lots_on u.side book ≤ u.left = enough in
      left_numbers (lots_on u.side (orders_in u.pair (filled X (fill_with u a lots)).orders)) (lots_on u.side (lower_order u.bank u.number lots (lower_order a.bank a.number lots book)))
      (lots_on u.side (lower_order a.bank a.number lots book)) lots (lots_on u.side book) u.left now own falls had

  -- what is known of a maker
  maker_facts : (X : State) (u : Taker) (a : Resting) → IsSound h X → Among a (open_orders h X u) → Among a (orders_in u.pair X.orders) × (is_opposite u.side a.side ≡ true)
  maker_facts X u a sound there =
      let found = Among-filter (λ (q : Resting). is_open u (reach h X u.bank q.bank u.pair) q) (orders_in u.pair X.orders) a there in
      (found.0, (is_open-says u (reach h X u.bank a.bank u.pair) a found.1).opposite)

  pub takers-filled : Among a (open_orders h X t) → Among c (open_orders h Y (twin t number left arrival)) → lots ≤ a.left → TakersAlike h b L (filled X (fill_with t a lots)) (filled Y (fill_with (twin t number left arrival) c lots)) (less t lots) number (left - lots) arrival
  takers-filled a_open c_open most =
      let u : Taker = twin t number left arrival in
      let takers = fill.takers in
      let facts = maker_facts X t a fill.alike.sound a_open in
      let facts_other = maker_facts Y u c fill.alike.sound_other c_open in
      let most_other : lots ≤ c.left = omega (arith, most, ap (λ (o : Resting). o.left) like_makers) in
      record {
        sender = takers.sender;
        pair = takers.pair;
        weight = takers.weight;
        is_shown = takers.is_shown;
        commands = takers.commands;
        keys = λ x y together.
            let stood = stood_filled h b L M X Y t number left arrival a c lots fill x y together in
            ap (is_order t.bank t.number) stood.first_is ∙ takers.keys stood.first stood.second stood.together ∙ sym (ap (is_order t.bank number) stood.second_is);
        earlier = λ x y together.
            let stood = stood_filled h b L M X Y t number left arrival a c lots fill x y together in
            ap (λ (o : Resting). ltb o.arrival t.arrival) stood.first_is ∙ takers.earlier stood.first stood.second stood.together
            ∙ sym (ap (λ (o : Resting). ltb o.arrival arrival) stood.second_is);
        home = are_of_filled X (fill_with t a lots) t.pair t.bank t.number takers.home;
        home_other = are_of_filled Y (fill_with u c lots) t.pair t.bank number takers.home_other;
        makers = λ o there. maker_stays X t a o takers.weight takers.makers there;
        makers_other = λ o there. maker_stays Y u c o takers.weight takers.makers_other there;
        lefts = elim takers.lefts [
          | inl same ↦ inl (ap (λ n. n - lots) same)
          | inr enough ↦ inr (
            enough_filled X t a fill.alike.sound fill.taken facts.0 facts.1 most enough.0,
            enough_filled Y u c fill.alike.sound_other fill.taken_other facts_other.0 facts_other.1 most_other enough.1,
          )
        ];
      }

-- ---- the sweeps

-- what two sweeps that look alike lead to
pub record SweptAlike (h : Header) (b : ℕ) (L M X Y : State) (pair : ℕ) (fs gs : List Fill) : Type 0 where
  pub fills : FillsAlike b fs gs
  pub later : AreAlike h b L M (filled_all X fs) (filled_all Y gs)
  pub stood : (x y : Resting) → Together x y (visible h b L (filled_all X fs) pair) (visible h b L (filled_all Y gs) pair) → StoodTogether x y (visible h b L X pair) (visible h b L Y pair)

-- the amounts are the same
amounts_same : (t_left left m n r s : ℕ) → m ≡ n → r ≡ s → (t_left ≡ left) ⊎ ((m ≤ t_left) × (n ≤ left)) → min t_left (min m r) ≡ min left (min n s)
amounts_same t_left left m n r s m_is r_is (inl same) = omega (arith, m_is, r_is, same)
amounts_same t_left left m n r s m_is r_is (inr enough) = omega (arith, m_is, r_is, enough.0, enough.1)

enough_for : (X : State) (pair : ℕ) (side : Side) (left : ℕ) (a : Resting) → Among a (orders_in pair X.orders) → is_opposite side a.side ≡ true → lots_against X pair side ≤ left → a.left ≤ left
unfolding lots_on
enough_for X pair side left a there opposite enough =
    let has : a.left ≤ lots_on side (orders_in pair X.orders) = among_lots side (orders_in pair X.orders) a there opposite in
    let most : lots_on side (orders_in pair X.orders) ≤ left = enough in
    omega arith

open_rests : (h : Header) (X : State) (t : Taker) (o : Resting) → Among o (open_orders h X t) → Among o (orders_in t.pair X.orders)
open_rests h X t o there = (Among-filter (λ (q : Resting). is_open t (reach h X t.bank q.bank t.pair) q) (orders_in t.pair X.orders) o there).0

-- No sweep ends at a taker that has as many lots left as one that goes on, or enough for the whole other side, where an order
-- is open to it.
goes_on : (h : Header) (X : State) (t : Taker) (other : ℕ) (x : Resting) → IsMaker h X t x → Among x (open_orders h X t) → (t.left ≡ other) ⊎ (lots_against X t.pair t.side ≤ t.left) → (t.left ≡ 0) ⊎ (open_orders h X t ≡ []) → 1 ≤ other → ⊥
goes_on h X t other x m x_open lefts ended some =
    elim ended [
      | inl none ↦ elim lefts [
        | inl same ↦ omega (arith, none, same, some)
        | inr enough ↦ omega (
          arith,
          m.kept.left.0,
          ap (λ (o : Resting). o.left) m.order,
          enough_for X t.pair t.side t.left x (open_rests h X t x x_open) m.is_open.opposite enough,
        )
      ]
      | inr closed ↦ subst (Among x) closed x_open
    ]

-- where lots left are the same or enough for two, they are so for each
enough_one : (m n t_left left : ℕ) → (t_left ≡ left) ⊎ ((m ≤ t_left) × (n ≤ left)) → (t_left ≡ left) ⊎ (m ≤ t_left)
enough_one m n t_left left (inl same) = inl same
enough_one m n t_left left (inr enough) = inr enough.0

enough_other : (m n t_left left : ℕ) → (t_left ≡ left) ⊎ ((m ≤ t_left) × (n ≤ left)) → (left ≡ t_left) ⊎ (n ≤ left)
enough_other m n t_left left (inl same) = inl (sym same)
enough_other m n t_left left (inr enough) = inr enough.1

module _ (h : Header) (b : ℕ) (L M : State) where
  -- no sweep goes on where the other ends
  ends_other : (X Y : State) (t : Taker) (number left arrival : ℕ) (c : Resting) → AreAlike h b L M X Y → TakersAlike h b L X Y t number left arrival → (t.left ≡ 0) ⊎ (open_orders h X t ≡ []) → 1 ≤ left → Among c (open_orders h Y (twin t number left arrival)) → ⊥
  ends_other X Y t number left arrival c alike takers ended some there =
      let u : Taker = twin t number left arrival in
      let of_c = partner_other b c (visible h b L X t.pair) (visible h b L Y t.pair) (alike.orders t.pair takers.pair) (open_shown h b L Y u c there (takers.makers_other c there)).0 in
      let x : Resting = of_c.0 in
      let x_open = open_back h b L M X Y t number left arrival x c alike takers of_c.1 there in
      goes_on h X t left x (maker_of h X t x alike.sound x_open) x_open
      (enough_one (lots_against X t.pair t.side) (lots_against Y t.pair t.side) t.left left takers.lefts) ended some

  ends_one : (X Y : State) (t : Taker) (number left arrival : ℕ) (a : Resting) → AreAlike h b L M X Y → TakersAlike h b L X Y t number left arrival → (left ≡ 0) ⊎ (open_orders h Y (twin t number left arrival) ≡ []) → 1 ≤ t.left → Among a (open_orders h X t) → ⊥
  ends_one X Y t number left arrival a alike takers ended some there =
      let u : Taker = twin t number left arrival in
      let of_a = partner b a (visible h b L X t.pair) (visible h b L Y t.pair) (alike.orders t.pair takers.pair) (open_shown h b L X t a there (takers.makers a there)).0 in
      let y : Resting = of_a.0 in
      let y_open = open_across h b L M X Y t number left arrival a y alike takers of_a.1 there in
      goes_on h Y u t.left y (maker_of h Y u y alike.sound_other y_open) y_open
      (enough_other (lots_against X t.pair t.side) (lots_against Y t.pair t.side) t.left left takers.lefts) ended some

  -- the two first fills are of the same lots
  first_amounts : (X Y : State) (t : Taker) (number left arrival : ℕ) (a c : Resting) → AreAlike h b L M X Y → TakersAlike h b L X Y t number left arrival → Together a c (visible h b L X t.pair) (visible h b L Y t.pair) → Among a (open_orders h X t) → Among c (open_orders h Y (twin t number left arrival)) → amount t a (reach h X t.bank a.bank t.pair) ≡ amount (twin t number left arrival) c (reach h Y t.bank c.bank t.pair)
  first_amounts X Y t number left arrival a c alike takers together a_open c_open =
      let u : Taker = twin t number left arrival in
      let like = together-like b a c (visible h b L X t.pair) (visible h b L Y t.pair) (alike.orders t.pair takers.pair) together in
      let met = takers.makers a a_open in
      let m : IsMaker h X t a = maker_of h X t a alike.sound a_open in
      let n : IsMaker h Y u c = maker_of h Y u c alike.sound_other c_open in
      let a_in : a.bank < bank_count h = omega (arith, m.kept.bank, ap (λ (o : Resting). o.bank) m.order) in
      let same : reach h X t.bank a.bank t.pair ≡ reach h Y t.bank c.bank t.pair =
      reach_same h b L M X Y t.bank a.bank t.pair alike takers.sender a_in m.is_open.other met.one ∙ ap (λ k. reach h Y t.bank k t.pair) (like_bank b a c like) in
      amounts_same t.left left a.left c.left (reach h X t.bank a.bank t.pair) (reach h Y t.bank c.bank t.pair) (ap (λ (o : Resting). o.left) like) same
      (elim takers.lefts [
        | inl equal ↦ inl equal
        | inr enough ↦ inr (
          enough_for X t.pair t.side t.left a (open_rests h X t a a_open) m.is_open.opposite enough.0,
          enough_for Y t.pair t.side left c (open_rests h Y u c c_open) n.is_open.opposite enough.1,
        )
      ])

  together_of : (X Y : State) (t : Taker) (number left arrival : ℕ) (a c : Resting) → AreAlike h b L M X Y → TakersAlike h b L X Y t number left arrival → IsBest t.side (open_orders h X t) a → IsBest t.side (open_orders h Y (twin t number left arrival)) c → FillTogether h b L M X Y t number left arrival a c
  together_of X Y t number left arrival a c alike takers best_a best_c =
      let u : Taker = twin t number left arrival in
      record {
        alike = alike;
        takers = takers;
        together = best_together h b L M X Y t number left arrival a c alike takers best_a best_c;
        one = (takers.makers a best_a.there).one;
        taken = taken_of h b L X t a alike.sound takers.home takers.is_shown (takers.makers a best_a.there) best_a.there;
        taken_other = taken_of h b L Y u c alike.sound_other takers.home_other takers.is_shown (takers.makers_other c best_c.there) best_c.there;
      }

  pub swept-alike : (X Y : State) (t : Taker) (number left arrival : ℕ) (fs gs : List Fill) (end end' : ℕ) → AreAlike h b L M X Y → TakersAlike h b L X Y t number left arrival → Swept h X t fs end → Swept h Y (twin t number left arrival) gs end' → SweptAlike h b L M X Y t.pair fs gs
  swept-alike X Y t number left arrival [] [] end end' alike takers one other = record {
    fills = tt;
    later = alike;
    stood = λ x y together. record { first = x; second = y; together = together; first_is = refl; second_is = refl };
  }
  swept-alike X Y t number left arrival [] (g ∷ gs) end end' alike takers one other =
      absurd (ends_other X Y t number left arrival other.0 alike takers one.1 other.1 other.2.there)
  swept-alike X Y t number left arrival (f ∷ fs) [] end end' alike takers one other =
      absurd (ends_one X Y t number left arrival one.0 alike takers other.1 one.1 one.2.there)
  swept-alike X Y t number left arrival (f ∷ fs) (g ∷ gs) end end' alike takers one other =
      let u : Taker = twin t number left arrival in
      let a : Resting = one.0 in
      let c : Resting = other.0 in
      let lots : ℕ = f.lots in
      let fill : FillTogether h b L M X Y t number left arrival a c = together_of X Y t number left arrival a c alike takers one.2 other.2 in
      let lots_is : f.lots ≡ amount t a (reach h X t.bank a.bank t.pair) = ap (λ (k : Fill). k.lots) one.3 in
      let lots_same : f.lots ≡ amount u c (reach h Y t.bank c.bank t.pair) =
      lots_is ∙ first_amounts X Y t number left arrival a c alike takers fill.together one.2.there other.2.there in
      let f_is : f ≡ fill_with t a lots = one.3 ∙ ap (fill_with t a) (sym lots_is) in
      let g_is : g ≡ fill_with u c lots = other.3 ∙ ap (fill_with u c) (sym lots_same) in
      let allowed : IsAllowed h X (fill_with t a lots) =
      subst (λ n. IsAllowed h X (fill_with t a n)) (sym lots_is) (allowed-open h X t a alike.sound takers.sender takers.weight one.1 one.2.there) in
      let allowed_other : IsAllowed h Y (fill_with u c lots) =
      subst (λ n. IsAllowed h Y (fill_with u c n)) (sym lots_same) (allowed-open h Y u c alike.sound_other takers.sender takers.weight other.1 other.2.there) in
      let most : lots ≤ a.left = omega (arith, lots_is) in
      let like = together-like b a c (visible h b L X t.pair) (visible h b L Y t.pair) (alike.orders t.pair takers.pair) fill.together in
      let next : SweptAlike h b L M (filled X (fill_with t a lots)) (filled Y (fill_with u c lots)) t.pair fs gs =
      swept-alike (filled X (fill_with t a lots)) (filled Y (fill_with u c lots)) (less t lots) number (left - lots) arrival fs gs end end'
      (alike-filled h b L M X Y t number left arrival a c lots fill allowed allowed_other)
      (takers-filled h b L M X Y t number left arrival a c lots fill one.2.there other.2.there most)
      (subst (λ (k : Fill). Swept h (filled X k) (less t lots) fs end) f_is one.4)
      (subst (λ (k : Fill). Swept h (filled Y k) (less u k.lots) gs end') g_is other.4) in
      subst (λ (k : Fill). SweptAlike h b L M X Y t.pair (f ∷ fs) (k ∷ gs)) (sym g_is)
      (subst (λ (k : Fill). SweptAlike h b L M X Y t.pair (k ∷ fs) (fill_with u c lots ∷ gs)) (sym f_is) (record {
        fills = (same_fill b t number left arrival a c lots lots like takers.commands refl, next.fills);
        later = next.later;
        stood = λ x y together.
            stood_before x y (visible h b L X t.pair) (visible h b L Y t.pair)
            (visible h b L (filled X (fill_with t a lots)) t.pair) (visible h b L (filled Y (fill_with u c lots)) t.pair)
            (next.stood x y together)
            (λ v w there. stood_filled h b L M X Y t number left arrival a c lots fill v w there);
      }))

-- fills that look the same are of the same lots
pub fills_alike-lots : (b : ℕ) (fs gs : List Fill) → FillsAlike b fs gs → lots_of fs ≡ lots_of gs
unfolding lots_of
fills_alike-lots b [] [] alike = refl
fills_alike-lots b [] (g ∷ gs) alike = absurd alike
fills_alike-lots b (f ∷ fs) [] alike = absurd alike
fills_alike-lots b (f ∷ fs) (g ∷ gs) alike =
    let rest : lots_of fs ≡ lots_of gs = fills_alike-lots b fs gs alike.1 in
    omega (arith, alike.0.lots)

-- from as much left, as much is left in the end
pub ends-alike : (h : Header) (b : ℕ) (X Y : State) (t u : Taker) (fs gs : List Fill) (end end' : ℕ) → t.left ≡ u.left → FillsAlike b fs gs → Swept h X t fs end → Swept h Y u gs end' → end ≡ end'
ends-alike h b X Y t u fs gs end end' same alike one other =
    let first : lots_of fs + end ≡ t.left = swept-lots h X t fs end one in
    let second : lots_of gs + end' ≡ u.left = swept-lots h Y u gs end' other in
    let lots : lots_of fs ≡ lots_of gs = fills_alike-lots b fs gs alike in
    omega arith
