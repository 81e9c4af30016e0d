-- In a credit change of a bank the turns of orders that are hidden from it make no fills.
use Rattle.std.proofs.Common.{ℕ, ◌≡◌, ◌≢◌, ◌-◌, ◌/◌, ◌≤◌, ◌<◌, min, Bool, true, false, ◌&&◌, eqb, leb, List, [], ◌∷◌, ◌++◌, inl, inr, refl, ap, sym, subst, ◌∙◌, arith, Option, Some, None, MatchOption}
use Rattle.std.specs.List.{filter}
use Rattle.std.specs.Option.{option_map}
use Rattle.std.proofs.lemmas.Bool.{cases_Bool, cases_eq, cond-false, or_left, and_left, eq-eqb, ne_eqb, lt-leb, both_ways}
use Rattle.fx_amounts.specs.Price.{crosses}
use Rattle.fx_amounts.specs.declared.side.Side.{Side}
use Rattle.fx_amounts.specs.declared.side.Side.TheVariants.{Buy, Sell}
use Rattle.fx_rules.specs.declared.orders.Resting.{Resting}
use Rattle.fx_rules.specs.declared.orders.Fill.{Fill}
use Rattle.fx_rules.specs.Lists.{Among}
use Rattle.fx_rules.specs.Session.{Header, IsSession, bank_count, pair_count, weight_of}
use Rattle.fx_rules.specs.State.{State, orders_in, used, spent, headroom, at_most, left_of_limits, line, reach}
use Rattle.fx_rules.specs.Sweep.{Swept, is_open, is_opposite, open_orders, filled_all}
use Rattle.fx_rules.specs.Raise.{limited, totalled, order_of, taker_of_resting, Turned}
use Rattle.fx_rules.specs.NoCross.{NoCross}
use Rattle.fx_rules.specs.Sound.{IsSound}
use Rattle.fx_rules.proofs.ListLemmas.{Among-filter, filter_cons_true, filter_cons_false}
use Rattle.fx_rules.proofs.Opens.{IsMaker, maker_of}
use Rattle.fx_rules.proofs.SweepSound.{swept-sound, weight_of-least}
use Rattle.fx_rules.proofs.RaiseSound.{match_cases, turn_of, turn-sender}
use Rattle.fx_rules.proofs.Following.{Follows, filled_all-follows, follows-then, reach_falls, reach_swap}
use Rattle.fx_rules.proofs.Settling.{was_there}
use Rattle.fx_rules.proofs.ViewOpen.{shown, IsMet}
use Rattle.fx_rules.proofs.ViewTold.{owner_in}

-- ---- orders of others do not cross

-- Orders of two banks that are both not b, and can reach each other, do not cross.
abbrev pub AreApart : Header → ℕ → State → Type 0
AreApart h b N =
    (pair : ℕ) (o q : Resting) → Among o (orders_in pair N.orders) → Among q (orders_in pair N.orders) → o.bank ≢ b → q.bank ≢ b →
    q.bank ≢ o.bank → is_opposite o.side q.side ≡ true → 1 ≤ reach h N o.bank q.bank pair → crosses o.side o.price q.price ≡ false

apart_sides : (side other : Side) (price other_price : ℕ) → is_opposite side other ≡ true → (side ≡ Buy → other ≡ Sell → price < other_price) → (side ≡ Sell → other ≡ Buy → other_price < price) → crosses side price other_price ≡ false
apart_sides Buy Sell price other_price opposite buys sells = lt-leb other_price price (buys refl refl)
apart_sides Sell Buy price other_price opposite buys sells = lt-leb price other_price (sells refl refl)
apart_sides Buy Buy price other_price opposite buys sells = cc
apart_sides Sell Sell price other_price opposite buys sells = cc

-- a change of credit that leaves the orders, and the lines between others
abbrev pub IsOwnChange : Header → ℕ → State → State → Type 0
IsOwnChange h b S N = (N.orders ≡ S.orders) × ((i j : ℕ) → i ≢ b → j ≢ b → line h N i j ≡ line h S i j)

-- it lets no orders of others cross
pub apart-own : (h : Header) (b : ℕ) (S N : State) → IsOwnChange h b S N → NoCross h S → AreApart h b N
apart-own h b S N own uncrossed pair o q o_rests q_rests o_other q_other differ opposite reached =
    let rests : (r : Resting) → Among r (orders_in pair N.orders) → Among r (orders_in pair S.orders) = λ r there.
    subst (λ orders. Among r (orders_in pair orders)) own.0 there in
    let reached_was : 1 ≤ reach h S o.bank q.bank pair =
    omega (arith, reached, ap (λ l. l / weight_of h pair) (own.1 o.bank q.bank o_other q_other)) in
    apart_sides o.side q.side o.price q.price opposite
    (λ buys sells. uncrossed pair o q (rests o o_rests) (rests q q_rests) buys sells (λ same. differ (sym same)) reached_was)
    (λ sells buys. uncrossed pair q o (rests q q_rests) (rests o o_rests) buys sells differ (omega (arith, reached_was, reach_swap h S o.bank q.bank pair)))

limits_others : (S : State) (b k limit i j : ℕ) → i ≢ b → (limited b k limit S).limits i j ≡ S.limits i j
limits_others S b k limit i j differ = cond-false (eqb i b && eqb j k) limit (S.limits i j) (and_left (eqb i b) (eqb j k) (ne_eqb i b differ))

-- a limit of b changes nothing between others
pub own-limited : (h : Header) (S : State) (b k limit : ℕ) → IsOwnChange h b S (limited b k limit S)
own-limited h S b k limit = (
  refl,
  λ i j i_other j_other.
      ap (λ m. at_most (headroom h S i) (at_most (headroom h S j) (min m ((limited b k limit S).limits j i) - used h S i j))) (limits_others S b k limit i j i_other)
      ∙ ap (λ m. at_most (headroom h S i) (at_most (headroom h S j) (min (S.limits i j) m - used h S i j))) (limits_others S b k limit j i j_other),
)

totals_others : (S : State) (b most i : ℕ) → i ≢ b → (totalled b most S).totals i ≡ S.totals i
totals_others S b most i differ = cond-false (eqb i b) (Some most) (S.totals i) (ne_eqb i b differ)

-- and so does its total
pub own-totalled : (h : Header) (S : State) (b most : ℕ) → IsOwnChange h b S (totalled b most S)
own-totalled h S b most = (
  refl,
  λ i j i_other j_other.
      ap (λ o. at_most (option_map (λ m. m - spent h S i) o) (at_most (headroom h (totalled b most S) j) (left_of_limits h S i j))) (totals_others S b most i i_other)
      ∙ ap (λ o. at_most (headroom h S i) (at_most (option_map (λ m. m - spent h S j) o) (left_of_limits h S i j))) (totals_others S b most j j_other),
)

-- ---- who meets whom

-- whom b could reach as the turns began is shown to it
abbrev pub ShowsReached : Header → ℕ → State → State → Type 0
ShowsReached h b L N =
    (pair bank : ℕ) → pair < pair_count h → bank < bank_count h → bank ≢ b → 1 ≤ reach h N b bank pair → shown h b L pair bank ≡ true

-- an order that is open to one that rests meets it: one of the two is b's, and it is shown to b
module _ (h : Header) (b : ℕ) (L N X : State) (session : IsSession h) (shows : ShowsReached h b L N) (apart : AreApart h b N) (sound : IsSound h X) (from : Follows h N X) (pair : ℕ) (pair_in : pair < pair_count h) where
  reached_was : (i j : ℕ) → 1 ≤ reach h X i j pair → 1 ≤ reach h N i j pair
  reached_was i j reached = omega (arith, reached, reach_falls h N X i j pair (weight_of-least h pair session pair_in) (from.lines i j))

  others_closed : (x o : Resting) → Among x (orders_in pair X.orders) → x.bank ≢ b → o.bank ≢ b → Among o (open_orders h X (taker_of_resting pair x)) → ⊥
  others_closed x o there x_other o_other opens =
      let m : IsMaker h X (taker_of_resting pair x) o = maker_of h X (taker_of_resting pair x) o sound opens in
      let o_rests : Among o (orders_in pair X.orders) = (Among-filter (λ (q : Resting). is_open (taker_of_resting pair x) (reach h X x.bank q.bank pair) q) (orders_in pair X.orders) o opens).0 in
      let x_was = was_there h N X pair x from there in
      let o_was = was_there h N X pair o from o_rests in
      let v : Resting = x_was.0 in
      let w : Resting = o_was.0 in
      let v_bank : x.bank ≡ v.bank = ap (λ (q : Resting). q.bank) x_was.2 in
      let w_bank : o.bank ≡ w.bank = ap (λ (q : Resting). q.bank) o_was.2 in
      let crossed : crosses v.side v.price w.price ≡ true =
      subst (λ (q : Resting). crosses v.side v.price q.price ≡ true) o_was.2 (subst (λ (q : Resting). crosses q.side q.price o.price ≡ true) x_was.2 m.is_open.crosses) in
      let opposite : is_opposite v.side w.side ≡ true =
      subst (λ (q : Resting). is_opposite v.side q.side ≡ true) o_was.2 (subst (λ (q : Resting). is_opposite q.side o.side ≡ true) x_was.2 m.is_open.opposite) in
      let reached : 1 ≤ reach h N v.bank w.bank pair =
      subst (λ n. 1 ≤ reach h N v.bank n pair) w_bank (subst (λ n. 1 ≤ reach h N n o.bank pair) v_bank (reached_was x.bank o.bank m.is_open.reach)) in
      both_ways (crosses v.side v.price w.price)
      (apart pair v w x_was.1 o_was.1 (λ same. x_other (v_bank ∙ same)) (λ same. o_other (w_bank ∙ same))
      (λ same. m.is_open.other (w_bank ∙ same ∙ sym v_bank)) opposite reached) crossed

  -- whom b can reach from an order that is open
  shown_reached : (bank : ℕ) → bank < bank_count h → bank ≢ b → 1 ≤ reach h X b bank pair → shown h b L pair bank ≡ true
  shown_reached bank bank_in differ reached = shows pair bank pair_in bank_in differ (reached_was b bank reached)

  shown_own : (bank : ℕ) → bank ≡ b → shown h b L pair bank ≡ true
  shown_own bank own = or_left (eqb bank b) (leb 1 (reach h L b bank pair)) (eq-eqb bank b own)

  pub met_of : (x o : Resting) → Among x (orders_in pair X.orders) → Among o (open_orders h X (taker_of_resting pair x)) → IsMet h b L pair x.bank o.bank
  met_of x o there opens =
      let m : IsMaker h X (taker_of_resting pair x) o = maker_of h X (taker_of_resting pair x) o sound opens in
      let o_in : o.bank < bank_count h = omega (arith, m.kept.bank, ap (λ (q : Resting). q.bank) m.order) in
      elim (cases_eq x.bank b) [
        | inl own ↦ record {
          one = inl own;
          is_shown = shown_reached o.bank o_in (λ same. m.is_open.other (same ∙ sym own)) (subst (λ n. 1 ≤ reach h X n o.bank pair) own m.is_open.reach);
        }
        | inr other ↦ elim (cases_eq o.bank b) [
          | inl own ↦ record { one = inr own; is_shown = shown_own o.bank own }
          | inr other_too ↦ absurd (others_closed x o there other other_too opens)
        ]
      ]

  -- to an order that is not shown nothing is open
  pub nothing_open : (x o : Resting) → Among x (orders_in pair X.orders) → shown h b L pair x.bank ≡ false → Among o (open_orders h X (taker_of_resting pair x)) → ⊥
  nothing_open x o there hidden opens =
      let m : IsMaker h X (taker_of_resting pair x) o = maker_of h X (taker_of_resting pair x) o sound opens in
      elim (met_of x o there opens).one [
        | inl own ↦ both_ways (shown h b L pair x.bank) hidden (shown_own x.bank own)
        | inr own ↦
            let reached : 1 ≤ reach h X b x.bank pair =
            subst (λ n. 1 ≤ reach h X n x.bank pair) own (omega (arith, m.is_open.reach, reach_swap h X x.bank o.bank pair)) in
            both_ways (shown h b L pair x.bank) hidden
            (shown_reached x.bank (owner_in h X pair x sound there) (λ same. m.is_open.other (own ∙ sym same)) reached)
      ]

  no_fills : (x : Resting) (fills : List Fill) (left : ℕ) → Among x (orders_in pair X.orders) → shown h b L pair x.bank ≡ false → Swept h X (taker_of_resting pair x) fills left → fills ≡ []
  no_fills x [] left there hidden swept = refl
  no_fills x (f ∷ fills) left there hidden swept = absurd (nothing_open x swept.0 there hidden swept.2.there)

-- ---- the turns of those that are not shown make no fills

pub match_none : {X : Type 0} (o : Option X) (P : Type 0) (Q : X → Type 0) → o ≡ None → P → MatchOption o P Q
match_none o P Q is holds = subst (λ (k : Option _). MatchOption k P Q) (sym is) holds

pub match_some : {X : Type 0} (o : Option X) (x : X) (P : Type 0) (Q : X → Type 0) → o ≡ Some x → Q x → MatchOption o P Q
match_some o x P Q is holds = subst (λ (k : Option _). MatchOption k P Q) (sym is) holds

pub none_matched : {X : Type 0} (o : Option X) (P : Type 0) (Q : X → Type 0) → o ≡ None → MatchOption o P Q → P
none_matched o P Q is holds = subst (λ (k : Option _). MatchOption k P Q) is holds

pub some_matched : {X : Type 0} (o : Option X) (x : X) (P : Type 0) (Q : X → Type 0) → o ≡ Some x → MatchOption o P Q → Q x
some_matched o x P Q is holds = subst (λ (k : Option _). MatchOption k P Q) is holds

-- the turn of an order that is found, and those behind it
abbrev pub TurnOf : Header → ℕ → State → List Resting → List Fill → Resting → Type 0
TurnOf h pair X orders fills now =
    (own more : List Fill) × (left : ℕ) × Swept h X (taker_of_resting pair now) own left
    × (fills ≡ own ++ more) × Turned h pair (filled_all X own) orders more

pub shown_turns : (h : Header) (b : ℕ) (L N : State) (pair : ℕ) (X : State) (orders : List Resting) (fills : List Fill) → IsSession h → ShowsReached h b L N → AreApart h b N → pair < pair_count h → IsSound h X → Follows h N X → Turned h pair X orders fills → Turned h pair X (filter (λ (o : Resting). shown h b L pair o.bank) orders) fills
shown_turns h b L N pair X [] fills session shows apart pair_in sound from turned = turned
shown_turns h b L N pair X (o ∷ orders) fills session shows apart pair_in sound from turned =
    let keep : Resting → Bool = λ q. shown h b L pair q.bank in
    let some : 0 < weight_of h pair = weight_of-least h pair session pair_in in
    elim (match_cases (order_of X pair o.bank o.number) (Turned h pair X orders fills) (TurnOf h pair X orders fills) turned) [
      | inl gone ↦
          let rest = shown_turns h b L N pair X orders fills session shows apart pair_in sound from gone.1 in
          elim (cases_Bool (keep o)) [
            | inl kept ↦ subst (λ os. Turned h pair X os fills) (sym (filter_cons_true keep o orders kept))
                (match_none (order_of X pair o.bank o.number) (Turned h pair X (filter keep orders) fills) (TurnOf h pair X (filter keep orders) fills) gone.0 rest)
            | inr dropped ↦ subst (λ os. Turned h pair X os fills) (sym (filter_cons_false keep o orders dropped)) rest
          ]
      | inr here ↦
          let now : Resting = here.0 in
          let own : List Fill = here.2.0 in
          let more : List Fill = here.2.1 in
          let turn = turn_of h X pair o.bank o.number now sound here.1 in
          let next : IsSound h (filled_all X own) = (swept-sound h X (taker_of_resting pair now) own here.2.2 sound
          (turn-sender h X pair o.bank o.number now turn) some here.2.3).0 in
          let rest = shown_turns h b L N pair (filled_all X own) orders more session shows apart pair_in next
          (follows-then h N X (filled_all X own) from (filled_all-follows h X own)) here.2.5 in
          elim (cases_Bool (keep o)) [
            | inl kept ↦ subst (λ os. Turned h pair X os fills) (sym (filter_cons_true keep o orders kept))
                (match_some (order_of X pair o.bank o.number) now (Turned h pair X (filter keep orders) fills) (TurnOf h pair X (filter keep orders) fills) here.1
                (own, more, here.2.2, here.2.3, here.2.4, rest))
            | inr dropped ↦
                let hidden : shown h b L pair now.bank ≡ false = subst (λ n. shown h b L pair n ≡ false) (sym turn.owner) dropped in
                let none : own ≡ [] = no_fills h b L N X session shows apart sound from pair pair_in now own here.2.2 turn.among hidden here.2.3 in
                subst (λ os. Turned h pair X os fills) (sym (filter_cons_false keep o orders dropped))
                (subst (Turned h pair X (filter keep orders)) (sym (here.2.4 ∙ ap (λ xs. xs ++ more) none))
                (subst (λ (fs : List Fill). Turned h pair (filled_all X fs) (filter keep orders) more) none rest))
          ]
    ]
