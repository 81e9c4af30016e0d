-- The fills that a bank's credit change makes depend on what it sees once the limit is set.
use Rattle.std.proofs.Common.{ℕ, zero, suc, ◌≡◌, ◌+◌, ◌≤◌, ◌<◌, true, eqb, leb, cond, List, [], ◌∷◌, ◌++◌, map, inl, inr, refl, ap, sym, subst, ◌∙◌, arith, find}
use Rattle.std.proofs.lemmas.Bool.{cases_eq, cond-true, cond-false, or_right, eq-eqb, ne_eqb, le-leb}
use Rattle.fx_amounts.specs.declared.side.Side.{Side}
use Rattle.fx_rules.specs.declared.orders.Resting.{Resting}
use Rattle.fx_rules.specs.declared.orders.Fill.{Fill}
use Rattle.fx_rules.specs.declared.command.Command.TheVariants.{Line, Total}
use Rattle.fx_rules.specs.declared.outcome.Outcome.TheVariants.{LineSet, TotalSet}
use Rattle.fx_rules.specs.Lists.{Among, Each}
use Rattle.fx_rules.specs.Session.{Header, IsSession, pair_count}
use Rattle.fx_rules.specs.State.{State, orders_in, reach}
use Rattle.fx_rules.specs.Sweep.{Taker, Swept, is_order, open_orders, filled_all}
use Rattle.fx_rules.specs.Raise.{limited, totalled, order_of, taker_of_resting, Turned, PairsTurned, Raised}
use Rattle.fx_rules.specs.Step.{IsCommand, IsOutcome}
use Rattle.fx_rules.specs.NoCross.{NoCross}
use Rattle.fx_rules.specs.Sound.{IsSound}
use Rattle.fx_rules.specs.View.{seen_as, view, fill_seen}
use Rattle.fx_rules.proofs.ListLemmas.{Each-of, Among-filter}
use Rattle.fx_rules.proofs.Opens.{orders_in-among}
use Rattle.fx_rules.proofs.SweepSound.{filled_all-append, weight_of-least}
use Rattle.fx_rules.proofs.RaiseSound.{limited-sound, totalled-sound}
use Rattle.fx_rules.proofs.Lowering.{is_order-says}
use Rattle.fx_rules.proofs.ViewLists.{Paired, Together, together-like, together-first, together-second, together-earlier, together-order, AreOf, find-together, find-filter}
use Rattle.fx_rules.proofs.ViewOpen.{shown, visible, AreAlike, IsMet, twin, TakersAlike, SameFill, FillsAlike, like_bank, shown_rests, visible-rising}
use Rattle.fx_rules.proofs.ViewFill.{are_of_one, like_number}
use Rattle.fx_rules.proofs.ViewSweep.{SweptAlike, swept-alike}
use Rattle.fx_rules.proofs.ViewTold.{views-alike, reaches_same, owner_in, made, made_same, cons_told}
use Rattle.fx_rules.proofs.ViewHidden.{AreApart, ShowsReached, TurnOf, IsOwnChange, apart-own, own-limited, own-totalled, met_of, none_matched, some_matched, shown_turns}

taker_made : ℕ → ℕ → ℕ → Side → ℕ → ℕ → ℕ → Taker
taker_made bank number pair side price left arrival = record {
  bank = bank;
  number = number;
  pair = pair;
  side = side;
  price = price;
  left = left;
  arrival = arrival;
}

taker_parts : (bank bank' pair number : ℕ) (side side' : Side) (price price' left arrival : ℕ) → bank ≡ bank' → side ≡ side' → price ≡ price' → taker_made bank number pair side price left arrival ≡ taker_made bank' number pair side' price' left arrival
taker_parts bank bank' pair number side side' price price' left arrival a c d = cc

-- ---- one turn

-- two orders that look the same have their turns
module _ (h : Header) (b : ℕ) (L M X Y : State) (session : IsSession h) (shows : ShowsReached h b L L) (shows_other : ShowsReached h b L M) (apart : AreApart h b L) (apart_other : AreApart h b M) (alike : AreAlike h b L M X Y) (pair : ℕ) (pair_in : pair < pair_count h) (x y : Resting) (together : Together x y (visible h b L X pair) (visible h b L Y pair)) where
  like : seen_as b x ≡ seen_as b y
  like = together-like b x y (visible h b L X pair) (visible h b L Y pair) (alike.orders pair pair_in) together

  x_rests : Among x (orders_in pair X.orders)
  x_rests = shown_rests h b L X pair x (together-first x y (visible h b L X pair) (visible h b L Y pair) together)

  y_rests : Among y (orders_in pair Y.orders)
  y_rests = shown_rests h b L Y pair y (together-second x y (visible h b L X pair) (visible h b L Y pair) together)

  home_of : (Z : State) (z : Resting) → IsSound h Z → Among z (orders_in pair Z.orders) → AreOf pair z.bank z.number Z.orders
  home_of Z z sound there =
      let stands = orders_in-among pair Z.orders z there in
      subst (λ (o : Resting). AreOf pair o.bank o.number Z.orders) (sym stands.3) (are_of_one Z.orders stands.0 pair sound.rising stands.1 stands.2)

  same_taker : taker_of_resting pair y ≡ twin (taker_of_resting pair x) y.number y.left y.arrival
  unfolding taker_made
  same_taker =
      taker_parts y.bank x.bank pair y.number y.side x.side y.price x.price y.left y.arrival (sym (like_bank b x y like))
      (sym (ap (λ (o : Resting). o.side) like)) (sym (ap (λ (o : Resting). o.price) like))

  turns_takers : TakersAlike h b L X Y (taker_of_resting pair x) y.number y.left y.arrival
  turns_takers =
      let VX : List Resting = visible h b L X pair in
      let VY : List Resting = visible h b L Y pair in
      let bank : y.bank ≡ x.bank = sym (like_bank b x y like) in
      let rising = visible-rising h b L X pair alike.sound in
      let rising_other = visible-rising h b L Y pair alike.sound_other in
      record {
        sender = owner_in h X pair x alike.sound x_rests;
        pair = pair_in;
        weight = weight_of-least h pair session pair_in;
        is_shown = (Among-filter (λ (q : Resting). shown h b L pair q.bank) (orders_in pair X.orders) x (together-first x y VX VY together)).1;
        commands = like_number b x y like;
        keys = λ v w there.
            together-order x y v w VX VY rising rising_other together there ∙ ap (λ n. is_order n y.number w) bank;
        earlier = λ v w there. together-earlier v w x y VX VY rising rising_other there together;
        home = home_of X x alike.sound x_rests;
        home_other = subst (λ n. AreOf pair n y.number Y.orders) bank (home_of Y y alike.sound_other y_rests);
        makers = λ o opens. met_of h b L L X session shows apart alike.sound alike.from pair pair_in x o x_rests opens;
        makers_other = λ o opens.
            subst (λ n. IsMet h b L pair n o.bank) bank
            (met_of h b L M Y session shows_other apart_other alike.sound_other alike.from_other pair pair_in y o y_rests
            (subst (λ (t : Taker). Among o (open_orders h Y t)) (sym same_taker) opens));
        lefts = inl (ap (λ (o : Resting). o.left) like);
      }

  pub turn-alike : (fs gs : List Fill) (end end' : ℕ) → Swept h X (taker_of_resting pair x) fs end → Swept h Y (taker_of_resting pair y) gs end' → SweptAlike h b L M X Y pair fs gs
  turn-alike fs gs end end' one other =
      swept-alike h b L M X Y (taker_of_resting pair x) y.number y.left y.arrival fs gs end end' alike turns_takers one
      (subst (λ (t : Taker). Swept h Y t gs end') same_taker other)

-- ---- the turns of a pair

-- what stands together among those that have turns stands together among those that rest
abbrev KeysKept : ℕ → List Resting → List Resting → List Resting → List Resting → Type 0
KeysKept b orders others xs ys =
    (o q : Resting) → Together o q orders others → (x y : Resting) → Together x y xs ys →
    is_order o.bank o.number x ≡ is_order q.bank q.number y

-- what turns that look alike lead to
record TurnsAlike (h : Header) (b : ℕ) (L M X Y : State) (fs gs : List Fill) : Type 0 where
  pub fills : FillsAlike b fs gs
  pub later : AreAlike h b L M (filled_all X fs) (filled_all Y gs)

alike-append : (b : ℕ) (fs gs more others : List Fill) → FillsAlike b fs gs → FillsAlike b more others → FillsAlike b (fs ++ more) (gs ++ others)
alike-append b [] [] more others one two = two
alike-append b [] (g ∷ gs) more others one two = absurd one
alike-append b (f ∷ fs) [] more others one two = absurd one
alike-append b (f ∷ fs) (g ∷ gs) more others one two = (one.0, alike-append b fs gs more others one.1 two)

-- first fills and then more
turns-append : (h : Header) (b : ℕ) (L M X Y : State) (own more fs own' more' gs : List Fill) → fs ≡ own ++ more → gs ≡ own' ++ more' → FillsAlike b own own' → TurnsAlike h b L M (filled_all X own) (filled_all Y own') more more' → TurnsAlike h b L M X Y fs gs
turns-append h b L M X Y own more fs own' more' gs fs_is gs_is first rest =
    subst (TurnsAlike h b L M X Y fs) (sym gs_is) (subst (λ (k : List Fill). TurnsAlike h b L M X Y k (own' ++ more')) (sym fs_is) (record {
      fills = alike-append b own own' more more' first rest.fills;
      later = subst (AreAlike h b L M (filled_all X (own ++ more))) (sym (filled_all-append Y own' more'))
          (subst (λ (Z : State). AreAlike h b L M Z (filled_all (filled_all Y own') more')) (sym (filled_all-append X own more)) rest.later);
    }))

-- an order that is shown is found among those shown
found_visible : (h : Header) (b : ℕ) (L X : State) (pair bank number : ℕ) → shown h b L pair bank ≡ true → find (λ (o : Resting). is_order bank number o) (visible h b L X pair) ≡ order_of X pair bank number
found_visible h b L X pair bank number is =
    find-filter (λ (o : Resting). is_order bank number o) (λ (o : Resting). shown h b L pair o.bank) (orders_in pair X.orders)
    (λ o here. ap (shown h b L pair) (is_order-says bank number o here).0 ∙ is)

module _ (h : Header) (b : ℕ) (L M : State) (session : IsSession h) (shows : ShowsReached h b L L) (shows_other : ShowsReached h b L M) (apart : AreApart h b L) (apart_other : AreApart h b M) (pair : ℕ) (pair_in : pair < pair_count h) where
  turns-alike : (X Y : State) (orders others : List Resting) (fs gs : List Fill) → AreAlike h b L M X Y → Paired b orders others → Each (λ (o : Resting). shown h b L pair o.bank ≡ true) orders → KeysKept b orders others (visible h b L X pair) (visible h b L Y pair) → Turned h pair X orders fs → Turned h pair Y others gs → TurnsAlike h b L M X Y fs gs
  turns-alike X Y [] [] fs gs alike paired are_shown kept one two =
      subst (TurnsAlike h b L M X Y fs) (sym two) (subst (λ (k : List Fill). TurnsAlike h b L M X Y k []) (sym one) (record { fills = tt; later = alike }))
  turns-alike X Y [] (q ∷ others) fs gs alike paired are_shown kept one two = absurd paired
  turns-alike X Y (o ∷ orders) [] fs gs alike paired are_shown kept one two = absurd paired
  turns-alike X Y (o ∷ orders) (q ∷ others) fs gs alike paired are_shown kept one two =
      let VX : List Resting = visible h b L X pair in
      let VY : List Resting = visible h b L Y pair in
      let bank : o.bank ≡ q.bank = like_bank b o q paired.0 in
      let found_x : find (λ (k : Resting). is_order o.bank o.number k) VX ≡ order_of X pair o.bank o.number = found_visible h b L X pair o.bank o.number are_shown.0 in
      let found_y : find (λ (k : Resting). is_order q.bank q.number k) VY ≡ order_of Y pair q.bank q.number =
      found_visible h b L Y pair q.bank q.number (subst (λ n. shown h b L pair n ≡ true) bank are_shown.0) in
      elim (find-together b (λ (k : Resting). is_order o.bank o.number k) (λ (k : Resting). is_order q.bank q.number k) VX VY
      (alike.orders pair pair_in) (kept o q (inl (refl, refl)))) [
        | inl none ↦
            turns-alike X Y orders others fs gs alike paired.1 are_shown.1 (λ v w there. kept v w (inr there))
            (none_matched (order_of X pair o.bank o.number) (Turned h pair X orders fs) (TurnOf h pair X orders fs) (sym found_x ∙ none.0) one)
            (none_matched (order_of Y pair q.bank q.number) (Turned h pair Y others gs) (TurnOf h pair Y others gs) (sym found_y ∙ none.1) two)
        | inr found ↦
            let x : Resting = found.0 in
            let y : Resting = found.1.0 in
            let together = found.1.1.together in
            let here : TurnOf h pair X orders fs x = some_matched (order_of X pair o.bank o.number) x (Turned h pair X orders fs) (TurnOf h pair X orders fs) (sym found_x ∙ found.1.1.first_is) one in
            let there : TurnOf h pair Y others gs y = some_matched (order_of Y pair q.bank q.number) y (Turned h pair Y others gs) (TurnOf h pair Y others gs) (sym found_y ∙ found.1.1.second_is) two in
            let swept : SweptAlike h b L M X Y pair here.0 there.0 =
            turn-alike h b L M X Y session shows shows_other apart apart_other alike pair pair_in x y together here.0 there.0 here.2 there.2 here.3 there.3 in
            turns-append h b L M X Y here.0 here.1 fs there.0 there.1 gs here.4 there.4 swept.fills
            (turns-alike (filled_all X here.0) (filled_all Y there.0) orders others here.1 there.1 swept.later paired.1 are_shown.1
            (λ v w vw i j ij.
            let stood = swept.stood i j ij in
            ap (is_order v.bank v.number) stood.first_is ∙ kept v w (inr vw) stood.first stood.second stood.together
            ∙ sym (ap (is_order w.bank w.number) stood.second_is))
            here.5 there.5)
      ]

  -- a pair's turns
  pair-alike : (X Y : State) (fs gs : List Fill) → AreAlike h b L M X Y → Turned h pair X (orders_in pair X.orders) fs → Turned h pair Y (orders_in pair Y.orders) gs → TurnsAlike h b L M X Y fs gs
  pair-alike X Y fs gs alike one two =
      let VX : List Resting = visible h b L X pair in
      let VY : List Resting = visible h b L Y pair in
      turns-alike X Y VX VY fs gs alike (alike.orders pair pair_in)
      (Each-of (λ (o : Resting). shown h b L pair o.bank ≡ true) VX
      (λ o there. (Among-filter (λ (q : Resting). shown h b L pair q.bank) (orders_in pair X.orders) o there).1))
      (λ o q oq x y xy. together-order o q x y VX VY (visible-rising h b L X pair alike.sound) (visible-rising h b L Y pair alike.sound_other) oq xy)
      (shown_turns h b L L pair X (orders_in pair X.orders) fs session shows apart pair_in alike.sound alike.from one)
      (shown_turns h b L M pair Y (orders_in pair Y.orders) gs session shows_other apart_other pair_in alike.sound_other alike.from_other two)

-- all pairs' turns
pairs-alike : (h : Header) (b : ℕ) (L M : State) → IsSession h → ShowsReached h b L L → ShowsReached h b L M → AreApart h b L → AreApart h b M → (pairs pair : ℕ) (X Y : State) (fs gs : List Fill) → pair + pairs ≤ pair_count h → AreAlike h b L M X Y → PairsTurned h pairs pair X fs → PairsTurned h pairs pair Y gs → TurnsAlike h b L M X Y fs gs
pairs-alike h b L M session shows shows_other apart apart_other zero pair X Y fs gs within alike one two =
    subst (TurnsAlike h b L M X Y fs) (sym two) (subst (λ (k : List Fill). TurnsAlike h b L M X Y k []) (sym one) (record { fills = tt; later = alike }))
pairs-alike h b L M session shows shows_other apart apart_other (suc pairs) pair X Y fs gs within alike one two =
    let turns : TurnsAlike h b L M X Y one.0 two.0 =
    pair-alike h b L M session shows shows_other apart apart_other pair (omega arith) X Y one.0 two.0 alike one.2 two.2 in
    turns-append h b L M X Y one.0 one.1 fs two.0 two.1 gs one.3 two.3 turns.fills
    (pairs-alike h b L M session shows shows_other apart apart_other pairs (pair + 1) (filled_all X one.0) (filled_all Y two.0) one.1 two.1 (omega arith) turns.later one.4 two.4)

-- ---- fills as their banks see them

seen_number : (b bank bank' number number' : ℕ) → bank ≡ bank' → (bank ≡ b → number ≡ number') → cond (eqb bank b) number 0 ≡ cond (eqb bank' b) number' 0
seen_number b bank bank' number number' same numbers = elim (cases_eq bank b) [
  | inl own ↦ cond-true (eqb bank b) number 0 (eq-eqb bank b own) ∙ numbers own ∙ sym (cond-true (eqb bank' b) number' 0 (eq-eqb bank' b (sym same ∙ own)))
  | inr other ↦ cond-false (eqb bank b) number 0 (ne_eqb bank b other)
      ∙ sym (cond-false (eqb bank' b) number' 0 (ne_eqb bank' b (λ own. other (same ∙ own))))
]

seen_same : (b : ℕ) (f g : Fill) → SameFill b f g → fill_seen b f ≡ fill_seen b g
unfolding made
seen_same b f g same =
    made_same f.pair g.pair f.taker g.taker (cond (eqb f.taker b) f.taker_number 0) (cond (eqb g.taker b) g.taker_number 0) f.taker_side g.taker_side
    f.maker g.maker (cond (eqb f.maker b) f.maker_number 0) (cond (eqb g.maker b) g.maker_number 0) f.price g.price f.lots g.lots
    same.pair same.taker (seen_number b f.taker g.taker f.taker_number g.taker_number same.taker same.taker_number) same.taker_side
    same.maker (seen_number b f.maker g.maker f.maker_number g.maker_number same.maker same.maker_number) same.price same.lots

fills-seen : (b : ℕ) (fs gs : List Fill) → FillsAlike b fs gs → map (fill_seen b) fs ≡ map (fill_seen b) gs
fills-seen b [] [] alike = refl
fills-seen b [] (g ∷ gs) alike = absurd alike
fills-seen b (f ∷ fs) [] alike = absurd alike
fills-seen b (f ∷ fs) (g ∷ gs) alike =
    cons_told (fill_seen b f) (fill_seen b g) (map (fill_seen b) fs) (map (fill_seen b) gs) (seen_same b f g alike.0) (fills-seen b fs gs alike.1)

-- ---- a credit change

-- Two changes of b's own credit after which it sees alike make fills that it sees alike.
pub raises-alike : (h : Header) (S T L M : State) (b : ℕ) (fs gs : List Fill) → IsSession h → IsSound h L → IsSound h M → IsOwnChange h b S L → IsOwnChange h b T M → NoCross h S → NoCross h T → view h L b ≡ view h M b → Raised h L fs → Raised h M gs → map (fill_seen b) fs ≡ map (fill_seen b) gs
raises-alike h S T L M b fs gs session sound sound_other own own_other uncrossed uncrossed_other same one two =
    let turns : TurnsAlike h b L M L M fs gs =
    pairs-alike h b L M session
    (λ pair bank _ _ _ reached. or_right (eqb bank b) (leb 1 (reach h L b bank pair)) (le-leb 1 (reach h L b bank pair) reached))
    (λ pair bank _ bank_in differ reached. or_right (eqb bank b) (leb 1 (reach h L b bank pair))
    (le-leb 1 (reach h L b bank pair) (omega (arith, reached, reaches_same h L M b bank pair same bank_in differ))))
    (apart-own h b S L own uncrossed) (apart-own h b T M own_other uncrossed_other)
    (pair_count h) 0 L M fs gs (omega arith) (views-alike h L M b sound sound_other same) one two in
    fills-seen b fs gs turns.fills

pub views-fill : (h : Header) (S T : State) (b k asked limit : ℕ) (fs gs : List Fill) → IsSession h → IsSound h S → IsSound h T → NoCross h S → NoCross h T → IsCommand h b (Line k asked) → view h (limited b k limit S) b ≡ view h (limited b k limit T) b → IsOutcome h S b (Line k asked) (LineSet limit fs) → IsOutcome h T b (Line k asked) (LineSet limit gs) → map (fill_seen b) fs ≡ map (fill_seen b) gs
views-fill h S T b k asked limit fs gs session sound sound_other uncrossed uncrossed_other valid same one two =
    raises-alike h S T (limited b k limit S) (limited b k limit T) b fs gs session
    (limited-sound h S b k asked limit sound valid.sends valid.values.0 valid.values.1 valid.values.2 one.0)
    (limited-sound h T b k asked limit sound_other valid.sends valid.values.0 valid.values.1 valid.values.2 two.0)
    (own-limited h S b k limit) (own-limited h T b k limit) uncrossed uncrossed_other same one.1 two.1

pub views-fill-total : (h : Header) (S T : State) (b asked most : ℕ) (fs gs : List Fill) → IsSession h → IsSound h S → IsSound h T → NoCross h S → NoCross h T → IsCommand h b (Total asked) → view h (totalled b most S) b ≡ view h (totalled b most T) b → IsOutcome h S b (Total asked) (TotalSet most fs) → IsOutcome h T b (Total asked) (TotalSet most gs) → map (fill_seen b) fs ≡ map (fill_seen b) gs
views-fill-total h S T b asked most fs gs session sound sound_other uncrossed uncrossed_other valid same one two =
    raises-alike h S T (totalled b most S) (totalled b most T) b fs gs session
    (totalled-sound h S b asked most session sound valid.sends.0 valid.sends.1 valid.values one.0)
    (totalled-sound h T b asked most session sound_other valid.sends.0 valid.sends.1 valid.values two.0)
    (own-totalled h S b most) (own-totalled h T b most) uncrossed uncrossed_other same one.1 two.1
