-- What each command of a bank is told in states that it sees alike.
use Rattle.std.proofs.Common.{ℕ, ◌≡◌, suc, ◌≢◌, ◌+◌, ◌-◌, ◌<◌, max, Bool, ◌&&◌, eqb, leb, List, [], ◌∷◌, length, take, inl, inr, refl, ap, sym, ◌∙◌, arith, Option, Some, None, find}
use Rattle.std.specs.List.{filter}
use Rattle.std.specs.Prelude.{nat_lt, if◌then◌else◌}
use Rattle.std.proofs.lemmas.Bool.{cases_Bool, cases_eq, or_left, and_left, eq-eqb, ne_eqb, cond-true, cond-false}
use Rattle.fx_amounts.specs.declared.side.Side.{Side}
use Rattle.fx_amounts.specs.declared.side.Side.TheVariants.{Buy, Sell}
use Rattle.fx_rules.specs.declared.orders.Resting.{Resting}
use Rattle.fx_rules.specs.declared.orders.Fill.{Fill}
use Rattle.fx_rules.specs.declared.orders.Level.{Level}
use Rattle.fx_rules.specs.declared.command.Command.{Command}
use Rattle.fx_rules.specs.declared.command.Command.TheVariants.{Order, Cancel, Reduce, Pull, Line, Total, Settle, Show, Book, Bad}
use Rattle.fx_rules.specs.declared.command.Life.{Life}
use Rattle.fx_rules.specs.declared.command.Life.TheVariants.{Day, Ioc, Fok}
use Rattle.fx_rules.specs.declared.outcome.Outcome.{Outcome}
use Rattle.fx_rules.specs.declared.outcome.Outcome.TheVariants.{Ordered, Killed, Cancelled, Reduced, NotLess, Nothing, Pulled, LineSet, TotalSet, Shown, Depth}
use Rattle.fx_rules.specs.Session.{Header, IsSession, bank_count, pair_count}
use Rattle.fx_rules.specs.State.{State, orders_in, reach}
use Rattle.fx_rules.specs.Sweep.{is_order, taker_of}
use Rattle.fx_rules.specs.Raise.{limit_set, order_of}
use Rattle.fx_rules.specs.Depth.{any_price, lots_against, with_fill, levels_of, Shows, IsDepth}
use Rattle.fx_rules.specs.inside.Orders.{orders_by}
use Rattle.fx_rules.specs.Step.{IsCommand, IsOrdered, IsOutcome, cancel_answer, reduce_answer}
use Rattle.fx_rules.specs.Sound.{IsSound}
use Rattle.fx_rules.specs.View.{seen_as, CreditSeen, view, told}
use Rattle.fx_rules.proofs.ListLemmas.{filter_agree_on, filter_filter, filter_cons_true, filter_cons_false}
use Rattle.fx_rules.proofs.Staying.{and_where}
use Rattle.fx_rules.proofs.Lowering.{is_order-says}
use Rattle.fx_rules.proofs.ViewLists.{Paired, together-like, find-together, find-filter}
use Rattle.fx_rules.proofs.ViewOpen.{shown, visible, FillsAlike, like_bank}
use Rattle.fx_rules.proofs.ViewFill.{like_number}
use Rattle.fx_rules.proofs.ViewSweep.{ends-alike}
use Rattle.fx_rules.proofs.ViewTold.{credit_same, spent_same, views-alike, next-told, ordered_told}

-- ---- orders

order-told : (h : Header) (S T : State) (b : ℕ) (side : Side) (pair price lots : ℕ) (life : Life) (one other : Outcome) → IsSession h → IsSound h S → IsSound h T → b < bank_count h → pair < pair_count h → view h S b ≡ view h T b → IsOrdered h S (taker_of S b side pair price lots) life one → IsOrdered h T (taker_of T b side pair price lots) life other → told one ≡ told other
order-told h S T b side pair price lots Day (Ordered d r fs) (Ordered d' r' gs) session sound sound_other sender within same a c =
    let alike = next-told h S T b pair side price lots lots fs gs r r' session sound sound_other sender within same (inl refl) a.0 c.0 in
    let ends : r ≡ r' = ends-alike h b S T (taker_of S b side pair price lots) (taker_of T b side pair price lots) fs gs r r' refl alike.alike a.0 c.0 in
    ordered_told d r d' r' fs gs (a.1 ∙ ap (λ n. lots - n) ends ∙ sym c.1) ends alike.told
order-told h S T b side pair price lots Ioc (Ordered d r fs) (Ordered d' r' gs) session sound sound_other sender within same a c =
    let alike = next-told h S T b pair side price lots lots fs gs (lots - d) (lots - d') session sound sound_other sender within same (inl refl) a.0 c.0 in
    let ends : lots - d ≡ lots - d' = ends-alike h b S T (taker_of S b side pair price lots) (taker_of T b side pair price lots) fs gs (lots - d) (lots - d') refl alike.alike a.0 c.0 in
    ordered_told d r d' r' fs gs (omega (arith, a.1, c.1)) (a.2 ∙ sym c.2) alike.told
order-told h S T b side pair price lots Fok (Ordered d r fs) (Ordered d' r' gs) session sound sound_other sender within same a c =
    let alike = next-told h S T b pair side price lots lots fs gs 0 0 session sound sound_other sender within same (inl refl) a.0 c.0 in
    ordered_told d r d' r' fs gs (a.1 ∙ sym c.1) (a.2 ∙ sym c.2) alike.told
order-told h S T b side pair price lots Fok (Ordered d r fs) Killed session sound sound_other sender within same a c =
    let alike = next-told h S T b pair side price lots lots fs c.0 0 c.1 session sound sound_other sender within same (inl refl) a.0 c.2 in
    let ends : 0 ≡ c.1 = ends-alike h b S T (taker_of S b side pair price lots) (taker_of T b side pair price lots) fs c.0 0 c.1 refl alike.alike a.0 c.2 in
    absurd (omega (arith, c.3))
order-told h S T b side pair price lots Fok Killed (Ordered d' r' gs) session sound sound_other sender within same a c =
    let alike = next-told h S T b pair side price lots lots a.0 gs a.1 0 session sound sound_other sender within same (inl refl) a.2 c.0 in
    let ends : a.1 ≡ 0 = ends-alike h b S T (taker_of S b side pair price lots) (taker_of T b side pair price lots) a.0 gs a.1 0 refl alike.alike a.2 c.0 in
    absurd (omega (arith, a.3))
order-told h S T b side pair price lots Fok Killed Killed session sound sound_other sender within same a c = refl
order-told h S T b side pair price lots Day (Ordered d r fs) other session sound sound_other sender within same a c = absurd c
order-told h S T b side pair price lots Ioc (Ordered d r fs) other session sound sound_other sender within same a c = absurd c
order-told h S T b side pair price lots Fok (Ordered d r fs) other session sound sound_other sender within same a c = absurd c
order-told h S T b side pair price lots Fok Killed other session sound sound_other sender within same a c = absurd c
order-told h S T b side pair price lots life one other session sound sound_other sender within same a c = absurd a

-- ---- cancels, reductions and pulls

-- the bank's own orders look the same with their numbers
own_order_same : (b number : ℕ) (x y : Resting) → seen_as b x ≡ seen_as b y → is_order b number x ≡ is_order b number y
own_order_same b number x y like =
    elim (cases_eq x.bank b) [
      | inl own ↦ ap (λ k. eqb k b && eqb x.number number) (like_bank b x y like) ∙ ap (λ n. eqb y.bank b && eqb n number) (like_number b x y like own)
      | inr other ↦
          and_left (eqb x.bank b) (eqb x.number number) (ne_eqb x.bank b other)
          ∙ sym (and_left (eqb y.bank b) (eqb y.number number) (ne_eqb y.bank b (λ own. other (like_bank b x y like ∙ own))))
    ]

-- the bank's order of a number is found among those shown
found_shown : (h : Header) (L S : State) (b pair number : ℕ) → find (λ (o : Resting). is_order b number o) (visible h b L S pair) ≡ order_of S pair b number
found_shown h L S b pair number =
    find-filter (λ (o : Resting). is_order b number o) (λ (o : Resting). shown h b L pair o.bank) (orders_in pair S.orders)
    (λ o is. or_left (eqb o.bank b) (leb 1 (reach h L b o.bank pair)) (eq-eqb o.bank b (is_order-says b number o is).0))

-- what is left of the bank's order of a number, where it rests
left_of : Option Resting → Option ℕ
left_of None = None
left_of (Some o) = Some o.left

own-left : (h : Header) (S T : State) (b pair number : ℕ) → IsSound h S → IsSound h T → pair < pair_count h → view h S b ≡ view h T b → left_of (order_of S pair b number) ≡ left_of (order_of T pair b number)
unfolding left_of
own-left h S T b pair number sound sound_other within same =
    let VS : List Resting = visible h b S S pair in
    let VT : List Resting = visible h b S T pair in
    let paired : Paired b VS VT = (views-alike h S T b sound sound_other same).orders pair within in
    let test : Resting → Bool = λ o. is_order b number o in
    sym (ap left_of (found_shown h S S b pair number))
    ∙ elim (find-together b test test VS VT paired (λ x y together. own_order_same b number x y (together-like b x y VS VT paired together))) [
      | inl none ↦ ap left_of none.0 ∙ sym (ap left_of none.1)
      | inr found ↦
          let like = together-like b found.0 found.1.0 VS VT paired found.1.1.together in
          ap left_of found.1.1.first_is ∙ ap (λ (o : Resting). left_of (Some o)) like ∙ sym (ap left_of found.1.1.second_is)
    ]
    ∙ ap left_of (found_shown h S T b pair number)

cancel_left : Option ℕ → Outcome
cancel_left None = Nothing
cancel_left (Some left) = Cancelled left

cancel_by_left : (o : Option Resting) → told (cancel_answer o) ≡ cancel_left (left_of o)
unfolding left_of cancel_left
cancel_by_left None = refl
cancel_by_left (Some order) = refl

reduce_left : ℕ → Option ℕ → Outcome
reduce_left lots None = Nothing
reduce_left lots (Some left) = if nat_lt lots left then Reduced lots else NotLess left

reduce_by_left : (lots : ℕ) (o : Option Resting) → told (reduce_answer lots o) ≡ reduce_left lots (left_of o)
unfolding left_of reduce_left
reduce_by_left lots None = refl
reduce_by_left lots (Some order) = elim (cases_Bool (nat_lt lots order.left)) [
  | inl less_is ↦ ap told (cond-true (nat_lt lots order.left) (Reduced lots) (NotLess order.left) less_is)
      ∙ sym (cond-true (nat_lt lots order.left) (Reduced lots) (NotLess order.left) less_is)
  | inr not_less ↦ ap told (cond-false (nat_lt lots order.left) (Reduced lots) (NotLess order.left) not_less)
      ∙ sym (cond-false (nat_lt lots order.left) (Reduced lots) (NotLess order.left) not_less)
]

own : ℕ → Resting → Bool
own b o = eqb o.bank b

own_count : (b : ℕ) (xs ys : List Resting) → Paired b xs ys → length (filter (own b) xs) ≡ length (filter (own b) ys)
unfolding own
own_count b [] [] paired = refl
own_count b [] (y ∷ ys) paired = absurd paired
own_count b (x ∷ xs) [] paired = absurd paired
own_count b (x ∷ xs) (y ∷ ys) paired =
    let rest = own_count b xs ys paired.1 in
    let bank : eqb x.bank b ≡ eqb y.bank b = ap (λ (o : Resting). eqb o.bank b) paired.0 in
    elim (cases_Bool (eqb x.bank b)) [
      | inl is ↦ ap length (filter_cons_true (own b) x xs is) ∙ ap suc rest ∙ sym (ap length (filter_cons_true (own b) y ys (sym bank ∙ is)))
      | inr isnt ↦ ap length (filter_cons_false (own b) x xs isnt) ∙ rest ∙ sym (ap length (filter_cons_false (own b) y ys (sym bank ∙ isnt)))
    ]

own_shown : (h : Header) (L S : State) (b pair : ℕ) → filter (own b) (visible h b L S pair) ≡ orders_by S pair b
unfolding own
own_shown h L S b pair =
    filter_filter (own b) (λ (o : Resting). shown h b L pair o.bank) (orders_in pair S.orders)
    ∙ filter_agree_on (λ (o : Resting). own b o && shown h b L pair o.bank) (own b) (orders_in pair S.orders)
    (λ o _. and_where (eqb o.bank b) (shown h b L pair o.bank) (λ is. or_left (eqb o.bank b) (leb 1 (reach h L b o.bank pair)) is))

pulled-same : (h : Header) (S T : State) (b pair : ℕ) → IsSound h S → IsSound h T → pair < pair_count h → view h S b ≡ view h T b → length (orders_by S pair b) ≡ length (orders_by T pair b)
pulled-same h S T b pair sound sound_other within same =
    sym (ap length (own_shown h S S b pair))
    ∙ own_count b (visible h b S S pair) (visible h b S T pair) ((views-alike h S T b sound sound_other same).orders pair within)
    ∙ ap length (own_shown h S T b pair)

-- ---- local books

with_lots : ℕ → ℕ → List Level → List Level
with_lots price lots [] = record { price = price; lots = lots } ∷ []
with_lots price lots (level ∷ levels) =
    if eqb price level.price then record { price = level.price; lots = lots + level.lots } ∷ levels
    else record { price = price; lots = lots } ∷ level ∷ levels

with_fill_is : (f : Fill) (levels : List Level) → with_fill f levels ≡ with_lots f.price f.lots levels
unfolding with_lots
with_fill_is f [] = refl
with_fill_is f (level ∷ levels) = refl

levels-alike : (b : ℕ) (fs gs : List Fill) → FillsAlike b fs gs → levels_of fs ≡ levels_of gs
levels-alike b [] [] alike = refl
levels-alike b [] (g ∷ gs) alike = absurd alike
levels-alike b (f ∷ fs) [] alike = absurd alike
levels-alike b (f ∷ fs) (g ∷ gs) alike =
    ap (with_fill f) (levels-alike b fs gs alike.1) ∙ with_fill_is f (levels_of gs)
    ∙ ap (λ p. with_lots p f.lots (levels_of gs)) alike.0.price ∙ ap (λ l. with_lots g.price l (levels_of gs)) alike.0.lots
    ∙ sym (with_fill_is g (levels_of gs))

shows-alike : (h : Header) (S T : State) (b pair : ℕ) (side : Side) (levels levels' : List Level) → IsSession h → IsSound h S → IsSound h T → b < bank_count h → pair < pair_count h → view h S b ≡ view h T b → Shows h S b pair side levels → Shows h T b pair side levels' → levels ≡ levels'
shows-alike h S T b pair side levels levels' session sound sound_other sender within same one other =
    let alike = next-told h S T b pair side (any_price side) (lots_against S pair side) (lots_against T pair side) one.0 other.0 one.1 other.1
    session sound sound_other sender within same (inr (omega arith, omega arith)) one.2 other.2 in
    one.3 ∙ ap (λ (ls : List Level). take 10 ls) (levels-alike b one.0 other.0 alike.alike) ∙ sym other.3

pub books-alike : (h : Header) (S T : State) (b pair : ℕ) (bids asks bids' asks' : List Level) → IsSession h → IsSound h S → IsSound h T → b < bank_count h → pair < pair_count h → view h S b ≡ view h T b → IsDepth h S b pair bids asks → IsDepth h T b pair bids' asks' → (bids ≡ bids') × (asks ≡ asks')
books-alike h S T b pair bids asks bids' asks' session sound sound_other sender within same one other = (
  shows-alike h S T b pair Sell bids bids' session sound sound_other sender within same one.sells other.sells,
  shows-alike h S T b pair Buy asks asks' session sound sound_other sender within same one.buys other.buys,
)

depth_same : (bids asks bids' asks' : List Level) → (bids ≡ bids') × (asks ≡ asks') → Depth bids asks ≡ Depth bids' asks'
depth_same bids asks bids' asks' same = let a : bids ≡ bids' = same.0 in let c : asks ≡ asks' = same.1 in cc

book-told : (h : Header) (S T : State) (b pair : ℕ) (one other : Outcome) → IsSession h → IsSound h S → IsSound h T → b < bank_count h → pair < pair_count h → view h S b ≡ view h T b → IsOutcome h S b (Book pair) one → IsOutcome h T b (Book pair) other → told one ≡ told other
book-told h S T b pair (Depth bids asks) (Depth bids' asks') session sound sound_other sender within same a c =
    depth_same bids asks bids' asks' (books-alike h S T b pair bids asks bids' asks' session sound sound_other sender within same a c)
book-told h S T b pair (Depth bids asks) other session sound sound_other sender within same a c = absurd c
book-told h S T b pair one other session sound sound_other sender within same a c = absurd a

-- ---- credit changes

limit_same : (h : Header) (S T : State) (b k asked limit limit' : ℕ) → view h S b ≡ view h T b → k < bank_count h → k ≢ b → limit ≡ limit_set h S b k asked → limit' ≡ limit_set h T b k asked → limit ≡ limit'
limit_same h S T b k asked limit limit' same within differ one other =
    one ∙ ap (λ (c : CreditSeen). max asked c.used) (credit_same h S T b k same within differ) ∙ sym other

line-told : (h : Header) (S T : State) (b k asked : ℕ) (one other : Outcome) → view h S b ≡ view h T b → k < bank_count h → k ≢ b → IsOutcome h S b (Line k asked) one → IsOutcome h T b (Line k asked) other → told one ≡ told other
line-told h S T b k asked (LineSet limit fs) (LineSet limit' gs) same within differ a c =
    ap (λ l. LineSet l []) (limit_same h S T b k asked limit limit' same within differ a.0 c.0)
line-told h S T b k asked (LineSet limit fs) other same within differ a c = absurd c
line-told h S T b k asked one other same within differ a c = absurd a

total-told : (h : Header) (S T : State) (b asked : ℕ) (one other : Outcome) → view h S b ≡ view h T b → IsOutcome h S b (Total asked) one → IsOutcome h T b (Total asked) other → told one ≡ told other
total-told h S T b asked (TotalSet most fs) (TotalSet most' gs) same a c =
    ap (λ m. TotalSet m []) (a.0 ∙ ap (max asked) (spent_same h S T b same) ∙ sym c.0)
total-told h S T b asked (TotalSet most fs) other same a c = absurd c
total-told h S T b asked one other same a c = absurd a

-- ---- all commands

pub views-told : (h : Header) (S T : State) (b : ℕ) (command : Command) (one other : Outcome) → IsSession h → IsSound h S → IsSound h T → b < bank_count h → IsCommand h b command → view h S b ≡ view h T b → IsOutcome h S b command one → IsOutcome h T b command other → told one ≡ told other
views-told h S T b (Order side pair price lots life) one other session sound sound_other bank_in valid same a c =
    order-told h S T b side pair price lots life one other session sound sound_other valid.sends valid.values.0 same a c
views-told h S T b (Cancel pair number) one other session sound sound_other bank_in valid same a c =
    ap told a ∙ cancel_by_left (order_of S pair b number) ∙ ap cancel_left (own-left h S T b pair number sound sound_other valid.values.0 same)
    ∙ sym (cancel_by_left (order_of T pair b number)) ∙ sym (ap told c)
views-told h S T b (Reduce pair number lots) one other session sound sound_other bank_in valid same a c =
    ap told a ∙ reduce_by_left lots (order_of S pair b number) ∙ ap (reduce_left lots) (own-left h S T b pair number sound sound_other valid.values.0 same)
    ∙ sym (reduce_by_left lots (order_of T pair b number)) ∙ sym (ap told c)
views-told h S T b (Pull pair) one other session sound sound_other bank_in valid same a c =
    ap told a ∙ ap Pulled (pulled-same h S T b pair sound sound_other valid.values same) ∙ sym (ap told c)
views-told h S T b (Line k asked) one other session sound sound_other bank_in valid same a c =
    line-told h S T b k asked one other same valid.values.0 valid.values.1 a c
views-told h S T b (Total asked) one other session sound sound_other bank_in valid same a c = total-told h S T b asked one other same a c
views-told h S T b (Settle i j asked) one other session sound sound_other bank_in valid same a c =
    absurd (omega (arith, bank_in, session.banks_most, valid.sends.1))
views-told h S T b (Show k) one other session sound sound_other bank_in valid same a c =
    ap told a ∙ ap (λ (s : CreditSeen). Shown s.limit s.used s.line) (credit_same h S T b k same valid.values.0 valid.values.1) ∙ sym (ap told c)
views-told h S T b (Book pair) one other session sound sound_other bank_in valid same a c =
    book-told h S T b pair one other session sound sound_other valid.sends valid.values same a c
views-told h S T b (Bad reason) one other session sound sound_other bank_in valid same a c = ap told (a ∙ sym c)
