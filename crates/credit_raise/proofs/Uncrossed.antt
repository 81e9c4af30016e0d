-- Where the best prices of a book's two sides do not cross, no order's turn makes a fill; and which orders cross given prices.
use Rattle.std.proofs.Common.{ℕ, ◌≡◌, ◌≢◌, ◌≤◌, ◌<◌, ◌-◌, ◌/◌, ◌^◌, ◌&&◌, Bool, true, false, List, [], ◌∷◌, ◌++◌, Option, Some, None, MatchOption, get_or, eqb, inl, inr, refl, ap, sym, subst, ◌∙◌, arith}
use Rattle.std.proofs.lemmas.Bool.{and_parts, both_ways, cases_eq, cond-false, cond-true, eq-eqb, eqb-true, false≢true, le-leb, leb-true, ltb-false, ne_eqb}
use Rattle.std.specs.List.{filter}
use Rattle.fx_amounts.specs.Price.{IsPrice, crosses}
use Rattle.fx_amounts.specs.Side.{opposite}
use Rattle.fx_amounts.specs.declared.side.Side.{Side}
use Rattle.fx_amounts.specs.declared.side.Side.TheVariants.{Buy, Sell}
use Rattle.fx_rules.specs.declared.orders.Resting.{Resting}
use Rattle.fx_rules.specs.declared.orders.Fill.{Fill}
use Rattle.fx_rules.specs.Lists.{Among, Each, EachPair}
use Rattle.fx_rules.specs.Session.{Header, weight_of}
use Rattle.fx_rules.specs.State.{State, orders_in, reach}
use Rattle.fx_rules.specs.Sweep.{Taker, Swept, is_open, is_opposite, is_order, open_orders, filled_all}
use Rattle.fx_rules.specs.Raise.{Turned, order_of, taker_of_resting}
use Rattle.fx_rules.specs.Sound.{ArrivesBefore, IsKept}
use Rattle.fx_rules.proofs.ListLemmas.{Each-among, Each-filter, EachPair-filter, Among-filter, filter_cons_true}
use Rattle.fx_rules.proofs.Opens.{is_open-says, orders_in-among}
use Rattle.fx_rules.proofs.RaiseSound.{find-says}
use Rattle.global_book.specs.Book.{Book, IsBook, IsHeld, IsPriceOf, is_of}
use Rattle.global_book.specs.Room.{rank_of}
use Rattle.global_book.specs.Words.{AreBestWords, word_price}
use Rattle.credit_lines.specs.Credit.{Credit}
use Rattle.credit_lines.specs.Market.{StandsFor}
use Rattle.credit_raise.specs.declared.prices.Tops.{Tops}
use Rattle.credit_raise.specs.Turns.{TurnsEach}
use Rattle.credit_raise.specs.inside.Turns.{bare}
use Rattle.credit_raise.specs.inside.Prices.{AreTopsOfAll, IsOf, IsTop, IsWithin, crosses_tops, is_crossed}
use Rattle.credit_raise.proofs.Apart.{none_in}
use Rattle.credit_raise.proofs.Facing.{opposite_is, top-price}
use Rattle.credit_raise.proofs.Looking.{opposite_twice}

-- ---- best prices

-- what is no better than a price is no better than one that is better still
pub within-keeps : (side : Side) (price first top : ℕ) → IsWithin side (Some price) (Some first) → IsWithin side (Some first) (Some top) → IsWithin side (Some price) (Some top)
within-keeps Buy price first top one two = le-leb price top (omega (arith, leb-true price first one, leb-true first top two))
within-keeps Sell price first top one two = le-leb top price (omega (arith, leb-true first price one, leb-true top first two))

-- a bank's order is no better than the bank's best price
order_within : (bank : ℕ) (side : Side) (orders : List Resting) (o : Resting) (top : Option ℕ) → IsTop bank side orders top → IsOf bank side orders o → IsWithin side (Some o.price) top
order_within bank side orders o None none is = absurd (none o is)
order_within bank Buy orders o (Some top) best is = le-leb o.price top (omega (arith, ltb-false top o.price (best o is)))
order_within bank Sell orders o (Some top) best is = le-leb top o.price (omega (arith, ltb-false o.price top (best o is)))

within_trans : (side : Side) (price : ℕ) (first top : Option ℕ) → IsWithin side (Some price) first → IsWithin side first top → IsWithin side (Some price) top
within_trans side price None top one two = absurd one
within_trans side price (Some first) None one two = absurd two
within_trans side price (Some first) (Some top) one two = within-keeps side price first top one two

-- the lower word tells the better price
words_within : (side : Side) (least word : ℕ) → least ≤ word → word < 2 ^ 64 → IsWithin side (word_price side word) (word_price side least)
words_within side least word below most =
    elim (cases_eq word (2 ^ 64 - 1)) [
      | inl none ↦ subst (λ p. IsWithin side p (word_price side least)) (sym (cond-true (eqb word (2 ^ 64 - 1)) None (Some (rank_of side (word / 2 ^ 34))) (eq-eqb word (2 ^ 64 - 1) none))) tt
      | inr some ↦
          let priced : (w : ℕ) → w ≢ 2 ^ 64 - 1 → word_price side w ≡ Some (rank_of side (w / 2 ^ 34))
          = λ w there. cond-false (eqb w (2 ^ 64 - 1)) None (Some (rank_of side (w / 2 ^ 34))) (ne_eqb w (2 ^ 64 - 1) there) in
          subst (λ p. IsWithin side p (word_price side least)) (sym (priced word some))
          (subst (λ p. IsWithin side (Some (rank_of side (word / 2 ^ 34))) p) (sym (priced least (λ is. some (omega (arith, is, below, most)))))
          (ranks_within side (least / 2 ^ 34) (word / 2 ^ 34) (omega (arith, below))))
    ]
  where
    ranks_within : (side : Side) (best rank : ℕ) → best ≤ rank → IsWithin side (Some (rank_of side rank)) (Some (rank_of side best))
    ranks_within Buy best rank below = le-leb (10 ^ 9 - rank) (10 ^ 9 - best) (omega (arith, below))
    ranks_within Sell best rank below = le-leb best rank below

-- a price at which a bank has orders is no better than the bank's best price
price_within : (bank : ℕ) (side : Side) (orders : List Resting) (price top : Option ℕ) → IsPriceOf (opposite side) bank None orders price → IsTop bank side orders top → IsWithin side price top
price_within bank side orders None top is best = tt
price_within bank side orders (Some price) top is best =
    let own = and_parts (is_of bank is.order && is_opposite (opposite side) is.order.side) true is.passes in
    let its = and_parts (is_of bank is.order) (is_opposite (opposite side) is.order.side) own.0 in
    subst (λ p. IsWithin side (Some p) top) is.price
    (order_within bank side orders is.order top best (record {
      rests = is.there;
      owner = eqb-true is.order.bank bank its.0;
      side_is = opposite_is (opposite side) is.order.side its.1 ∙ opposite_twice side;
    }))

-- the best price of the bank whose best order has the least word
pub best-of-all : (side : Side) (orders : List Resting) (words : List ℕ) (first : ℕ) (top : Option ℕ) → AreBestWords side orders words → first < 64
    → ((bank : ℕ) → bank < 64 → (get_or words first 0 ≤ get_or words bank 0) × (get_or words bank 0 < 2 ^ 64)) → IsTop first side orders top
    → (order : Resting) → Among order orders → order.side ≡ side → IsWithin side (Some order.price) top
best-of-all side orders words first top are within least best order there side_is =
    let owner : order.bank < 64 = Each-among (λ (o : Resting). o.bank < 64) orders order are.owners there in
    let own : Option ℕ = word_price side (get_or words order.bank 0) in
    let low : Option ℕ = word_price side (get_or words first 0) in
    within_trans side order.price own top
    (order_within order.bank side orders order own (top-price order.bank side orders own (are.prices order.bank owner))
    (record { rests = there; owner = refl; side_is = side_is }))
    (any_trans side own low top (words_within side (get_or words first 0) (get_or words order.bank 0) (least order.bank owner).0 (least order.bank owner).1)
    (price_within first side orders low top (are.prices first within) best))
  where
    any_trans : (side : Side) (price first top : Option ℕ) → IsWithin side price first → IsWithin side first top → IsWithin side price top
    any_trans side None first top one two = tt
    any_trans side (Some price) first top one two = within_trans side price first top one two

-- ---- nothing crosses

crossed : (orders : List Resting) (buy sell : Option ℕ) (b s : Resting) → IsWithin Buy (Some b.price) buy → IsWithin Sell (Some s.price) sell → s.price ≤ b.price → is_crossed buy sell ≡ true
crossed orders None sell b s one two below = absurd one
crossed orders (Some buy) None b s one two below = absurd two
crossed orders (Some buy) (Some sell) b s one two below = le-leb sell buy (omega (arith, leb-true b.price buy one, leb-true sell s.price two, below))

side_cases : (orders : List Resting) (tops : Tops) (a o : Resting) → AreTopsOfAll orders tops → Among a orders → Among o orders → (x y : Side) → a.side ≡ x → o.side ≡ y → is_opposite x y ≡ true → crosses x a.price o.price ≡ true → is_crossed tops.buy tops.sell ≡ true
side_cases orders tops a o are a_there o_there Buy Buy a_is o_is apart cross = absurd (false≢true apart)
side_cases orders tops a o are a_there o_there Sell Sell a_is o_is apart cross = absurd (false≢true apart)
side_cases orders tops a o are a_there o_there Buy Sell a_is o_is apart cross =
    crossed orders tops.buy tops.sell a o (are.buy a a_there a_is) (are.sell o o_there o_is) (leb-true o.price a.price cross)
side_cases orders tops a o are a_there o_there Sell Buy a_is o_is apart cross =
    crossed orders tops.buy tops.sell o a (are.buy o o_there o_is) (are.sell a a_there a_is) (leb-true a.price o.price cross)

meets : (orders : List Resting) (tops : Tops) (a o : Resting) → AreTopsOfAll orders tops → Among a orders → Among o orders → is_opposite a.side o.side ≡ true → crosses a.side a.price o.price ≡ true → is_crossed tops.buy tops.sell ≡ true
meets orders tops a o are a_there o_there apart cross =
    let cases : (x y : Side) → a.side ≡ x → o.side ≡ y → is_opposite x y ≡ true → crosses x a.price o.price ≡ true → is_crossed tops.buy tops.sell ≡ true
    = λ x y. side_cases orders tops a o are a_there o_there x y in
    cases a.side o.side refl refl apart cross

-- nothing is open to an order of the book
closed : (h : Header) (S : State) (pair : ℕ) (tops : Tops) (a : Resting) → AreTopsOfAll (orders_in pair S.orders) tops → is_crossed tops.buy tops.sell ≡ false → Among a (orders_in pair S.orders) → open_orders h S (taker_of_resting pair a) ≡ []
closed h S pair tops a are apart there =
    let t : Taker = taker_of_resting pair a in
    none_in (open_orders h S t) (λ o open_there.
    let found = Among-filter (λ (q : Resting). is_open t (reach h S t.bank q.bank t.pair) q) (orders_in pair S.orders) o open_there in
    let says = is_open-says t (reach h S t.bank o.bank t.pair) o found.1 in
    both_ways (is_crossed tops.buy tops.sell) apart (meets (orders_in pair S.orders) tops a o are there found.0 says.opposite says.crosses))

either_way : {X : Type 0} (o : Option X) (P : Type 0) (Q : X → Type 0) → P → ((x : X) → o ≡ Some x → Q x) → MatchOption o P Q
either_way None P Q none some = none
either_way (Some x) P Q none some = some x refl

no_fills : (h : Header) (S : State) (pair : ℕ) (tops : Tops) (orders : List Resting) → AreTopsOfAll (orders_in pair S.orders) tops → is_crossed tops.buy tops.sell ≡ false → Turned h pair S orders []
no_fills h S pair tops [] are apart = refl
no_fills h S pair tops (o ∷ orders) are apart =
    let rest : Turned h pair S orders [] = no_fills h S pair tops orders are apart in
    either_way (order_of S pair o.bank o.number) (Turned h pair S orders [])
    (λ now. (own more : List Fill) × (left : ℕ) × Swept h S (taker_of_resting pair now) own left × ([] ≡ own ++ more) × Turned h pair (filled_all S own) orders more)
    rest
    (λ now found. (
      [],
      [],
      now.left,
      (refl, inr (closed h S pair tops now are apart (find-says (λ (q : Resting). is_order o.bank o.number q) (orders_in pair S.orders) now found).0)),
      refl,
      rest,
    ))

pub uncrossed-turns : (book : Book) (credit : Credit) (weight : ℕ) (tops : Tops) (fills : List Fill) → AreTopsOfAll book.orders tops → is_crossed tops.buy tops.sell ≡ false → fills ≡ [] → TurnsEach book credit weight book.orders fills
uncrossed-turns book credit weight tops fills are apart none h S sound fits =
    subst (Turned h book.pair S book.orders) (sym none)
    (no_fills h S book.pair tops book.orders (subst (λ (os : List Resting). AreTopsOfAll os tops) fits.orders are) apart)

-- ---- each order crosses the widest prices

all_kept : {X : Type 0} (test : X → Bool) (xs : List X) → ((x : X) → Among x xs → test x ≡ true) → filter test xs ≡ xs
all_kept test [] all = refl
all_kept test (x ∷ xs) all = filter_cons_true test x xs (all x (inl refl)) ∙ ap (λ ys. x ∷ ys) (all_kept test xs (λ y there. all y (inr there)))

-- so that a book of those that do has all orders of a state that it is of
pub widest-turns : (book own : Book) (credit lines : Credit) (weight : ℕ) (tops : Tops) (orders : List Resting) (fills : List Fill)
    → ((order : Resting) → IsPrice order.price → crosses_tops tops order ≡ true)
    → orders ≡ filter (crosses_tops tops) book.orders → own.pair ≡ book.pair → own.orders ≡ orders → lines ≡ credit
    → TurnsEach own lines weight orders fills → TurnsEach book credit weight book.orders fills
widest-turns book own credit lines weight tops orders fills all gathered pair_is own_is same turns h S sound fits =
    let priced : (o : Resting) → Among o book.orders → crosses_tops tops o ≡ true = λ o there.
    let stands = orders_in-among book.pair S.orders o (subst (Among o) fits.orders there) in
    let kept : IsKept h S.counts stands.0 = Each-among (IsKept h S.counts) S.orders stands.0 sound.kept stands.1 in
    all o (subst (λ (q : Resting). IsPrice q.price) (sym stands.3) kept.price) in
    let whole : orders ≡ book.orders = gathered ∙ all_kept (crosses_tops tops) book.orders priced in
    subst (λ (os : List Resting). Turned h book.pair S os fills) whole
    (subst (λ p. Turned h p S orders fills) pair_is
    (turns h S sound (record {
      orders = own_is ∙ whole ∙ fits.orders ∙ ap (λ p. orders_in p S.orders) (sym pair_is);
      lines = subst (StandsFor h S) (sym same) fits.lines;
      weighs = fits.weighs ∙ ap (weight_of h) (sym pair_is);
    })))

-- ---- a book of some of the orders

-- a book of all orders that cross given prices, or of any others of a book in its order, is one
pub kept-book : (book : Book) (test : Resting → Bool) (pair banks : ℕ) (orders : List Resting) → IsBook book → banks ≡ book.banks → orders ≡ filter test book.orders → IsBook (bare pair banks orders)
kept-book book test pair banks orders valid banks_are is = record {
  rising = subst (EachPair ArrivesBefore) (sym is) (EachPair-filter ArrivesBefore test book.orders valid.rising);
  held = subst (λ n. Each (IsHeld n) orders) (sym banks_are) (subst (Each (IsHeld book.banks)) (sym is) (Each-filter (IsHeld book.banks) test book.orders valid.held));
}
