-- The heads of a walk along a side: what a word tells of the list of the orders, the best of the heads, and the next head of a bank.
use Rattle.std.proofs.Common.{ℕ, zero, suc, ◌≡◌, ◌≢◌, ◌≤◌, ◌<◌, ◌^◌, min, true, false, Bool, not, ◌&&◌, leb, ltb, List, [], ◌∷◌, length, map, take, Option, Some, None, get_or, inl, inr, refl, ap, sym, subst, ◌∙◌, arith}
use Rattle.std.proofs.Math.ListN.{set}
use Rattle.std.proofs.lemmas.Bool.{and_from, and_parts, both_ways, cases_eq, cases_lt, eq-eqb, eqb-true, false_from_ne_true, le-leb, lt-leb, lt-ltb, ne_eqb}
use Rattle.std.proofs.lemmas.List.{get_or-set_other, get_or-set_same, get_or-take, get_or_past, length-map, length-set, length-take-le, map-set}
use Rattle.std.specs.Option.{IfSome, IsSome, option_map}
use Rattle.fx_amounts.specs.Price.{crosses}
use Rattle.fx_amounts.specs.Side.{opposite}
use Rattle.fx_amounts.specs.declared.side.Side.{Side}
use Rattle.fx_amounts.specs.declared.side.Side.TheVariants.{Buy, Sell}
use Rattle.fx_rules.specs.declared.orders.Resting.{Resting}
use Rattle.fx_rules.specs.Lists.{Among, Each}
use Rattle.fx_rules.specs.Plan.{is_behind}
use Rattle.fx_rules.specs.Sweep.{is_opposite, is_preferred}
use Rattle.fx_rules.proofs.ListLemmas.{Each-among, Among-filter, among_filter}
use Rattle.fx_rules.proofs.Preference.{preferred_trans}
use Rattle.access_index.specs.declared.words.Head.{Head}
use Rattle.access_index.specs.Heads.{IsBestWithin, IsHead, IsUpTo, word_beyond}
use Rattle.access_index.specs.Ranked.{IsHeadOf, bank_level}
use Rattle.order_store.specs.Linked.{AreListed}
use Rattle.global_book.specs.Behind.{is_owned_behind, owned_behind}
use Rattle.global_book.specs.Book.{Book, RestsWithin, is_of}
use Rattle.global_book.specs.Heads.{Heads, IsBegun, IsLeast, IsNext, PassesHead, count_to_come, head_in, is_from_head, is_to_come, with_head}
use Rattle.global_book.specs.Room.{ladders_of, rank_of}
use Rattle.global_book.specs.inside.Bests.{IsBestAt, IsBestOf, is_own_behind, is_own_from, is_past}
use Rattle.global_book.specs.inside.Heads.{TellHeads, TellsLimit, TellsOrder, limit_told, order_told}
use Rattle.global_book.specs.inside.Linked.{AreKept, AreLinked, Linked, orders_in}
use Rattle.global_book.specs.inside.Owning.{is_own}
use Rattle.global_book.proofs.Behind.{best-past, none-past, past-none, past-some}
use Rattle.global_book.proofs.Ending.{order_is, own_side, same_side}
use Rattle.global_book.proofs.Listing.{among-at, each-at}
use Rattle.global_book.proofs.Preferring.{first-found, none-found, preferred-better, preferred-earlier, rank-better}
use Rattle.global_book.proofs.Reached.{not-both, not-self}
use Rattle.global_book.proofs.Seeking.{fewer}
use Rattle.global_book.proofs.Telling.{rank-one}
use Rattle.global_book.proofs.Within.{none_allowed}
use Rattle.global_book.proofs.Words.{rank-is}

-- Heads as they are seen.

-- what is told of a bank is its head
pub told-at : (slots : List (Option Resting)) (words : List (Option Head)) (bank : ℕ) → get_or (map (order_told slots) words) bank None ≡ order_told slots (get_or words bank None)
told-at slots [] zero = refl
told-at slots [] (suc bank) = refl
told-at slots (word ∷ words) zero = refl
told-at slots (word ∷ words) (suc bank) = told-at slots words bank

-- the heads that words tell
abbrev pub heads_told : Linked → Side → ℕ → List (Option Head) → Heads
heads_told linked side limit words = record { side = side; limit = limit; orders = orders_in linked; next = map (order_told linked.orders.slots) words }

-- Ranks and limits.

limit-rank : (side : Side) (limit price : ℕ) → limit ≤ 10 ^ 9 → price ≤ 10 ^ 9 → rank_of side price ≤ rank_of side limit → crosses (opposite side) limit price ≡ true
limit-rank Buy limit price most most' upto = le-leb limit price (omega (arith, most, most', upto))
limit-rank Sell limit price most most' upto = le-leb price limit upto

pub dear-rank : (side : Side) (limit price : ℕ) → limit ≤ 10 ^ 9 → price ≤ 10 ^ 9 → rank_of side limit < rank_of side price → crosses (opposite side) limit price ≡ false
dear-rank Buy limit price most most' above = lt-leb limit price (omega (arith, most, most', above))
dear-rank Sell limit price most most' above = lt-leb price limit above

-- a limit stands in a word
pub limit-is : (side : Side) (limit : ℕ) → limit ≤ 10 ^ 9 → limit_told side (word_beyond (rank_of side limit)) ≡ limit
limit-is Buy limit most = omega (arith, most)
limit-is Sell limit most = omega (arith, most)

pub tells-limit : (side : Side) (limit beyond : ℕ) → limit ≤ 10 ^ 9 → beyond ≡ word_beyond (rank_of side limit) → TellsLimit side beyond
tells-limit side limit beyond most is =
    let same : limit_told side beyond ≡ limit = ap (limit_told side) is ∙ limit-is side limit most in
    record { most = omega (arith, same, most); is = is ∙ ap (λ (price : ℕ). word_beyond (rank_of side price)) (sym same) }

-- the best order of a bank is at its head's place
pub head-best : (linked : Linked) (side : Side) → AreLinked linked.orders.slots linked.ladders → AreListed linked.orders → (bank : ℕ) (head : Option Head)
    → IsHeadOf (bank_level (ladders_of linked.ladders side) bank) head → IsBestOf linked.orders.slots (is_own_from bank side 0) side (option_map (λ (h : Head). h.place) head)
head-best linked side ladders listed bank None none =
    none-found linked.orders.slots bank side (bank_level (ladders_of linked.ladders side)) (ladders.told side) ladders.priced listed.rising listed.lots 0 (λ rank from. none rank)
head-best linked side ladders listed bank (Some head) is =
    subst (IsBestAt linked.orders.slots (is_own_from bank side 0) side) (sym is.1)
    (first-found linked.orders.slots bank side (bank_level (ladders_of linked.ladders side)) (ladders.told side) ladders.priced listed.rising listed.lots 0 head.rank is.0)

-- What the best orders of a side are.
module _ (banks : ℕ) (linked : Linked) (side : Side) (kept : AreKept banks linked) (ladders : AreLinked linked.orders.slots linked.ladders) where
  best-of : (bank : ℕ) (head : Option Head) → IsHeadOf (bank_level (ladders_of linked.ladders side) bank) head → IsBestOf linked.orders.slots (is_own_from bank side 0) side (option_map (λ (h : Head). h.place) head)
  best-of = head-best linked side ladders kept.listed

  tells-best : (bank : ℕ) (head : Option Head) → IsHeadOf (bank_level (ladders_of linked.ladders side) bank) head → IfSome head IsHead → IfSome head (TellsOrder linked.orders.slots side bank)
  tells-best bank None is fits = tt
  tells-best bank (Some head) is fits =
      let at : IsBestAt linked.orders.slots (is_own_from bank side 0) side head.place = best-of bank (Some head) is in
      record {
        order = at.order;
        is = at.is;
        own = (and_parts (is_own bank side at.order) (leb 0 (rank_of side at.order.price)) at.passes_it).0;
        rank = sym (rank-is linked.orders.slots bank side (bank_level (ladders_of linked.ladders side)) (ladders.told side) ladders.priced kept.listed.rising kept.listed.lots head.rank at.order is.0.some
            (ap (λ p. get_or linked.orders.slots p None) (sym is.1) ∙ at.is));
        fits = fits;
      }

  -- the best orders are told
  pub heads-tell : (words : List (Option Head)) → length words ≡ 64
      → ((bank : ℕ) → bank < 64 → IsHeadOf (bank_level (ladders_of linked.ladders side) bank) (get_or words bank None) × IfSome (get_or words bank None) IsHead) → TellHeads 64 linked side words
  heads-tell words count are = record {
    banks = banks;
    kept = kept;
    priced = ladders.priced;
    long = count;
    tells = λ bank. elim (cases_lt bank 64) [
      | inl small ↦ tells-best bank (get_or words bank None) (are bank small).0 (are bank small).1
      | inr past ↦ subst (λ (h : Option Head). IfSome h (TellsOrder linked.orders.slots side bank)) (sym (get_or_past words bank None (omega (arith, count, past)))) tt
    ];
  }

-- the best orders of the first banks alone are told
pub told-first : (linked : Linked) (side : Side) (words : List (Option Head)) (count : ℕ) → count ≤ 64 → TellHeads 64 linked side words → TellHeads count linked side (take count words)
told-first linked side words count few are = record {
  banks = are.banks;
  kept = are.kept;
  priced = are.priced;
  long = long;
  tells = λ bank. elim (cases_lt bank count) [
    | inl small ↦ subst (λ (h : Option Head). IfSome h (TellsOrder linked.orders.slots side bank)) (sym (get_or-take count words bank None small)) (are.tells bank)
    | inr past ↦ subst (λ (h : Option Head). IfSome h (TellsOrder linked.orders.slots side bank)) (sym (get_or_past (take count words) bank None (omega (arith, long, past)))) tt
  ];
}
  where
    long : length (take count words) ≡ count
    long = length-take-le count words (omega (arith, few, are.long))

-- The next order of a bank, by its place.
module _ (banks : ℕ) (linked : Linked) (side : Side) (kept : AreKept banks linked) where
  pub next-told : (bank : ℕ) (past : Option Resting) (head : Option Head) → IsBestOf linked.orders.slots (is_past bank side past) side (option_map (λ (h : Head). h.place) head)
      → IsNext side bank past (orders_in linked) (order_told linked.orders.slots head)
  next-told bank past None none = none-past banks linked bank side past kept none
  next-told bank past (Some head) best =
      subst (IsNext side bank past (orders_in linked)) (sym best.is) (best-past banks linked bank side past head.place best.order kept best best.is)

  -- the best order of each bank is its head as a walk begins
  pub next-best : (ladders : AreLinked linked.orders.slots linked.ladders) (bank : ℕ) (head : Option Head) → IsHeadOf (bank_level (ladders_of linked.ladders side) bank) head
      → IsNext side bank None (orders_in linked) (order_told linked.orders.slots head)
  next-best ladders bank head is =
      next-told bank None head (past-none linked.orders.slots bank side (option_map (λ (h : Head). h.place) head) (best-of banks linked side kept ladders bank head is))

  -- and so it is where there are as many words as banks, since no other bank has an order
  pub next-first : (ladders : AreLinked linked.orders.slots linked.ladders) (words : List (Option Head)) (count : ℕ) → length words ≡ 64 → count ≤ 64 → min banks 64 ≤ count
      → ((bank : ℕ) → bank < 64 → IsHeadOf (bank_level (ladders_of linked.ladders side) bank) (get_or words bank None) × IfSome (get_or words bank None) IsHead)
      → (bank : ℕ) → IsNext side bank None (orders_in linked) (order_told linked.orders.slots (get_or (take count words) bank None))
  next-first ladders words count long few enough are bank = elim (cases_lt bank count) [
    | inl small ↦
        subst (λ (h : Option Head). IsNext side bank None (orders_in linked) (order_told linked.orders.slots h)) (sym (get_or-take count words bank None small))
        (next-best ladders bank (get_or words bank None) (are bank (omega (arith, small, few))).0)
    | inr past ↦
        subst (λ (h : Option Head). IsNext side bank None (orders_in linked) (order_told linked.orders.slots h))
        (sym (get_or_past (take count words) bank None (omega (arith, past, length-take-le count words (omega (arith, few, long))))))
        (none-past banks linked bank side None kept (λ place order at.
        let other : order.bank ≢ bank = λ same. omega (arith, same, past, enough, (ladders.priced place order at).bank, (kept.held place order at).bank) in
        ap (λ (b : Bool). b && is_opposite (opposite side) order.side && is_behind (opposite side) None order) (ne_eqb order.bank bank other)))
  ]

  -- where no head is within a limit, no order of the side is
  pub all-dear : (ladders : AreLinked linked.orders.slots linked.ladders) (words : List (Option Head)) (limit : ℕ)
      → ((bank : ℕ) → bank < 64 → IsHeadOf (bank_level (ladders_of linked.ladders side) bank) (get_or words bank None) × IfSome (get_or words bank None) IsHead)
      → ((bank : ℕ) → IfSome (head_in (heads_told linked side limit words) bank) (λ (o : Resting). crosses (opposite side) limit o.price ≡ false))
      → Each (λ (o : Resting). o.side ≡ side → crosses (opposite side) limit o.price ≡ false) (orders_in linked)
  all-dear ladders words limit are dear =
      each-at (λ (o : Resting). o.side ≡ side → crosses (opposite side) limit o.price ≡ false) linked.orders.slots (λ place order at side_is.
      of-next order (among-at linked.orders.slots place order at) (kept.held place order at).arrival_most side_is (order_told linked.orders.slots (get_or words order.bank None))
      (next-best ladders order.bank (get_or words order.bank None) (are order.bank (ladders.priced place order at).bank).0)
      (subst (λ (f : Option Resting). IfSome f (λ (o : Resting). crosses (opposite side) limit o.price ≡ false)) (told-at linked.orders.slots words order.bank) (dear order.bank)))
    where
      owned : (order : Resting) → Among order (orders_in linked) → order.arrival < 2 ^ 64 → order.side ≡ side → Among order (owned_behind side order.bank (2 ^ 64) None (orders_in linked))
      owned order there few side_is =
          among_filter (is_owned_behind (opposite side) order.bank (2 ^ 64) None) (orders_in linked) order there
          (and_from (is_opposite (opposite side) order.side && is_of order.bank order && ltb order.arrival (2 ^ 64)) true
          (and_from (is_opposite (opposite side) order.side && is_of order.bank order) (ltb order.arrival (2 ^ 64))
          (and_from (is_opposite (opposite side) order.side) (is_of order.bank order) (subst (λ (s : Side). is_opposite (opposite side) s ≡ true) (sym side_is) (own_side side)) (eq-eqb order.bank order.bank refl))
          (lt-ltb order.arrival (2 ^ 64) few)) refl)

      of-next : (order : Resting) → Among order (orders_in linked) → order.arrival < 2 ^ 64 → order.side ≡ side → (found : Option Resting) → IsNext side order.bank None (orders_in linked) found
          → IfSome found (λ (o : Resting). crosses (opposite side) limit o.price ≡ false) → crosses (opposite side) limit order.price ≡ false
      of-next order there few side_is None none dear = absurd (subst (Among order) none (owned order there few side_is))
      of-next order there few side_is (Some head) best dear =
          Each-among (λ (o : Resting). crosses (opposite side) limit o.price ≡ false) (owned_behind side order.bank (2 ^ 64) None (orders_in linked)) order
          (none_allowed (opposite side) limit (owned_behind side order.bank (2 ^ 64) None (orders_in linked)) head best dear) (owned order there few side_is)

-- A walk's heads.

if-told : (words : List (Option Head)) (slots : List (Option Resting)) (bank : ℕ) (one : Resting) → order_told slots (get_or words bank None) ≡ Some one → (head : Head) × (get_or words bank None ≡ Some head) × (get_or slots head.place None ≡ Some one)
if-told words slots bank one is = of (get_or words bank None) refl is
  where
    of : (word : Option Head) → get_or words bank None ≡ word → order_told slots word ≡ Some one → (head : Head) × (get_or words bank None ≡ Some head) × (get_or slots head.place None ≡ Some one)
    of None seen is = absurd (cc)
    of (Some head) seen is = (head, seen, is)

module _ (count : ℕ) (linked : Linked) (side : Side) (limit : ℕ) (words : List (Option Head)) (are : TellHeads count linked side words) where
  pub told : (bank : ℕ) (head : Head) → get_or words bank None ≡ Some head → TellsOrder linked.orders.slots side bank head
  told bank head is = subst (λ (h : Option Head). IfSome h (TellsOrder linked.orders.slots side bank)) is (are.tells bank)

  pub head-told : (bank : ℕ) (head : Head) (is : get_or words bank None ≡ Some head) → head_in (heads_told linked side limit words) bank ≡ Some (told bank head is).order
  head-told bank head is = told-at linked.orders.slots words bank ∙ ap (order_told linked.orders.slots) is ∙ (told bank head is).is

  price-most : (bank : ℕ) (head : Head) (is : get_or words bank None ≡ Some head) → (told bank head is).order.price ≤ 10 ^ 9
  price-most bank head is = (are.priced head.place (told bank head is).order (told bank head is).is).price

  -- a head that is as good as another one at least is not behind it
  not-behind : (bank other : ℕ) (a b : Head) (is : get_or words bank None ≡ Some a) (is' : get_or words other None ≡ Some b) → IsUpTo a b → is_preferred (opposite side) (told other b is').order (told bank a is).order ≡ false
  not-behind bank other a b is is' (inl lower) =
      let one = told bank a is in
      let two = told other b is' in
      not-both (opposite side) one.order two.order (preferred-better (opposite side) one.order two.order
      (rank-better side one.order.price two.order.price (price-most bank a is) (omega (arith, lower, one.rank, two.rank))))
  not-behind bank other a b is is' (inr same) =
      let one = told bank a is in
      let two = told other b is' in
      elim (cases_lt a.place b.place) [
        | inl before ↦
            not-both (opposite side) one.order two.order (preferred-earlier (opposite side) one.order two.order
            (rank-one side one.order.price two.order.price (price-most bank a is) (price-most other b is') (sym one.rank ∙ same.0 ∙ two.rank))
            (are.kept.listed.rising a.place b.place one.order two.order one.is two.is before))
        | inr after ↦
            let place : b.place ≡ a.place = omega (arith, same.1, after) in
            let alike : one.order ≡ two.order = order_is linked.orders.slots a.place one.order two.order one.is (ap (λ p. get_or linked.orders.slots p None) (sym place) ∙ two.is) in
            subst (λ (o : Resting). is_preferred (opposite side) o one.order ≡ false) alike (not-self (opposite side) one.order)
      ]

  -- the best head within the rank of a limit is the best that the limit allows
  pub least-found : (bank : Option ℕ) → limit ≤ 10 ^ 9 → IfSome bank (IsBestWithin words (rank_of side limit)) → IfSome bank (IsLeast (heads_told linked side limit words))
  least-found None most best = tt
  least-found (Some bank) most best =
      let one = told bank best.head best.there in
      record {
        within = omega (arith, best.within, length-map words (order_told linked.orders.slots));
        head = one.order;
        is = head-told bank best.head best.there;
        allowed = limit-rank side limit one.order.price most (price-most bank best.head best.there) (omega (arith, one.rank, best.low));
        first = λ other two has.
            let it = if-told words linked.orders.slots other two (sym (told-at linked.orders.slots words other) ∙ has) in
            let same : (told other it.0 it.1).order ≡ two = order_is linked.orders.slots it.0.place (told other it.0 it.1).order two (told other it.0 it.1).is it.2 in
            subst (λ (o : Resting). is_preferred (opposite side) o one.order ≡ false) same
            (not-behind bank other best.head it.0 best.there it.1 (best.first other it.0 it.1));
      }

  -- and it is an order of the side
  pub least-rests : (bank : ℕ) → limit ≤ 10 ^ 9 → IsBestWithin words (rank_of side limit) bank → RestsWithin side limit (orders_in linked)
  least-rests bank most best =
      let one = told bank best.head best.there in
      record {
        order = one.order;
        rests = among-at linked.orders.slots best.head.place one.order one.is;
        side_is = sym (same_side side one.order.side (and_parts (is_of bank one.order) (is_opposite (opposite side) one.order.side) one.own).1);
        allowed = limit-rank side limit one.order.price most (price-most bank best.head best.there) (omega (arith, one.rank, best.low));
      }

  if-head : (bank : ℕ) → ((head : Head) → (is : get_or words bank None ≡ Some head) → crosses (opposite side) limit (told bank head is).order.price ≡ false)
      → IfSome (head_in (heads_told linked side limit words) bank) (λ (o : Resting). crosses (opposite side) limit o.price ≡ false)
  if-head bank dear = of (get_or words bank None) refl
    where
      of : (word : Option Head) → get_or words bank None ≡ word → IfSome (head_in (heads_told linked side limit words) bank) (λ (o : Resting). crosses (opposite side) limit o.price ≡ false)
      of None is = subst (λ (o : Option Resting). IfSome o (λ (o : Resting). crosses (opposite side) limit o.price ≡ false)) (sym (told-at linked.orders.slots words bank ∙ ap (order_told linked.orders.slots) is)) tt
      of (Some head) is = subst (λ (o : Option Resting). IfSome o (λ (o : Resting). crosses (opposite side) limit o.price ≡ false)) (sym (head-told bank head is)) (dear head is)

  -- where all heads are behind the rank of a limit, it allows none
  pub least-dear : limit ≤ 10 ^ 9 → ((bank : ℕ) → IfSome (get_or words bank None) (λ (head : Head). rank_of side limit < head.rank))
      → (bank : ℕ) → IfSome (head_in (heads_told linked side limit words) bank) (λ (o : Resting). crosses (opposite side) limit o.price ≡ false)
  least-dear most above bank =
      if-head bank (λ found is.
      let behind : rank_of side limit < found.rank = subst (λ (h : Option Head). IfSome h (λ (head : Head). rank_of side limit < head.rank)) is (above bank) in
      dear-rank side limit (told bank found is).order.price most (price-most bank found is) (omega (arith, behind, (told bank found is).rank)))

  -- Another head of a bank.

  pub head-set : (bank : ℕ) (word : Option Head) → heads_told linked side limit (set words bank word) ≡ with_head (heads_told linked side limit words) bank (order_told linked.orders.slots word)
  head-set bank word = ap (λ (next : List (Option Resting)). record { side = side; limit = limit; orders = orders_in linked; next = next }) (map-set (order_told linked.orders.slots) words bank word)

  pub told-set : (bank : ℕ) (word : Option Head) → bank < count → IfSome word (TellsOrder linked.orders.slots side bank) → TellHeads count linked side (set words bank word)
  told-set bank word small tells = record {
    banks = are.banks;
    kept = are.kept;
    priced = are.priced;
    long = length-set words bank word ∙ are.long;
    tells = λ other. elim (cases_eq other bank) [
      | inl same ↦
          subst (λ (b : ℕ). IfSome (get_or (set words bank word) b None) (TellsOrder linked.orders.slots side b)) (sym same)
          (subst (λ (h : Option Head). IfSome h (TellsOrder linked.orders.slots side bank)) (sym (get_or-set_same words bank word None (omega (arith, small, are.long)))) tells)
      | inr differ ↦ subst (λ (h : Option Head). IfSome h (TellsOrder linked.orders.slots side other)) (sym (get_or-set_other words bank other word None differ)) (are.tells other)
    ];
  }

  -- the order behind a head is told
  pub told-behind : (bank : ℕ) (head : Head) (is : get_or words bank None ≡ Some head) (next : Option Head)
      → IfSome (get_or linked.orders.slots head.place None) (λ (order : Resting). IsBestOf linked.orders.slots (is_own_behind order) order.side (option_map (λ (h : Head). h.place) next))
      → IfSome next (λ (h : Head). IfSome (get_or linked.orders.slots h.place None) (λ (order : Resting). h.rank ≡ rank_of side order.price)) → IfSome next IsHead
      → IfSome next (TellsOrder linked.orders.slots side bank) × IfSome (head_in (heads_told linked side limit words) bank) (λ (passed : Resting). IsNext side bank (Some passed) (orders_in linked) (order_told linked.orders.slots next))
  told-behind bank head is next behind rank fits =
      let it : TellsOrder linked.orders.slots side bank head = told bank head is in
      let parts = and_parts (is_of bank it.order) (is_opposite (opposite side) it.order.side) it.own in
      let best : IsBestOf linked.orders.slots (is_own_behind it.order) it.order.side (option_map (λ (h : Head). h.place) next) =
      subst (λ (s : Option Resting). IfSome s (λ (order : Resting). IsBestOf linked.orders.slots (is_own_behind order) order.side (option_map (λ (h : Head). h.place) next))) it.is behind in
      let past : IsBestOf linked.orders.slots (is_past bank side (Some it.order)) side (option_map (λ (h : Head). h.place) next) =
      past-some linked.orders.slots bank side it.order (option_map (λ (h : Head). h.place) next) (eqb-true it.order.bank bank parts.0) (sym (same_side side it.order.side parts.1)) best in (
        tells it.order next past rank fits,
        subst (λ (o : Option Resting). IfSome o (λ (passed : Resting). IsNext side bank (Some passed) (orders_in linked) (order_told linked.orders.slots next))) (sym (head-told bank head is))
            (next-told are.banks linked side are.kept bank (Some it.order) next past),
      )
    where
      tells : (last : Resting) (next : Option Head) → IsBestOf linked.orders.slots (is_past bank side (Some last)) side (option_map (λ (h : Head). h.place) next)
          → IfSome next (λ (h : Head). IfSome (get_or linked.orders.slots h.place None) (λ (order : Resting). h.rank ≡ rank_of side order.price)) → IfSome next IsHead → IfSome next (TellsOrder linked.orders.slots side bank)
      tells last None best rank fits = tt
      tells last (Some h) best rank fits = record {
        order = best.order;
        is = best.is;
        own = (and_parts (is_own bank side best.order) (is_preferred (opposite side) last best.order) best.passes_it).0;
        rank = subst (λ (s : Option Resting). IfSome s (λ (order : Resting). h.rank ≡ rank_of side order.price)) best.is rank;
        fits = fits;
      }

-- Fewer orders are to come once a head is passed.

-- the next head is behind the one that is passed
pub is-behind : (side : Side) (bank : ℕ) (orders : List Resting) (head : Resting) (next : Option Resting) → IsNext side bank (Some head) orders next → IfSome next (λ (o : Resting). is_preferred (opposite side) head o ≡ true)
is-behind side bank orders head None none = tt
is-behind side bank orders head (Some next) best =
    (and_parts _ (is_preferred (opposite side) head next) (Among-filter _ orders next best.there).1).1

from-fewer : (taker : Side) (head : Resting) (next : Option Resting) (o : Resting) → IfSome next (λ (n : Resting). is_preferred taker head n ≡ true) → is_from_head taker next o ≡ true → is_from_head taker (Some head) o ≡ true
from-fewer taker head None o behind on = absurd (cc)
from-fewer taker head (Some next) o behind on =
    ap not (false_from_ne_true (is_preferred taker o head) (λ before.
    both_ways (is_preferred taker o next) (not-true (is_preferred taker o next) on) (preferred_trans taker o head next before behind)))
  where
    not-true : (b : Bool) → not b ≡ true → b ≡ false
    not-true true is = absurd (cc)
    not-true false is = refl

head-gone : (taker : Side) (head : Resting) (next : Option Resting) → IfSome next (λ (n : Resting). is_preferred taker head n ≡ true) → is_from_head taker next head ≡ false
head-gone taker head None behind = refl
head-gone taker head (Some next) behind = ap not behind

pub fewer-to-come : (heads : Heads) (bank : ℕ) (head : Resting) (next : Option Resting) → bank < length heads.next → Among head heads.orders → is_own bank heads.side head ≡ true → head_in heads bank ≡ Some head
    → IfSome next (λ (n : Resting). is_preferred (opposite heads.side) head n ≡ true) → count_to_come (with_head heads bank next) < count_to_come heads
fewer-to-come heads bank head next small there own is behind =
    fewer (is_to_come (with_head heads bank next)) (is_to_come heads) heads.orders head there
    (ap (λ (b : Bool). is_opposite taker head.side && b) (ap (λ (h : Option Resting). is_from_head taker h head) here' ∙ head-gone taker head next behind) ∙ and-false (is_opposite taker head.side))
    (and_from (is_opposite taker head.side) (is_from_head taker (head_in heads head.bank) head) parts.1
    (ap (λ (h : Option Resting). is_from_head taker h head) here ∙ ap not (not-self taker head)))
    (λ o on.
    let its = and_parts (is_opposite taker o.side) (is_from_head taker (head_in (with_head heads bank next) o.bank) o) on in
    and_from (is_opposite taker o.side) (is_from_head taker (head_in heads o.bank) o) its.0 (elim (cases_eq o.bank bank) [
      | inl same ↦
          let old : head_in heads o.bank ≡ Some head = ap (head_in heads) same ∙ is in
          let new : head_in (with_head heads bank next) o.bank ≡ next = ap (head_in (with_head heads bank next)) same ∙ get_or-set_same heads.next bank next None small in
          ap (λ (h : Option Resting). is_from_head taker h o) old ∙ from-fewer taker head next o behind (sym (ap (λ (h : Option Resting). is_from_head taker h o) new) ∙ its.1)
      | inr differ ↦ ap (λ (h : Option Resting). is_from_head taker h o) (sym (get_or-set_other heads.next bank o.bank next None differ)) ∙ its.1
    ]))
  where
    taker : Side
    taker = opposite heads.side

    parts : (is_of bank head ≡ true) × (is_opposite taker head.side ≡ true)
    parts = and_parts (is_of bank head) (is_opposite taker head.side) own

    owner : head.bank ≡ bank
    owner = eqb-true head.bank bank parts.0

    here : head_in heads head.bank ≡ Some head
    here = ap (head_in heads) owner ∙ is

    here' : head_in (with_head heads bank next) head.bank ≡ next
    here' = ap (head_in (with_head heads bank next)) owner ∙ get_or-set_same heads.next bank next None small

    and-false : (b : Bool) → (b && false) ≡ false
    and-false true = refl
    and-false false = refl

-- The walk as callers see it, once a head is passed.

module _ (count : ℕ) (linked : Linked) (side : Side) (limit : ℕ) (words : List (Option Head)) (are : TellHeads count linked side words) (bank : ℕ) where
  if-head-of : (head : Option Head) → get_or words bank None ≡ head → IsSome (order_told linked.orders.slots head) → (one : Head) × (get_or words bank None ≡ Some one)
  if-head-of None is some = absurd (cc)
  if-head-of (Some one) is some = (one, is)

  pub has-head : (old : Heads) → heads_told linked side limit words ≡ old → IsSome (head_in old bank) → (one : Head) × (get_or words bank None ≡ Some one)
  has-head old view some =
      if-head-of (get_or words bank None) refl
      (subst (λ (f : Option Resting). IsSome f) (ap (λ (h : Heads). head_in h bank) (sym view) ∙ told-at linked.orders.slots words bank) some)

  pub fewer-passed : bank < count → (next : Option Head) (old : Heads) → heads_told linked side limit words ≡ old → (words' : List (Option Head)) → words' ≡ set words bank next
      → ((head : Resting) → head_in (heads_told linked side limit words) bank ≡ Some head → IfSome (order_told linked.orders.slots next) (λ (o : Resting). is_preferred (opposite side) head o ≡ true))
      → IsSome (head_in old bank) → count_to_come (heads_told linked side limit words') < count_to_come old
  fewer-passed small next old view words' is behind =
      subst (λ (o : Heads). IsSome (head_in o bank) → count_to_come (heads_told linked side limit words') < count_to_come o) view (λ some.
      let it = if-head-of (get_or words bank None) refl (subst (λ (f : Option Resting). IsSome f) (told-at linked.orders.slots words bank) some) in
      let told_it = told count linked side limit words are bank it.0 it.1 in
      let here : head_in (heads_told linked side limit words) bank ≡ Some told_it.order = head-told count linked side limit words are bank it.0 it.1 in
      subst (λ (h : Heads). count_to_come h < count_to_come (heads_told linked side limit words)) (sym (ap (heads_told linked side limit) is ∙ head-set count linked side limit words are bank next))
      (fewer-to-come (heads_told linked side limit words) bank told_it.order (order_told linked.orders.slots next) (omega (arith, small, are.long, length-map words (order_told linked.orders.slots)))
      (among-at linked.orders.slots it.0.place told_it.order told_it.is) told_it.own here
      (behind told_it.order here)))

  pub passes-next : (next : Option Head) (old : Heads) → heads_told linked side limit words ≡ old → (words' : List (Option Head)) → words' ≡ set words bank next
      → IfSome (head_in (heads_told linked side limit words) bank) (λ (passed : Resting). IsNext side bank (Some passed) (orders_in linked) (order_told linked.orders.slots next))
      → PassesHead old (heads_told linked side limit words') bank
  passes-next next old view words' is behind =
      subst (λ (o : Heads). PassesHead o (heads_told linked side limit words') bank) view (record {
        head = order_told linked.orders.slots next;
        is = ap (heads_told linked side limit) is ∙ head-set count linked side limit words are bank next;
        next = behind;
      })

  -- a bank without a head has none behind it
  pub none-told : get_or words bank None ≡ None → (P : Resting → Type 0) → IfSome (head_in (heads_told linked side limit words) bank) P
  none-told is P = subst (λ (f : Option Resting). IfSome f P) (sym (told-at linked.orders.slots words bank ∙ ap (order_told linked.orders.slots) is)) tt

-- the walk that begins, as callers see it
pub begun : (linked : Linked) (side : Side) (limit count : ℕ) (book : Book) (heads : Heads) → orders_in linked ≡ book.orders → heads.side ≡ side → heads.limit ≡ limit → heads.orders ≡ orders_in linked → length heads.next ≡ count
    → ((bank : ℕ) → IsNext side bank None (orders_in linked) (head_in heads bank)) → IsBegun book side limit count heads
begun linked side limit count book heads seen side_is limit_is orders_are long best = record {
  side_is = side_is;
  limit_is = limit_is;
  orders_are = orders_are ∙ seen;
  count = long;
  best = λ bank. subst (λ (os : List Resting). IsNext side bank None os (head_in heads bank)) seen (best bank);
}
