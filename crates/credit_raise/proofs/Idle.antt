-- Two banks whose best prices do not cross, as the words of their best orders tell, make nothing.
use Rattle.std.proofs.Common.{ℕ, ◌≡◌, ◌≢◌, ◌≤◌, ◌<◌, ◌+◌, ◌-◌, ◌/◌, ◌^◌, Bool, true, false, ◌&&◌, ◌||◌, ◌*◌, not, eqb, ltb, List, [], ◌∷◌, ◌++◌, length, IfSome, Option, Some, None, inl, inr, refl, ap, sym, subst, arith, slice_index}
use Rattle.std.proofs.lemmas.Bool.{and_from, both_ways, cases_eq, cases_lt, cond-false, cond-true, eq-eqb, false_from_ne_true, false≢true, le-leb, leb-true, lt-ltb, ne_eqb, or_from, or_left, or_right}
use Rattle.fx_amounts.specs.Price.{IsPrice}
use Rattle.fx_amounts.specs.declared.side.Side.TheVariants.{Buy, Sell}
use Rattle.fx_rules.specs.declared.orders.Resting.{Resting}
use Rattle.fx_rules.specs.Lists.{EachPair}
use Rattle.fx_rules.specs.Raise.{Turned}
use Rattle.fx_rules.specs.Session.{Header}
use Rattle.fx_rules.specs.Sound.{ArrivesBefore}
use Rattle.fx_rules.specs.State.{State}
use Rattle.global_book.specs.Book.{Book}
use Rattle.global_book.specs.Room.{rank_of}
use Rattle.global_book.specs.Words.{AreBestWords, word_price}
use Rattle.credit_raise.specs.declared.course.Course.{Course}
use Rattle.credit_raise.specs.declared.course.Course.TheVariants.{Raised, Swept}
use Rattle.credit_raise.specs.declared.prices.Tops.{Tops}
use Rattle.credit_raise.specs.Two.{lots_of}
use Rattle.credit_raise.specs.UnderWay.{Change, IsPairOf, IsReady, IsUnderWay}
use Rattle.credit_raise.specs.inside.Prices.{AreTops, is_crossed, ranks_meet, tops_meet, words_meet}
use Rattle.credit_raise.specs.inside.Playing.{Played}
use Rattle.credit_raise.specs.inside.Two.{turns}
use Rattle.credit_raise.specs.inside.UnderWay.{AreParties, HasCredit, IsCourse, MakesNone, course_behind, idle_plan}
use Rattle.credit_raise.proofs.Facing.{live-played, top-price}
use Rattle.credit_raise.proofs.Gathering.{apart-turns}
use Rattle.credit_raise.proofs.Pairs.{goes_on}
use Rattle.credit_raise.proofs.Raised.{raised-turned}
use Rattle.credit_raise.proofs.Told.{untold-top, valid_price}

-- two banks whose best prices do not cross make nothing
pub apart-played : (pair weight i j line : ℕ) (orders : List Resting) (tops_i tops_j : Tops) → i ≢ j → EachPair ArrivesBefore orders → AreTops i orders tops_i → AreTops j orders tops_j
    → tops_meet tops_i tops_j ≡ false → Played pair weight i j line [] (turns i j orders) []
apart-played pair weight i j line orders tops_i tops_j differ rising are_i are_j apart =
    live-played pair weight i j line orders tops_i tops_j [] differ rising are_i are_j
    (subst (λ (os : List Resting). Played pair weight i j line [] os []) (sym (apart-turns orders i j tops_i tops_j differ are_i are_j apart)) refl)

-- prices that cross have ranks that are as little together
little_ranks : (buy sell : ℕ) → IsPrice sell → is_crossed (Some (10 ^ 9 - buy)) (Some sell) ≡ true → buy + sell ≤ 10 ^ 9
little_ranks buy sell valid cross = omega (arith, valid.0, leb-true sell (10 ^ 9 - buy) cross)

-- and so do the words that tell them
crossed_words : (buy sell : ℕ) → IfSome (word_price Sell sell) IsPrice → is_crossed (word_price Buy buy) (word_price Sell sell) ≡ true → ranks_meet buy sell ≡ true
crossed_words buy sell valid cross =
    elim (cases_eq buy (2 ^ 64 - 1)) [
      | inl none ↦
          let is : word_price Buy buy ≡ None = cond-true (eqb buy (2 ^ 64 - 1)) None (Some (rank_of Buy (buy / 2 ^ 34))) (eq-eqb buy (2 ^ 64 - 1) none) in
          absurd (false≢true (subst (λ (p : Option ℕ). is_crossed p (word_price Sell sell) ≡ true) is cross))
      | inr some ↦
          let is : word_price Buy buy ≡ Some (rank_of Buy (buy / 2 ^ 34)) = cond-false (eqb buy (2 ^ 64 - 1)) None (Some (rank_of Buy (buy / 2 ^ 34))) (ne_eqb buy (2 ^ 64 - 1) some) in
          let cross' : is_crossed (Some (rank_of Buy (buy / 2 ^ 34))) (word_price Sell sell) ≡ true = subst (λ (p : Option ℕ). is_crossed p (word_price Sell sell) ≡ true) is cross in
          elim (cases_eq sell (2 ^ 64 - 1)) [
            | inl lacks ↦
                let its : word_price Sell sell ≡ None = cond-true (eqb sell (2 ^ 64 - 1)) None (Some (rank_of Sell (sell / 2 ^ 34))) (eq-eqb sell (2 ^ 64 - 1) lacks) in
                absurd (false≢true (subst (λ (p : Option ℕ). is_crossed (Some (rank_of Buy (buy / 2 ^ 34))) p ≡ true) its cross'))
            | inr has ↦
                let its : word_price Sell sell ≡ Some (rank_of Sell (sell / 2 ^ 34)) = cond-false (eqb sell (2 ^ 64 - 1)) None (Some (rank_of Sell (sell / 2 ^ 34))) (ne_eqb sell (2 ^ 64 - 1) has) in
                le-leb (buy / 2 ^ 34 + sell / 2 ^ 34) (10 ^ 9)
                (little_ranks (buy / 2 ^ 34) (sell / 2 ^ 34) (subst (λ (p : Option ℕ). IfSome p IsPrice) its valid)
                (subst (λ (p : Option ℕ). is_crossed (Some (rank_of Buy (buy / 2 ^ 34))) p ≡ true) its cross'))
          ]
    ]

-- the best prices of a bank that has words
abbrev told_tops : List ℕ → List ℕ → ℕ → Tops
told_tops buys sells bank = record { buy = word_price Buy (slice_index buys bank); sell = word_price Sell (slice_index sells bank) }

are_told : (orders : List Resting) (buys sells : List ℕ) (bank : ℕ) → bank < 64 → AreBestWords Buy orders buys → AreBestWords Sell orders sells → AreTops bank orders (told_tops buys sells bank)
are_told orders buys sells bank below are_buys are_sells = record {
  buy = top-price bank Buy orders (word_price Buy (slice_index buys bank)) (are_buys.prices bank below);
  sell = top-price bank Sell orders (word_price Sell (slice_index sells bank)) (are_sells.prices bank below);
}

-- a bank with no words has no orders
abbrev no_tops : Tops
no_tops = record { buy = None; sell = None }

are_none : (orders : List Resting) (buys sells : List ℕ) (bank : ℕ) → 64 ≤ bank → AreBestWords Buy orders buys → AreBestWords Sell orders sells → AreTops bank orders no_tops
are_none orders buys sells bank above are_buys are_sells = record {
  buy = untold-top Buy bank orders buys above are_buys;
  sell = untold-top Sell bank orders sells above are_sells;
}

-- the best prices of a bank, whether it has words or not
record HasTops (orders : List Resting) (buys sells : List ℕ) (bank : ℕ) : Type 0 where
  tops : Tops
  are : AreTops bank orders tops
  told : bank < 64 → tops ≡ told_tops buys sells bank
  none : 64 ≤ bank → tops ≡ no_tops

has_tops : (orders : List Resting) (buys sells : List ℕ) (bank : ℕ) → AreBestWords Buy orders buys → AreBestWords Sell orders sells → HasTops orders buys sells bank
has_tops orders buys sells bank are_buys are_sells =
    elim (cases_lt bank 64) [
      | inl below ↦ record { tops = told_tops buys sells bank; are = are_told orders buys sells bank below are_buys are_sells; told = λ _. refl; none = λ above. absurd (omega (arith, below, above)) }
      | inr above ↦ record { tops = no_tops; are = are_none orders buys sells bank above are_buys are_sells; told = λ below. absurd (omega (arith, below, above)); none = λ _. refl }
    ]

none_crossed : (buy : Option ℕ) → is_crossed buy None ≡ false
none_crossed None = refl
none_crossed (Some buy) = refl

-- a bank's best buy crosses another's best sell only where both have words, in which the ranks are as little together
crossed_told : (orders : List Resting) (buys sells : List ℕ) (a b : ℕ) (mine : HasTops orders buys sells a) (theirs : HasTops orders buys sells b) → AreBestWords Sell orders sells
    → is_crossed mine.tops.buy theirs.tops.sell ≡ true → (a < 64) × (b < 64) × (ranks_meet (slice_index buys a) (slice_index sells b) ≡ true)
crossed_told orders buys sells a b mine theirs are_sells cross =
    elim (cases_lt a 64) [
      | inl a_below ↦
          elim (cases_lt b 64) [
            | inl b_below ↦ (
              a_below,
              b_below,
              crossed_words (slice_index buys a) (slice_index sells b)
                  (valid_price Sell b orders (word_price Sell (slice_index sells b)) are_sells.ticks (are_sells.prices b b_below))
                  (subst (λ (tops : Tops). is_crossed (word_price Buy (slice_index buys a)) tops.sell ≡ true) (theirs.told b_below)
                  (subst (λ (tops : Tops). is_crossed tops.buy theirs.tops.sell ≡ true) (mine.told a_below) cross)),
            )
            | inr b_above ↦
                absurd (both_ways (is_crossed mine.tops.buy None) (none_crossed mine.tops.buy)
                (subst (λ (tops : Tops). is_crossed mine.tops.buy tops.sell ≡ true) (theirs.none b_above) cross))
          ]
      | inr a_above ↦ absurd (false≢true (subst (λ (tops : Tops). is_crossed tops.buy theirs.tops.sell ≡ true) (mine.none a_above) cross))
    ]

-- two banks make nothing where the words do not meet
pub unmet-played : (pair weight i j line : ℕ) (orders : List Resting) (buys sells : List ℕ) → i ≢ j → EachPair ArrivesBefore orders → AreBestWords Buy orders buys → AreBestWords Sell orders sells
    → words_meet buys sells i j ≡ false → Played pair weight i j line [] (turns i j orders) []
unmet-played pair weight i j line orders buys sells differ rising are_buys are_sells apart =
    let mine : HasTops orders buys sells i = has_tops orders buys sells i are_buys are_sells in
    let theirs : HasTops orders buys sells j = has_tops orders buys sells j are_buys are_sells in
    let one : Bool = ranks_meet (slice_index buys i) (slice_index sells j) in
    let other : Bool = ranks_meet (slice_index buys j) (slice_index sells i) in
    let meets : i < 64 → j < 64 → (one || other) ≡ true → ⊥
    = λ i_below j_below meet. both_ways (words_meet buys sells i j) apart
    (and_from (ltb i 64 && ltb j 64) (one || other) (and_from (ltb i 64) (ltb j 64) (lt-ltb i 64 i_below) (lt-ltb j 64 j_below)) meet) in
    let buy_apart : is_crossed mine.tops.buy theirs.tops.sell ≡ false
    = false_from_ne_true (is_crossed mine.tops.buy theirs.tops.sell) (λ cross.
    let it = crossed_told orders buys sells i j mine theirs are_sells cross in meets it.0 it.1 (or_left one other it.2)) in
    let sell_apart : is_crossed theirs.tops.buy mine.tops.sell ≡ false
    = false_from_ne_true (is_crossed theirs.tops.buy mine.tops.sell) (λ cross.
    let it = crossed_told orders buys sells j i theirs mine are_sells cross in meets it.1 it.0 (or_right one other it.2)) in
    apart-played pair weight i j line orders mine.tops theirs.tops differ rising mine.are theirs.are
    (or_from (is_crossed mine.tops.buy theirs.tops.sell) (is_crossed theirs.tops.buy mine.tops.sell) buy_apart sell_apart)

pub not_true : (b : Bool) → not b ≡ true → b ≡ false
not_true true is = absurd (false≢true is)
not_true false is = refl

-- ---- a change goes on past a pair in which it makes nothing

none_turned : (h : Header) (T : State) (book : Book) (weight sender : ℕ) (course : Course) → IsCourse sender course → 1 ≤ weight → MakesNone book weight sender course
    → IsReady h T book weight sender course → Turned h book.pair T book.orders []
none_turned h T book weight sender (Raised other limit line) differ some makes ready = raised-turned h T book weight sender other line [] differ some ready makes
none_turned h T book weight sender (Swept lines set) valid some makes ready = absurd makes

none_parties : (pair sender : ℕ) (course : Course) → AreParties pair sender course []
none_parties pair sender (Raised other limit line) = tt
none_parties pair sender (Swept lines set) = tt

none_credit : (book : Book) (weight sender : ℕ) (course : Course) → MakesNone book weight sender course → HasCredit course
none_credit book weight sender (Raised other limit line) makes = tt
none_credit book weight sender (Swept lines set) makes = absurd makes

behind_none : (weight : ℕ) (course : Course) → course_behind weight [] course ≡ course
behind_none weight (Raised other limit line) =
    let same : line - lots_of [] * weight ≡ line = omega arith in ap (λ n. Raised other limit n) same
behind_none weight (Swept lines set) = refl

pub none-goes-on : (h : Header) (S : State) (change : Change) (book : Book) (weight : ℕ) → MakesNone book weight change.sender change.course → IsCourse change.sender change.course → 1 ≤ weight
    → book.pair ≡ length change.plans → IsUnderWay h S change → IsPairOf h S book weight
    → IsUnderWay h S (record { sender = change.sender; command = change.command; course = change.course; plans = change.plans ++ idle_plan ∷ [] })
none-goes-on h S change book weight makes valid some next under of =
    subst (λ (course : Course). IsUnderWay h S (record { sender = change.sender; command = change.command; course = course; plans = change.plans ++ idle_plan ∷ [] }))
    (behind_none weight change.course)
    (goes_on h S change book weight idle_plan (none_credit book weight change.sender change.course makes) some next
    (λ T ready. none_turned h T book weight change.sender change.course valid some makes ready) (none_parties book.pair change.sender change.course) under of)
