-- The walk from price to price: its best price, what it takes of a bank and of all, and the sweep that its levels are of.
use Rattle.std.proofs.Common.{ℕ, ◌≡◌, ◌≢◌, ◌+◌, ◌++◌, ◌-◌, ◌*◌, ◌/◌, ◌^◌, ◌≤◌, ◌<◌, min, Bool, true, false, not, zero, suc, ◌&&◌, if◌then◌else◌, leb, eqb, ltb, List, [], ◌∷◌, length, ◌⊎◌, inl, inr, refl, ap, sym, subst, ◌∙◌, arith, Option, Some, None, IfSome, get_or-set_same, get_or-set_other, slice_index, take}
use Rattle.std.proofs.Math.ListN.{set, length-set}
use Rattle.std.proofs.Math.Nat.{add-mul}
use Rattle.std.proofs.lemmas.Bool.{cases_Bool, cases_eq, cases_lt, and_parts, and_from, both_ways, false_from_ne_true, eq-eqb, eqb-true, ne_eqb, le-leb, lt-ltb, le-ltb, ltb-true, ltb-false, leb-true}
use Rattle.std.proofs.lemmas.List.Elements.{Contains-append_left, Contains-push, Contains-push_cases}
use Rattle.std.proofs.lemmas.List.Kept.{IsStrictlyIncreasing-filter}
use Rattle.std.specs.List.{Contains, filter}
use Rattle.fx_amounts.specs.Quantity.{IsWeight}
use Rattle.fx_amounts.specs.declared.side.Side.{Side}
use Rattle.fx_amounts.specs.declared.side.Side.TheVariants.{Buy, Sell}
use Rattle.fx_rules.specs.declared.orders.Resting.{Resting}
use Rattle.fx_rules.specs.Lists.{Among, Each, total}
use Rattle.fx_rules.specs.Sweep.{is_better, is_opposite}
use Rattle.fx_rules.proofs.ListLemmas.{Each-among, Each-of, filter_cons_false, filter_cons_true}
use Rattle.global_book.specs.Book.{AreOwners, Book, IsLevel, IsPriceOf, is_level, is_of, is_worse, is_worse_of, level_at, level_lots}
use Rattle.match_sweep.specs.declared.reached.LevelWalk.{LevelWalk}
use Rattle.match_sweep.specs.inside.Reaches.{AreTaken, AreTakenOf, AreRanked, AreReached, HaveLevels, IsBestAmong, IsBestPrice, IsLeft, IsPaid, IsRank, IsTakenAt, IsTakenOf, Puts, TakesLevel, TakesOf, better_price, is_asked, line_behind, price_at, price_in, price_of}
use Rattle.match_sweep.proofs.Tables.{total-changed}
use Rattle.match_sweep.proofs.Passed.{contains_or}
use Rattle.match_sweep.proofs.Levelling.{level_parts}
use Rattle.match_sweep.proofs.Planning.{lots_cost, within_table}
use Rattle.match_sweep.proofs.Stepping.{paid_for, pays}

-- Prices.

pub better-self : (taker : Side) (price : ℕ) → is_better taker price price ≡ false
better-self Buy price = le-ltb price price (omega arith)
better-self Sell price = le-ltb price price (omega arith)

pub better-trans : (taker : Side) (a b c : ℕ) → is_better taker a b ≡ true → is_better taker b c ≡ true → is_better taker a c ≡ true
better-trans Buy a b c first second = let f = ltb-true a b first in let s = ltb-true b c second in lt-ltb a c (omega arith)
better-trans Sell a b c first second = let f = ltb-true b a first in let s = ltb-true c b second in lt-ltb c a (omega arith)

-- of two prices of which the first is not better, the other is better or they are equal
pub better-or_same : (taker : Side) (a b : ℕ) → is_better taker a b ≡ false → (a ≡ b) ⊎ (is_better taker b a ≡ true)
better-or_same Buy a b not_better =
    let most = ltb-false a b not_better in
    elim (cases_eq a b) [ inl same ↦ inl same | inr differ ↦ inr (lt-ltb b a (omega arith)) ]
better-or_same Sell a b not_better =
    let most = ltb-false b a not_better in
    elim (cases_eq a b) [ inl same ↦ inl same | inr differ ↦ inr (lt-ltb a b (omega arith)) ]

pub some_equal : (a b : ℕ) → Some a ≡ Some b → a ≡ b
some_equal a b same = cc

pub none_differs : {P : Type 0} (a : ℕ) → None ≡ Some a → P
none_differs a same = cc

-- one bank more
pub better-on : (walk : LevelWalk) (banks : List ℕ) (n : ℕ) (best found : Option ℕ) → price_of walk n ≡ found → IsBestAmong walk banks best → IsBestAmong walk (banks ++ n ∷ []) (better_price walk.taker best found)
better-on walk banks n None None is so_far = λ bank there.
    elim (Contains-push_cases banks n bank there) [
      | inr same ↦ ap (price_of walk) (sym same) ∙ is
      | inl before ↦ so_far bank before
    ]
better-on walk banks n None (Some q) is so_far = (
  (n, Contains-push banks n, is),
  λ bank other there at. elim (Contains-push_cases banks n bank there) [
    | inr same ↦
        let it : other ≡ q = some_equal other q (sym at ∙ ap (price_of walk) (sym same) ∙ is) in
        ap (λ p. is_better walk.taker p q) it ∙ better-self walk.taker q
    | inl before ↦ none_differs other (sym (so_far bank before) ∙ at)
  ],
)
better-on walk banks n (Some p) None is so_far = (
  (so_far.0.0, Contains-append_left banks (n ∷ []) so_far.0.0 so_far.0.1, so_far.0.2),
  λ bank other there at. elim (Contains-push_cases banks n bank there) [
    | inr same ↦ none_differs other (sym is ∙ ap (price_of walk) same ∙ at)
    | inl before ↦ so_far.1 bank other before at
  ],
)
better-on walk banks n (Some p) (Some q) is so_far =
    elim (cases_Bool (is_better walk.taker q p)) [
      | inl better ↦
          subst (IsBestAmong walk (banks ++ n ∷ [])) (sym (ap (λ b. if b then Some q else Some p) better)) (
            (n, Contains-push banks n, is),
            λ bank other there at. elim (Contains-push_cases banks n bank there) [
              | inr same ↦
                  let it : other ≡ q = some_equal other q (sym at ∙ ap (price_of walk) (sym same) ∙ is) in
                  ap (λ r. is_better walk.taker r q) it ∙ better-self walk.taker q
              | inl before ↦ false_from_ne_true (is_better walk.taker other q) (λ above.
                  both_ways (is_better walk.taker other p) (so_far.1 bank other before at) (better-trans walk.taker other q p above better))
            ],
          )
      | inr not_better ↦
          subst (IsBestAmong walk (banks ++ n ∷ [])) (sym (ap (λ b. if b then Some q else Some p) not_better)) (
            (so_far.0.0, Contains-append_left banks (n ∷ []) so_far.0.0 so_far.0.1, so_far.0.2),
            λ bank other there at. elim (Contains-push_cases banks n bank there) [
              | inr same ↦
                  let it : other ≡ q = some_equal other q (sym at ∙ ap (price_of walk) (sym same) ∙ is) in
                  ap (λ r. is_better walk.taker r p) it ∙ not_better
              | inl before ↦ so_far.1 bank other before at
            ],
          )
    ]

-- A bank that has nothing at a price.

worse_still : (taker : Side) (past : Option ℕ) (price other : ℕ) → is_worse taker past price ≡ true → is_better taker price other ≡ true → is_worse taker past other ≡ true
worse_still taker None price other worse better = refl
worse_still taker (Some past) price other worse better = better-trans taker past price other worse better

none_pass : (test : Resting → Bool) (orders : List Resting) → Each (λ o. test o ≡ false) orders → filter test orders ≡ []
none_pass test [] none = refl
none_pass test (order ∷ orders) none = filter_cons_false test order orders none.0 ∙ none_pass test orders none.1

-- what stands behind a price stands behind a better one
behind_both : (taker : Side) (bank : ℕ) (past : Option ℕ) (price : ℕ) (order : Resting) → is_worse taker past price ≡ true → is_worse_of taker bank (Some price) order ≡ true → is_worse_of taker bank past order ≡ true
behind_both taker bank past price order worse holds =
    let two = and_parts (is_of bank order && is_opposite taker order.side) (is_better taker price order.price) holds in
    and_from (is_of bank order && is_opposite taker order.side) (is_worse taker past order.price) two.0 (worse_still taker past price order.price worse two.1)

-- a bank's head is at a worse price
abbrev pub IsWorseHead : Side → ℕ → Option ℕ → Type 0
IsWorseHead taker price head = IfSome head (λ h. is_better taker price h ≡ true)

not_there : (taker : Side) (bank price : ℕ) (past : Option ℕ) (orders : List Resting) (head : Option ℕ) (o : Resting) → IsPriceOf taker bank past orders head → IsWorseHead taker price head → Among o orders
    → is_worse_of taker bank past o ≡ true → o.price ≡ price → ⊥
not_there taker bank price past orders None o is behind there passes same =
    both_ways (is_worse_of taker bank past o) (Each-among (λ q. is_worse_of taker bank past q ≡ false) orders o is there) passes
not_there taker bank price past orders (Some head) o is behind there passes same =
    both_ways (is_better taker o.price head)
    (Each-among (λ q. is_worse_of taker bank past q ≡ true → is_better taker q.price head ≡ false) orders o is.first there passes)
    (ap (λ p. is_better taker p head) same ∙ behind)

pub no_lots : (taker : Side) (bank price : ℕ) (past : Option ℕ) (orders : List Resting) (head : Option ℕ) → is_worse taker past price ≡ true → IsPriceOf taker bank past orders head → IsWorseHead taker price head
    → level_lots taker bank price orders ≡ 0
no_lots taker bank price past orders head worse is behind =
    ap (total (λ (o : Resting). o.left)) (none_pass (is_level taker bank price) orders (Each-of (λ o. is_level taker bank price o ≡ false) orders (λ o there.
    false_from_ne_true (is_level taker bank price o) (λ at.
    let parts = level_parts taker bank price o at in
    let two = and_parts (is_of bank o && is_opposite taker o.side) (eqb o.price price) at in
    let passes : is_worse_of taker bank past o ≡ true
    = and_from (is_of bank o && is_opposite taker o.side) (is_worse taker past o.price) two.0 (ap (is_worse taker past) parts.price_is ∙ worse) in
    not_there taker bank price past orders head o is behind there passes parts.price_is))))

pub head_stays : (taker : Side) (bank price : ℕ) (past : Option ℕ) (orders : List Resting) (head : Option ℕ) → is_worse taker past price ≡ true → IsPriceOf taker bank past orders head → IsWorseHead taker price head
    → IsPriceOf taker bank (Some price) orders head
head_stays taker bank price past orders None worse is behind =
    Each-of (λ o. is_worse_of taker bank (Some price) o ≡ false) orders (λ o there.
    false_from_ne_true (is_worse_of taker bank (Some price) o) (λ passes.
    both_ways (is_worse_of taker bank past o) (Each-among (λ q. is_worse_of taker bank past q ≡ false) orders o is there) (behind_both taker bank past price o worse passes)))
head_stays taker bank price past orders (Some head) worse is behind =
    let two = and_parts (is_of bank is.order && is_opposite taker is.order.side) (is_worse taker past is.order.price) is.passes in
    record {
      order = is.order;
      there = is.there;
      passes = and_from (is_of bank is.order && is_opposite taker is.order.side) (is_better taker price is.order.price) two.0 (ap (is_better taker price) is.price ∙ behind);
      price = is.price;
      first = Each-of (λ o. is_worse_of taker bank (Some price) o ≡ true → is_better taker o.price head ≡ false) orders (λ o there passes.
          Each-among (λ q. is_worse_of taker bank past q ≡ true → is_better taker q.price head ≡ false) orders o is.first there (behind_both taker bank past price o worse passes));
      lots = is.lots;
    }

-- A bank's price, where the line with it pays for a lot.

-- the price of a rank is that whose rank it is
pub at-rank : (taker : Side) (price : Option ℕ) (rank : ℕ) → IsRank taker price rank → price_at taker rank ≡ price
at-rank Buy None rank is = ap (λ b. if b then None else Some rank) (eq-eqb rank (2 ^ 30 - 1) is.is)
at-rank Sell None rank is = ap (λ b. if b then None else Some (10 ^ 9 - rank)) (eq-eqb rank (2 ^ 30 - 1) is.is)
at-rank Buy (Some price) rank is =
    ap (λ b. if b then None else Some rank) (ne_eqb rank (2 ^ 30 - 1) (λ same. omega (arith, is.is, is.valid.1, same))) ∙ ap Some is.is
at-rank Sell (Some price) rank is =
    ap (λ b. if b then None else Some (10 ^ 9 - rank)) (ne_eqb rank (2 ^ 30 - 1) (λ same. omega (arith, is.is, same)))
    ∙ ap Some (let it : 10 ^ 9 - rank ≡ price = omega (arith, is.is, is.valid.1) in it)

pub price_there : (walk : LevelWalk) (bank head : ℕ) → walk.weight ≤ slice_index walk.lines bank → price_in walk bank ≡ Some head → price_of walk bank ≡ Some head
price_there walk bank head pays' is = ap (λ b. if b then price_in walk bank else None) (le-leb walk.weight (slice_index walk.lines bank) pays') ∙ is

pub record HasPrice (walk : LevelWalk) (bank price : ℕ) : Type 0 where
  pub pays : walk.weight ≤ slice_index walk.lines bank
  pub is : price_in walk bank ≡ Some price

pub has_price : (walk : LevelWalk) (bank price : ℕ) → price_of walk bank ≡ Some price → HasPrice walk bank price
has_price walk bank price at =
    elim (cases_Bool (leb walk.weight (slice_index walk.lines bank))) [
      | inl pays' ↦ record {
        pays = leb-true walk.weight (slice_index walk.lines bank) pays';
        is = sym (ap (λ b. if b then price_in walk bank else None) pays') ∙ at;
      }
      | inr short ↦ none_differs price (sym (ap (λ b. if b then price_in walk bank else None) short) ∙ at)
    ]

-- a bank's price is this one, or not
asked_or : (found : Option ℕ) (price : ℕ) → (found ≡ Some price) ⊎ (found ≡ Some price → ⊥)
asked_or None price = inr (λ is. none_differs price is)
asked_or (Some found) price =
    elim (cases_eq found price) [
      | inl same ↦ inl (ap Some same)
      | inr differ ↦ inr (λ is. differ (some_equal found price is))
    ]

-- another price than the best of all is worse
other_worse : (walk : LevelWalk) (bank price : ℕ) → IsWeight walk.weight → bank < 65 → IsBestPrice walk 65 (Some price) → (price_of walk bank ≡ Some price → ⊥) → 1 ≤ slice_index walk.lines bank / walk.weight
    → IsWorseHead walk.taker price (price_in walk bank)
other_worse walk bank price weighs below best differ some =
    let pays' : walk.weight ≤ slice_index walk.lines bank = paid_for (slice_index walk.lines bank) walk.weight weighs some in
    let answer : (found : Option ℕ) → price_in walk bank ≡ found → IsWorseHead walk.taker price found = λ found.
    elim found as (λ (f : Option ℕ). price_in walk bank ≡ f → IsWorseHead walk.taker price f) [
      | None ↦ λ _. tt
      | Some head ↦ λ is.
          let at : price_of walk bank ≡ Some head = price_there walk bank head pays' is in
          elim (better-or_same walk.taker head price (best.1 bank head below at)) [
            | inl same ↦ absurd (differ (at ∙ ap Some same))
            | inr worse ↦ worse
          ]
    ] in
    answer (price_in walk bank) refl

-- What a walk keeps.

pub weight_same : (old now : LevelWalk) (lots : ℕ) → IsPaid old now lots → now.weight ≡ old.weight
weight_same old now lots paid = ap (λ (w : LevelWalk). w.weight) paid.same

pub taker_same : (old now : LevelWalk) (lots : ℕ) → IsPaid old now lots → now.taker ≡ old.taker
taker_same old now lots paid = ap (λ (w : LevelWalk). w.taker) paid.same

unpaid : (walk : LevelWalk) → IsPaid walk walk 0
unpaid walk = record { same = refl; long = refl; paid = omega arith }

paid_both : (old now new : LevelWalk) (lots more : ℕ) → IsPaid old now lots → IsPaid now new more → IsPaid old new (lots + more)
paid_both old now new lots more first second = record {
  same = second.same ∙ ap (λ (w : LevelWalk). record w { lines = new.lines; ranks = new.ranks }) first.same;
  long = second.long ∙ first.long;
  paid = let weigh = weight_same old now lots first in
      let here : more * old.weight + total (λ (n : ℕ). n) new.lines ≡ total (λ (n : ℕ). n) now.lines = ap (λ w. more * w + total (λ (n : ℕ). n) new.lines) (sym weigh) ∙ second.paid in
      omega (arith, here, first.paid, add-mul lots more old.weight);
}

still : (walk : LevelWalk) (bank : ℕ) → IsLeft walk walk bank
still walk bank = record { line = refl; rank = refl }

left_both : (old now new : LevelWalk) (bank : ℕ) → IsLeft old now bank → IsLeft now new bank → IsLeft old new bank
left_both old now new bank first second = record { line = second.line ∙ first.line; rank = second.rank ∙ first.rank }

-- a bank that is as it was has its price
pub price_left : (old now : LevelWalk) (bank : ℕ) → now.taker ≡ old.taker → IsLeft old now bank → price_in now bank ≡ price_in old bank
price_left old now bank taker left = ap (λ (s : Side). price_at s (slice_index now.ranks bank)) taker ∙ ap (price_at old.taker) left.rank

pub asked_still : (old now : LevelWalk) (bank : ℕ) → now.weight ≡ old.weight → now.taker ≡ old.taker → IsLeft old now bank → price_of now bank ≡ price_of old bank
asked_still old now bank weight taker left =
    ap (λ w. if leb w (slice_index now.lines bank) then price_in now bank else None) weight
    ∙ ap (λ l. if leb old.weight l then price_in now bank else None) left.line
    ∙ ap (λ (p : Option ℕ). if leb old.weight (slice_index old.lines bank) then p else None) (price_left old now bank taker left)

pub asked_left : (old now : LevelWalk) (bank lots : ℕ) → IsPaid old now lots → IsLeft old now bank → price_of now bank ≡ price_of old bank
asked_left old now bank lots paid left = asked_still old now bank (weight_same old now lots paid) (taker_same old now lots paid) left

-- What is taken of one bank.

nothing_taken : (weight : ℕ) (taker : Side) (price : ℕ) (orders : List Resting) (bank line : ℕ) → min (level_lots taker bank price orders) (line / weight) ≡ 0 → line ≡ line_behind weight taker price orders bank line
nothing_taken weight taker price orders bank line none =
    let nothing : min (level_lots taker bank price orders) (line / weight) * weight ≡ 0 = ap (λ n. n * weight) none ∙ (let it : 0 * weight ≡ 0 = omega arith in it) in
    omega arith

-- nothing, where its price is worse or it has none
none_taken : (book : Book) (past : Option ℕ) (walk : LevelWalk) (bank price : ℕ) → is_worse walk.taker past price ≡ true
    → (1 ≤ slice_index walk.lines bank / walk.weight → IsPriceOf walk.taker bank past book.orders (price_in walk bank))
    → (1 ≤ slice_index walk.lines bank / walk.weight → IsWorseHead walk.taker price (price_in walk bank)) → IsTakenOf book walk walk price bank
none_taken book past walk bank price worse is behind =
    let reach : ℕ = slice_index walk.lines bank / walk.weight in
    record {
      line = nothing_taken walk.weight walk.taker price book.orders bank (slice_index walk.lines bank)
          (elim (cases_lt reach 1) [
            | inl none ↦ omega (arith, none)
            | inr some ↦ omega (arith, no_lots walk.taker bank price past book.orders (price_in walk bank) worse (is some) (behind some))
          ]);
      head = λ some. head_stays walk.taker bank price past book.orders (price_in walk bank) worse (is some) (behind some);
    }

-- nothing, where it is asked at another price
pub takes_none : (book : Book) (walk : LevelWalk) (bank price : ℕ) → (price_of walk bank ≡ Some price → ⊥) → TakesOf book walk walk bank price 0
takes_none book walk bank price differ = record {
  taken = record { asked = λ is. absurd (differ is); other = λ _. still walk bank };
  others = λ other _. still walk other;
  sum = unpaid walk;
}

-- the rank that is written down where the line pays
pub put_rank : (old new : LevelWalk) (bank line rank : ℕ) → bank < length old.ranks → old.weight ≤ line → Puts old new bank line rank → slice_index new.ranks bank ≡ rank
put_rank old new bank line rank within pays' puts =
    ap (λ (w : LevelWalk). slice_index w.ranks bank) puts.is
    ∙ get_or-set_same old.ranks bank (if ltb line old.weight then 2 ^ 30 - 1 else rank) 0 within
    ∙ ap (λ b. if b then 2 ^ 30 - 1 else rank) (le-ltb line old.weight pays')

pub put_line : (old new : LevelWalk) (bank line rank : ℕ) → bank < length old.lines → Puts old new bank line rank → slice_index new.lines bank ≡ line
put_line old new bank line rank within puts = ap (λ (w : LevelWalk). slice_index w.lines bank) puts.is ∙ get_or-set_same old.lines bank line 0 within

pub put_others : (old new : LevelWalk) (bank line rank other : ℕ) → other ≢ bank → Puts old new bank line rank → IsLeft old new other
put_others old new bank line rank other differ puts = record {
  line = ap (λ (w : LevelWalk). slice_index w.lines other) puts.is ∙ get_or-set_other old.lines bank other line 0 differ;
  rank = ap (λ (w : LevelWalk). slice_index w.ranks other) puts.is ∙ get_or-set_other old.ranks bank other (if ltb line old.weight then 2 ^ 30 - 1 else rank) 0 differ;
}

pub put_same : (old new : LevelWalk) (bank line rank : ℕ) → Puts old new bank line rank → new ≡ record old { lines = new.lines; ranks = new.ranks }
put_same old new bank line rank puts =
    puts.is ∙ ap (λ (w : LevelWalk). record old { lines = w.lines; ranks = w.ranks }) (sym puts.is)

-- the lots at its price are taken
pub takes_some : (book : Book) (walk new : LevelWalk) (bank price lots taken rank : ℕ) (next : Option ℕ) → IsWeight walk.weight → bank < length walk.lines → bank < length walk.ranks → price_of walk bank ≡ Some price
    → lots ≡ level_lots walk.taker bank price book.orders → taken ≡ min lots (slice_index walk.lines bank / walk.weight) → IsPriceOf walk.taker bank (Some price) book.orders next → IsRank walk.taker next rank
    → Puts walk new bank (slice_index walk.lines bank - taken * walk.weight) rank → TakesOf book walk new bank price taken
takes_some book walk new bank price lots taken rank next weighs within ranked asked lots_are taken_is level is puts =
    let line : ℕ = slice_index walk.lines bank in
    let rest : ℕ = line - taken * walk.weight in
    let lines : new.lines ≡ set walk.lines bank rest = ap (λ (w : LevelWalk). w.lines) puts.is in
    let here : slice_index new.lines bank ≡ rest = put_line walk new bank rest rank within puts in
    let few : taken * walk.weight ≤ line = lots_cost taken line walk.weight (omega (arith, taken_is)) in
    record {
      taken = record {
        asked = λ _. record {
          line = here ∙ ap (λ n. line - n * walk.weight) (taken_is ∙ ap (λ n. min n (line / walk.weight)) lots_are);
          head = λ reach.
              let pays' : walk.weight ≤ rest = paid_for rest walk.weight weighs (subst (λ n. 1 ≤ n / walk.weight) here reach) in
              subst (IsPriceOf walk.taker bank (Some price) book.orders)
              (sym (ap (λ (w : LevelWalk). price_at w.taker (slice_index new.ranks bank)) puts.is
              ∙ ap (price_at walk.taker) (put_rank walk new bank rest rank ranked pays' puts)
              ∙ at-rank walk.taker next rank is))
              level;
        };
        other = λ differ. absurd (differ asked);
      };
      others = λ other differ. put_others walk new bank rest rank other differ puts;
      sum = record {
        same = put_same walk new bank rest rank puts;
        long = ap length lines ∙ length-set walk.lines bank rest;
        paid = let changed = total-changed walk.lines bank rest within in omega (arith, changed, few, ap (total (λ (n : ℕ). n)) lines);
      };
    }

-- What is taken of all banks.

pub taken-begins : (book : Book) (walk : LevelWalk) (price : ℕ) (banks : List ℕ) → AreTakenOf book walk walk price (take 0 banks) 0
taken-begins book walk price banks = record {
  taken = λ bank there. absurd (omega (arith, there.1));
  left = λ bank _. still walk bank;
  sum = unpaid walk;
}

-- what is taken of a bank that was left so far
taken_here : (book : Book) (old now new : LevelWalk) (price bank lots : ℕ) → IsPaid old now lots → IsLeft old now bank → IsTakenOf book now new price bank → IsTakenOf book old new price bank
taken_here book old now new price bank lots paid left taken = record {
  line = taken.line
      ∙ ap (λ w. line_behind w now.taker price book.orders bank (slice_index now.lines bank)) (weight_same old now lots paid)
      ∙ ap (λ s. line_behind old.weight s price book.orders bank (slice_index now.lines bank)) (taker_same old now lots paid)
      ∙ ap (line_behind old.weight old.taker price book.orders bank) left.line;
  head = λ reach. subst (λ (s : Side). IsPriceOf s bank (Some price) book.orders (price_in new bank)) (taker_same old now lots paid)
      (taken.head (subst (λ (w : ℕ). 1 ≤ slice_index new.lines bank / w) (sym (weight_same old now lots paid)) reach));
}

-- a bank whose lots were taken stays so
taken_still : (book : Book) (old now new : LevelWalk) (price bank : ℕ) → new.taker ≡ now.taker → IsTakenOf book old now price bank → IsLeft now new bank → IsTakenOf book old new price bank
taken_still book old now new price bank taker taken left = record {
  line = left.line ∙ taken.line;
  head = λ reach. subst (IsPriceOf old.taker bank (Some price) book.orders) (sym (price_left now new bank taker left)) (taken.head (subst (λ (l : ℕ). 1 ≤ l / old.weight) left.line reach));
}

pub taken-on : (book : Book) (old now new : LevelWalk) (price number lots more : ℕ) (banks : List ℕ) → (Contains banks number → ⊥) → AreTakenOf book old now price banks lots → TakesOf book now new number price more
    → AreTakenOf book old new price (banks ++ number ∷ []) (lots + more)
taken-on book old now new price number lots more banks fresh so_far takes =
    let left : IsLeft old now number = so_far.left number fresh in
    let asked : price_of now number ≡ price_of old number = asked_left old now number lots so_far.sum left in
    let here : IsTakenAt book old new price number = record {
      asked = λ is. taken_here book old now new price number lots so_far.sum left (takes.taken.asked (asked ∙ is));
      other = λ differ. left_both old now new number left (takes.taken.other (λ is. differ (sym asked ∙ is)));
    } in
    record {
      taken = λ bank there. elim (cases_eq bank number) [
        | inl same ↦ subst (IsTakenAt book old new price) (sym same) here
        | inr differ ↦
            elim (Contains-push_cases banks number bank there) [
              | inl before ↦ record {
                asked = λ is. taken_still book old now new price bank (taker_same now new more takes.sum) ((so_far.taken bank before).asked is) (takes.others bank differ);
                other = λ apart. left_both old now new bank ((so_far.taken bank before).other apart) (takes.others bank differ);
              }
              | inr same ↦ absurd (differ (sym same))
            ]
      ];
      left = λ bank apart.
          left_both old now new bank (so_far.left bank (λ there. apart (Contains-append_left banks (number ∷ []) bank there)))
          (takes.others bank (λ same. apart (subst (Contains (banks ++ number ∷ [])) (sym same) (Contains-push banks number))));
      sum = paid_both old now new lots more so_far.sum takes.sum;
    }

-- a bank with which the line pays is one of 65
within_lines : (walk : LevelWalk) (bank : ℕ) → IsWeight walk.weight → length walk.lines ≡ 65 → walk.weight ≤ slice_index walk.lines bank → bank < 65
within_lines walk bank weighs long pays' = omega (arith, within_table walk.lines bank (omega (arith, pays', weighs.0)), long)

-- The best price is that of a level.

-- the level of a bank with the best price
pub record HasLevel (book : Book) (past : Option ℕ) (walk : LevelWalk) (price : ℕ) : Type 0 where
  pub bank : ℕ
  pub reach : 1 ≤ slice_index walk.lines bank / walk.weight
  pub lots : ℕ
  pub level : IsLevel walk.taker bank past book.orders (price, lots)

pub best_level : (book : Book) (past : Option ℕ) (walk : LevelWalk) (price : ℕ) → IsWeight walk.weight → HaveLevels book past walk → IsBestPrice walk 65 (Some price) → HasLevel book past walk price
best_level book past walk price weighs have best =
    let bank : ℕ = best.0.0 in
    let has = has_price walk bank price best.0.2 in
    let reach : 1 ≤ slice_index walk.lines bank / walk.weight = pays (slice_index walk.lines bank) walk.weight weighs has.pays in
    record {
      bank = bank;
      reach = reach;
      lots = level_lots walk.taker bank price book.orders;
      level = subst (IsPriceOf walk.taker bank past book.orders) has.is (have bank best.0.1 reach);
    }

pub best_worse : (book : Book) (past : Option ℕ) (walk : LevelWalk) (price : ℕ) → IsWeight walk.weight → HaveLevels book past walk → IsBestPrice walk 65 (Some price) → is_worse walk.taker past price ≡ true
best_worse book past walk price weighs have best =
    let has = best_level book past walk price weighs have best in
    let order : Resting = has.level.order in
    ap (is_worse walk.taker past) (sym has.level.price)
    ∙ (and_parts (is_of has.bank order && is_opposite walk.taker order.side) (is_worse walk.taker past order.price) has.level.passes).1

-- The banks that have an order are all that matter.

-- a bank of which a level is found has an order
level_owned : (book : Book) (owners : List ℕ) (taker : Side) (bank : ℕ) (past : Option ℕ) (level : ℕ × ℕ) → AreOwners book owners → IsLevel taker bank past book.orders level → Contains owners bank
level_owned book owners taker bank past level are is =
    let two = and_parts (is_of bank is.order && is_opposite taker is.order.side) (is_worse taker past is.order.price) is.passes in
    let one = and_parts (is_of bank is.order) (is_opposite taker is.order.side) two.0 in
    subst (Contains owners) (eqb-true is.order.bank bank one.0) (Each-among (λ (o : Resting). Contains owners o.bank) book.orders is.order are.all is.there)

price_owned : (book : Book) (owners : List ℕ) (past : Option ℕ) (walk : LevelWalk) (bank price : ℕ) → AreOwners book owners → IsWeight walk.weight → HaveLevels book past walk → bank < 65 → price_of walk bank ≡ Some price → Contains owners bank
price_owned book owners past walk bank price are weighs have below at =
    let has = has_price walk bank price at in
    let level = have bank below (pays (slice_index walk.lines bank) walk.weight weighs has.pays) in
    level_owned book owners walk.taker bank past (level_at walk.taker bank book.orders price) are (subst (IsPriceOf walk.taker bank past book.orders) has.is level)

none_from : (found : Option ℕ) → ((price : ℕ) → found ≡ Some price → found ≡ None) → found ≡ None
none_from None holds = refl
none_from (Some price) holds = holds price refl

-- what passes a test of some is among those that pass it
kept-has : (test : ℕ → Bool) (xs : List ℕ) (x : ℕ) → Contains xs x → test x ≡ true → Contains (filter test xs) x
kept-has test [] x there passes = absurd (omega (arith, there.1))
kept-has test (y ∷ ys) x there passes =
    let on : Contains ys x → Contains (filter test ys) x = λ behind. kept-has test ys x behind passes in
    elim (cases_Bool (test y)) [
      | inl kept ↦ subst (λ (zs : List ℕ). Contains zs x) (sym (filter_cons_true test y ys kept)) (here on there)
      | inr dropped ↦ subst (λ (zs : List ℕ). Contains zs x) (sym (filter_cons_false test y ys dropped)) (later on dropped there)
    ]
  where
    here : (Contains ys x → Contains (filter test ys) x) → Contains (y ∷ ys) x → Contains (y ∷ filter test ys) x
    here on (zero, within, is) = (0, omega arith, is)
    here on (suc k, within, is) = let it = on (k, omega arith, is) in (suc it.0, omega (arith, it.1), it.2)

    later : (Contains ys x → Contains (filter test ys) x) → test y ≡ false → Contains (y ∷ ys) x → Contains (filter test ys) x
    later on dropped (zero, within, is) = absurd (both_ways (test y) dropped (ap test is ∙ passes))
    later on dropped (suc k, within, is) = on (k, omega arith, is)

kept-few : (test : ℕ → Bool) (xs : List ℕ) → length (filter test xs) ≤ length xs
kept-few test [] = omega arith
kept-few test (x ∷ xs) =
    let rest = kept-few test xs in
    elim (cases_Bool (test x)) [
      | inl kept ↦ omega (arith, rest, ap (λ (zs : List ℕ). length zs) (filter_cons_true test x xs kept))
      | inr dropped ↦ omega (arith, rest, ap (λ (zs : List ℕ). length zs) (filter_cons_false test x xs dropped))
    ]

-- a bank with a price has a rank
asked_rank : (walk : LevelWalk) (bank price : ℕ) → IsRank walk.taker (price_of walk bank) (slice_index walk.ranks bank) → price_of walk bank ≡ Some price → is_asked walk bank ≡ true
asked_rank walk bank price ranked at =
    ap not (ne_eqb (slice_index walk.ranks bank) (2 ^ 30 - 1) (λ none. some_rank walk.taker price (slice_index walk.ranks bank) (subst (λ (p : Option ℕ). IsRank walk.taker p (slice_index walk.ranks bank)) at ranked) none))
  where
    some_rank : (taker : Side) (price rank : ℕ) → IsRank taker (Some price) rank → rank ≡ 2 ^ 30 - 1 → ⊥
    some_rank Buy price rank is none = omega (arith, is.is, is.valid.1, none)
    some_rank Sell price rank is none = omega (arith, is.is, none)

-- those of the banks with an order that have a rank are all of which something can be taken
pub reached-begins : (book : Book) (owners : List ℕ) (past : Option ℕ) (walk : LevelWalk) → AreOwners book owners → IsWeight walk.weight → HaveLevels book past walk → AreRanked walk → AreReached book walk (filter (is_asked walk) owners)
reached-begins book owners past walk are weighs have ranked = record {
  rising = IsStrictlyIncreasing-filter (is_asked walk) owners are.rising;
  few = omega (arith, kept-few (is_asked walk) owners, are.few);
  others = λ bank below apart.
      none_from (price_of walk bank) (λ price at. absurd (apart (kept-has (is_asked walk) owners bank (price_owned book owners past walk bank price are weighs have below at) (asked_rank walk bank price (ranked bank below) at))));
}

-- they still are once something is taken of them
pub reached-on : (book : Book) (old now : LevelWalk) (price lots : ℕ) (banks : List ℕ) → AreReached book old banks → AreTakenOf book old now price banks lots → AreReached book now banks
reached-on book old now price lots banks are all = record {
  rising = are.rising;
  few = are.few;
  others = λ bank below apart. asked_left old now bank lots all.sum (all.left bank apart) ∙ are.others bank below apart;
}

-- so the best price of theirs is that of all
pub best_of_all : (book : Book) (banks : List ℕ) (walk : LevelWalk) (best : Option ℕ) → AreReached book walk banks → IsWeight walk.weight → length walk.lines ≡ 65 → IsBestAmong walk banks best → IsBestPrice walk 65 best
best_of_all book banks walk None are weighs long best = λ bank below.
    elim (contains_or banks bank) [
      | inl there ↦ best bank there
      | inr apart ↦ are.others bank below apart
    ]
best_of_all book banks walk (Some price) are weighs long best =
    let bank : ℕ = best.0.0 in
    let has = has_price walk bank price best.0.2 in (
      (bank, within_lines walk bank weighs long has.pays, best.0.2),
      λ bank' other below at. elim (contains_or banks bank') [
        | inl there ↦ best.1 bank' other there at
        | inr apart ↦ none_differs other (sym (are.others bank' below apart) ∙ at)
      ],
    )

-- a bank with no price has no head either, where the line with it pays
unasked_worse : (walk : LevelWalk) (bank price : ℕ) → IsWeight walk.weight → price_of walk bank ≡ None → 1 ≤ slice_index walk.lines bank / walk.weight → IsWorseHead walk.taker price (price_in walk bank)
unasked_worse walk bank price weighs none reach =
    let pays' : walk.weight ≤ slice_index walk.lines bank = paid_for (slice_index walk.lines bank) walk.weight weighs reach in
    let is : price_in walk bank ≡ None = sym (ap (λ b. if b then price_in walk bank else None) (le-leb walk.weight (slice_index walk.lines bank) pays')) ∙ none in
    subst (IsWorseHead walk.taker price) (sym is) tt

-- and once what is taken of them is taken, that of all is
pub taken-whole : (book : Book) (banks : List ℕ) (past : Option ℕ) (old now : LevelWalk) (price lots : ℕ) → AreReached book old banks → IsWeight old.weight → HaveLevels book past old → IsBestPrice old 65 (Some price)
    → AreTakenOf book old now price banks lots → AreTaken book old now price lots
taken-whole book banks past old now price lots are weighs have best all =
    let worse : is_worse old.taker past price ≡ true = best_worse book past old price weighs have best in
    let taker : now.taker ≡ old.taker = taker_same old now lots all.sum in
    record {
      taken = λ bank below. elim (contains_or banks bank) [
        | inl there ↦ elim (asked_or (price_of old bank) price) [
          | inl is ↦ (all.taken bank there).asked is
          | inr differ ↦
              taken_still book old old now price bank taker
              (none_taken book past old bank price worse (have bank below) (other_worse old bank price weighs below best differ))
              ((all.taken bank there).other differ)
        ]
        | inr apart ↦
            taken_still book old old now price bank taker
            (none_taken book past old bank price worse (have bank below) (unasked_worse old bank price weighs (are.others bank below apart)))
            (all.left bank apart)
      ];
      sum = all.sum;
    }

-- the level at the best price is taken
pub taken_level : (book : Book) (banks : List ℕ) (past : Option ℕ) (old new : LevelWalk) (price lots : ℕ) → AreReached book old banks → IsWeight old.weight → length old.lines ≡ 65 → HaveLevels book past old → IsBestAmong old banks (Some price)
    → AreTakenOf book old new price banks lots → TakesLevel book old new (Some (record { price = price; lots = lots }))
taken_level book banks past old new price lots are weighs long have best all =
    let of_all = best_of_all book banks old (Some price) are weighs long best in
    (of_all, taken-whole book banks past old new price lots are weighs have of_all all)

-- the prices behind the level that was taken
pub levels_behind : (book : Book) (old new : LevelWalk) (price lots : ℕ) → AreTaken book old new price lots → HaveLevels book (Some price) new
levels_behind book old new price lots all bank below reach =
    subst (λ (s : Side). IsPriceOf s bank (Some price) book.orders (price_in new bank)) (sym (taker_same old new lots all.sum))
    ((all.taken bank below).head (subst (λ (w : ℕ). 1 ≤ slice_index new.lines bank / w) (weight_same old new lots all.sum) reach))
