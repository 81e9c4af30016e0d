-- One more bank is opened.
use Rattle.std.proofs.Common.{ℕ, ◌≡◌, ◌≤◌, ◌<◌, ◌+◌, ◌/◌, ◌^◌, ◌++◌, ◌∷◌, [], List, None, Option, false, inl, inr, refl, ap, sym, subst, ◌∙◌, arith, eqb, length, min, not, slice_index, take}
use Rattle.std.proofs.lemmas.Bool.{both_ways, cases_eq, eq-eqb, ne_eqb}
use Rattle.std.proofs.lemmas.List.{length-set, take_all, take_more, take_more_set}
use Rattle.std.specs.List.{Contains, filter}
use Rattle.fx_amounts.specs.Quantity.{IsWeight}
use Rattle.fx_amounts.specs.Side.{opposite}
use Rattle.fx_amounts.specs.declared.side.Side.{Side}
use Rattle.fx_rules.specs.declared.orders.Resting.{Resting}
use Rattle.global_book.specs.Book.{IsPriceOf}
use Rattle.global_book.specs.Words.{word_price}
use Rattle.match_sweep.specs.declared.reached.LevelWalk.{LevelWalk}
use Rattle.match_sweep.specs.inside.Reaches.{AreReached, HasRank, HaveOpened, IsLowest, IsRank, is_asked, price_at}
use Rattle.match_sweep.proofs.LevelOpening.{none-opened, opened-begins-at, opened-level, own-passed}
use Rattle.match_sweep.proofs.Listing.{HaveListed, asked-more, asked-same, fewer-reached, own-unasked, still-asked, still-lowest, unasked}
use Rattle.match_sweep.proofs.Passed.{not_passed}
use Rattle.match_sweep.proofs.Ranking.{bare-ranked, lowest-begins, lowest-on}
use Rattle.match_sweep.proofs.Reaching.{at-rank, reached-begins}
use Rattle.match_sweep.proofs.Stepping.{owner_within}
use Rattle.match_sweep.proofs.Wording.{TellBests, owner_few, tell-bests, word-rank}
use Rattle.match_sweep.proofs.reached.LevelWalk.open_banks.Goals as goal
use Rattle.match_sweep.proofs.reached.LevelWalk.open_banks.Goals.{then-ne+then-rank-ne-NO_RANK, then-ne+else-rank-ne-NO_RANK, else-ne}

-- a bank's first price is that of the rank in its word
first_price : (taker : Side) (n at : ℕ) (orders : List Resting) (words : List ℕ) → TellBests taker orders words → at ≡ n → n < 64 → IsPriceOf taker n None orders (price_at taker (slice_index words at / 2 ^ 34))
first_price taker n at orders words tell same few =
    subst (λ (b : ℕ). IsPriceOf taker n None orders (price_at taker (slice_index words b / 2 ^ 34))) (sym same)
    (subst (IsPriceOf taker n None orders) (sym (at-rank taker (word_price (opposite taker) (slice_index words n)) (slice_index words n / 2 ^ 34) (word-rank taker n orders words tell few))) (tell.prices n few))

has_rank : (taker : Side) (n : ℕ) (orders : List Resting) (words : List ℕ) → TellBests taker orders words → n < 64 → HasRank taker (slice_index words n / 2 ^ 34)
has_rank taker n orders words tell few =
    let is = word-rank taker n orders words tell few in
    subst (λ (p : Option ℕ). IsRank taker p (slice_index words n / 2 ^ 34)) (sym (at-rank taker (word_price (opposite taker) (slice_index words n)) (slice_index words n / 2 ^ 34) is)) is

pub loop-owner-init : goal.loop-owner-init
loop-owner-init g c =
    let some : 1 ≤ c.args.self.now.weight = omega (arith, c.requires.weight.0) in
    record {
      opened = none-opened c.args.book.now c.args.lines.now c.args.bank c.args.self.now some c.requires.bare;
      ranked = bare-ranked c.args.self.now some c.requires.bare;
      listed = refl;
      low = lowest-begins c.args.self.now c.owners-owners.result.now;
      few = omega arith;
      long = c.told-reached;
    }

pub open_bank-rank-requires-clause-other : goal.open_bank-rank-requires-clause-other
open_bank-rank-requires-clause-other g c =
    omega (
      arith,
      owner_within c.args.book.now c.owners-owners.result.now c.owner-item.result c.owners-owners.ensures.valid c.owners-owners.ensures.owners (c.loop-owner.owner-index, c.loop-owner-test.true, sym c.owner-item.is),
      c.requires.banks,
    )

pub bounds-words-index : goal.bounds-words-index
bounds-words-index g c =
    omega (
      arith,
      c.index-then-ne.ensures.value,
      owner_few c.args.book.now c.owners-owners.result.now c.owner-item.result c.owners-owners.ensures.owners c.best_words-words.ensures.words.owners (c.loop-owner.owner-index, c.loop-owner-test.true, sym c.owner-item.is),
    )

pub open_bank-rank-requires-clause-rank : goal.open_bank-rank-requires-clause-rank
open_bank-rank-requires-clause-rank g c =
    let n : ℕ = c.owner-item.result in
    let words : List ℕ = c.best_words-words.result.now in
    let tell : TellBests c.args.self.now.taker c.args.book.now.orders words =
    tell-bests c.args.self.now.taker c.opposite.result c.args.book.now.orders words c.opposite.ensures c.best_words-words.ensures.words in
    let few : n < 64 = owner_few c.args.book.now c.owners-owners.result.now n c.owners-owners.ensures.owners tell.owners (c.loop-owner.owner-index, c.loop-owner-test.true, sym c.owner-item.is) in
    subst (λ (s : Side). HasRank s (slice_index words c.index-then-ne.result / 2 ^ 34)) (sym (ap (λ (w : LevelWalk). w.taker) c.loop-owner.invariant.opened.keeps.same))
    (subst (λ (b : ℕ). HasRank c.args.self.now.taker (slice_index words b / 2 ^ 34)) (sym c.index-then-ne.ensures.value) (has_rank c.args.self.now.taker n c.args.book.now.orders words tell few))

pub loop-owner-preserved : goal.loop-owner-preserved
loop-owner-preserved g c =
    let k : ℕ = c.loop-owner.owner-index in
    let owners : List ℕ = c.owners-owners.result.now in
    let n : ℕ = c.owner-item.result in
    let walk : LevelWalk = c.loop-owner.self in
    let was = c.loop-owner.invariant in
    let words : List ℕ = c.best_words-words.result.now in
    let tell : TellBests c.args.self.now.taker c.args.book.now.orders words =
    tell-bests c.args.self.now.taker c.opposite.result c.args.book.now.orders words c.opposite.ensures c.best_words-words.ensures.words in
    let few : n < 64 = owner_few c.args.book.now owners n c.owners-owners.ensures.owners tell.owners (k, c.loop-owner-test.true, sym c.owner-item.is) in
    let fresh : Contains (take k owners) n → ⊥ = λ there. not_passed owners k n c.owners-owners.ensures.owners.rising c.loop-owner-test.true (subst (Contains (take k owners)) c.owner-item.is there) in
    let more : take (k + 1) owners ≡ take k owners ++ n ∷ [] =
    take_more owners k n c.loop-owner-test.true ∙ ap (λ (bank : ℕ). take k owners ++ bank ∷ []) (sym c.owner-item.is) in
    elim c.if-ne.branch [
      | then-ne+then-rank-ne-NO_RANK w ↦
          let new : LevelWalk = w.open_bank-rank.new.self in
          let it = w.open_bank-rank.ensures in
          let longer : filter (is_asked new) (take (k + 1) owners) ≡ filter (is_asked new) (take k owners) ++ n ∷ [] =
          asked-more new owners k n more (λ none. w.if-rank-ne-NO_RANK.true (it.rank ∙ none)) in
          let low : IsLowest new (filter (is_asked new) (take k owners)) c.loop-owner.lowest =
          still-lowest walk new (take k owners) n fresh it.opens.others c.loop-owner.lowest (ap (λ (v : LevelWalk). v.weight) it.opens.keeps.same) (ap (λ (v : LevelWalk). v.taker) it.opens.keeps.same) was.low in
          subst (λ (v : LevelWalk). HaveListed c.args.book.now c.args.lines.now c.args.bank c.args.self.now owners (k + 1) v c.if-ne.reached c.if-ne.count c.if-ne.lowest) (sym w.self-is) (record {
            opened = opened-level c.args.book.now c.args.lines.now (take k owners) (take (k + 1) owners) c.args.bank n c.args.self.now walk more was.opened new (slice_index words w.index-then-ne.result / 2 ^ 34)
                (λ same. both_ways (not (eqb n c.args.bank)) (ap not (eq-eqb n c.args.bank same)) (sym c.ne.ensures ∙ w.if-ne.true)) it.number
                (first_price c.args.self.now.taker n w.index-then-ne.result c.args.book.now.orders words tell w.index-then-ne.ensures.value few) it.opens;
            ranked = it.ranked was.ranked;
            listed = ap (λ (m : ℕ). take m c.if-ne.reached) w.count-is ∙ ap (take (c.loop-owner.count + 1)) w.reached-is ∙ take_more_set c.loop-owner.reached c.loop-owner.count n (omega (arith, was.long, was.few, c.loop-owner-test.true, c.owners-owners.ensures.owners.few, c.requires.banks, c.requires.few))
                ∙ ap (λ (xs : List ℕ). xs ++ n ∷ []) (was.listed ∙ sym (still-asked walk new (take k owners) n fresh it.opens.others)) ∙ sym longer;
            low = subst (λ (xs : List ℕ). IsLowest new xs c.if-ne.lowest) (sym longer)
                (subst (IsLowest new (filter (is_asked new) (take k owners) ++ n ∷ [])) (sym (w.lowest-is ∙ w.min-lowest.ensures ∙ ap (min c.loop-owner.lowest) it.rank))
                (lowest-on new (filter (is_asked new) (take k owners)) n c.loop-owner.lowest it.number (it.ranked was.ranked) low));
            few = omega (arith, w.count-is, was.few);
            long = ap length w.reached-is ∙ length-set c.loop-owner.reached c.loop-owner.count n ∙ was.long;
          })
      | then-ne+else-rank-ne-NO_RANK w ↦
          let new : LevelWalk = w.open_bank-rank.new.self in
          let it = w.open_bank-rank.ensures in
          let same : filter (is_asked new) (take (k + 1) owners) ≡ filter (is_asked new) (take k owners) =
          asked-same new owners k n more (unasked new n (sym it.rank ∙ w.if-rank-ne-NO_RANK.false)) in
          let low : IsLowest new (filter (is_asked new) (take k owners)) c.loop-owner.lowest =
          still-lowest walk new (take k owners) n fresh it.opens.others c.loop-owner.lowest (ap (λ (v : LevelWalk). v.weight) it.opens.keeps.same) (ap (λ (v : LevelWalk). v.taker) it.opens.keeps.same) was.low in
          subst (λ (v : LevelWalk). HaveListed c.args.book.now c.args.lines.now c.args.bank c.args.self.now owners (k + 1) v c.if-ne.reached c.if-ne.count c.if-ne.lowest) (sym w.self-is) (record {
            opened = opened-level c.args.book.now c.args.lines.now (take k owners) (take (k + 1) owners) c.args.bank n c.args.self.now walk more was.opened new (slice_index words w.index-then-ne.result / 2 ^ 34)
                (λ same. both_ways (not (eqb n c.args.bank)) (ap not (eq-eqb n c.args.bank same)) (sym c.ne.ensures ∙ w.if-ne.true)) it.number
                (first_price c.args.self.now.taker n w.index-then-ne.result c.args.book.now.orders words tell w.index-then-ne.ensures.value few) it.opens;
            ranked = it.ranked was.ranked;
            listed = ap (λ (m : ℕ). take m c.if-ne.reached) w.count-is ∙ ap (take c.loop-owner.count) w.reached-is ∙ was.listed ∙ sym (still-asked walk new (take k owners) n fresh it.opens.others) ∙ sym same;
            low = subst (λ (xs : List ℕ). IsLowest new xs c.if-ne.lowest) (sym same) (subst (IsLowest new (filter (is_asked new) (take k owners))) (sym w.lowest-is) low);
            few = omega (arith, w.count-is, was.few);
            long = ap length w.reached-is ∙ was.long;
          })
      | else-ne w ↦
          let own : n ≡ c.args.bank = elim (cases_eq n c.args.bank) [
            | inl same ↦ same
            | inr differ ↦ absurd (both_ways (not (eqb n c.args.bank)) (sym c.ne.ensures ∙ w.if-ne.false) (ap not (ne_eqb n c.args.bank differ)))
          ] in
          let weighs : 1 ≤ walk.weight = omega (arith, c.requires.weight.0, ap (λ (v : LevelWalk). v.weight) was.opened.keeps.same) in
          let none : is_asked walk n ≡ false = own-unasked walk n weighs (ap (slice_index walk.lines) own ∙ was.opened.own) was.ranked (omega (arith, few)) in
          let same : filter (is_asked walk) (take (k + 1) owners) ≡ filter (is_asked walk) (take k owners) = asked-same walk owners k n more none in
          subst (λ (v : LevelWalk). HaveListed c.args.book.now c.args.lines.now c.args.bank c.args.self.now owners (k + 1) v c.if-ne.reached c.if-ne.count c.if-ne.lowest) (sym w.self-is) (record {
            opened = own-passed c.args.book.now c.args.lines.now (take k owners) (take (k + 1) owners) c.args.bank n c.args.self.now walk more was.opened own;
            ranked = was.ranked;
            listed = ap (λ (m : ℕ). take m c.if-ne.reached) w.count-is ∙ ap (take c.loop-owner.count) w.reached-is ∙ was.listed ∙ sym same;
            low = subst (λ (xs : List ℕ). IsLowest walk xs c.if-ne.lowest) (sym same) (subst (IsLowest walk (filter (is_asked walk) (take k owners))) (sym w.lowest-is) was.low);
            few = omega (arith, w.count-is, was.few);
            long = ap length w.reached-is ∙ was.long;
          })
    ]

pub returns : goal.returns
returns g c =
    let owners : List ℕ = c.owners-owners.result.now in
    let walk : LevelWalk = c.loop-owner.self in
    let was = c.loop-owner.invariant in
    let all : take c.loop-owner.owner-index owners ≡ owners = take_all c.loop-owner.owner-index owners c.loop-owner-test.false in
    let opened : HaveOpened c.args.book.now c.args.lines.now owners c.args.bank c.args.self.now walk =
    subst (λ (banks : List ℕ). HaveOpened c.args.book.now c.args.lines.now banks c.args.bank c.args.self.now walk) all was.opened in
    let begins = opened-begins-at c.args.book.now c.args.lines.now owners c.args.bank c.args.self.now walk c.owners-owners.ensures.valid c.owners-owners.ensures.owners (omega (arith, c.index.ensures.value, c.index.ensures.most)) c.requires.bare opened in
    let same : walk.weight ≡ c.args.self.now.weight = ap (λ (v : LevelWalk). v.weight) opened.keeps.same in
    let weighs : IsWeight walk.weight = subst IsWeight (sym same) c.requires.weight in
    let listed : take c.loop-owner.count c.loop-owner.reached ≡ filter (is_asked walk) owners = was.listed ∙ ap (filter (is_asked walk)) all in
    let none : is_asked walk c.args.bank ≡ false = own-unasked walk c.args.bank (omega (arith, weighs.0)) opened.own was.ranked (omega (arith, c.index.ensures.value, c.index.ensures.most)) in
    record {
      begins = begins;
      ranked = was.ranked;
      reached = subst (AreReached c.args.book.now walk) (sym listed) (reached-begins c.args.book.now owners None walk c.owners-owners.ensures.owners weighs begins.heads was.ranked);
      fewer = omega (arith, ap length listed, fewer-reached c.args.book.now owners walk c.args.bank c.owners-owners.ensures.valid c.owners-owners.ensures.owners (omega (arith, c.requires.bank, c.requires.banks)) none);
      lowest = subst (λ (xs : List ℕ). IsLowest walk xs c.loop-owner.lowest) (ap (filter (is_asked walk)) all ∙ sym listed) was.low;
      within = omega (arith, was.few, c.loop-owner.auto.owner-index-end, c.owners-owners.ensures.owners.few, c.requires.banks, c.requires.few);
      step = c.best_words-words.ensures.step;
    }
