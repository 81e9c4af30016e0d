-- One more bank, whose rank may be the lowest.
use Rattle.std.proofs.Common.{ℕ, List, Some, [], ◌∷◌, ◌++◌, ◌+◌, ◌<◌, ◌≤◌, ◌≡◌, ◌≢◌, length, get_or, min, slice_index, take, ap, sym, subst, ◌∙◌, arith}
use Rattle.std.proofs.lemmas.List.{take_all, take_more}
use Rattle.std.specs.List.{Contains}
use Rattle.fx_amounts.specs.Price.{IsPrice}
use Rattle.fx_amounts.specs.Quantity.{IsWeight}
use Rattle.fx_amounts.specs.declared.side.Side.{Side}
use Rattle.global_book.specs.Book.{Book}
use Rattle.match_sweep.specs.declared.reached.LevelWalk.{LevelWalk}
use Rattle.match_sweep.specs.inside.Reaches.{AreRanked, AreReached, AreTakenOf, IsLowest, IsPaid, IsRank, TakesOf, price_for, price_of}
use Rattle.match_sweep.proofs.Passed.{not_passed}
use Rattle.match_sweep.proofs.Ranking.{lowest-begins, lowest-kept, lowest-on, one_rank, price-rank, same_rank}
use Rattle.match_sweep.proofs.Reaching.{taken-begins, taken-on, taker_same, takes_none, weight_same}
use Rattle.match_sweep.proofs.reached.LevelWalk.take_level.Goals as goal
use Rattle.match_sweep.proofs.reached.LevelWalk.take_level.Goals.{then-self-index, else-self-index}

not_yet : (book : Book) (walk : LevelWalk) (banks : List ℕ) (k n : ℕ) → AreReached book walk banks → k < length banks → n ≡ get_or banks k n → Contains (take k banks) n → ⊥
not_yet book walk banks k n are within is there = not_passed banks k n are.rising within (subst (Contains (take k banks)) is there)

-- a bank that is asked at the price, and one that is not
asked_here : (walk : LevelWalk) (bank price rank : ℕ) → bank < 65 → AreRanked walk → IsRank walk.taker (Some price) rank → slice_index walk.ranks bank ≡ rank → price_of walk bank ≡ Some price
asked_here walk bank price rank below ranked is same = same_rank walk.taker (price_of walk bank) price (slice_index walk.ranks bank) rank (ranked bank below) is same

asked_else : (walk : LevelWalk) (bank price rank : ℕ) → bank < 65 → AreRanked walk → IsRank walk.taker (Some price) rank → slice_index walk.ranks bank ≢ rank → price_of walk bank ≢ Some price
asked_else walk bank price rank below ranked is differ same = differ (one_rank walk.taker (price_of walk bank) price (slice_index walk.ranks bank) rank (ranked bank below) is same)

-- the rank of the price
rank_is : (first walk : LevelWalk) (rank lots : ℕ) → IsPaid first walk lots → IsPrice (price_for first.taker rank) → IsRank walk.taker (Some (price_for first.taker rank)) rank
rank_is first walk rank lots paid valid = subst (λ (s : Side). IsRank s (Some (price_for first.taker rank)) rank) (sym (taker_same first walk lots paid)) (price-rank first.taker rank valid)

-- what is taken of one bank more, if anything
record Took (book : Book) (now new : LevelWalk) (bank price lots sum steps most : ℕ) : Type 0 where
  pub more : ℕ
  pub takes : TakesOf book now new bank price more
  pub ranked : AreRanked new
  pub lots_is : sum ≡ lots + more
  pub steps_most : most ≤ steps + 1

module _ (book : Book) (first now new : LevelWalk) (price bank lots more lowest : ℕ) (banks longer : List ℕ) (longer_is : banks ++ bank ∷ [] ≡ longer) (fresh : Contains banks bank → ⊥) (below : bank < 65) (ranked : AreRanked new) (takes : TakesOf book now new bank price more) where
  more_taken : AreTakenOf book first now price banks lots → AreTakenOf book first new price longer (lots + more)
  more_taken so_far = subst (λ (bs : List ℕ). AreTakenOf book first new price bs (lots + more)) longer_is (taken-on book first now new price bank lots more banks fresh so_far takes)

  more_lowest : (found : ℕ) → found ≡ min lowest (slice_index new.ranks bank) → IsLowest now banks lowest → IsLowest new longer found
  more_lowest found is low =
      subst (λ (bs : List ℕ). IsLowest new bs found) longer_is
      (subst (IsLowest new (banks ++ bank ∷ [])) (sym is)
      (lowest-on new banks bank lowest below ranked
      (lowest-kept now new banks more lowest takes.sum (λ other there. takes.others other (λ same. fresh (subst (Contains banks) same there))) low)))

pub loop-bank-init : goal.loop-bank-init
loop-bank-init g c = record {
  taken = taken-begins c.args.book.now c.args.self.now (price_for c.args.self.now.taker c.args.rank) c.args.banks.now;
  lowest = lowest-begins c.args.self.now c.args.banks.now;
  ranked = c.requires.ranked;
  steps = omega arith;
}

pub take_of-lots-requires : goal.take_of-lots-requires
take_of-lots-requires g c =
    let now : LevelWalk = c.loop-bank.self in
    let n : ℕ = c.bank-item.result in
    let at_is : c.index.result ≡ n = c.index.ensures.value in
    let price_same : price_for c.args.self.now.taker c.args.rank ≡ price_for now.taker c.args.rank
    = ap (λ (s : Side). price_for s c.args.rank) (sym (taker_same c.args.self.now now c.loop-bank.lots c.loop-bank.invariant.taken.sum)) in
    record {
      weight = subst IsWeight (sym (weight_same c.args.self.now now c.loop-bank.lots c.loop-bank.invariant.taken.sum)) c.requires.weight;
      ranked = c.loop-bank.invariant.ranked;
      price = subst IsPrice price_same c.requires.price;
      asked = subst (λ (p : ℕ). price_of now n ≡ Some p) price_same
          (asked_here now n (price_for c.args.self.now.taker c.args.rank) c.args.rank (omega (arith, at_is, c.index.ensures.most)) c.loop-bank.invariant.ranked
          (rank_is c.args.self.now now c.args.rank c.loop-bank.lots c.loop-bank.invariant.taken.sum c.requires.price)
          (subst (λ (at : ℕ). slice_index now.ranks at ≡ c.args.rank) at_is c.if-self-index.true));
    }

pub loop-bank-preserved : goal.loop-bank-preserved
loop-bank-preserved g c =
    let book : Book = c.args.book.now in
    let first : LevelWalk = c.args.self.now in
    let now : LevelWalk = c.loop-bank.self in
    let new : LevelWalk = c.if-self-index.self in
    let rank : ℕ = c.args.rank in
    let price : ℕ = price_for first.taker rank in
    let banks : List ℕ = c.args.banks.now in
    let k : ℕ = c.loop-bank.bank-index in
    let n : ℕ = c.bank-item.result in
    let was = c.loop-bank.invariant in
    let at_is : c.index.result ≡ n = c.index.ensures.value in
    let below : n < 65 = omega (arith, at_is, c.index.ensures.most) in
    let longer : take k banks ++ n ∷ [] ≡ take (k + 1) banks
    = ap (λ (bank : ℕ). take k banks ++ bank ∷ []) c.bank-item.is ∙ sym (take_more banks k n c.loop-bank-test.true) in
    let took : Took book now new n price c.loop-bank.lots c.if-self-index.lots c.loop-bank.steps c.if-self-index.steps =
    elim c.if-self-index.branch [
      | then-self-index w ↦ record {
        more = w.take_of-lots.result;
        takes = subst (λ (s : LevelWalk). TakesOf book now s n price w.take_of-lots.result) (sym w.self-is)
            (subst (λ (p : ℕ). TakesOf book now w.take_of-lots.new.self n p w.take_of-lots.result) (ap (λ (s : Side). price_for s rank) (taker_same first now c.loop-bank.lots was.taken.sum)) w.take_of-lots.ensures.taken);
        ranked = subst AreRanked (sym w.self-is) w.take_of-lots.ensures.ranked;
        lots_is = w.lots-is;
        steps_most = omega (arith, w.steps-is, w.take_of-lots.ensures.step);
      }
      | else-self-index w ↦ record {
        more = 0;
        takes = subst (λ (s : LevelWalk). TakesOf book now s n price 0) (sym w.self-is)
            (takes_none book now n price (asked_else now n price rank below was.ranked (rank_is first now rank c.loop-bank.lots was.taken.sum c.requires.price)
            (λ same. w.if-self-index.false (subst (λ (at : ℕ). slice_index now.ranks at ≡ rank) (sym at_is) same))));
        ranked = subst AreRanked (sym w.self-is) was.ranked;
        lots_is = omega (arith, w.lots-is);
        steps_most = omega (arith, w.steps-is);
      }
    ] in
    let fresh : Contains (take k banks) n → ⊥ = not_yet book first banks k n c.requires.reached c.loop-bank-test.true c.bank-item.is in
    record {
      taken = subst (λ (lots : ℕ). AreTakenOf book first new price (take (k + 1) banks) lots) (sym took.lots_is)
          (more_taken book first now new price n c.loop-bank.lots took.more c.loop-bank.lowest (take k banks) (take (k + 1) banks) longer fresh below took.ranked took.takes was.taken);
      lowest = more_lowest book first now new price n c.loop-bank.lots took.more c.loop-bank.lowest (take k banks) (take (k + 1) banks) longer fresh below took.ranked took.takes c.min-lowest.result
          (c.min-lowest.ensures ∙ ap (λ (at : ℕ). min c.loop-bank.lowest (slice_index new.ranks at)) c.index-in-loop-bank.ensures.value) was.lowest;
      ranked = took.ranked;
      steps = omega (arith, took.steps_most, was.steps);
    }

pub returns : goal.returns
returns g c =
    let banks : List ℕ = c.args.banks.now in
    let all : take c.loop-bank.bank-index banks ≡ banks = take_all c.loop-bank.bank-index banks c.loop-bank-test.false in
    record {
      taken = subst (λ (bs : List ℕ). AreTakenOf c.args.book.now c.args.self.now c.loop-bank.self (price_for c.args.self.now.taker c.args.rank) bs c.loop-bank.lots) all c.loop-bank.invariant.taken;
      lowest = subst (λ (bs : List ℕ). IsLowest c.loop-bank.self bs c.loop-bank.lowest) all c.loop-bank.invariant.lowest;
      ranked = c.loop-bank.invariant.ranked;
      steps = omega (arith, c.loop-bank.invariant.steps, c.requires.reached.few, c.loop-bank.auto);
    }
