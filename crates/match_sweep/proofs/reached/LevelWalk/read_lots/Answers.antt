use Rattle.std.proofs.Common.{ℕ, List, [], ◌∷◌, ◌++◌, ◌≡◌, ◌+◌, ◌*◌, ◌^◌, ◌≤◌, inl, inr, refl, ap, arith, slice_index, sym, subst, take, ◌∙◌}
use Rattle.std.proofs.Math.Nat.{mul-le-mul_right}
use Rattle.std.proofs.lemmas.Bool.{cases_lt}
use Rattle.std.proofs.lemmas.List.{get_or_default, take_more}
use Rattle.fx_amounts.specs.Side.{opposite}
use Rattle.fx_amounts.specs.declared.side.Side.{Side}
use Rattle.price_levels.specs.Rungs.{lots_below}
use Rattle.price_levels.proofs.Adding.{few_below}
use Rattle.global_book.specs.Ladders.{book_level}
use Rattle.match_sweep.specs.inside.Near.{ArePaid, IsSeen}
use Rattle.match_sweep.proofs.Seeing.{paid-begins, paid-on}
use Rattle.match_sweep.proofs.Tables.{replicate-at}
use Rattle.match_sweep.proofs.reached.LevelWalk.read_lots.Goals as goal

pub loop-at-init : goal.loop-at-init
loop-at-init c =
    let bare : (k : ℕ) → slice_index c.args.lots.now k ≡ 0 = λ k. ap (λ (xs : List ℕ). slice_index xs k) c.requires.bare ∙ replicate-at {X = ℕ} 0 64 k in
    record {
      paid = paid-begins c.args.book.now c.args.self.now c.args.from c.args.last c.args.banks.now c.args.lots.now bare;
      few = λ k. omega (arith, bare k);
    }

pub add_lots_of-requires-clause-seen : goal.add_lots_of-requires-clause-seen
add_lots_of-requires-clause-seen c =
    let n : ℕ = c.index-banks-at.result in
    let word : ℕ = slice_index c.args.marks.now c.loop-at.at in
    subst (λ (s : Side). IsSeen c.args.book.now s c.args.from n word) (sym c.opposite-side.ensures)
    (subst (λ (b : ℕ). IsSeen c.args.book.now (opposite c.args.self.now.taker) c.args.from b word) (sym (c.index-banks-at.is ∙ get_or_default c.args.banks.now c.loop-at.at n 0 c.loop-at-test.true)) (c.requires.seen c.loop-at.at c.loop-at-test.true))

pub overflow_mul-sum : goal.overflow_mul-sum
overflow_mul-sum c =
    let lots : lots_below (book_level c.args.book.now c.opposite-side.result c.index-banks-at.result) c.args.from (c.args.last + 1) ≤ (c.args.last + 1) * 2 ^ 32 =
    few_below (book_level c.args.book.now c.opposite-side.result c.index-banks-at.result) c.args.from (c.args.last + 1) (λ k below. c.in-Some.ensures.small refl k (omega (arith, below))) in
    let few : c.in-Some.sum ≤ 64 * 2 ^ 32 = omega (arith, c.in-Some.ensures.sum, lots, c.requires.last) in
    let cost : c.in-Some.sum * c.from-weight.result ≤ 64 * 2 ^ 32 * c.from-weight.result = mul-le-mul_right c.from-weight.result few in
    omega (arith, cost, c.from-weight.ensures, c.requires.weight.1)

pub loop-at-preserved : goal.loop-at-preserved
loop-at-preserved c =
    let was = c.loop-at.invariant in
    let n : ℕ = c.index-banks-at.result in
    let banks : List ℕ = c.args.banks.now in
    let more : take c.loop-at.at banks ++ n ∷ [] ≡ take (c.loop-at.at + 1) banks = ap (λ (b : ℕ). take c.loop-at.at banks ++ b ∷ []) c.index-banks-at.is ∙ sym (take_more banks c.loop-at.at n c.loop-at-test.true) in
    let paid : c.in-Some.sum * c.args.self.now.weight ≤ slice_index c.args.self.now.lines n =
    subst (λ (i : ℕ). c.in-Some.sum * c.args.self.now.weight ≤ slice_index c.args.self.now.lines i) c.index.ensures.value
    (subst (λ (w : ℕ). c.in-Some.sum * w ≤ slice_index c.args.self.now.lines c.index.result) c.from-weight.ensures c.if-sum-weight.false) in
    record {
      paid = subst (λ (bs : List ℕ). ArePaid c.args.book.now c.args.self.now c.args.from c.args.last bs c.add_lots_of.new.lots) more
          (paid-on c.args.book.now c.args.self.now c.args.from c.args.last (take c.loop-at.at banks) c.loop-at.lots c.add_lots_of.new.lots n c.in-Some.sum was.paid
          (c.in-Some.ensures.sum ∙ ap (λ (s : Side). lots_below (book_level c.args.book.now s n) c.args.from (c.args.last + 1)) c.opposite-side.ensures) paid
          (λ k within. c.in-Some.ensures.added refl k within ∙ ap (λ (s : Side). slice_index c.loop-at.lots k + (book_level c.args.book.now s n (c.args.from + k)).lots) c.opposite-side.ensures));
      few = λ k. elim (cases_lt c.args.last k) [
        | inl past ↦ omega (arith, was.few k, c.add_lots_of.ensures.others k past)
        | inr within ↦ omega (arith, was.few k, c.in-Some.ensures.added refl k within, c.in-Some.ensures.small refl k within)
      ];
    }
