-- The levels so far are those of the marks that were passed; once there are ten, or the total pays for no more lots, they are all that are shown.
use Rattle.std.proofs.Common.{ℕ, [], ◌∷◌, ◌++◌, ◌≡◌, ◌+◌, ◌-◌, ◌*◌, ◌%◌, ◌^◌, ◌≤◌, ◌<◌, inl, inr, refl, ap, sym, subst, ◌∙◌, arith, slice_index, w64}
use Rattle.std.proofs.lemmas.Bool.{cases_eq, cases_lt}
use Rattle.std.proofs.lemmas.Nat.Bits.{bit_at-trailing_zeros, bit_at_clear_other, bit_at_clear_same}
use Rattle.std.specs.Int.{bit_at, bit_not, trailing_zeros}
use Rattle.std.specs.Int.Bits.{bit_and}
use Rattle.fx_amounts.specs.Price.{IsPrice}
use Rattle.fx_amounts.specs.declared.side.Side.{Side}
use Rattle.fx_rules.specs.declared.orders.Level.{Level}
use Rattle.global_book.specs.Room.{rank_of as rank_at}
use Rattle.match_sweep.proofs.Cutting.{cut-begins, cut-on}
use Rattle.match_sweep.proofs.LevelSteps.{reached-full}
use Rattle.match_sweep.proofs.Nearing.{near-begins, near-on}
use Rattle.match_sweep.proofs.reached.near.show_marked.Goals as goal

-- where no mark is left there is no lowest one
no_mark : trailing_zeros w64 0 ≡ 64
unfolding lib.Count.count_trailing_zeros
no_mark = refl

pub loop-side-init : goal.loop-side-init
loop-side-init c = record {
  at = 0;
  passed = λ k early. absurd (omega (arith, early));
  to_come = λ k _ _. refl;
  whole = [];
  room = c.requires.room;
  cut = cut-begins c.args.total c.args.levels.now.items c.requires.bare;
  way = λ book walk banks side_is near credit bank begins. near-begins book walk banks c.args.from c.args.last c.args.all c.args.lots.now c.requires.last near credit bank begins;
}

pub push_reserved-requires : goal.push_reserved-requires
push_reserved-requires c = omega (arith, c.loop-side.invariant.room, c.loop-side-test.true, c.len.ensures)

pub loop-side-preserved : goal.loop-side-preserved
loop-side-preserved c =
    let was = c.loop-side.invariant in
    let left : ℕ = c.loop-side.left in
    let t : ℕ = trailing_zeros w64 left in
    let from : ℕ = c.args.from in
    let lots : ℕ = slice_index c.args.lots.now t in
    let level : Level = record { price = c.in-Some.price; lots = lots } in
    let some : left ≡ 0 → ⊥ = λ none. (let zero : trailing_zeros w64 left ≡ 64 = ap (trailing_zeros w64) none ∙ no_mark in omega (arith, zero, c.if-at-last.false, c.requires.last)) in
    let lowest = bit_at-trailing_zeros w64 left (omega (arith, some)) (omega (arith, c.loop-side.auto.left-fits)) in
    let start : was.at ≤ t = elim (cases_lt t was.at) [
      | inl early ↦ absurd (omega (arith, was.passed t early, lowest.1))
      | inr late ↦ late
    ] in
    let none : (j : ℕ) → was.at ≤ j → j < t → bit_at c.args.all j ≡ 0 = λ j late before. sym (was.to_come j late (omega (arith, before, lowest.0))) ∙ lowest.2 j before in
    let marked : bit_at c.args.all t ≡ 1 = sym (was.to_come t start lowest.0) ∙ lowest.1 in
    let valid : IsPrice (rank_at c.args.side (from + t)) = c.in-Some.ensures.valid.0 refl in
    record {
      at = t + 1;
      passed = λ k early. elim (cases_eq k t) [
        | inl same ↦ subst (λ (j : ℕ). bit_at (bit_and left (bit_not w64 (1 * 2 ^ t % 2 ^ 64))) j ≡ 0) (sym same) (bit_at_clear_same w64 left t lowest.0)
        | inr differ ↦ bit_at_clear_other w64 left t lowest.0 k (omega (arith, early, lowest.0)) differ ∙ lowest.2 k (omega (arith, early, differ))
      ];
      to_come = λ k late small. bit_at_clear_other w64 left t lowest.0 k small (λ same. omega (arith, same, late)) ∙ was.to_come k (omega (arith, late, start)) small;
      whole = was.whole ++ level ∷ [];
      room = omega (arith, was.room, c.push_reserved.ensures.capacity);
      cut = cut-on c.args.total c.loop-side.most (c.loop-side.most - c.min-taken.result) was.whole c.loop-side.levels.items c.push_reserved.new.self.items level was.cut
          (omega (arith, c.if-most-gt0.true)) (omega (arith, c.min-taken.ensures)) (c.push_reserved.ensures.items ∙ ap (λ (n : ℕ). c.loop-side.levels.items ++ record { price = level.price; lots = n } ∷ []) c.min-taken.ensures);
      way = λ book walk banks side_is near credit bank begins.
          near-on book walk banks from c.args.last c.args.all c.args.lots.now c.requires.last near credit bank begins was.at was.whole (was.way book walk banks side_is near credit bank begins) t start c.if-at-last.false none marked
          (subst (λ (s : Side). IsPrice (rank_at s (from + t))) side_is valid) (omega (arith, was.cut.long, c.loop-side-test.true, c.len.ensures)) level
          (ap (λ (p : ℕ). record { price = p; lots = lots }) (c.in-Some.ensures.value ∙ ap (λ (s : Side). rank_at s (from + t)) side_is));
    }

pub returns-else-most-gt0-clause-shown : goal.returns-else-most-gt0-clause-shown
returns-else-most-gt0-clause-shown c = λ _ book walk banks side_is near credit bank begins banks_are bank_in most_is.
    let was = c.loop-side.invariant in
    let w = was.way book walk banks side_is near credit bank begins in
    reached-full book credit walk.weight bank c.args.total walk.taker walk w.now begins banks_are bank_in near.weight.0 most_is c.loop-side.most was.whole c.loop-side.levels.items w.way was.cut (inr (omega (arith, c.if-most-gt0.false)))

pub returns-after-loop-side-clause-shown : goal.returns-after-loop-side-clause-shown
returns-after-loop-side-clause-shown c = λ _ book walk banks side_is near credit bank begins banks_are bank_in most_is.
    let was = c.loop-side.invariant in
    let w = was.way book walk banks side_is near credit bank begins in
    reached-full book credit walk.weight bank c.args.total walk.taker walk w.now begins banks_are bank_in near.weight.0 most_is c.loop-side.most was.whole c.loop-side.levels.items w.way was.cut (inl (omega (arith, c.loop-side-test.false, c.len.ensures)))
