use Rattle.std.proofs.Common.{◌+◌, refl, ap, sym, subst, arith, w64}
use Rattle.std.specs.Int.{trailing_zeros}
use Rattle.price_levels.specs.declared.level.Level.{Level}
use Rattle.price_levels.specs.Ticks.{Covers, Ticks, level_of}
use Rattle.price_levels.proofs.Adding.{added-begins, added-on, all-added, fewer_left, level_there, lowest_in, lowest_within, sum_few}
use Rattle.price_levels.proofs.window.Window.add_lots.Goals as goal

pub overflow_sub-from : goal.overflow_sub-from
overflow_sub-from c =
    (subst (λ (t : Ticks). Covers t (c.args.from + trailing_zeros w64 c.loop-left.left)) (sym c.self.view_is)
    (lowest_in c.args.self.now c.args.from c.args.last c.args.lots.now c.loop-left.sum c.loop-left.left c.loop-left.lots c.requires.last c.told-lots c.loop-left-test.true c.loop-left.invariant)).from_on

pub index-requires : goal.index-requires
index-requires c =
    let it = subst (λ (t : Ticks). Covers t (c.args.from + trailing_zeros w64 c.loop-left.left)) (sym c.self.view_is)
    (lowest_in c.args.self.now c.args.from c.args.last c.args.lots.now c.loop-left.sum c.loop-left.left c.loop-left.lots c.requires.last c.told-lots c.loop-left-test.true c.loop-left.invariant) in
    omega (arith, it.from_on, it.within)

pub returns-then-count-from-clause-large : goal.returns-then-count-from-clause-large
returns-then-count-from-clause-large c = λ _. (
  trailing_zeros w64 c.loop-left.left,
  lowest_within (level_of c.args.self.now) c.args.from c.args.last c.args.lots.now c.loop-left.sum c.loop-left.left c.loop-left.lots c.requires.last c.told-lots c.loop-left.invariant c.loop-left-test.true,
  (let it = ap (λ (l : Level). l.lots) (level_there (record { base = c.self.inside.base; levels = c.self.inside.levels.items }) c.args.self.now (c.args.from + trailing_zeros w64 c.loop-left.left) c.index.result.now _ c.self.view_is
      (lowest_in c.args.self.now c.args.from c.args.last c.args.lots.now c.loop-left.sum c.loop-left.left c.loop-left.lots c.requires.last c.told-lots c.loop-left-test.true c.loop-left.invariant) c.index.ensures) in
      omega (arith, it, c.if-count-from.true, c.from.ensures)),
)

pub overflow_add-sum : goal.overflow_add-sum
overflow_add-sum c =
    let few = sum_few c.args.self.now c.args.from c.args.last c.args.lots.now c.loop-left.sum c.loop-left.left c.loop-left.lots c.requires.last c.told-lots c.loop-left-test.true c.loop-left.invariant in
    omega (arith, few, c.if-count-from.false, c.from.ensures)

pub loop-left-preserved : goal.loop-left-preserved
loop-left-preserved c =
    added-on (level_of c.args.self.now) c.args.from c.args.last c.args.lots.now c.loop-left.sum c.loop-left.left c.loop-left.lots c.requires.last c.told-lots c.loop-left.invariant
    _ _ c.index.result.now.lots _ c.loop-left-test.true refl
    (ap (λ (l : Level). l.lots) (level_there (record { base = c.self.inside.base; levels = c.self.inside.levels.items }) c.args.self.now (c.args.from + trailing_zeros w64 c.loop-left.left) c.index.result.now _ c.self.view_is
    (lowest_in c.args.self.now c.args.from c.args.last c.args.lots.now c.loop-left.sum c.loop-left.left c.loop-left.lots c.requires.last c.told-lots c.loop-left-test.true c.loop-left.invariant) c.index.ensures))
    (omega (arith, c.if-count-from.false, c.from.ensures)) refl refl

pub loop-left-smaller : goal.loop-left-smaller
loop-left-smaller c = fewer_left c.loop-left.left c.loop-left-test.true (omega (arith, c.loop-left.auto.left-fits))

pub loop-left-init : goal.loop-left-init
loop-left-init c = added-begins (level_of c.args.self.now) c.args.from c.args.marks c.args.last c.args.lots.now c.requires.marks (omega (arith, c.ranges.marks.fits)) c.requires.last

pub returns-clause-sum : goal.returns-clause-sum
returns-clause-sum c =
    (all-added (level_of c.args.self.now) c.args.from c.args.last c.args.lots.now c.loop-left.sum c.loop-left.left c.loop-left.lots c.requires.last c.told-lots c.loop-left.invariant c.loop-left-test.false).sum_is

pub returns-clause-small : goal.returns-clause-small
returns-clause-small c = λ _.
    (all-added (level_of c.args.self.now) c.args.from c.args.last c.args.lots.now c.loop-left.sum c.loop-left.left c.loop-left.lots c.requires.last c.told-lots c.loop-left.invariant c.loop-left-test.false).small

pub returns-clause-added : goal.returns-clause-added
returns-clause-added c = λ _.
    (all-added (level_of c.args.self.now) c.args.from c.args.last c.args.lots.now c.loop-left.sum c.loop-left.left c.loop-left.lots c.requires.last c.told-lots c.loop-left.invariant c.loop-left-test.false).added
