use Rattle.std.proofs.Common.{refl, arith}
use Rattle.std.proofs.lemmas.List.{take_rest}
use Rattle.fx_text.proofs.CutFields.{IsCut-none, IsCut-blank, IsCut-other, Keeps-all}
use Rattle.fx_text.proofs.field.Fields.read.Goals as goal
use Rattle.fx_text.proofs.field.Fields.read.Goals.{then-is_blank, else-is_blank}

pub loop-at-init : goal.loop-at-init
loop-at-init c = IsCut-none c.args.line.now _ (record { room = c.self.invariant.room; counted = refl; eight = refl })

pub slice_bounds-add-count : goal.slice_bounds-add-count
slice_bounds-add-count c = c.loop-at.invariant.begun

pub add-requires : goal.add-requires
add-requires c = omega (arith, c.loop-at.invariant.few)

pub loop-at-preserved : goal.loop-at-preserved
loop-at-preserved c = elim c.if-is_blank.branch [
  | then-is_blank w ↦ rw (w.start-is, w.self-inside-is) (IsCut-blank c.args.line.now _ c.loop-at.at c.loop-at.start c.loop-at.self-inside.kept w.add.new.self c.loop-at-test.true (cc) c.loop-at.invariant refl w.add.ensures.kept w.add.ensures.counted)
  | else-is_blank w ↦ rw (w.start-is, w.self-inside-is) (IsCut-other c.args.line.now c.loop-at.at c.loop-at.start c.loop-at.self-inside.kept c.loop-at-test.true (cc) c.loop-at.invariant)
]

pub slice_bounds-add-count-2 : goal.slice_bounds-add-count-2
slice_bounds-add-count-2 c = omega (arith, c.loop-at.invariant.begun)

pub add-requires-2 : goal.add-requires-2
add-requires-2 c = omega (arith, c.loop-at.invariant.few)

pub invariant_of-self : goal.invariant_of-self
invariant_of-self c = Keeps-all c.args.line.now _ c.loop-at.at c.loop-at.start c.loop-at.self-inside.kept c.add-2.new.self c.loop-at-test.false c.loop-at.invariant (take_rest c.args.line.now c.loop-at.start) c.add-2.ensures.kept
