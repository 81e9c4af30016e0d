use Rattle.std.proofs.Common.{arith, subst, ◌∙◌}
use Rattle.std.proofs.lemmas.List.{get_or_default}
use Rattle.fx_amounts.specs.Side.{opposite}
use Rattle.fx_amounts.specs.declared.side.Side.{Side}
use Rattle.match_sweep.specs.inside.Near.{IsSeen}
use Rattle.match_sweep.proofs.Seeing.{seen-on}
use Rattle.match_sweep.proofs.reached.LevelWalk.read_marks.Goals as goal

pub loop-at-preserved : goal.loop-at-preserved
loop-at-preserved g c = record {
  seen = seen-on c.args.book.now (opposite c.args.self.now.taker) c.args.from c.args.banks.now c.loop-at.marks c.loop-at.at c.loop-at.all c.in_ok-word.word c.index-banks-at.result
      (c.index-banks-at.is ∙ get_or_default c.args.banks.now c.loop-at.at c.index-banks-at.result 0 c.loop-at-test.true)
      (omega (arith, c.loop-at-test.true, c.requires.few)) c.loop-at.invariant.seen
      (subst (λ (s : Side). IsSeen c.args.book.now s c.args.from c.index-banks-at.result c.in_ok-word.word) c.opposite-side.ensures c.in_ok-word.ensures);
  steps = omega (arith, c.tick.ensures, c.loop-at.invariant.steps);
}
