use Rattle.std.proofs.Common.{ap, length, arith}
use Rattle.std.proofs.lemmas.Grind.{common_steps}
use Rattle.credit_lines.proofs.OpeningLemmas.{opening_more, opening_done}
use Rattle.credit_lines.proofs.lines.opening_lines.Goals as goal

pub loop-at-preserved : goal.loop-at-preserved
loop-at-preserved c = record {
  lines = opening_more c.args.session.now _ c.loop-at.at _ _ _ _ _ c.loop-at.lines.items _ (omega arith) c.push_reserved.ensures.items c.lesser.ensures c.limit.ensures.value c.limit-in-loop-at.ensures.value c.banks_at-i.ensures.row c.banks_at-i.ensures.column c.loop-at.invariant.lines;
  count = grind (arith, common_steps);
  room = grind (arith, common_steps);
}

pub returns : goal.returns
returns c = opening_done c.args.session.now _ c.loop-at.at c.loop-at.lines.items (ap length c.banks-banks.ensures.value) (omega arith) c.loop-at.auto.at-end c.loop-at-test.false c.loop-at.invariant.lines
