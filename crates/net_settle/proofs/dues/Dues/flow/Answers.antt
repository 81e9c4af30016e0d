use Rattle.std.proofs.Common.{arith}
use Rattle.net_settle.specs.inside.Dues.{due_in}
use Rattle.net_settle.proofs.Reading.{next-total, room-total}
use Rattle.net_settle.proofs.dues.Dues.flow.Goals as goal

pub overflow_add-got : goal.overflow_add-got
overflow_add-got c =
    omega (arith, room-total (λ other. due_in c.args.self.now c.args.bank other c.args.column) c.loop-other.other c.args.self.now.banks c.loop-other.got c.due-got.result c.loop-other-test.true c.loop-other.invariant.got_so_far c.due-got.ensures.value (c.requires.fit.got c.args.bank c.requires.bank))

pub overflow_add-gave : goal.overflow_add-gave
overflow_add-gave c =
    omega (arith, room-total (λ other. due_in c.args.self.now other c.args.bank c.args.column) c.loop-other.other c.args.self.now.banks c.loop-other.gave c.due-gave.result c.loop-other-test.true c.loop-other.invariant.gave_so_far c.due-gave.ensures.value (c.requires.fit.gave c.args.bank c.requires.bank))

pub loop-other-preserved : goal.loop-other-preserved
loop-other-preserved c = record {
  got_so_far = next-total (λ other. due_in c.args.self.now c.args.bank other c.args.column) c.loop-other.other c.loop-other.got c.due-got.result c.loop-other.invariant.got_so_far c.due-got.ensures.value;
  gave_so_far = next-total (λ other. due_in c.args.self.now other c.args.bank c.args.column) c.loop-other.other c.loop-other.gave c.due-gave.result c.loop-other.invariant.gave_so_far c.due-gave.ensures.value;
}
