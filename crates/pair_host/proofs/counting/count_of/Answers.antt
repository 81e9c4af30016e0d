-- The orders of a bank are those of both sides.
use Rattle.std.proofs.Common.{arith}
use Rattle.global_book.proofs.Pulling.{few_orders, owned_count}
use Rattle.pair_host.proofs.counting.count_of.Goals as goal

pub overflow_add-result : goal.overflow_add-result
overflow_add-result g c =
    let valid = c.count_side-buys.ensures.valid in
    omega (arith, few_orders c.args.book.now c.args.bank valid, owned_count c.args.book.now c.args.bank valid, c.count_side-buys.ensures.count, c.count_side-sells.ensures.count)

pub returns : goal.returns
returns g c = record { count = omega (arith, owned_count c.args.book.now c.args.bank c.count_side-buys.ensures.valid, c.count_side-buys.ensures.count, c.count_side-sells.ensures.count) }
