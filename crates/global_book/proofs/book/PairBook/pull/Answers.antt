use Rattle.std.proofs.Common.{not, List, ap, ◌∙◌, arith, length}
use Rattle.std.specs.List.{filter}
use Rattle.fx_amounts.specs.declared.side.Side.TheVariants.{Sell}
use Rattle.fx_rules.specs.declared.orders.Resting.{Resting}
use Rattle.global_book.specs.inside.Owning.{is_own}
use Rattle.global_book.proofs.Booking.{room-trans}
use Rattle.global_book.proofs.Pulling.{both_counted, both_gone, few_orders}
use Rattle.global_book.proofs.book.PairBook.pull.Goals as goal

pub overflow_add-result : goal.overflow_add-result
overflow_add-result c =
    omega (
      arith,
      few_orders c.args.self.now c.args.bank c.pull_side-buys.ensures.was_valid,
      both_counted c.args.bank c.args.self.now.orders,
      c.pull_side-buys.ensures.count,
      c.pull_side-sells.ensures.count,
      ap (λ (xs : List Resting). length (filter (is_own c.args.bank Sell) xs)) c.pull_side-buys.ensures.orders,
    )

pub returns-clause-count : goal.returns-clause-count
returns-clause-count c =
    omega (
      arith,
      both_counted c.args.bank c.args.self.now.orders,
      c.pull_side-buys.ensures.count,
      c.pull_side-sells.ensures.count,
      ap (λ (xs : List Resting). length (filter (is_own c.args.bank Sell) xs)) c.pull_side-buys.ensures.orders,
    )

pub returns-clause-orders : goal.returns-clause-orders
returns-clause-orders c =
    c.pull_side-sells.ensures.orders ∙ ap (λ (xs : List Resting). filter (λ o. not (is_own c.args.bank Sell o)) xs) c.pull_side-buys.ensures.orders
    ∙ both_gone c.args.bank c.args.self.now.orders

pub returns-clause-room : goal.returns-clause-room
returns-clause-room c = room-trans _ _ _ c.pull_side-buys.ensures.room c.pull_side-sells.ensures.room
