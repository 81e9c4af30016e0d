use Rattle.std.proofs.Common.{not, List, ap, sym, ◌∙◌, arith, length}
use Rattle.std.specs.List.{filter}
use Rattle.fx_rules.specs.declared.orders.Resting.{Resting}
use Rattle.global_book.specs.inside.Owning.{is_own}
use Rattle.global_book.proofs.Booking.{room-trans}
use Rattle.global_book.proofs.Pulling.{all_others, few_own, next_is, one_less, others_stay, owned_all, rests_itself}
use Rattle.global_book.proofs.book.PairBook.pull_side.Goals as goal

pub remove-requires : goal.remove-requires
remove-requires c = record {
  rests = rests_itself c.loop-next.self.orders c.in-Some.order
      (next_is c.loop-next.self c.args.side c.args.bank c.loop-next.next c.in-Some.order c.loop-next.invariant.valid c.in-Some.is c.loop-next.invariant.best_next).there;
}

pub overflow_add-count : goal.overflow_add-count
overflow_add-count c =
    let next = next_is c.loop-next.self c.args.side c.args.bank c.loop-next.next c.in-Some.order c.loop-next.invariant.valid c.in-Some.is c.loop-next.invariant.best_next in
    let less = one_less (is_own c.args.bank c.args.side) c.loop-next.self.orders c.in-Some.order c.loop-next.invariant.valid.rising next.there next.is_its in
    let few = few_own c.args.self.now c.args.bank c.args.side c.loop-next.invariant.was_valid in
    omega (arith, less, few, c.loop-next.invariant.counted)

pub loop-next-smaller : goal.loop-next-smaller
loop-next-smaller c =
    let next = next_is c.loop-next.self c.args.side c.args.bank c.loop-next.next c.in-Some.order c.loop-next.invariant.valid c.in-Some.is c.loop-next.invariant.best_next in
    let less = one_less (is_own c.args.bank c.args.side) c.loop-next.self.orders c.in-Some.order c.loop-next.invariant.valid.rising next.there next.is_its in
    omega (arith, less, ap (λ (xs : List Resting). length (filter (is_own c.args.bank c.args.side) xs)) c.remove.ensures.orders)

pub loop-next-preserved : goal.loop-next-preserved
loop-next-preserved c =
    let was = c.loop-next.invariant in
    let next = next_is c.loop-next.self c.args.side c.args.bank c.loop-next.next c.in-Some.order was.valid c.in-Some.is was.best_next in
    let less = one_less (is_own c.args.bank c.args.side) c.loop-next.self.orders c.in-Some.order was.valid.rising next.there next.is_its in
    record {
      none_next = c.best_own-next-in-Some.ensures.none;
      best_next = c.best_own-next-in-Some.ensures.best;
      counted = omega (arith, less, was.counted, ap (λ (xs : List Resting). length (filter (is_own c.args.bank c.args.side) xs)) c.remove.ensures.orders);
      others = ap (λ (xs : List Resting). filter (λ o. not (is_own c.args.bank c.args.side o)) xs) c.remove.ensures.orders
          ∙ others_stay (is_own c.args.bank c.args.side) c.loop-next.self.orders c.in-Some.order was.valid.rising next.there next.is_its ∙ was.others;
      pair = c.remove.ensures.pair ∙ was.pair;
      banks = c.remove.ensures.banks ∙ was.banks;
      room = room-trans _ _ _ was.room c.remove.ensures.room;
      was_valid = was.was_valid;
      valid = c.remove.ensures.valid;
    }

pub returns-clause-count : goal.returns-clause-count
returns-clause-count c =
    let none = sym (owned_all c.loop-next.self c.args.side c.args.bank c.loop-next.invariant.valid) ∙ c.loop-next.invariant.none_next.0 c.in_default.is in
    omega (arith, c.loop-next.invariant.counted, ap (λ (xs : List Resting). length xs) none)

pub returns-clause-orders : goal.returns-clause-orders
returns-clause-orders c =
    let none = sym (owned_all c.loop-next.self c.args.side c.args.bank c.loop-next.invariant.valid) ∙ c.loop-next.invariant.none_next.0 c.in_default.is in
    sym (all_others (is_own c.args.bank c.args.side) c.loop-next.self.orders none) ∙ c.loop-next.invariant.others
