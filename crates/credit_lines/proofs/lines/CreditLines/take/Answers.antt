use Rattle.credit_lines.proofs.Steps.{can_take, spent_most, take_in_range, take_below_line, take_keeps}
use Rattle.credit_lines.proofs.lines.CreditLines.take.Goals as goal

pub sum-requires : goal.sum-requires
sum-requires c =
    let can = can_take _ _ _ _ _ c.self.view_is c.requires.first c.requires.second c.requires.differ c.requires.credit in
    take_in_range _ _ _ _ _ _ _ _ _ c.self.invariant can c.shared_place-at.ensures.value c.index.ensures

pub difference-line-requires : goal.difference-line-requires
difference-line-requires c =
    let can = can_take _ _ _ _ _ c.self.view_is c.requires.first c.requires.second c.requires.differ c.requires.credit in
    take_below_line _ _ _ _ _ _ _ _ _ c.self.invariant can c.place.ensures.value c.index-2.ensures

pub invariant_of-self : goal.invariant_of-self
invariant_of-self c =
    let can = can_take _ _ _ _ _ c.self.view_is c.requires.first c.requires.second c.requires.differ c.requires.credit in
    take_keeps _ _ _ _ _ _ _ _ _ _ _ _ _ _ _ c.self.invariant can c.shared_place-at.ensures.value c.index.ensures c.place.ensures.value c.index-2.ensures c.sum.ensures c.difference-line.ensures c.set_line.ensures c.raise_spent.ensures

pub returns-clause-valid : goal.returns-clause-valid
returns-clause-valid c =
    let can = can_take _ _ _ _ _ c.self.view_is c.requires.first c.requires.second c.requires.differ c.requires.credit in
    (take_keeps _ _ _ _ _ _ _ _ _ _ _ _ _ _ _ c.self.invariant can c.shared_place-at.ensures.value c.index.ensures c.place.ensures.value c.index-2.ensures c.sum.ensures c.difference-line.ensures c.set_line.ensures c.raise_spent.ensures).0

pub raise_spent-requires-clause-most : goal.raise_spent-requires-clause-most
raise_spent-requires-clause-most c =
    let can = can_take _ _ _ _ _ c.self.view_is c.requires.first c.requires.second c.requires.differ c.requires.credit in
    spent_most _ _ _ _ _ c.self.invariant can.first

pub raise_spent-requires-clause-most_second : goal.raise_spent-requires-clause-most_second
raise_spent-requires-clause-most_second c =
    let can = can_take _ _ _ _ _ c.self.view_is c.requires.first c.requires.second c.requires.differ c.requires.credit in
    spent_most _ _ _ _ _ c.self.invariant can.second
