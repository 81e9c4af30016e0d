use Rattle.credit_lines.proofs.Steps.{can_set, give_in_range, give_within, give_keeps}
use Rattle.credit_lines.proofs.lines.CreditLines.give_back.Goals as goal

pub sum-line-requires : goal.sum-line-requires
sum-line-requires c =
    let can = can_set _ _ _ _ c.self.view_is c.requires.first c.requires.second c.requires.differ in
    give_in_range _ _ _ _ _ _ _ _ _ _ _ _ c.self.invariant can c.shared_place-at.ensures.value c.index-used.ensures c.lesser-given.ensures c.place.ensures.value c.index.ensures

pub lower_spent-requires-clause-least : goal.lower_spent-requires-clause-least
lower_spent-requires-clause-least c =
    let can = can_set _ _ _ _ c.self.view_is c.requires.first c.requires.second c.requires.differ in
    (give_within _ _ _ _ _ _ _ _ _ _ c.self.invariant can c.shared_place-at.ensures.value c.index-used.ensures c.lesser-given.ensures).0

pub lower_spent-requires-clause-least_second : goal.lower_spent-requires-clause-least_second
lower_spent-requires-clause-least_second c =
    let can = can_set _ _ _ _ c.self.view_is c.requires.first c.requires.second c.requires.differ in
    (give_within _ _ _ _ _ _ _ _ _ _ c.self.invariant can c.shared_place-at.ensures.value c.index-used.ensures c.lesser-given.ensures).1

pub invariant_of-self : goal.invariant_of-self
invariant_of-self c =
    let can = can_set _ _ _ _ c.self.view_is c.requires.first c.requires.second c.requires.differ in
    give_keeps _ _ _ _ _ _ _ _ _ _ _ _ _ _ _ _ c.self.invariant can c.shared_place-at.ensures.value c.index-used.ensures c.lesser-given.ensures c.difference.ensures c.place.ensures.value c.index.ensures c.sum-line.ensures c.set_line.ensures c.lower_spent.ensures

pub returns-clause-valid : goal.returns-clause-valid
returns-clause-valid c =
    let can = can_set _ _ _ _ c.self.view_is c.requires.first c.requires.second c.requires.differ in
    (give_keeps _ _ _ _ _ _ _ _ _ _ _ _ _ _ _ _ c.self.invariant can c.shared_place-at.ensures.value c.index-used.ensures c.lesser-given.ensures c.difference.ensures c.place.ensures.value c.index.ensures c.sum-line.ensures c.set_line.ensures c.lower_spent.ensures).0
