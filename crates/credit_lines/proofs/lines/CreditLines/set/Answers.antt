use Rattle.credit_lines.proofs.Steps.{can_set, set_above_use, set_keeps, used_here}
use Rattle.credit_lines.proofs.lines.CreditLines.set.Goals as goal

pub difference-line-requires : goal.difference-line-requires
difference-line-requires c =
    let can = can_set _ _ _ _ c.self.view_is c.requires.setter c.requires.other c.requires.differ in
    set_above_use _ _ _ _ _ _ _ _ _ _ _ _ c.self.invariant can (used_here _ _ _ _ _ c.self.view_is c.used-used.ensures.value) c.greater-set.ensures.value c.place.ensures.value c.index-back.ensures c.lesser.ensures

pub invariant_of-self : goal.invariant_of-self
invariant_of-self c =
    let can = can_set _ _ _ _ c.self.view_is c.requires.setter c.requires.other c.requires.differ in
    set_keeps _ _ _ _ _ _ _ _ _ _ _ _ _ _ _ c.self.invariant can (used_here _ _ _ _ _ c.self.view_is c.used-used.ensures.value) c.greater-set.ensures.value c.greater-set.ensures.most c.place.ensures.value c.index-back.ensures c.lesser.ensures c.place-2.ensures.value c.difference-line.ensures c.set_line.ensures

pub returns-clause-valid : goal.returns-clause-valid
returns-clause-valid c =
    let can = can_set _ _ _ _ c.self.view_is c.requires.setter c.requires.other c.requires.differ in
    (set_keeps _ _ _ _ _ _ _ _ _ _ _ _ _ _ _ c.self.invariant can (used_here _ _ _ _ _ c.self.view_is c.used-used.ensures.value) c.greater-set.ensures.value c.greater-set.ensures.most c.place.ensures.value c.index-back.ensures c.lesser.ensures c.place-2.ensures.value c.difference-line.ensures c.set_line.ensures).0
