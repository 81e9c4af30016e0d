use Rattle.std.proofs.Common.{◌≤◌, IfSome}
use Rattle.std.specs.List.{AllWithin}
use Rattle.fx_rules.proofs.session.are_valid_totals.Given as goal

-- the totals so far are in their range
abbrev pub invariant-loop-total : goal.invariant-loop-total
invariant-loop-total l = AllWithin (λ most. IfSome most (λ units. units ≤ 1000000000000000)) l.totals 0 l.total-index
