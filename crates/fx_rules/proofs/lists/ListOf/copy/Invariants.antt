use Rattle.std.proofs.Common.{◌≡◌, ◌≤◌, take, length, vec_len, vec_capacity}
use Rattle.fx_rules.proofs.lists.ListOf.copy.Given as goal

-- what was passed is copied, and there is room for all
abbrev pub invariant-loop-item : goal.invariant-loop-item
invariant-loop-item g l =
    (l.copied.items ≡ take l.item-index l.item-items) × (length l.item-items ≤ vec_capacity l.copied) × (vec_len l.copied ≡ l.item-index)
