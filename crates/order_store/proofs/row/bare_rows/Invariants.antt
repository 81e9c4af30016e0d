use Rattle.std.proofs.Common.{◌≡◌, length}
use Rattle.order_store.proofs.row.bare_rows.Given as goal

-- a row for each bank so far
abbrev pub invariant-loop-bank : goal.invariant-loop-bank
invariant-loop-bank l = length l.rows.items ≡ l._bank
