use Rattle.std.proofs.Common.{◌≡◌, replicate}
use Rattle.reply_lines.specs.Desks.{nothing_yet}
use Rattle.reply_lines.proofs.desk.no_desks.Given as goal

abbrev pub invariant-loop-place : goal.invariant-loop-place
invariant-loop-place l = l.desks.items ≡ replicate l._place nothing_yet
