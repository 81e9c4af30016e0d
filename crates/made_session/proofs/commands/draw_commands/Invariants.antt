use Rattle.std.proofs.Common.{◌≡◌, ◌-◌, ◌++◌}
use Rattle.made_session.specs.Commands.{drawn_all}
use Rattle.made_session.proofs.commands.draw_commands.Given as goal

-- the commands so far, and those that are left
abbrev pub invariant-loop-place : goal.invariant-loop-place
invariant-loop-place l =
    l.sent.items ++ drawn_all l.banks l.pairs (l.count - l._place) l.draws ≡ drawn_all l.banks l.pairs l.count l.initial.draws
