-- The commands that are drawn for a session.
use Rattle.std.specs.Prelude.{ℕ, zero, suc, ◌+◌, ◌-◌, ◌*◌, ◌%◌, ◌==◌, nat_lt, if◌then◌else◌, List, [], ◌∷◌}
use Rattle.fx_amounts.specs.declared.side.Side.{Side}
use Rattle.fx_amounts.specs.declared.side.Side.TheVariants.{Buy, Sell}
use Rattle.fx_rules.specs.declared.command.Command.{Command}
use Rattle.fx_rules.specs.declared.command.Command.TheVariants.{Order, Line, Book}
use Rattle.fx_rules.specs.declared.command.Life.{Life}
use Rattle.fx_rules.specs.declared.command.Life.TheVariants.{Day, Ioc, Fok}
use Rattle.fx_rules.specs.declared.command.Sent.{Sent}
use Rattle.made_session.specs.Draws.{seeded, after_draws, draw}
use Rattle.made_session.specs.Session.{after_limits}

-- an order: its pair, its ticks of 9950 to 10050 and its lots of 1 to 20 are three draws
abbrev pub drawn_order : ℕ → Side → Life → ℕ → Command
drawn_order pairs side life x = Order side (draw 1 pairs x) (9950 + draw 2 101 x) (1 + draw 3 20 x) life

-- the bank that a number stands for among those that are not the sender
abbrev pub other_than : ℕ → ℕ → ℕ
other_than sender n = if nat_lt n sender then n else n + 1

-- a credit change: the other bank and a limit of 0 to 20000 are two draws
abbrev pub drawn_line : ℕ → ℕ → ℕ → Command
drawn_line banks sender x = Line (other_than sender (draw 1 (banks - 1) x)) (1000 * draw 2 21 x)

-- the command of a kind, 0 to 15
abbrev pub drawn_command : ℕ → ℕ → ℕ → ℕ → ℕ → Command
drawn_command banks pairs sender kind x =
    if nat_lt kind 12 then drawn_order pairs (if kind % 2 == 0 then Buy else Sell) Day x
    else if kind == 12 then drawn_order pairs Buy Ioc x
    else if kind == 13 then drawn_order pairs Sell Fok x
    else if kind == 14 then drawn_line banks sender x
    else Book (draw 1 pairs x)

-- how many draws a command of a kind takes
abbrev pub draws_of : ℕ → ℕ
draws_of kind = if nat_lt kind 14 then 3 else if kind == 14 then 2 else 1

-- A command with its sender. The sender is a draw, the kind is the second, and the command takes those behind them.
abbrev pub drawn_sent : ℕ → ℕ → ℕ → Sent
drawn_sent banks pairs x = record {
  bank = draw 1 banks x;
  command = drawn_command banks pairs (draw 1 banks x) (draw 2 16 x) (after_draws 2 x);
}

-- the state after it
abbrev pub after_sent : ℕ → ℕ
after_sent x = after_draws (draws_of (draw 2 16 x)) (after_draws 2 x)

-- so many commands, one after another
abbrev pub drawn_all : ℕ → ℕ → ℕ → ℕ → List Sent
drawn_all banks pairs zero x = []
drawn_all banks pairs (suc count) x = drawn_sent banks pairs x ∷ drawn_all banks pairs count (after_sent x)

-- the commands of the session that a seed makes: they are drawn once its limits are
abbrev pub made_commands : ℕ → ℕ → ℕ → ℕ → List Sent
made_commands seed banks pairs count = drawn_all banks pairs count (after_limits banks (seeded seed))
