-- Which keys a few entries touch, worked by hand.
use Rattle.std.proofs.Common.{◌≡◌, true, false, refl}
use Rattle.fx_rules.specs.declared.command.Command.{Command}
use Rattle.fx_rules.specs.declared.command.Command.TheVariants.{Cancel, Line, Show}
use Rattle.fx_rules.specs.declared.outcome.Entry.{Entry}
use Rattle.fx_rules.specs.declared.outcome.Outcome.TheVariants.{Killed}
use Rattle.fx_rules.specs.Keyed.{touches_key}

-- bank 1 sends it; what comes of it does not matter here
abbrev sent : Command → Entry
sent command = record { bank = 1; number = 1; command = command; outcome = Killed }

-- a cancel in pair 2 touches its sender and that pair, and neither another bank nor another pair
cancel_sender : touches_key (sent (Cancel 2 5)) 1 ≡ true
cancel_sender = refl

cancel_pair : touches_key (sent (Cancel 2 5)) 67 ≡ true
cancel_pair = refl

cancel_bank : touches_key (sent (Cancel 2 5)) 2 ≡ false
cancel_bank = refl

cancel_other : touches_key (sent (Cancel 2 5)) 65 ≡ false
cancel_other = refl

-- a line on bank 0 touches its sender and every pair, and neither bank 0 nor the operator
line_sender : touches_key (sent (Line 0 1000)) 1 ≡ true
line_sender = refl

line_first : touches_key (sent (Line 0 1000)) 65 ≡ true
line_first = refl

line_last : touches_key (sent (Line 0 1000)) 96 ≡ true
line_last = refl

line_bank : touches_key (sent (Line 0 1000)) 0 ≡ false
line_bank = refl

line_operator : touches_key (sent (Line 0 1000)) 64 ≡ false
line_operator = refl

-- a show touches its sender alone
show_sender : touches_key (sent (Show 0)) 1 ≡ true
show_sender = refl

show_pair : touches_key (sent (Show 0)) 65 ≡ false
show_pair = refl
