-- Small sessions, worked by hand: of seed 1, two banks, one pair and two commands; and of seed 72, three banks, two pairs
-- and four commands.
use Rattle.std.proofs.Common.{◌≡◌, [], ◌∷◌, refl, codes}
use Rattle.fx_amounts.specs.declared.side.Side.TheVariants.{Buy, Sell}
use Rattle.fx_rules.specs.declared.command.Command.TheVariants.{Order, Line, Book}
use Rattle.fx_rules.specs.declared.command.Life.TheVariants.{Day, Ioc, Fok}
use Rattle.made_session.specs.Draws.{seeded, moved}
use Rattle.made_session.specs.Session.{made_header, after_limits}
use Rattle.made_session.specs.Commands.{made_commands}

-- The state begins with 2. The two limits take a draw each.
begins : seeded 1 ≡ 2
begins = refl

moves : moved 2 ≡ 96542
moves = refl

limits : (made_header 1 2 1).limits ≡ 0 ∷ 3000 ∷ 9000 ∷ 0 ∷ []
limits = refl

goes_on : after_limits 2 (seeded 1) ≡ 365211588
goes_on = refl

names : (made_header 1 2 1).banks ≡ codes "B01" ∷ codes "B02" ∷ []
names = refl

pairs : (made_header 1 2 1).pairs ≡ (record { base = codes "AAA"; quote = codes "ZZZ"; decimals = 2; lot = 1000; weight = 10 }) ∷ []
pairs = refl

-- B02 SELL AAA/ZZZ 99.67 16 DAY, and B01 BUY AAA/ZZZ 100.25 8 DAY. The pair is drawn too, though there is only one.
commands : made_commands 1 2 1 2
    ≡ (record { bank = 1; command = Order Sell 0 9967 16 Day }) ∷ (record { bank = 0; command = Order Buy 0 10025 8 Day }) ∷ []
commands = refl

-- One of each kind that is no order of the day.
others : made_commands 72 3 2 4
    ≡ (record { bank = 1; command = Line 0 14000 }) ∷ (record { bank = 1; command = Book 1 })
    ∷ (record { bank = 1; command = Order Buy 0 10042 19 Ioc }) ∷ (record { bank = 0; command = Order Sell 1 10010 6 Fok }) ∷ []
others = refl

their_limits : (made_header 72 3 2).limits ≡ 0 ∷ 4000 ∷ 1000 ∷ 18000 ∷ 0 ∷ 7000 ∷ 4000 ∷ 9000 ∷ 0 ∷ []
their_limits = refl
