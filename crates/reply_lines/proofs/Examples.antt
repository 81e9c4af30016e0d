-- The desks of a small session of either version, in their bytes.
use Rattle.std.proofs.Common.{◌≡◌, ℕ, [], ◌∷◌, codes, refl}
use Rattle.fx_amounts.specs.Numeral.{numeral}
use Rattle.fx_rules.specs.declared.command.Command.TheVariants.{Settle, Total}
use Rattle.fx_rules.specs.declared.outcome.Entry.{Entry}
use Rattle.fx_rules.specs.declared.outcome.Outcome.TheVariants.{Settled, TotalSet}
use Rattle.fx_rules.specs.Session.{Header, host}
use Rattle.reply_lines.specs.Output.{desks_text}
use Rattle.reply_lines.specs.Telling.{told_text}

abbrev session : ℕ → Header
session version = record { version = version; banks = codes "ALFA" ∷ codes "BETA" ∷ []; pairs = []; limits = []; totals = [] }

-- BETA sets its total, and the operator gives credit back
abbrev total_set : Entry
total_set = record { bank = 1; number = 1; command = Total 400; outcome = TotalSet 400 [] }

abbrev given_back : Entry
given_back = record { bank = host; number = 1; command = Settle 1 0 60; outcome = Settled 50 [] }

-- in version 2 the operator's desk stands last, also without a notice
of_banks : desks_text (session 1) [] ≡ codes "DESK ALFA 0\nDESK BETA 0\n"
unfolding desks_text numeral
of_banks = refl

without_notice : desks_text (session 2) (total_set ∷ []) ≡ codes "DESK ALFA 0\nDESK BETA 1\n1 REPLY 1 TOTAL 400\nDESK HOST 0\n"
unfolding desks_text numeral
without_notice = refl

with_notice : desks_text (session 2) (given_back ∷ []) ≡ codes "DESK ALFA 0\nDESK BETA 0\nDESK HOST 1\n1 REPLY 1 SETTLED 50\n"
unfolding desks_text numeral
with_notice = refl

-- told one by one, each notice stands behind its sender's name
told : told_text (session 2) [] (total_set ∷ given_back ∷ []) ≡ codes "BETA 1 REPLY 1 TOTAL 400\nHOST 1 REPLY 1 SETTLED 50\n"
unfolding numeral
told = refl
