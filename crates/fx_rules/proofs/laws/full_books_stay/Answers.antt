use Rattle.fx_rules.proofs.Levels.{first_levels-stay}
use Rattle.fx_rules.proofs.laws.full_books_stay.Goals as goal

pub returns : goal.returns
returns c = record { stay = first_levels-stay 10 }
