use Rattle.fx_rules.proofs.Truth.{books-truthful}
use Rattle.fx_rules.proofs.laws.local_books_are_truthful.Goals as goal

pub returns : goal.returns
returns c = record { truthful = books-truthful }
