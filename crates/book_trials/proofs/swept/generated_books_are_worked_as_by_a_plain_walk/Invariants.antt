use Rattle.book_trials.proofs.swept.generated_books_are_worked_as_by_a_plain_walk.Given as goal

abbrev pub ghosts-trade_alike : goal.ghosts-trade_alike
ghosts-trade_alike g a = record { name = a.blank.name; parts = a.blank.parts }
