use Rattle.book_trials.proofs.cursors.searches_come_to_every_order_that_is_sought.Given as goal

abbrev pub ghosts-find_alike : goal.ghosts-find_alike
ghosts-find_alike g a = record { name = a.blank.name; parts = a.blank.parts }
