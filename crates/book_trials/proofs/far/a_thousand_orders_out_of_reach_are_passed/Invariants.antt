use Rattle.book_trials.proofs.far.a_thousand_orders_out_of_reach_are_passed.Given as goal

abbrev pub ghosts-bought_counted : goal.ghosts-bought_counted
ghosts-bought_counted g a = record { name = a.blank.name; parts = a.blank.parts }
