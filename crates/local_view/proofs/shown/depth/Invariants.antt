use Rattle.local_view.proofs.shown.depth.Given as goal

abbrev pub ghosts-depth_counted : goal.ghosts-depth_counted
ghosts-depth_counted a = record { name = a.blank.name; parts = a.blank.parts }
