use Rattle.kept_call.proofs.restarting.restart.Given as goal

-- the host is of this blank, and trades the session of the blocks
abbrev pub ghosts-go_on : goal.ghosts-go_on
ghosts-go_on g a = record { session = a.session; table = a.blank.table }
