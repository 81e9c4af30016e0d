use Rattle.host_trials.proofs.rounds.gathered.Given as goal

-- the host is of this blank, and trades this session
abbrev pub ghosts-two_rounds : goal.ghosts-two_rounds
ghosts-two_rounds g a = record { session = a.session.now; table = a.blank.table }
