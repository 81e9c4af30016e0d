use Rattle.host_trials.proofs.desks.at_one_lock.Given as goal

-- the host is of this blank, and trades this session
abbrev pub ghosts-day_at_one_lock : goal.ghosts-day_at_one_lock
ghosts-day_at_one_lock g a = record { session = a.session.now; table = a.blank.table }
