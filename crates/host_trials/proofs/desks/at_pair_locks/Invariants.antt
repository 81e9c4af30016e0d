use Rattle.host_trials.proofs.desks.at_pair_locks.Given as goal

-- the host is of this blank, and trades this session
abbrev pub ghosts-day_at_pair_locks : goal.ghosts-day_at_pair_locks
ghosts-day_at_pair_locks g a = record { session = a.session.now; table = a.blank.table }
