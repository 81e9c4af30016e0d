use Rattle.host_trials.proofs.rounds.is_gathered_behind.Given as goal

-- the host is of this blank, and trades this session
abbrev pub ghosts-round_behind : goal.ghosts-round_behind
ghosts-round_behind g a = record { session = a.session.now; table = a.blank.table }
