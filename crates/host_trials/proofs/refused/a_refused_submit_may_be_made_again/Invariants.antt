use Rattle.host_trials.proofs.refused.a_refused_submit_may_be_made_again.Given as goal

-- the host is of this blank, and trades this session
abbrev pub ghosts-refused_history : goal.ghosts-refused_history
ghosts-refused_history g a = record { session = a.session.now; table = a.blank.table }
