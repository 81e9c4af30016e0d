use Rattle.gateway_workers.proofs.whole.run_on_threads.Given as goal

-- the host is of this blank, and trades this session
abbrev pub ghosts-run_at : goal.ghosts-run_at
ghosts-run_at g a = record { session = a.session.now; table = a.blank.table }
