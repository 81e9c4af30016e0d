use Rattle.session_script.specs.Stage.{session_at}
use Rattle.session_script.proofs.RoundLaws.{header_or_none}
use Rattle.watched_run.proofs.watching.watch_session.Given as goal

-- the host is of this blank, and trades the session of the text
abbrev pub ghosts-watch_at : goal.ghosts-watch_at
ghosts-watch_at g a = record { session = header_or_none (session_at a.reading.now.intake.stage); table = a.blank.table }
