use Rattle.session_script.specs.Stage.{session_at}
use Rattle.session_script.proofs.RoundLaws.{header_or_none}
use Rattle.program_calls.proofs.running.serve_text.Given as goal

-- the host is of this blank, and trades the session of the text
abbrev pub ghosts-serve_at : goal.ghosts-serve_at
ghosts-serve_at g a = record { session = header_or_none (session_at a.reading.now.intake.stage); table = a.blank.table }
