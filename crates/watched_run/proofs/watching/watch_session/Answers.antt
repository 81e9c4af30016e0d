-- The session is that of the text.
use Rattle.std.proofs.Common.{subst, sym}
use Rattle.fx_rules.specs.Session.{Header}
use Rattle.watched_run.specs.Watched.{WatchedText}
use Rattle.session_script.specs.Stage.{session_at}
use Rattle.session_script.proofs.RoundLaws.{header_same, read_here}
use Rattle.watched_run.proofs.watching.watch_session.Goals as goal

pub returns : goal.returns
returns g c = record {
  watched = λ before h has.
      subst (λ (s : Header). WatchedText g.S.Source.left g.S.Source.faults before c.watch_at.new.source c.watch_at.new.reading s c.watch_at.result) (sym (header_same (session_at c.args.reading.now.intake.stage) h has.session)) (c.watch_at.ensures.watched before (read_here has));
}
