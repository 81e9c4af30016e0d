use Rattle.std.proofs.Common.{◌≡◌}
use Rattle.watched_run.specs.inside.Watching.{IsOfFeed, IsWatchingText}
use Rattle.session_script.proofs.RoundLaws.{to_read}
use Rattle.watched_run.proofs.watching.watch_rounds.Given as goal

-- what was read in former rounds was watched
abbrev pub invariant-loop-reading : goal.invariant-loop-reading
invariant-loop-reading g l = record {
  tape : l.feed.tape ≡ l.fn.feed.tape;
  readers : l.feed.readers ≡ l.fn.feed.readers;
  reader : IsOfFeed l.fn.screen.reader l.screen.reader;
  watching : (before : _) → IsWatchingText g.S.Source.left g.S.Source.faults before l.fn.source l.fn.reading g.N.Naming.session l.fn.run.gathered l.fn.run.lanes.items l.fn.feed l.fn.screen
      → IsWatchingText g.S.Source.left g.S.Source.faults before l.source l.reading g.N.Naming.session l.run.gathered l.run.lanes.items l.feed l.screen;
}

abbrev pub decreases-loop-reading : goal.decreases-loop-reading
decreases-loop-reading g l = to_read l.reading.end l.reading.intake.taken
