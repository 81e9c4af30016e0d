-- The session opens, and is watched.
use Rattle.std.proofs.Common.{[], Result, refl}
use Rattle.fx_amounts.specs.declared.memory.Memory.{Memory}
use Rattle.watched_run.specs.Watched.{WatchedText}
use Rattle.watched_run.specs.declared.watching.Watched.{Watched}
use Rattle.session_script.proofs.RoundLaws.{same_session}
use Rattle.watched_run.proofs.Rounds.{for_memory, opens-watched}
use Rattle.watched_run.proofs.watching.watch_at.Goals as goal

pub watch_text-watched-requires-clause-watching : goal.watch_text-watched-requires-clause-watching
watch_text-watched-requires-clause-watching g c κs within =
    let has = c.requires.begun.1 in (
      c.requires.begun.0,
      record {
        sent = [];
        watching = opens-watched g.N.Naming.session c.script-2.result.now.session c.in_ok-run.run'.gathered c.in_ok-run.run'.lanes.items c.in_ok-feed.feed c.in_ok-feed.readers.items c.pop.new.self.items c.pop.result (record { reader = c.unwrap.result; lines = c.new.result; rounds = 0 })
            (same_session c.script-2.result.now.session has c.script-2.ensures.session) c.in_ok-run.ensures.opened c.in_ok-run.ensures.gathered c.in_ok-feed.ensures.feed c.in_ok-feed.ensures.readers c.pop.ensures.items c.unwrap.ensures c.new.ensures.items refl;
        has_read = has;
      },
    )

pub returns-in_err-end : goal.returns-in_err-end
returns-in_err-end g c = record {
  watched = λ before has.
      for_memory c.from_residual-in_err-end.result _ (λ (r : Result Watched Memory). WatchedText g.S.Source.left g.S.Source.faults before c.watch_text-watched.new.source c.watch_text-watched.new.reading g.N.Naming.session r) c.from_residual-in_err-end.ensures.1
      (λ memory. c.in_err-end.ensures.watched before (record {
        sent = [];
        watching = opens-watched g.N.Naming.session c.script-2.result.now.session c.in_ok-run.run'.gathered c.in_ok-run.run'.lanes.items c.in_ok-feed.feed c.in_ok-feed.readers.items c.pop.new.self.items c.pop.result (record { reader = c.unwrap.result; lines = c.new.result; rounds = 0 })
            (same_session c.script-2.result.now.session has c.script-2.ensures.session) c.in_ok-run.ensures.opened c.in_ok-run.ensures.gathered c.in_ok-feed.ensures.feed c.in_ok-feed.ensures.readers c.pop.ensures.items c.unwrap.ensures c.new.ensures.items refl;
        has_read = has;
      }));
}

pub returns : goal.returns
returns g c = record {
  watched = λ before has.
      c.in_ok-end.ensures.watched before (record {
        sent = [];
        watching = opens-watched g.N.Naming.session c.script-2.result.now.session c.in_ok-run.run'.gathered c.in_ok-run.run'.lanes.items c.in_ok-feed.feed c.in_ok-feed.readers.items c.pop.new.self.items c.pop.result (record { reader = c.unwrap.result; lines = c.new.result; rounds = 0 })
            (same_session c.script-2.result.now.session has c.script-2.ensures.session) c.in_ok-run.ensures.opened c.in_ok-run.ensures.gathered c.in_ok-feed.ensures.feed c.in_ok-feed.ensures.readers c.pop.ensures.items c.unwrap.ensures c.new.ensures.items refl;
        has_read = has;
      });
}
