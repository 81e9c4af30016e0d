-- Each round is watched as it was read.
use Rattle.std.proofs.Common.{◌≡◌, ◌++◌, ◌∙◌, List, [], None, Some, Result, rules, sym, subst}
use Rattle.fx_amounts.specs.declared.memory.Memory.{Memory}
use Rattle.fx_rules.specs.declared.command.Sent.{Sent}
use Rattle.session_script.specs.Stage.{sent_at}
use Rattle.session_script.specs.declared.ends.TextEnd.{TextEnd}
use Rattle.watched_run.specs.inside.Watching.{IsWatching, RoundsWatched}
use Rattle.session_script.proofs.RoundLaws.{less_to_read, promptly, same_session, taken_within}
use Rattle.watched_run.proofs.Rounds.{can_serve, few_served, few-watched, for_memory}
use Rattle.watched_run.proofs.Showing.{of_feed-then}
use Rattle.watched_run.proofs.watching.watch_rounds.Goals as goal

pub watch_round-requires-clause-session : goal.watch_round-requires-clause-session
watch_round-requires-clause-session g c κs within =
    let so_far = c.loop-reading.invariant.watching c.requires.watching.0 c.requires.watching.1 in
    same_session c.script-script.result.now.session so_far.has_read c.script-script.ensures.session

pub watch_round-requires-clause-can_serve : goal.watch_round-requires-clause-can_serve
watch_round-requires-clause-can_serve g c κs within =
    let so_far = c.loop-reading.invariant.watching c.requires.watching.0 c.requires.watching.1 in
    can_serve g.N.Naming.session so_far.sent c.deref.result.now c.loop-reading.run.lanes.items so_far.has_read so_far.watching.has_gathered.served (c.deref.ensures.value ∙ sym c.script-script.ensures.sent)

pub watch_round-requires-clause-watching : goal.watch_round-requires-clause-watching
watch_round-requires-clause-watching g c κs within =
    let so_far = c.loop-reading.invariant.watching c.requires.watching.0 c.requires.watching.1 in (so_far.sent, so_far.watching)

pub watch_round-requires-clause-few : goal.watch_round-requires-clause-few
watch_round-requires-clause-few g c κs within =
    let so_far = c.loop-reading.invariant.watching c.requires.watching.0 c.requires.watching.1 in
    few-watched g.N.Naming.session so_far.sent c.loop-reading.run.gathered c.loop-reading.run.lanes.items c.loop-reading.feed c.loop-reading.screen so_far.watching (few_served so_far.sent (sent_at c.loop-reading.reading.intake.stage) so_far.has_read)

pub returns-in_err-watch_round-clause-watched : goal.returns-in_err-watch_round-clause-watched
returns-in_err-watch_round-clause-watched g c = λ before first.
    for_memory c.from_residual.result _ (λ (r : Result TextEnd Memory). RoundsWatched g.S.Source.left g.S.Source.faults before c.loop-reading.source c.loop-reading.reading g.N.Naming.session c.watch_round.new.run.gathered c.watch_round.new.run.lanes.items c.watch_round.new.feed c.watch_round.new.screen r) c.from_residual.ensures.1
    (λ memory. promptly (c.loop-reading.invariant.watching before first).has_read)

pub returns-in-Some-clause-watched : goal.returns-in-Some-clause-watched
returns-in-Some-clause-watched g c = λ before first.
    let ended : c.loop-reading.reading.end ≡ Some c.in-Some.end = search rules in
    let so_far = c.loop-reading.invariant.watching before first in
    record {
      ended = ended;
      sent = so_far.sent ++ sent_at c.loop-reading.reading.intake.stage;
      watching = subst (λ (more : List Sent). IsWatching g.N.Naming.session (so_far.sent ++ more) c.watch_round.new.run.gathered c.watch_round.new.run.lanes.items c.watch_round.new.feed c.watch_round.new.screen) (c.deref.ensures.value ∙ sym c.script-script.ensures.sent)
          (c.in_ok-watch_round.ensures.watching so_far.sent so_far.watching);
      has_read = so_far.has_read;
    }

pub loop-reading-preserved : goal.loop-reading-preserved
loop-reading-preserved g c = record {
  tape = c.watch_round.ensures.feed.0 ∙ c.loop-reading.invariant.tape;
  readers = c.watch_round.ensures.feed.1 ∙ c.loop-reading.invariant.readers;
  reader = of_feed-then c.args.screen.now.reader c.loop-reading.screen.reader c.watch_round.new.screen.reader c.loop-reading.invariant.reader c.watch_round.ensures.reader;
  watching = λ before first.
      let so_far = c.loop-reading.invariant.watching before first in
      record {
        sent = so_far.sent ++ sent_at c.loop-reading.reading.intake.stage;
        watching = subst (λ (more : List Sent). IsWatching g.N.Naming.session (so_far.sent ++ more) c.watch_round.new.run.gathered c.watch_round.new.run.lanes.items c.watch_round.new.feed c.watch_round.new.screen) (c.deref.ensures.value ∙ sym c.script-script.ensures.sent)
            (c.in_ok-watch_round.ensures.watching so_far.sent so_far.watching);
        has_read = c.in_ok-read_round.ensures.read [] before g.N.Naming.session (so_far.sent ++ sent_at c.loop-reading.reading.intake.stage) so_far.has_read;
      };
}

pub loop-reading-smaller : goal.loop-reading-smaller
loop-reading-smaller g c =
    let goes_on : c.loop-reading.reading.end ≡ None = search rules in
    let so_far = c.loop-reading.invariant.watching c.requires.watching.0 c.requires.watching.1 in
    let has = c.in_ok-read_round.ensures.read [] c.requires.watching.0 g.N.Naming.session (so_far.sent ++ sent_at c.loop-reading.reading.intake.stage) so_far.has_read in
    less_to_read c.loop-reading.reading.end c.read_round.new.self.end c.loop-reading.reading.intake.taken c.read_round.new.self.intake.taken goes_on c.in_ok-read_round.ensures.further (taken_within has)

pub returns-in_err-read_round-clause-watched : goal.returns-in_err-read_round-clause-watched
returns-in_err-read_round-clause-watched g c = λ before first.
    let so_far = c.loop-reading.invariant.watching before first in
    for_memory c.from_residual-in_err-read_round.result _ (λ (r : Result TextEnd Memory). RoundsWatched g.S.Source.left g.S.Source.faults before c.read_round.new.source c.read_round.new.self g.N.Naming.session c.watch_round.new.run.gathered c.watch_round.new.run.lanes.items c.watch_round.new.feed c.watch_round.new.screen r) c.from_residual-in_err-read_round.ensures.1
    (λ memory. (c.in_err-read_round.ensures.memory [] before g.N.Naming.session (so_far.sent ++ sent_at c.loop-reading.reading.intake.stage) so_far.has_read).0)
