-- The round is served, gathered, published and looked at.
use Rattle.std.proofs.Common.{◌≡◌, ◌++◌, ◌%◌, ◌<◌, List, length, rules, sym, subst}
use Rattle.fx_rules.specs.declared.outcome.Entry.{Entry}
use Rattle.fx_rules.specs.Session.{Header, pair_count}
use Rattle.gateway_workers.specs.Gathering.{HaveGatheredAll}
use Rattle.view_feed.specs.Feeds.{Stretch}
use Rattle.watched_run.specs.Looks.{pair_due}
use Rattle.watched_run.specs.inside.Watching.{ShowsMore}
use Rattle.watched_run.proofs.Rounds.{legal-here, watches-note, watches-none, some_of}
use Rattle.watched_run.proofs.round.watch_round.Goals as goal
use Rattle.watched_run.proofs.round.watch_round.Goals.{in-Some, in-None}

pub publish_and_show-requires-clause-legal : goal.publish_and_show-requires-clause-legal
publish_and_show-requires-clause-legal g c κs within =
    let h = g.N.Naming.session in
    let so_far = c.requires.watching.0 in
    let is = c.requires.watching.1 in
    let slice : List Entry = c.as_slice.result.now in
    let gathered = c.in_ok-entries.ensures.gathered (so_far ++ c.args.sent.now) is.entries (c.in_ok-serve_round.ensures.served so_far is.has_gathered.served) (c.serve_round.ensures.gathered is.entries is.has_gathered.gathered) in
    let all : HaveGatheredAll h (so_far ++ c.args.sent.now) (is.entries ++ slice) c.gather.new.self.gathered c.gather.new.self.lanes.items =
    subst (λ (es : List Entry). HaveGatheredAll h (so_far ++ c.args.sent.now) (is.entries ++ es) c.gather.new.self.gathered c.gather.new.self.lanes.items) (sym c.as_slice.ensures.items) gathered in
    legal-here h so_far c.args.run.now.gathered c.args.run.now.lanes.items c.args.feed.now c.args.screen.now is c.args.sent.now slice c.gather.new.self.gathered c.gather.new.self.lanes.items all

pub returns-clause-watching : goal.returns-clause-watching
returns-clause-watching g c = λ so_far is.
    let h = g.N.Naming.session in
    let screen = c.args.screen.now in
    let mid = c.publish_and_show.new.screen in
    let slice : List Entry = c.as_slice.result.now in
    let gathered = c.in_ok-entries.ensures.gathered (so_far ++ c.args.sent.now) is.entries (c.in_ok-serve_round.ensures.served so_far is.has_gathered.served) (c.serve_round.ensures.gathered is.entries is.has_gathered.gathered) in
    let all : HaveGatheredAll h (so_far ++ c.args.sent.now) (is.entries ++ slice) c.gather.new.self.gathered c.gather.new.self.lanes.items =
    subst (λ (es : List Entry). HaveGatheredAll h (so_far ++ c.args.sent.now) (is.entries ++ es) c.gather.new.self.gathered c.gather.new.self.lanes.items) (sym c.as_slice.ensures.items) gathered in
    let shows : ShowsMore h (λ known. pair_due h known (screen.rounds % pair_count h)) screen mid =
    subst (λ (s : Header). ShowsMore s (λ known. pair_due s known (screen.rounds % pair_count s)) screen mid) c.requires.session c.in_ok-told.ensures.shows in
    let some : 0 < length c.args.sent.now = search rules in
    elim c.match-branch-4.branch [
      | in-Some w ↦
          watches-note h so_far c.args.run.now.gathered c.args.run.now.lanes.items c.args.feed.now screen is c.args.sent.now slice c.gather.new.self.gathered c.gather.new.self.lanes.items all c.publish_and_show.new.feed c.in_ok-told.ensures.published
          mid c.match-branch-4.screen some c.publish_and_show.ensures.reader c.publish_and_show.ensures.feed.0 c.in_ok-told.ensures.rounds shows w.learn.new.self w.in-Some.told w.screen-is w.learn.ensures.seen w.learn.ensures.told
          (some_of c.in_ok-told.field-0 w.in-Some.told (λ (note : Stretch). note ≡ record { tape = c.publish_and_show.new.feed.tape; entries = c.publish_and_show.new.feed.published }) w.in-Some.is c.in_ok-told.ensures.told)
      | in-None w ↦
          watches-none h so_far c.args.run.now.gathered c.args.run.now.lanes.items c.args.feed.now screen is c.args.sent.now slice c.gather.new.self.gathered c.gather.new.self.lanes.items all c.publish_and_show.new.feed c.in_ok-told.ensures.published
          mid c.match-branch-4.screen some c.publish_and_show.ensures.reader c.publish_and_show.ensures.feed.0 c.in_ok-told.ensures.rounds shows w.screen-is (c.in_ok-told.ensures.none w.in-None.is)
    ]
