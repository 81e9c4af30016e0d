-- Each turn looks at one bank's book behind those so far.
use Rattle.std.proofs.Common.{◌++◌, ◌∷◌, [], ◌∙◌, ◌+◌, ap, map, sym}
use Rattle.fx_rules.specs.Lists.{below}
use Rattle.fx_rules.proofs.Below.{map-more}
use Rattle.watched_run.specs.Looks.{due_at}
use Rattle.watched_run.proofs.Showing.{of_feed-then, more-seen, more-then}
use Rattle.watched_run.proofs.screen.Screen.show_pair.Goals as goal

pub loop-place-preserved : goal.loop-place-preserved
loop-place-preserved g c =
    let i = c.loop-place.invariant in
    let feed = c.look.ensures.feed in
    let now = record c.loop-place.self { reader = c.look.new.reader; lines = c.push_look.new.lines } in
    record {
      feed = of_feed-then c.args.self.now.reader c.loop-place.self.reader c.look.new.reader i.feed feed;
      rounds = i.rounds;
      shows = more-then c.args.session.now (λ known. map (due_at known c.args.pair) (below c.loop-place.place)) (λ known. due_at known c.args.pair c.at-bank.result ∷ []) (λ known. map (due_at known c.args.pair) (below (c.loop-place.place + 1)))
          c.args.self.now c.loop-place.self now
          (λ known. map-more (due_at known c.args.pair) c.loop-place.place ∙ ap (λ bank. map (due_at known c.args.pair) (below c.loop-place.place) ++ due_at known c.args.pair bank ∷ []) (sym c.at-bank.ensures.value))
          i.shows
          (more-seen c.args.session.now c.at-bank.result c.args.pair c.in_ok-count.count c.in_ok-count.book c.loop-place.self now c.in_ok-count.ensures.seen
          (feed.session ∙ i.feed.session ∙ sym c.requires.session) c.in_ok-push_look.ensures.line);
    }
