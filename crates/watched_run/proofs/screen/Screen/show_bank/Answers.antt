-- Each turn looks at the book of one pair behind those so far.
use Rattle.std.proofs.Common.{◌+◌, ◌++◌, ◌∷◌, [], ◌∙◌, ap, map, sym}
use Rattle.fx_rules.specs.Lists.{below}
use Rattle.fx_rules.proofs.Below.{map-more}
use Rattle.watched_run.specs.Looks.{due_at}
use Rattle.watched_run.proofs.Showing.{of_feed-then, whole-then, sees-then}
use Rattle.watched_run.proofs.screen.Screen.show_bank.Goals as goal

pub loop-place-preserved : goal.loop-place-preserved
loop-place-preserved g c =
    let i = c.loop-place.invariant in
    let s = c.in_ok-show_behind.ensures in
    record {
      feed = of_feed-then c.args.self.now.reader c.loop-place.self.reader c.show_behind.new.self.reader i.feed s.feed;
      rounds = s.rounds ∙ i.rounds;
      shows = whole-then c.args.session.now c.args.all (map (λ pair. due_at c.args.all pair c.args.bank) (below c.loop-place.place)) (due_at c.args.all c.at.result c.args.bank ∷ []) (map (λ pair. due_at c.args.all pair c.args.bank) (below (c.loop-place.place + 1)))
          c.args.self.now c.loop-place.self c.show_behind.new.self
          (map-more (λ pair. due_at c.args.all pair c.args.bank) c.loop-place.place ∙ ap (λ pair. map (λ p. due_at c.args.all p c.args.bank) (below c.loop-place.place) ++ due_at c.args.all pair c.args.bank ∷ []) (sym c.at.ensures.value))
          i.shows s.shows;
      sees = λ some. sees-then c.args.session.now c.args.all (map (λ pair. due_at c.args.all pair c.args.bank) (below c.loop-place.place)) c.args.self.now c.loop-place.self c.show_behind.new.self i.shows s.seen;
    }
