-- Each turn looks at one bank's books behind those so far.
use Rattle.std.proofs.Common.{◌+◌, ◌++◌, ◌∙◌, ap, flat_map, sym}
use Rattle.fx_rules.specs.Lists.{below}
use Rattle.fx_rules.proofs.Below.{flat_map-more}
use Rattle.watched_run.specs.Looks.{bank_due}
use Rattle.watched_run.proofs.Showing.{of_feed-then, whole-then, sees-then}
use Rattle.watched_run.proofs.screen.Screen.show_all.Goals as goal

pub loop-place-preserved : goal.loop-place-preserved
loop-place-preserved g c =
    let h = c.args.session.now in
    let i = c.loop-place.invariant in
    let s = c.in_ok-show_bank.ensures in
    record {
      feed = of_feed-then c.args.self.now.reader c.loop-place.self.reader c.show_bank.new.self.reader i.feed s.feed;
      rounds = s.rounds ∙ i.rounds;
      shows = whole-then h c.args.all (flat_map (bank_due h c.args.all) (below c.loop-place.place)) (bank_due h c.args.all c.at.result) (flat_map (bank_due h c.args.all) (below (c.loop-place.place + 1)))
          c.args.self.now c.loop-place.self c.show_bank.new.self
          (flat_map-more (bank_due h c.args.all) c.loop-place.place ∙ ap (λ bank. flat_map (bank_due h c.args.all) (below c.loop-place.place) ++ bank_due h c.args.all bank) (sym c.at.ensures.value))
          i.shows s.shows;
      sees = λ some. sees-then h c.args.all (flat_map (bank_due h c.args.all) (below c.loop-place.place)) c.args.self.now c.loop-place.self c.show_bank.new.self i.shows s.seen;
    }
