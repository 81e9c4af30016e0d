use Rattle.std.proofs.Common.{◌≡◌, map}
use Rattle.fx_rules.specs.Lists.{below}
use Rattle.watched_run.specs.Looks.{due_at}
use Rattle.watched_run.specs.inside.Watching.{IsOfFeed, ShowsMore}
use Rattle.watched_run.proofs.screen.Screen.show_pair.Given as goal

-- the banks so far are looked at
abbrev pub invariant-loop-place : goal.invariant-loop-place
invariant-loop-place g l = record {
  feed : IsOfFeed l.fn.self.reader l.self.reader;
  rounds : l.self.rounds ≡ l.fn.self.rounds;
  shows : ShowsMore l.session (λ known. map (due_at known l.fn.pair) (below l.place)) l.fn.self l.self;
}
