use Rattle.std.proofs.Common.{◌≡◌, ◌<◌, map}
use Rattle.fx_rules.specs.Lists.{below}
use Rattle.watched_run.specs.Looks.{due_at}
use Rattle.watched_run.specs.inside.Watching.{IsOfFeed, ShowsWhole, SeesWhole}
use Rattle.watched_run.proofs.screen.Screen.show_bank.Given as goal

-- the pairs so far are looked at
abbrev pub invariant-loop-place : goal.invariant-loop-place
invariant-loop-place g l = record {
  feed : IsOfFeed l.fn.self.reader l.self.reader;
  rounds : l.self.rounds ≡ l.fn.self.rounds;
  shows : ShowsWhole l.session l.fn.all (map (λ pair. due_at l.fn.all pair l.fn.bank) (below l.place)) l.fn.self l.self;
  sees : 0 < l.place → SeesWhole l.fn.all l.fn.self l.self;
}
