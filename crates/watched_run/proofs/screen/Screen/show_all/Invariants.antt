use Rattle.std.proofs.Common.{◌≡◌, ◌<◌}
use Rattle.std.specs.List.{flat_map}
use Rattle.fx_rules.specs.Lists.{below}
use Rattle.watched_run.specs.Looks.{bank_due}
use Rattle.watched_run.specs.inside.Watching.{IsOfFeed, ShowsWhole, SeesWhole}
use Rattle.watched_run.proofs.screen.Screen.show_all.Given as goal

-- the banks so far are looked at
abbrev pub invariant-loop-place : goal.invariant-loop-place
invariant-loop-place g l = record {
  feed : IsOfFeed l.fn.self.reader l.self.reader;
  rounds : l.self.rounds ≡ l.fn.self.rounds;
  shows : ShowsWhole l.session l.fn.all (flat_map (bank_due l.session l.fn.all) (below l.place)) l.fn.self l.self;
  sees : 0 < l.place → SeesWhole l.fn.all l.fn.self l.self;
}
