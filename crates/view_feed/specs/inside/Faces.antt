-- What the parts of a feed and of a reader have to do with each other.
use Rattle.std.specs.Prelude.{◌≡◌, ◌++◌, List}
use mathlib.Core.List.{IsPrefix}
use Rattle.fx_rules.specs.declared.outcome.Entry.{Entry}
use Rattle.fx_rules.specs.History.{IsLegal}
use Rattle.view_feed.specs.declared.rule.View.{View}
use Rattle.view_feed.specs.Feeds.{Stretch}
use Rattle.view_feed.specs.inside.Shown.{Exhibit, IsOf}
use Rattle.view_feed.specs.inside.Rule.{knower}

-- What is shown is of the feed's tape, and the writer's seat knows it. All that was published and appended is legal; the tape has it
-- but for the entries at its end that still wait.
pub record IsFeed (shown : Exhibit) (seat : View) (pending : List Entry) (tape : Stretch) (waiting : List Entry) : Type 0 where
  pub shows : IsOf shown.session tape.tape shown
  pub knows : seat ≡ knower shown.session tape.tape
  pub legal : IsLegal shown.session (shown.entries ++ pending)
  pub told : tape.entries ++ waiting ≡ shown.entries ++ pending

-- the reader's seat knows the tape, and what was seen is the front of what is known
pub record IsReader (seat : View) (seen known : Stretch) : Type 0 where
  pub knows : seat ≡ knower seat.session known.tape
  pub same : seen.tape ≡ known.tape
  pub begins : IsPrefix seen.entries known.entries
