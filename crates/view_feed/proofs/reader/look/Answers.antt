use Rattle.std.proofs.Common.{ap}
use Rattle.view_feed.specs.declared.rule.View.{View}
use Rattle.view_feed.proofs.Seeing.{looks}
use Rattle.view_feed.proofs.reader.look.Goals as goal

pub enter_as-requires : goal.enter_as-requires
enter_as-requires c x = looks _ _ (ap (λ (v : View). v.known) c.requires.knows) x
