use Rattle.std.proofs.Common.{sym, subst}
use Rattle.view_feed.specs.inside.Shown.{IsOf}
use Rattle.view_feed.proofs.Seeing.{shows}
use Rattle.view_feed.proofs.feed.show.Goals as goal

pub publish_as-copies-requires : goal.publish_as-copies-requires
publish_as-copies-requires g c next is =
    let now = c.args.copies.desk.shown.value in
    shows _ _ now next (subst (IsOf now.session now.tape) (sym is) c.requires.of)
