use Rattle.std.proofs.Common.{◌∙◌, ap}
use Rattle.fx_chronicle.specs.Views.{told}
use Rattle.fx_chronicle.proofs.Moves.{tells_as, learns_as}
use Rattle.fx_chronicle.proofs.steps.learn.Goals as goal

pub join_seat-requires : goal.join_seat-requires
join_seat-requires g c = (c.requires.table, c.requires.other_table, c.requires.other_bare, c.requires.word, tells_as g.E.Keyed.touches _ _ _ _ c.requires.front c.requires.slip)

pub load-requires : goal.load-requires
load-requires g c =
    let joined = c.join_seat.ensures in
    let seat = c.args.seat.now in
    (joined.0 ∙ c.requires.table, c.requires.word, learns_as g.E.Keyed.touches _ _ _ seat.me.0 c.args.other.me.0 (joined.2 ∙ ap (λ carried. (told seat.me.0 c.args.other.me.0, carried)) c.requires.bare))
