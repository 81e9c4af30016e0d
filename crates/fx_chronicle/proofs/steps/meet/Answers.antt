use Rattle.std.proofs.Common.{◌∙◌, ap}
use Rattle.fx_chronicle.specs.Views.{taken_in}
use Rattle.fx_chronicle.proofs.Moves.{takes_in_as, meets_as, lets_go_as}
use Rattle.fx_chronicle.proofs.steps.meet.Goals as goal

pub join_seat-requires : goal.join_seat-requires
join_seat-requires g c = (c.requires.table, c.requires.other_table, c.requires.other_bare, c.requires.word, takes_in_as g.E.Keyed.touches _ _ _ _ c.requires.writer c.requires.front)

pub load-requires : goal.load-requires
load-requires g c =
    let joined = c.join_seat.ensures in
    let seat = c.args.seat.now in
    (joined.0 ∙ c.requires.table, c.requires.word, meets_as g.E.Keyed.touches _ _ _ seat.me.0 c.args.other.me.0 (joined.2 ∙ ap (λ carried. (taken_in seat.me.0 c.args.other.me.0, carried)) c.requires.bare))

pub split_seat-requires : goal.split_seat-requires
split_seat-requires g c =
    let joined = c.join_seat.ensures in
    let looked = c.load.ensures in
    (looked.0 ∙ joined.0 ∙ c.requires.table, c.requires.word, lets_go_as g.E.Keyed.touches _ _ c.join_seat.new.seat.me.0 (ap (λ me. me.0) looked.2.0))
