use Rattle.fx_chronicle.proofs.Moves.{gives_as}
use Rattle.fx_chronicle.proofs.steps.give.Goals as goal

pub split_seat-requires : goal.split_seat-requires
split_seat-requires g c = (c.requires.table, c.requires.word, gives_as g.E.Keyed.touches _ _ c.requires.front)
