use Rattle.fx_chronicle.proofs.Moves.{deals_as}
use Rattle.fx_chronicle.proofs.steps.deal.Goals as goal

pub split_seat-requires : goal.split_seat-requires
split_seat-requires g c = (c.requires.table, c.requires.word, deals_as g.E.Keyed.touches _ _ c.requires.writer c.requires.signed)
