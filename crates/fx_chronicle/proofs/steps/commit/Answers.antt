use Rattle.fx_chronicle.proofs.Moves.{commits_as}
use Rattle.fx_chronicle.proofs.steps.commit.Goals as goal

pub compare_exchange_with-requires : goal.compare_exchange_with-requires
compare_exchange_with-requires g c = (c.requires.table, c.requires.word, commits_as g.E.Keyed.touches _ _ _ _ _ c.requires.writer c.requires.signed c.requires.bare c.requires.before)
