use Rattle.fx_chronicle.proofs.Moves.{begins}
use Rattle.fx_chronicle.proofs.opening.Blank.new.Goals as goal

pub of_words-requires : goal.of_words-requires
of_words-requires g c = begins g.E.Keyed.touches
