use Rattle.access_index.specs.inside.Words.{IsLeastOf}
use Rattle.access_index.proofs.words.least_of.Given as goal

-- the least of the words that were passed
abbrev pub invariant-loop-at : goal.invariant-loop-at
invariant-loop-at l = IsLeastOf l.words l.from l.at l.least
