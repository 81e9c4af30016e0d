use Rattle.std.proofs.Common.{subst, sym}
use Rattle.access_index.specs.inside.Words.{AreFilled}
use Rattle.access_index.proofs.Wording.{none_filled}
use Rattle.access_index.proofs.words.HeadWords.new.Goals as goal

pub invariant_of-result : goal.invariant_of-result
invariant_of-result c = subst (λ h. AreFilled h 0) (sym c.new.ensures) none_filled
