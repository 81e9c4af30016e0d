use Rattle.std.proofs.Common.{sym, subst}
use Rattle.fx_text.specs.inside.Held.{IsHeld}
use Rattle.fx_text.proofs.LinesLemmas.{IsHeld-nil}
use Rattle.fx_text.proofs.cutter.LineCutter.new.Goals as goal

pub invariant_of-result : goal.invariant_of-result
invariant_of-result c = subst IsHeld (sym c.new.ensures) IsHeld-nil
