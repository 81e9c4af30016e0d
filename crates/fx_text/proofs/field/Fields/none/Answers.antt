use Rattle.std.proofs.Common.{refl}
use Rattle.fx_text.specs.Fields.{fields_of}
use Rattle.fx_text.proofs.field.Fields.none.Goals as goal

pub invariant_of-result : goal.invariant_of-result
unfolding fields_of
invariant_of-result c = c.none.ensures

pub returns : goal.returns
unfolding fields_of
returns c = refl
