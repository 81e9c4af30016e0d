use Rattle.std.proofs.Common.{arith}
use Rattle.fx_text.proofs.FieldTexts.{length-numeral}
use Rattle.fx_text.proofs.line_text.LineText.push_wide.Goals as goal

pub returns-in-Ok-clause-few : goal.returns-in-Ok-clause-few
returns-in-Ok-clause-few c = length-numeral 38 c.args.value (omega arith)

pub returns-in-Err-clause-few : goal.returns-in-Err-clause-few
returns-in-Err-clause-few c = length-numeral 38 c.args.value (omega arith)
