use Rattle.std.proofs.Common.{◌∷◌, []}
use Rattle.fx_amounts.specs.Numeral.{numeral}
use Rattle.fx_text.proofs.LineTexts.{pushed_two}
use Rattle.fx_text.proofs.line_text.LineText.push_wide_field.Goals as goal

pub returns-clause-text : goal.returns-clause-text
returns-clause-text c = pushed_two c.args.self.now c.push_byte.new.self c.push_wide.new.self (32 ∷ []) (numeral c.args.value) c.push_byte.ensures c.push_wide.ensures.text
