use Rattle.std.proofs.Common.{◌∙◌, ◌++◌, List, ℕ, ap, take, arith}
use Rattle.fx_amounts.specs.Numeral.{numeral}
use Rattle.fx_text.proofs.LineTexts.{put_within}
use Rattle.fx_text.proofs.NumberLemmas.{decimal_wide}
use Rattle.fx_text.proofs.line_text.LineText.push_number.Goals as goal

pub returns-then-self : goal.returns-then-self
returns-then-self c = put_within 256 c.self.inside.bytes c.put_number-end.new.room c.args.self.now (numeral c.args.value) c.self.inside.len c.put_number-end.result c.self.view_is c.put_number-end.ensures.written (omega arith)

pub returns-else-self : goal.returns-else-self
returns-else-self c = c.push.ensures ∙ ap (λ (text : List ℕ). take 256 (c.args.self.now ++ text)) (c.as_bytes.ensures.value ∙ c.format.ensures.text ∙ decimal_wide c.args.value (omega arith))
