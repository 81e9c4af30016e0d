use Rattle.std.proofs.Common.{◌∙◌, ◌++◌, List, ℕ, ap, take, arith}
use Rattle.fx_text.proofs.NumberLemmas.{decimal_wide}
use Rattle.fx_text.proofs.line_text.LineText.push_widest.Goals as goal

pub returns : goal.returns
returns c = c.push.ensures ∙ ap (λ (text : List ℕ). take 256 (c.args.self.now ++ text)) (c.as_bytes.ensures.value ∙ c.format.ensures.text ∙ decimal_wide c.args.value (omega arith))
