use Rattle.std.proofs.Common.{◌∙◌, ◌++◌, List, ℕ, ap, take}
use Rattle.fx_text.proofs.line_text.LineText.push_cut_price.Goals as goal

pub returns : goal.returns
returns c = c.push.ensures ∙ ap (λ (text : List ℕ). take 256 (c.args.self.now ++ text)) c.put_price-end.ensures.written
