use Rattle.std.proofs.Common.{◌∷◌, []}
use Rattle.fx_amounts.specs.PriceText.{price_text}
use Rattle.fx_text.proofs.LineTexts.{pushed_two}
use Rattle.fx_text.proofs.line_text.LineText.push_price_field.Goals as goal

pub returns-clause-text : goal.returns-clause-text
returns-clause-text c = pushed_two c.args.self.now c.push_byte.new.self c.push_price.new.self (32 ∷ []) (price_text c.args.decimals c.args.price) c.push_byte.ensures c.push_price.ensures.text
