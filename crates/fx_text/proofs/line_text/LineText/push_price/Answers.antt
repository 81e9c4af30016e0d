use Rattle.std.proofs.Common.{arith}
use Rattle.fx_amounts.specs.PriceText.{price_text}
use Rattle.fx_text.proofs.FieldTexts.{IsField-price_text}
use Rattle.fx_text.proofs.LineTexts.{put_within}
use Rattle.fx_text.proofs.line_text.LineText.push_price.Goals as goal

pub returns-then-self-clause-text : goal.returns-then-self-clause-text
returns-then-self-clause-text c = put_within 256 c.self.inside.bytes c.put_price-end.new.room c.args.self.now (price_text c.args.decimals c.args.price) c.self.inside.len c.put_price-end.result c.self.view_is c.put_price-end.ensures.written (omega arith)

pub returns-then-self-clause-few : goal.returns-then-self-clause-few
returns-then-self-clause-few c = (IsField-price_text c.args.decimals c.args.price c.requires (omega arith)).short

pub returns-else-self-clause-few : goal.returns-else-self-clause-few
returns-else-self-clause-few c = (IsField-price_text c.args.decimals c.args.price c.requires (omega arith)).short
