use Rattle.std.proofs.Common.{◌∷◌, [], take}
use Rattle.fx_amounts.specs.PriceText.{price_text}
use Rattle.fx_text.proofs.DigitTexts.{then_written}
use Rattle.fx_text.proofs.digits.put_price_field.Goals as goal

pub returns-clause-written : goal.returns-clause-written
returns-clause-written c = then_written (take c.args.at c.args.room.now) (take c.put_byte-end.result c.put_byte-end.new.room) (take c.put_price.result c.put_price.new.room) (32 ∷ []) (price_text c.args.decimals c.args.price) c.put_byte-end.ensures.written c.put_price.ensures.written
