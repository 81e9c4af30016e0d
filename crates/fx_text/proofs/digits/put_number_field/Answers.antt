use Rattle.std.proofs.Common.{◌∷◌, [], take}
use Rattle.fx_amounts.specs.Numeral.{numeral}
use Rattle.fx_text.proofs.DigitTexts.{then_written}
use Rattle.fx_text.proofs.digits.put_number_field.Goals as goal

pub returns-clause-written : goal.returns-clause-written
returns-clause-written c = then_written (take c.args.at c.args.room.now) (take c.put_byte-end.result c.put_byte-end.new.room) (take c.put_number.result c.put_number.new.room) (32 ∷ []) (numeral c.args.value) c.put_byte-end.ensures.written c.put_number.ensures.written
