use Rattle.std.proofs.Common.{◌∷◌, [], take}
use Rattle.fx_text.proofs.DigitTexts.{then_written}
use Rattle.fx_text.proofs.digits.put_word_field.Goals as goal

pub returns-clause-written : goal.returns-clause-written
returns-clause-written g c = then_written (take c.args.at c.args.room.now) (take c.put_byte-end.result c.put_byte-end.new.room) (take c.put_word.result c.put_word.new.room) (32 ∷ []) c.args.word.now c.put_byte-end.ensures.written c.put_word.ensures.written
