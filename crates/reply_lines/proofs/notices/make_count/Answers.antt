use Rattle.std.proofs.Common.{◌∷◌, [], arith, length-append}
use Rattle.fx_amounts.specs.Numeral.{numeral}
use Rattle.fx_text.proofs.LineTexts.{last_field, pushed_line}
use Rattle.reply_lines.proofs.notices.make_count.Goals as goal

pub returns : goal.returns
returns c =
    pushed_line c.args.word.now (numeral c.args.count ∷ []) c.clear.new.self c.push.new.self c.push_wide_field.new.self c.push_byte.new.self
    c.clear.ensures c.push.ensures (last_field c.push.new.self c.push_wide_field.new.self (numeral c.args.count) c.push_wide_field.ensures.text) c.push_byte.ensures
    (omega (arith, c.requires)) (omega (arith, c.push_wide_field.ensures.few, length-append (32 ∷ numeral c.args.count) []))
