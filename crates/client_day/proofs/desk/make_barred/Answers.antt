-- The word stands behind the number, and fits.
use Rattle.std.proofs.Common.{◌≡◌, ◌∷◌, [], ap, codes, length, arith, length-append}
use Rattle.fx_amounts.specs.Numeral.{numeral}
use Rattle.fx_text.proofs.LineTexts.{last_field, pushed_line}
use Rattle.reply_lines.specs.Rows.{row}
use Rattle.client_day.proofs.Noting.{row-some}
use Rattle.client_day.proofs.desk.make_barred.Goals as goal

pub returns : goal.returns
returns c =
    let start = c.push_wide.new.self in
    let one = c.push_field.new.self in
    let made : c.push_byte.new.self ≡ row (numeral c.args.number) (codes "BARRED" ∷ []) =
    pushed_line (numeral c.args.number) (codes "BARRED" ∷ []) c.clear.new.self start one c.push_byte.new.self c.clear.ensures c.push_wide.ensures.text
    (last_field start one (codes "BARRED") c.push_field.ensures)
    c.push_byte.ensures c.push_wide.ensures.few
    (omega (arith, length-append (32 ∷ codes "BARRED") [])) in
    record { made = made; some = omega (arith, ap length made, row-some (numeral c.args.number) (codes "BARRED" ∷ [])) }
