-- The fields stand behind the number, and fit.
use Rattle.std.proofs.Common.{◌≡◌, ◌≤◌, ◌++◌, ◌∷◌, [], List, ℕ, ap, ◌∙◌, take, codes, length, arith, length-append}
use Rattle.fx_amounts.specs.Numeral.{numeral}
use Rattle.fx_text.proofs.LineTexts.{last_field, one_field, pushed_line}
use Rattle.reply_lines.specs.Rows.{row}
use Rattle.client_day.proofs.Noting.{row-some}
use Rattle.client_day.proofs.desk.make_short.Goals as goal

pub returns : goal.returns
returns c =
    let free : List ℕ = numeral c.args.free in
    let start = c.push_wide.new.self in
    let one = c.push_field.new.self in
    let two = c.push_number_field.new.self in
    let units : two ≡ take 256 (one ++ 32 ∷ free) = c.push_number_field.ensures.text ∙ ap (λ n. take 256 (one ++ 32 ∷ numeral n)) c.get.ensures.value in
    let few : length free ≤ 20 = omega (arith, c.push_number_field.ensures.few, ap (λ n. length (numeral n)) c.get.ensures.value) in
    let made : c.push_byte.new.self ≡ row (numeral c.args.number) (codes "SHORT" ∷ free ∷ []) =
    pushed_line (numeral c.args.number) (codes "SHORT" ∷ free ∷ []) c.clear.new.self start two c.push_byte.new.self c.clear.ensures c.push_wide.ensures.text
    (one_field start one two (codes "SHORT") (free ∷ []) c.push_field.ensures (last_field one two free units))
    c.push_byte.ensures c.push_wide.ensures.few
    (omega (arith, few, length-append (32 ∷ codes "SHORT") ((32 ∷ free) ++ []), length-append (32 ∷ free) [])) in
    record { made = made; some = omega (arith, ap length made, row-some (numeral c.args.number) (codes "SHORT" ∷ free ∷ [])) }
