use Rattle.std.proofs.Common.{◌∙◌, ◌++◌, ◌∷◌, [], List, ℕ, ap, ap₂, take, arith, length-append}
use Rattle.fx_amounts.specs.Numeral.{numeral}
use Rattle.fx_amounts.specs.Amount.{base_amount, quote_amount}
use Rattle.fx_text.proofs.LineTexts.{last_field, one_field, fits_room}
use Rattle.fx_text.specs.Fields.{fields_text}
use Rattle.reply_lines.proofs.notices.make_amounts.Goals as goal

pub returns-clause-made : goal.returns-clause-made
returns-clause-made c =
    let f = c.args.fill.now in
    let base : List ℕ = numeral c.base_amount.result in
    let quote : List ℕ = numeral c.quote_amount.result in
    let one = c.push_number_field.new.self in
    let two = c.push_wide_field.new.self in
    fits_room (fields_text (base ∷ quote ∷ [])) two
    (omega (arith, c.push_number_field.ensures.few, c.push_wide_field.ensures.few, length-append (32 ∷ base) ((32 ∷ quote) ++ []), length-append (32 ∷ quote) []))
    (one_field c.clear.new.self one two base (quote ∷ []) c.push_number_field.ensures.text (last_field one two quote c.push_wide_field.ensures.text)
    ∙ ap (λ (t : List ℕ). take 256 (t ++ fields_text (base ∷ quote ∷ []))) c.clear.ensures)
    ∙ ap₂ (λ (b q : ℕ). fields_text (numeral b ∷ numeral q ∷ []))
    (c.base_amount.ensures.value ∙ ap (λ (l : ℕ). base_amount f.lots l) c.rule-rule.ensures.lot)
    (c.quote_amount.ensures.value ∙ ap₂ (λ (l d : ℕ). quote_amount f.lots l f.price d) c.rule-rule.ensures.lot c.rule-rule.ensures.decimals)
