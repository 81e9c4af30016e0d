use Rattle.std.proofs.Common.{◌∙◌, ◌++◌, ◌∷◌, [], ◌≤◌, List, ℕ, ap, sym, take, arith, length, length-append, ◌≡◌}
use Rattle.fx_amounts.specs.Numeral.{numeral}
use Rattle.fx_amounts.specs.PriceText.{price_text}
use Rattle.fx_rules.proofs.NameTexts.{HasPairBytes-pair_text}
use Rattle.fx_text.proofs.LineTexts.{last_field, one_field, fits_room}
use Rattle.fx_text.specs.Fields.{fields_text}
use Rattle.fx_rules.specs.Session.{pair_name, decimals_of}
use Rattle.reply_lines.proofs.notices.make_trade.Goals as goal

pub returns-clause-made : goal.returns-clause-made
returns-clause-made c =
    let h = c.args.session.now in
    let f = c.args.fill.now in
    let pair : List ℕ = pair_name h f.pair in
    let lots : List ℕ = numeral f.lots in
    let price : List ℕ = price_text (decimals_of h f.pair) f.price in
    let one = c.push_field.new.self in
    let two = c.push_number_field.new.self in
    let three = c.push_price_field.new.self in
    let pair_few : length pair ≡ 7 = sym (ap length c.rule-rule.ensures.text) ∙ (HasPairBytes-pair_text c.rule-rule.result.now c.rule-rule.ensures.valid).size in
    let lots_few : length lots ≤ 20 = omega (arith, c.push_number_field.ensures.few, ap (λ (n : ℕ). length (numeral n)) (c.from.ensures ∙ c.count.ensures.value)) in
    let price_few : length price ≤ 40 = omega (arith, c.push_price_field.ensures.few, ap (λ (d : ℕ). length (price_text d f.price)) c.rule-rule.ensures.decimals) in
    let few : length (fields_text (pair ∷ lots ∷ price ∷ [])) ≤ 256 =
    omega (arith, pair_few, lots_few, price_few, length-append (32 ∷ pair) ((32 ∷ lots) ++ ((32 ∷ price) ++ [])), length-append (32 ∷ lots) ((32 ∷ price) ++ []), length-append (32 ∷ price) []) in
    fits_room (fields_text (pair ∷ lots ∷ price ∷ [])) three few
    (one_field c.clear.new.self one three pair (lots ∷ price ∷ [])
    (c.push_field.ensures ∙ ap (λ (t : List ℕ). take 256 (c.clear.new.self ++ 32 ∷ t)) (c.text.ensures.value ∙ c.rule-rule.ensures.text))
    (one_field one two three lots (price ∷ []) (c.push_number_field.ensures.text ∙ ap (λ (n : ℕ). take 256 (one ++ 32 ∷ numeral n)) (c.from.ensures ∙ c.count.ensures.value))
    (last_field two three price (c.push_price_field.ensures.text ∙ ap (λ (d : ℕ). take 256 (two ++ 32 ∷ price_text d f.price)) c.rule-rule.ensures.decimals)))
    ∙ ap (λ (t : List ℕ). take 256 (t ++ fields_text (pair ∷ lots ∷ price ∷ []))) c.clear.ensures)
