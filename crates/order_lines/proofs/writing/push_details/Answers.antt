use Rattle.std.proofs.Common.{◌≡◌, ◌∙◌, ◌++◌, ◌∷◌, [], List, ℕ, ap, take, arith}
use Rattle.fx_amounts.specs.Numeral.{numeral}
use Rattle.fx_amounts.specs.PriceText.{price_text}
use Rattle.order_lines.specs.inside.Printing.{details}
use Rattle.order_lines.proofs.Printed.{order_details, reduce_details, settle_details, no_details}
use Rattle.order_lines.proofs.writing.push_details.Goals as goal

pub returns-in-Order : goal.returns-in-Order
returns-in-Order c =
    order_details c.args.session.now c.args.command.now c.in-Order.side c.in-Order.pair c.in-Order.price c.in-Order.lots c.in-Order.life
    c.args.line.now c.push_price_field.new.self c.push_number_field.new.self c.push_field.new.self c.in-Order.is
    (c.push_price_field.ensures.text ∙ ap (λ (places : ℕ). take 256 (c.args.line.now ++ 32 ∷ price_text places c.in-Order.price)) c.decimals.ensures.value)
    (c.push_number_field.ensures.text ∙ ap (λ (n : ℕ). take 256 (c.push_price_field.new.self ++ 32 ∷ numeral n)) (c.from.ensures ∙ c.count.ensures.value))
    (c.push_field.ensures ∙ ap (λ (life : List ℕ). take 256 (c.push_number_field.new.self ++ 32 ∷ life)) c.life_text.ensures)

pub returns-in-Reduce : goal.returns-in-Reduce
returns-in-Reduce c =
    reduce_details c.args.session.now c.args.command.now c.in-Reduce.pair c.in-Reduce.number c.in-Reduce.lots
    c.args.line.now c.push_number_field-in-Reduce.new.self c.push_number_field-in-Reduce-2.new.self c.in-Reduce.is
    (c.push_number_field-in-Reduce.ensures.text ∙ ap (λ (n : ℕ). take 256 (c.args.line.now ++ 32 ∷ numeral n)) c.from-in-Reduce.ensures)
    (c.push_number_field-in-Reduce-2.ensures.text ∙ ap (λ (n : ℕ). take 256 (c.push_number_field-in-Reduce.new.self ++ 32 ∷ numeral n)) (c.from-in-Reduce-2.ensures ∙ c.count-in-Reduce.ensures.value))

pub returns-in-Settle : goal.returns-in-Settle
returns-in-Settle c =
    settle_details c.args.session.now c.args.command.now c.in-Settle.a c.in-Settle.b c.in-Settle.units
    c.args.line.now c.push_field-in-Settle.new.self c.push_number_field-in-Settle.new.self c.in-Settle.is
    (c.push_field-in-Settle.ensures ∙ ap (λ (name : List ℕ). take 256 (c.args.line.now ++ 32 ∷ name)) c.name.ensures.value)
    (c.push_number_field-in-Settle.ensures.text ∙ ap (λ (n : ℕ). take 256 (c.push_field-in-Settle.new.self ++ 32 ∷ numeral n)) c.get-in-Settle.ensures.value)

pub returns-in-Pull : goal.returns-in-Pull
returns-in-Pull c =
    let none : details c.args.session.now c.args.command.now ≡ [] = grind (arith, c.in-Pull.is) in
    no_details c.args.session.now c.args.command.now c.args.line.now none c.requires.room
