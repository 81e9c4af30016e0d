use Rattle.std.proofs.Common.{◌≡◌, ◌-◌, ◌+◌, ◌∙◌, get_or, length, arith}
use Rattle.fx_amounts.proofs.PriceTextLemmas.{is_price_text-parts}
use Rattle.fx_amounts.proofs.price_text.is_price.Goals as goal

pub returns-then-is_numeral : goal.returns-then-is_numeral
returns-then-is_numeral c =
    let place : c.saturating_sub.result ≡ length c.args.text.now - (c.args.decimals + 1) = omega arith in
    let point : get_or c.split_at.result.1.now 0 0 ≡ 46 = cc in
    c.are_digits.ensures ∙ is_price_text-parts c.args.decimals c.saturating_sub.result c.args.text.now c.split_at.result.0.now c.split_at.result.1.now
    (omega arith) place c.split_at.ensures.front c.split_at.ensures.back (omega arith) point c.if-is_numeral.ensures
