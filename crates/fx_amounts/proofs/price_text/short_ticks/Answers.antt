use Rattle.std.proofs.Common.{◌≡◌, ◌-◌, ◌+◌, ◌≤◌, List, ℕ, get_or, length, take, drop, refl, arith}
use Rattle.std.proofs.lemmas.List.{length-take, length-drop}
use Rattle.fx_amounts.proofs.DigitLemmas.{below-room}
use Rattle.fx_amounts.proofs.PriceTextLemmas.{SomeIff-whole_price, SomeIff-price}
use Rattle.fx_amounts.proofs.price_text.short_ticks.Goals as goal

pub returns-then-decimals-eq0 : goal.returns-then-decimals-eq0
returns-then-decimals-eq0 c = rw c.if-decimals-eq0.true (SomeIff-whole_price c.args.text.now c.short_numeral.result c.short_numeral.ensures.value)

pub with_digits-requires-clause-fits : goal.with_digits-requires-clause-fits
with_digits-requires-clause-fits c =
    let rest : List ℕ = c.split_at.result.1.now in
    let fraction : List ℕ = take (length rest - 1) (drop 1 rest) in
    let room : length c.split_at.result.0.now ≤ 19 - length fraction =
    omega (arith, length-take (length rest - 1) (drop 1 rest), length-drop 1 rest, c.in-46.len_at_least, c.split_at.ensures.front_len, c.split_at.ensures.back_len, c.requires, c.saturating_sub.ensures) in
    below-room c.in_ok-front.front (length c.split_at.result.0.now) (19 - length fraction) c.in_ok-front.ensures.below room

pub returns-in-46 : goal.returns-in-46
returns-in-46 c =
    let place : c.saturating_sub.result ≡ length c.args.text.now - (c.args.decimals + 1) = omega arith in
    let point : get_or c.split_at.result.1.now 0 0 ≡ 46 = cc in
    SomeIff-price c.args.decimals c.saturating_sub.result c.in_ok-front.front c.args.text.now c.split_at.result.0.now c.split_at.result.1.now _ c.with_digits.result
    (omega arith) place c.split_at.ensures.front c.split_at.ensures.back c.in-46.len_at_least point c.in_ok-front.ensures.value.0 c.in_ok-front.ensures.value.1 refl c.with_digits.ensures.value
