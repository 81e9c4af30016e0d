use Rattle.std.proofs.Common.{◌≡◌, ◌∙◌, ap, sym, ℕ, ◌+◌, ◌-◌, ◌^◌, ◌++◌, length, replicate, vec_len, min, arith}
use Rattle.fx_amounts.specs.Numeral.{numeral}
use Rattle.fx_amounts.specs.PriceText.{last_digits, price_text}
use Rattle.fx_text.proofs.PlacesLemmas.{BehindOne-decimal, filled, pushed_places, pushed_price, price_text-whole}
use Rattle.fx_text.proofs.push.push_ticks.Goals as goal

pub returns-then-decimals-eq0-clause-ok : goal.returns-then-decimals-eq0-clause-ok
returns-then-decimals-eq0-clause-ok c =
    let text : price_text c.args.decimals c.args.ticks ≡ numeral c.from.result = ap (λ (d : ℕ). price_text d c.args.ticks) c.if-decimals-eq0.true ∙ price_text-whole c.args.ticks ∙ ap numeral (sym c.from.ensures) in
    rw text c.push_number.ensures.ok

pub split_at-requires : goal.split_at-requires
split_at-requires c = (BehindOne-decimal c.min-kept.result c.args.ticks c.unit_of-unit.result c.as_bytes.result.now c.unit_of-unit.ensures.value c.unit_of-unit.ensures.some c.unit_of-unit.ensures.most (c.as_bytes.ensures.value ∙ c.format.ensures.text)).some

pub returns-clause-ok : goal.returns-clause-ok
returns-clause-ok c =
    let behind = BehindOne-decimal c.min-kept.result c.args.ticks c.unit_of-unit.result c.as_bytes.result.now c.unit_of-unit.ensures.value c.unit_of-unit.ensures.some c.unit_of-unit.ensures.most (c.as_bytes.ensures.value ∙ c.format.ensures.text) in
    let size : vec_len c.push.new.self ≡ length c.push.new.self.items = omega arith in
    let zeros : c.resize.new.self.items ≡ c.push.new.self.items ++ replicate (c.args.decimals - c.min-kept.result) 48 =
    filled c.push.new.self.items c.resize.new.self.items (c.len.result + c.from-3.result) (vec_len c.push.new.self) (c.args.decimals - c.min-kept.result)
    c.in_ok-resize.ensures.items size (omega arith) in
    let ten : 10 ^ c.min-kept.result ≡ 10 ^ min c.args.decimals 10 = ap (λ (n : ℕ). 10 ^ n) c.min-kept.ensures in
    let places : c.extend_from_slice.new.self.items ≡ c.push.new.self.items ++ last_digits c.args.decimals c.args.ticks =
    pushed_places c.args.decimals c.min-kept.result c.args.ticks c.push.new.self.items c.resize.new.self.items c.extend_from_slice.new.self.items c.split_at.result.1.now
    c.min-kept.ensures c.requires zeros c.in_ok-extend_from_slice.ensures.items (c.split_at.ensures.back ∙ behind.places) in
    pushed_price c.args.decimals c.args.ticks c.unit_of-unit.result c.args.out.now.items c.push_number-2.new.out.items c.push.new.self.items c.extend_from_slice.new.self.items
    (omega arith) c.requires (c.unit_of-unit.ensures.value ∙ ten) (rw (← c.from-2.ensures) c.in_ok-push_number.ensures.ok) c.in_ok-push.ensures.items places
