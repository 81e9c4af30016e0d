use Rattle.std.proofs.Common.{◌≡◌, ◌∙◌, ℕ, ◌+◌, ◌/◌, ◌∷◌, ◌++◌, [], List, ap, sym, take, refl, arith}
use Rattle.fx_amounts.specs.Numeral.{numeral}
use Rattle.fx_amounts.specs.PriceText.{last_digits, price_text}
use Rattle.fx_text.proofs.DigitTexts.{then_written}
use Rattle.fx_text.proofs.PlacesLemmas.{price_text-places, price_text-whole}
use Rattle.fx_text.proofs.digits.put_price.Goals as goal

pub returns-then-decimals-eq0-clause-written : goal.returns-then-decimals-eq0-clause-written
returns-then-decimals-eq0-clause-written c =
    let text : price_text c.args.decimals c.args.price ≡ numeral c.args.price = ap (λ (d : ℕ). price_text d c.args.price) c.if-decimals-eq0.true ∙ price_text-whole c.args.price in
    let ticks : c.from-ticks.result ≡ c.args.price = omega arith in
    c.put_number.ensures.written ∙ ap (λ (t : List ℕ). take c.args.at c.args.room.now ++ t) (ap numeral ticks ∙ sym text)

pub returns-clause-written : goal.returns-clause-written
returns-clause-written c =
    let decimals : ℕ = c.args.decimals in
    let ticks : ℕ = c.from-ticks.result in
    let same : ticks ≡ c.args.price = omega arith in
    let front : List ℕ = take c.args.at c.args.room.now in
    let point : ℕ = c.put_number-point.result in
    let from : ℕ = c.put_byte-places.result in
    let whole : List ℕ = numeral (ticks / c.unit_of.result) in
    let places : List ℕ = last_digits decimals ticks in
    let last : List ℕ = take (from + decimals) c.put_places.new.room in
    let text : price_text decimals ticks ≡ whole ++ 46 ∷ places =
    price_text-places decimals ticks (omega arith) whole places (ap (λ (unit : ℕ). numeral (ticks / unit)) c.unit_of.ensures.value) refl in
    let count : c.from.result ≡ decimals = omega arith in
    ap (λ (n : ℕ). take (from + n) c.put_places.new.room) count
    ∙ then_written front (take point c.put_number-point.new.room) last whole (46 ∷ places) c.put_number-point.ensures.written
    (then_written (take point c.put_number-point.new.room) (take from c.put_byte-places.new.room) last (46 ∷ []) places c.put_byte-places.ensures.written c.put_places.ensures)
    ∙ ap (λ (t : List ℕ). front ++ t) (sym text ∙ ap (price_text decimals) same)
