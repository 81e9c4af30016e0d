use Rattle.std.proofs.Common.{◌≡◌, ◌∙◌, ℕ, ◌+◌, ◌/◌, ◌++◌, List, ap, take, arith}
use Rattle.fx_amounts.specs.PriceText.{last_digits}
use Rattle.fx_text.proofs.DigitTexts.{places_two, then_written}
use Rattle.fx_text.proofs.digits.put_four.Goals as goal

pub returns : goal.returns
returns c =
    let at : ℕ = c.args.at in
    let value : ℕ = c.args.value in
    let room : List ℕ = c.put_two-2.new.room in
    let next : at + 4 ≡ at + 2 + 2 = omega arith in
    ap (λ (n : ℕ). take n room) next
    ∙ then_written (take at c.args.room.now) (take (at + 2) c.put_two.new.room) (take (at + 2 + 2) room) (last_digits 2 (value / 100)) (last_digits 2 value) c.put_two.ensures c.put_two-2.ensures
    ∙ ap (λ (digits : List ℕ). take at c.args.room.now ++ digits) (places_two 2 value)
