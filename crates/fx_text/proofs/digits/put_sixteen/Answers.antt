use Rattle.std.proofs.Common.{◌≡◌, ◌∙◌, ℕ, ◌+◌, ◌/◌, ◌++◌, List, ap, take, arith}
use Rattle.fx_amounts.specs.Numeral.{numeral}
use Rattle.fx_amounts.specs.PriceText.{last_digits}
use Rattle.fx_text.proofs.DigitTexts.{numeral_sixteen, then_written}
use Rattle.fx_text.proofs.digits.put_sixteen.Goals as goal

pub returns-clause-written : goal.returns-clause-written
returns-clause-written c =
    let value : ℕ = c.args.value in
    let end : ℕ = c.put_few-end.result in
    let room : List ℕ = c.put_four-2.new.room in
    let front : List ℕ = take c.args.at c.args.room.now in
    let middle : List ℕ = last_digits 4 (value / 10000) in
    let last : List ℕ = last_digits 4 value in
    let next : end + 8 ≡ end + 4 + 4 = omega arith in
    ap (λ (n : ℕ). take n room) next
    ∙ then_written front (take end c.put_few-end.new.room) (take (end + 4 + 4) room) (numeral (value / 100000000)) (middle ++ last) c.put_few-end.ensures.written
    (then_written (take end c.put_few-end.new.room) (take (end + 4) c.put_four.new.room) (take (end + 4 + 4) room) middle last c.put_four.ensures c.put_four-2.ensures)
    ∙ ap (λ (digits : List ℕ). front ++ digits) (numeral_sixteen value c.requires.many)
