use Rattle.std.proofs.Common.{◌∙◌, ℕ, ◌+◌, ◌/◌, ◌++◌, List, ap, take}
use Rattle.fx_amounts.specs.Numeral.{numeral}
use Rattle.fx_amounts.specs.PriceText.{last_digits}
use Rattle.fx_text.proofs.DigitTexts.{numeral_eight, then_written}
use Rattle.fx_text.proofs.digits.put_eight.Goals as goal

pub returns-clause-written : goal.returns-clause-written
returns-clause-written c =
    let value : ℕ = c.args.value in
    let end : ℕ = c.put_short-end.result in
    let front : List ℕ = take c.args.at c.args.room.now in
    then_written front (take end c.put_short-end.new.room) (take (end + 4) c.put_four.new.room) (numeral (value / 10000)) (last_digits 4 value) c.put_short-end.ensures.written c.put_four.ensures
    ∙ ap (λ (digits : List ℕ). front ++ digits) (numeral_eight value c.requires.many)
