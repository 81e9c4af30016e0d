use Rattle.std.proofs.Common.{◌≡◌, ◌∙◌, ℕ, ◌+◌, ◌/◌, ◌%◌, List, [], ◌∷◌, ap, take, arith}
use Rattle.std.proofs.lemmas.List.{take_more_set}
use Rattle.fx_amounts.proofs.NumeralLemmas.{numeral-digit}
use Rattle.fx_text.proofs.DigitTexts.{pair, then_written, numeral_two, numeral_three, numeral_four}
use Rattle.fx_text.proofs.digits.put_short.Goals as goal

pub returns-then-value-lt10-clause-written : goal.returns-then-value-lt10-clause-written
returns-then-value-lt10-clause-written c = rw (numeral-digit c.args.value c.if-value-lt10.true) (take_more_set c.args.room.now c.args.at _ (omega arith))

pub returns-then-value-lt100-clause-written : goal.returns-then-value-lt100-clause-written
returns-then-value-lt100-clause-written c = rw (numeral_two c.args.value c.if-value-lt10.false c.if-value-lt100.true) c.put_pair.ensures

pub returns-then-value-lt1000-clause-written : goal.returns-then-value-lt1000-clause-written
returns-then-value-lt1000-clause-written c =
    let room : List ℕ = c.put_pair-then-value-lt1000.new.room in
    let at : ℕ = c.args.at in
    let next : at + 3 ≡ at + 1 + 2 = omega arith in
    rw (numeral_three c.args.value c.if-value-lt100.false c.if-value-lt1000.true)
    (ap (λ (n : ℕ). take n room) next
    ∙ then_written (take at c.args.room.now) _ (take (at + 1 + 2) room) ((48 + c.args.value / 100) ∷ []) (pair (c.args.value % 100)) (take_more_set c.args.room.now at _ (omega arith)) c.put_pair-then-value-lt1000.ensures)

pub returns-clause-written : goal.returns-clause-written
returns-clause-written c =
    let room : List ℕ = c.put_pair-3.new.room in
    let at : ℕ = c.args.at in
    let next : at + 4 ≡ at + 2 + 2 = omega arith in
    rw (numeral_four c.args.value c.if-value-lt1000.false c.requires.short)
    (ap (λ (n : ℕ). take n room) next
    ∙ then_written (take at c.args.room.now) (take (at + 2) c.put_pair-2.new.room) (take (at + 2 + 2) room) (pair (c.args.value / 100)) (pair (c.args.value % 100)) c.put_pair-2.ensures c.put_pair-3.ensures)
