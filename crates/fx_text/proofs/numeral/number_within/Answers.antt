use Rattle.std.proofs.Common.{sym, arith, ◌-◌, ◌^◌}
use Rattle.fx_text.proofs.NumberLemmas.{number_of-narrow, number_of-outside}
use Rattle.fx_text.proofs.numeral.number_within.Goals as goal

pub returns-in-Some : goal.returns-in-Some
returns-in-Some c = sym (number_of-narrow c.args.least c.args.most (2 ^ 64 - 1) c.args.text.now c.in-Some.value (sym c.in-Some.ensures) c.if-least-value.true c.if-value-most.true)

pub returns-in_default : goal.returns-in_default
returns-in_default c = sym (number_of-outside c.args.least c.args.most (2 ^ 64 - 1) c.args.text.now _ (sym c.in-Some.ensures) (omega arith) (λ low high. omega arith))

pub returns-in_default-2 : goal.returns-in_default-2
returns-in_default-2 c = sym (number_of-outside c.args.least c.args.most (2 ^ 64 - 1) c.args.text.now _ (sym c.in-Some.ensures) (omega arith) (λ low high. omega arith))

pub returns-in_default-3 : goal.returns-in_default-3
returns-in_default-3 c = sym (number_of-outside c.args.least c.args.most (2 ^ 64 - 1) c.args.text.now _ (sym c.in_default.ensures) (omega arith) tt)
