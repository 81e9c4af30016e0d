-- The bytes up to the first space are the number's digits.
use Rattle.std.proofs.Common.{rules, ◌<◌, arith, length, ◌∙◌}
use Rattle.reply_lines.proofs.NumberedLines.{ends, goes_on, inside}
use Rattle.reply_lines.proofs.desk.behind_number.Goals as goal

pub loop-at-init : goal.loop-at-init
loop-at-init c = λ number rest is. omega arith

pub bounds-line-at : goal.bounds-line-at
bounds-line-at c =
    let its = c.requires.line in
    inside c.args.line.now c.loop-at.at its.0 its.1 its.2 (c.loop-at.invariant its.0 its.1 its.2)

pub overflow_add-at : goal.overflow_add-at
overflow_add-at c =
    let its = c.requires.line in
    let within : c.loop-at.at < length c.args.line.now = inside c.args.line.now c.loop-at.at its.0 its.1 its.2 (c.loop-at.invariant its.0 its.1 its.2) in
    search rules

pub loop-at-smaller : goal.loop-at-smaller
loop-at-smaller c =
    let its = c.requires.line in
    omega (arith, inside c.args.line.now c.loop-at.at its.0 its.1 its.2 (c.loop-at.invariant its.0 its.1 its.2))

pub loop-at-preserved : goal.loop-at-preserved
loop-at-preserved c = λ number rest is. goes_on c.args.line.now c.loop-at.at number rest is (c.loop-at.invariant number rest is) c.loop-at-test.true

pub returns : goal.returns
returns c = record { behind = λ number rest is. c.split_at.ensures.back ∙ ends c.args.line.now c.loop-at.at number rest is (c.loop-at.invariant number rest is) c.loop-at-test.false }
