use Rattle.std.proofs.Common.{arith}
use Rattle.fx_amounts.proofs.PriceTextLemmas.{ticks_of-digit, ticks_of-other}
use Rattle.fx_amounts.proofs.price_text.value_of.Goals as goal
use Rattle.fx_amounts.proofs.price_text.value_of.Goals.{then-is_ascii_digit, else-is_ascii_digit}

pub loop-byte-preserved : goal.loop-byte-preserved
loop-byte-preserved c = elim c.if-is_ascii_digit.branch [
  | then-is_ascii_digit w ↦ let grown = ticks_of-digit c.args.text.now c.loop-byte.byte-index c.loop-byte-test.true (cc) in omega arith
  | else-is_ascii_digit w ↦ let same = ticks_of-other c.args.text.now c.loop-byte.byte-index c.loop-byte-test.true (cc) in omega arith
]
