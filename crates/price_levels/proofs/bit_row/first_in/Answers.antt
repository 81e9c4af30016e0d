use Rattle.std.proofs.Common.{w64, get_or, arith}
use Rattle.std.proofs.lemmas.Nat.Bits.{bit_at-trailing_zeros}
use Rattle.price_levels.proofs.Marking.{first_of_word, positive}
use Rattle.price_levels.proofs.bit_row.first_in.Goals as goal

pub overflow_mul-result : goal.overflow_mul-result
overflow_mul-result c = omega (arith, c.requires.few, c.loop-word-test.true)

pub overflow_add-result : goal.overflow_add-result
overflow_add-result c =
    let word = get_or c.args.words.now c.loop-word.word 0 in
    omega (arith, c.requires.few, c.loop-word-test.true, (bit_at-trailing_zeros w64 word (positive word c.if-words-word-ne0.true) (omega (arith, c.type_inv.words c.loop-word.word))).0)

pub returns-then-words-word-ne0-clause-found : goal.returns-then-words-word-ne0-clause-found
returns-then-words-word-ne0-clause-found c =
    first_of_word c.args.words.now c.args.first c.loop-word.word c.loop-word.auto.word c.loop-word-test.true (omega (arith, c.type_inv.words c.loop-word.word)) c.if-words-word-ne0.true c.loop-word.invariant
