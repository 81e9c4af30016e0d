use Rattle.std.proofs.Common.{◌/◌, ◌%◌, get_or, w64, arith}
use Rattle.std.proofs.lemmas.Nat.Bits.{bit_at_clear_other, bit_at_clear_same}
use Rattle.price_levels.proofs.Marking.{bit_elsewhere, bit_here}
use Rattle.price_levels.proofs.bit_row.unmark.Goals as goal

pub returns-clause-unmarked : goal.returns-clause-unmarked
returns-clause-unmarked c =
    bit_here c.args.words.now c.args.at _ 0 (omega (arith, c.requires.within)) (bit_at_clear_same w64 (get_or c.args.words.now (c.args.at / 64) 0) (c.args.at % 64) (omega arith))

pub returns-clause-others : goal.returns-clause-others
returns-clause-others c = λ other differ.
    bit_elsewhere c.args.words.now c.args.at _ other (omega (arith, c.requires.within)) differ
    (λ i small apart. bit_at_clear_other w64 (get_or c.args.words.now (c.args.at / 64) 0) (c.args.at % 64) (omega arith) i small apart)
