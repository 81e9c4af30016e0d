use Rattle.fx_text.proofs.NumberLemmas.{number_of-short}
use Rattle.fx_text.proofs.numeral.value_of.Goals as goal

pub returns-then-text-le-MOST_SHORT : goal.returns-then-text-le-MOST_SHORT
returns-then-text-le-MOST_SHORT c = number_of-short c.args.text.now c.short_numeral.result c.if-text-le-MOST_SHORT.true c.short_numeral.ensures.value c.short_numeral.ensures.below
