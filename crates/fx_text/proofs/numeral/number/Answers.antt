use Rattle.std.proofs.Common.{refl}
use Rattle.fx_text.proofs.NumberLemmas.{Reads-number_of}
use Rattle.fx_text.proofs.numeral.number.Goals as goal

pub returns : goal.returns
returns c = rw c.number_within.ensures (let reads = Reads-number_of c.args.least c.args.most c.args.text.now in record { reads = refl; least = reads.least; most = reads.most; spelling = reads.spelling; spelled = reads.spelled })
