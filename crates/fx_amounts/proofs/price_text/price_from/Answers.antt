use Rattle.std.proofs.Common.{refl}
use Rattle.fx_amounts.proofs.PriceTextLemmas.{Says-price_of}
use Rattle.fx_amounts.proofs.price_text.price_from.Goals as goal

pub returns : goal.returns
returns c = rw c.said_price.ensures (let says = Says-price_of c.args.decimals c.args.text.now in record { reads = refl; value = says.value; spelled = says.spelled; form = says.form; range = says.range })
