use Rattle.fx_amounts.proofs.AmountLemmas.{quote_amount-whole}
use Rattle.fx_amounts.proofs.amount.quote_amount.Goals as goal

pub returns-clause-whole : goal.returns-clause-whole
returns-clause-whole c = let whole = quote_amount-whole c.args.lots c.args.lot c.args.price c.args.decimals c.requires.whole in cc
