use Rattle.std.proofs.Common.{arith}
use Rattle.fx_text.proofs.PlacesLemmas.{price_read_back}
use Rattle.fx_text.proofs.push.push_price.Goals as goal

pub returns-then-is_err-clause-read_back : goal.returns-then-is_err-clause-read_back
returns-then-is_err-clause-read_back c = price_read_back c.args.decimals c.args.price (omega arith, omega arith)

pub returns-else-is_err-clause-read_back : goal.returns-else-is_err-clause-read_back
returns-else-is_err-clause-read_back c = price_read_back c.args.decimals c.args.price (omega arith, omega arith)
