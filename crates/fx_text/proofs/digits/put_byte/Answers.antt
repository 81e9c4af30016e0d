use Rattle.std.proofs.Common.{arith}
use Rattle.std.proofs.lemmas.List.{take_more_set}
use Rattle.fx_text.proofs.digits.put_byte.Goals as goal

pub returns-clause-written : goal.returns-clause-written
returns-clause-written c = take_more_set c.args.room.now c.args.at _ (omega arith)
