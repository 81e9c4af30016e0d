use Rattle.std.proofs.Common.{arith}
use Rattle.std.proofs.Math.Nat.{one-le-pow}
use Rattle.session_head.proofs.statement.lot_from.Goals as goal

pub nonzero_rem-lot : goal.nonzero_rem-lot
nonzero_rem-lot c = rw c.pow.ensures (one-le-pow c.args.decimals 10 (omega arith))
