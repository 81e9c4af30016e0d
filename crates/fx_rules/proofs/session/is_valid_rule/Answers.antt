use Rattle.std.proofs.Common.{arith}
use Rattle.std.proofs.Math.Nat.{one-le-pow}
use Rattle.fx_rules.proofs.session.is_valid_rule.Goals as goal

pub nonzero_rem-rule : goal.nonzero_rem-rule
nonzero_rem-rule c = rw c.pow.ensures (one-le-pow c.args.rule.now.decimals 10 (omega arith))
