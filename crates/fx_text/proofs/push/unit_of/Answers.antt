use Rattle.std.proofs.Common.{◌≤◌, ◌^◌, arith}
use native.Mathlib.Nat.{one-le-pow, pow-le-pow_right}
use Rattle.fx_text.proofs.push.unit_of.Goals as goal

pub returns-clause-some : goal.returns-clause-some
returns-clause-some c = omega (arith, one-le-pow c.from.result 10 (omega arith))

pub returns-clause-most : goal.returns-clause-most
returns-clause-most c = let few : c.from.result ≤ 10 = omega arith in let most : 10 ^ c.from.result ≤ 10 ^ 10 = pow-le-pow_right (omega arith) few in omega arith
