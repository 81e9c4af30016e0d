use Rattle.std.proofs.Common.{arith, rules}
use Rattle.std.proofs.lemmas.Grind.{common_steps}
use Rattle.fx_rules.specs.Session.{newest}
use Rattle.fx_rules.proofs.session.is_version.Goals as goal

pub returns-then-version-ge1 : goal.returns-then-version-ge1
unfolding newest
returns-then-version-ge1 c = first_of (search (rules, arith), grind (arith, common_steps))
