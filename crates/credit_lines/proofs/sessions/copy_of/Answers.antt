use Rattle.std.proofs.Common.{rules, ◌∙◌}
use Rattle.credit_lines.proofs.TableFollowing.{first_header}
use Rattle.credit_lines.proofs.sessions.copy_of.Goals as goal

pub returns-else-version-eq2 : goal.returns-else-version-eq2
returns-else-version-eq2 c = record {
  same = first_header c.args.session.now c.unwrap-else-version-eq2.result c.banks.ensures.valid (λ second. c.if-version-eq2.false (c.version.ensures.value ∙ second)) (search rules);
}
