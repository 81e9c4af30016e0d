use Rattle.std.proofs.Common.{◌≡◌, ap, flat_map, length, ℕ, ◌++◌, ◌∙◌, arith}
use Rattle.fx_rules.specs.Lists.{below}
use Rattle.fx_rules.specs.Session.{bank_count}
use Rattle.session_head.specs.HeadText.{lines_text}
use Rattle.session_head.specs.inside.HeadText.{limits_of}
use Rattle.session_head.proofs.text.push_limits.Goals as goal

pub returns : goal.returns
returns c =
    let all : c.loop-from.from ≡ bank_count c.args.session.now = omega (arith, ap length c.banks-from-end.ensures.value) in
    c.loop-from.invariant ∙ ap (λ (n : ℕ). c.args.out.now.items ++ lines_text c.args.session.now.banks (flat_map (λ from. limits_of c.args.session.now from (bank_count c.args.session.now)) (below n))) all
