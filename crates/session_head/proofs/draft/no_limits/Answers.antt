use Rattle.std.proofs.Common.{rules, ◌≡◌, ap, ◌∙◌, replicate}
use Rattle.session_head.specs.Draft.{no_limits}
use Rattle.session_head.proofs.draft.no_limits.Goals as goal

pub returns : goal.returns
unfolding no_limits
returns c =
    let zero : c.unwrap-zero.result ≡ 0 = search rules in
    c.in_ok-vec.ensures.items_if_clones_equal (λ y same. same) ∙ ap (λ n. replicate 4096 n) zero
