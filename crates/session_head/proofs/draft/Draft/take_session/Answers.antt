use Rattle.std.proofs.Common.{◌≡◌, arith, length, List, ℕ, Vec, Global, refl, ap, ap₂, ◌∙◌}
use Rattle.fx_rules.specs.declared.session.PairRule.{PairRule}
use Rattle.session_head.specs.Draft.{square, totals_kept}
use Rattle.fx_rules.proofs.Plain.{first_or_second}
use Rattle.session_head.proofs.DraftLemmas.{session_built, is_built, first_kept}
use Rattle.session_head.proofs.draft.Draft.take_session.Goals as goal

pub session_of-requires : goal.session_of-requires
session_of-requires c = λ other. (
  first_or_second c.self.inside.version c.self.invariant.version.least c.self.invariant.version.most other,
  c.in_ok-totals.ensures ∙ first_kept c.self.inside.version _ _ other,
)

pub unwrap-requires : goal.unwrap-requires
unwrap-requires c =
    let banks : c.replace-banks.result.items ≡ c.self.inside.banks.items = ap (λ (v : Vec (List ℕ) Global). v.items) c.replace-banks.ensures.value in
    let pairs : c.replace-pairs.result.items ≡ c.self.inside.pairs.items = ap (λ (v : Vec PairRule Global). v.items) c.replace-pairs.ensures.value in
    let count : c.len.result ≡ length c.self.inside.banks.items = omega arith in
    let limits : c.in_ok-limits.limits.items ≡ square (length c.self.inside.banks.items) c.self.inside.limits.items =
    c.in_ok-limits.ensures ∙ ap₂ square count c.deref.ensures.value in
    let totals : c.in_ok-totals.totals.items ≡ totals_kept c.self.inside.version (length c.self.inside.banks.items) c.self.inside.totals.items =
    c.in_ok-totals.ensures ∙ ap₂ (totals_kept c.self.inside.version) (omega arith) c.deref-2.ensures.value in
    is_built c.session_of.result _ _ c.session_of.ensures.value
    (session_built c.args.self.now _ _ _ _ _ _ c.self.invariant c.self.view_is c.requires.banks c.requires.pairs refl banks pairs limits totals)
