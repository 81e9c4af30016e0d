-- The lines are as the session opens, and so is what is kept beside them.
use Rattle.std.proofs.Common.{ℕ, ◌≡◌, ◌<◌, ◌*◌, false, List, Option, None, length, replicate, get_or, ap, subst, ◌∙◌, rules}
use Rattle.credit_lines.proofs.OpeningLemmas.{opened_kept}
use Rattle.credit_lines.proofs.lines.CreditLines.open.Goals as goal

pub invariant_of-result : goal.invariant_of-result
invariant_of-result c =
    let none : c.unwrap-unused.result ≡ 0 = search rules in
    opened_kept c.args.session.now _ _ _ _ _ _ _ c.banks-banks.ensures.valid c.banks-banks.ensures.value c.in_ok-opening_limits.ensures
    (c.in_ok-vec.ensures.items_if_clones_equal (λ y same. same) ∙ ap (replicate (length c.banks-banks.result.now * length c.banks-banks.result.now)) none) c.in_ok-totals.ensures
    c.in_ok-opening_lines.ensures (c.in_ok-vec-2.ensures.items_if_clones_equal (λ y same. same))
    (subst (λ (totals : List (Option ℕ)). c.is_any_total-bounded.result ≡ false → (i : ℕ) → i < length totals → get_or totals i None ≡ None) c.deref.ensures.value c.is_any_total-bounded.ensures.none)

pub returns-clause-valid : goal.returns-clause-valid
returns-clause-valid c =
    let none : c.unwrap-unused.result ≡ 0 = search rules in
    (opened_kept c.args.session.now _ _ _ _ _ _ _ c.banks-banks.ensures.valid c.banks-banks.ensures.value c.in_ok-opening_limits.ensures
    (c.in_ok-vec.ensures.items_if_clones_equal (λ y same. same) ∙ ap (replicate (length c.banks-banks.result.now * length c.banks-banks.result.now)) none) c.in_ok-totals.ensures
    c.in_ok-opening_lines.ensures (c.in_ok-vec-2.ensures.items_if_clones_equal (λ y same. same))
    (subst (λ (totals : List (Option ℕ)). c.is_any_total-bounded.result ≡ false → (i : ℕ) → i < length totals → get_or totals i None ≡ None) c.deref.ensures.value c.is_any_total-bounded.ensures.none)).0
