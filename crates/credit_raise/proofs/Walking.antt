-- What waits after a turn, and the other one of two banks.
use Rattle.std.proofs.Common.{ℕ, ◌≡◌, ◌≢◌, eqb, ltb, List, [], ◌∷◌, ◌++◌, ◌⊎◌, inl, inr, sym, ◌∙◌}
use Rattle.std.proofs.lemmas.Bool.{cond_both, cond-true, cond-false, eq-eqb, ne_eqb}
use Rattle.fx_rules.specs.declared.orders.Resting.{Resting}
use Rattle.fx_rules.specs.Lists.{Each}
use Rattle.fx_rules.proofs.ListLemmas.{Each-append}
use Rattle.credit_raise.specs.inside.Playing.{other_of, joined}

-- what waits after a turn
pub Each-joined : (P : Resting → Type 0) (order : Resting) (left : ℕ) (waiting : List Resting) → Each P waiting → P (record order { left = left }) → Each P (joined order left waiting)
Each-joined P order left waiting all last =
    cond_both (ltb 0 left) (waiting ++ record order { left = left } ∷ []) waiting (Each P)
    (λ _. Each-append P waiting (record order { left = left } ∷ []) all (last, tt)) (λ _. all)

-- ---- the two banks

pub other_differs : (i j bank : ℕ) → i ≢ j → (bank ≡ i) ⊎ (bank ≡ j) → bank ≢ other_of i j bank
other_differs i j bank differ (inl is) same =
    differ (sym is ∙ same ∙ cond-true (eqb bank i) j i (eq-eqb bank i is))
other_differs i j bank differ (inr is) same =
    differ (sym (cond-false (eqb bank i) j i (ne_eqb bank i (λ own. differ (sym own ∙ is)))) ∙ sym same ∙ is)
