-- The locks of the pairs, one after another.
use Rattle.std.proofs.Common.{ℕ, ◌≡◌, ◌+◌, List, [], ◌∷◌, ◌++◌, length, get_or, ap, sym, subst, ◌∙◌, arith, inl, inr, length-append}
use Rattle.std.proofs.Math.ListN.{get_or-append}
use Rattle.std.proofs.Math.Seq.{get_or-append_seam}
use Rattle.std.proofs.lemmas.Bool.{cases_lt}
use Rattle.fx_rules.specs.declared.outcome.Entry.{Entry}
use Rattle.fx_chronicle.specs.Faces.{Witness}
use Rattle.fx_host.specs.inside.Locking.{AreInOrder}
use Rattle.fx_host.specs.inside.Opening.{ArePairFronts}

-- the next pair goes behind them
pub in_order-push : (pairs more : List ℕ) (pair : ℕ) → AreInOrder pairs → pair ≡ length pairs → more ≡ pairs ++ pair ∷ [] → AreInOrder more
in_order-push pairs more pair before pair_is more_is = subst AreInOrder (sym more_is) each
  where
    each : AreInOrder (pairs ++ pair ∷ [])
    each place within =
        elim (cases_lt place (length pairs)) [
          | inl earlier ↦ get_or-append pairs (pair ∷ []) 0 place earlier ∙ before place earlier
          | inr last ↦
              let here : place ≡ length pairs = omega (arith, last, within, length-append pairs (pair ∷ [])) in
              ap (λ n. get_or (pairs ++ pair ∷ []) n 0) here ∙ get_or-append_seam pairs pair [] 0 ∙ pair_is ∙ sym here
        ]

-- the fronts that are left then are those of the pairs behind it
pub fronts-left : (place more : ℕ) (front : Witness Entry) (fronts rest : List (Witness Entry)) → ArePairFronts place fronts → fronts ≡ front ∷ rest → more ≡ place + 1 → ArePairFronts more rest
fronts-left place more front fronts rest are fronts_are more_is = subst (λ n. ArePairFronts n rest) (sym more_is) (subst (ArePairFronts place) fronts_are are).1
