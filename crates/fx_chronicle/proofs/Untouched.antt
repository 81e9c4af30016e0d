-- What a front that missed nothing of its key knows of the entries.
use Rattle.std.proofs.Common.{ℕ, ◌≡◌, ◌==◌, Bool, true, false, true≢false, List, [], ◌∷◌, ◌++◌, refl, ap, sym, ◌∙◌, cond, ne_eqb, append-nil}
use mathlib.Core.Logic.{dite}
use native.Mathlib.Decide.{ℕ_discrete}
use Rattle.fx_rules.specs.Lists.{Each}
use Rattle.fx_rules.specs.declared.outcome.Entry.{Entry}
use Rattle.fx_rules.specs.History.{own}
use Rattle.fx_rules.specs.Keyed.{touches_key}
use Rattle.fx_rules.proofs.KeyedLemmas.{touches-sender}
use Rattle.fx_chronicle.specs.Touching.{Untouched}

own_append : (bank : ℕ) (xs ys : List Entry) → own bank (xs ++ ys) ≡ own bank xs ++ own bank ys
own_append bank [] ys = refl
own_append bank (x ∷ xs) ys = at (x.bank == bank) (own_append bank xs ys)
  where
    at : (b : Bool) → own bank (xs ++ ys) ≡ own bank xs ++ own bank ys
        → cond b (x ∷ own bank (xs ++ ys)) (own bank (xs ++ ys)) ≡ cond b (x ∷ own bank xs) (own bank xs) ++ own bank ys
    at true rest = ap (λ w. x ∷ w) rest
    at false rest = rest

-- who sent an entry is touched by it
not_sent : (bank : ℕ) (e : Entry) → touches_key e bank ≡ false → (e.bank == bank) ≡ false
not_sent bank e free = dite (ℕ_discrete e.bank bank)
    (λ same. absurd (true≢false (sym (touches-sender e) ∙ ap (touches_key e) same ∙ free)))
    (λ apart. ne_eqb e.bank bank apart)

own_none : (bank : ℕ) (es : List Entry) → Each (λ e. touches_key e bank ≡ false) es → own bank es ≡ []
own_none bank [] all = refl
own_none bank (e ∷ es) all = ap (λ b. cond b (e ∷ own bank es) (own bank es)) (not_sent bank e all.0) ∙ own_none bank es all.1

-- the entries of a bank are those among what its front had met
pub own-untouched : (bank : ℕ) (met entries : List Entry) → Untouched touches_key bank met entries → own bank entries ≡ own bank met
own-untouched bank met entries u =
    ap (own bank) (sym u.1) ∙ own_append bank met u.0 ∙ ap (λ w. own bank met ++ w) (own_none bank u.0 u.2) ∙ append-nil (own bank met)
