-- The entries of a bank, where none behind those that its front had met touches its key.
use Rattle.std.proofs.Common.{ℕ, ◌≡◌, eqb, Bool, true, false, List, [], ◌∷◌, ◌++◌, refl, ap, sym, ◌∙◌, eqb-true, true≢false, inl, inr}
use Rattle.std.proofs.lemmas.Bool.{cases_Bool}
use Rattle.fx_rules.specs.declared.outcome.Entry.{Entry}
use Rattle.fx_rules.specs.Lists.{Each}
use Rattle.fx_rules.specs.Keyed.{touches_key}
use Rattle.fx_rules.specs.History.{own}
use Rattle.fx_rules.proofs.ListLemmas.{filter_cons_true, filter_cons_false}
use Rattle.fx_rules.proofs.KeyedLemmas.{touches-sender}
use Rattle.fx_chronicle.specs.Touching.{Untouched}

-- an entry of a bank touches its key
not_its : (bank : ℕ) (e : Entry) → touches_key e bank ≡ false → eqb e.bank bank ≡ true → ⊥
not_its bank e untouched is = true≢false (sym (touches-sender e) ∙ ap (touches_key e) (eqb-true e.bank bank is) ∙ untouched)

own-untouched : (bank : ℕ) (rest : List Entry) → Each (λ (e : Entry). touches_key e bank ≡ false) rest → own bank rest ≡ []
own-untouched bank [] each = refl
own-untouched bank (e ∷ es) each =
    elim (cases_Bool (eqb e.bank bank)) [
      | inl is ↦ absurd (not_its bank e each.0 is)
      | inr other ↦ filter_cons_false (λ (e : Entry). eqb e.bank bank) e es other ∙ own-untouched bank es each.1
    ]

pub own-append : (bank : ℕ) (xs ys : List Entry) → own bank (xs ++ ys) ≡ own bank xs ++ own bank ys
own-append bank [] ys = refl
own-append bank (e ∷ es) ys =
    let test : Entry → Bool = λ (e : Entry). eqb e.bank bank in
    elim (cases_Bool (eqb e.bank bank)) [
      | inl is ↦ filter_cons_true test e (es ++ ys) is ∙ ap (λ (os : List Entry). e ∷ os) (own-append bank es ys)
          ∙ ap (λ (os : List Entry). os ++ own bank ys) (sym (filter_cons_true test e es is))
      | inr other ↦ filter_cons_false test e (es ++ ys) other ∙ own-append bank es ys
          ∙ ap (λ (os : List Entry). os ++ own bank ys) (sym (filter_cons_false test e es other))
    ]

append-none : (xs ys : List Entry) → ys ≡ [] → xs ++ ys ≡ xs
append-none [] ys none = none
append-none (x ∷ xs) ys none = ap (λ (os : List Entry). x ∷ os) (append-none xs ys none)

pub own-met : (bank : ℕ) (met entries : List Entry) → Untouched touches_key bank met entries → own bank entries ≡ own bank met
own-met bank met entries untouched =
    ap (own bank) (sym untouched.1) ∙ own-append bank met untouched.0
    ∙ append-none (own bank met) (own bank untouched.0) (own-untouched bank untouched.0 untouched.2)
