-- Levels built up a fill at a time are the levels of the fills.
use Rattle.std.proofs.Common.{ℕ, ◌≡◌, ◌+◌, Bool, true, false, cond, eqb, List, [], ◌∷◌, ◌++◌, inl, inr, refl, ap, sym, ◌∙◌, arith, add_assoc}
use Rattle.std.proofs.lemmas.Bool.{cases_Bool, cond_both, cond-true, cond-false, eqb-true}
use Rattle.fx_rules.specs.declared.orders.Fill.{Fill}
use Rattle.fx_rules.specs.declared.orders.Level.{Level}
use Rattle.fx_rules.specs.Lists.{total}
use Rattle.fx_rules.specs.Depth.{with_fill, levels_of}
use Rattle.fx_rules.specs.Depth.{fill_added}

abbrev pub level : ℕ → ℕ → Level
level price lots = record { price = price; lots = lots }

-- what a fill does to the last of some levels
pub last_added : (levels : List Level) (last : Level) (fill : Fill) → fill_added (levels ++ last ∷ []) fill ≡ levels ++ cond (eqb last.price fill.price) (level last.price (last.lots + fill.lots) ∷ []) (last ∷ level fill.price fill.lots ∷ [])
last_added [] last fill = refl
last_added (x ∷ []) last fill = refl
last_added (x ∷ y ∷ levels) last fill = ap (λ (ls : List Level). x ∷ ls) (last_added (y ∷ levels) last fill)

pub last_more : (levels : List Level) (last : Level) (fill : Fill) → eqb last.price fill.price ≡ true → fill_added (levels ++ last ∷ []) fill ≡ levels ++ level fill.price (last.lots + fill.lots) ∷ []
last_more levels last fill same =
    last_added levels last fill
    ∙ ap (λ (ls : List Level). levels ++ ls) (cond-true (eqb last.price fill.price) (level last.price (last.lots + fill.lots) ∷ []) (last ∷ level fill.price fill.lots ∷ []) same)
    ∙ ap (λ p. levels ++ level p (last.lots + fill.lots) ∷ []) (eqb-true last.price fill.price same)

pub last_other : (levels : List Level) (last : Level) (fill : Fill) → eqb last.price fill.price ≡ false → fill_added (levels ++ last ∷ []) fill ≡ (levels ++ last ∷ []) ++ level fill.price fill.lots ∷ []
last_other [] last fill differ = cond-false (eqb last.price fill.price) (level last.price (last.lots + fill.lots) ∷ []) (last ∷ level fill.price fill.lots ∷ []) differ
last_other (x ∷ []) last fill differ = ap (λ (ls : List Level). x ∷ ls) (last_other [] last fill differ)
last_other (x ∷ y ∷ levels) last fill differ = ap (λ (ls : List Level). x ∷ ls) (last_other (y ∷ levels) last fill differ)

joined : (g f : Fill) (b : Bool) → eqb g.price f.price ≡ b → with_fill g (level f.price f.lots ∷ []) ≡ fill_added (level g.price g.lots ∷ []) f
joined g f true same =
    cond-true (eqb g.price f.price) (level f.price (g.lots + f.lots) ∷ []) (level g.price g.lots ∷ level f.price f.lots ∷ []) same
    ∙ ap (λ p. level p (g.lots + f.lots) ∷ []) (sym (eqb-true g.price f.price same))
    ∙ sym (cond-true (eqb g.price f.price) (level g.price (g.lots + f.lots) ∷ []) (level g.price g.lots ∷ level f.price f.lots ∷ []) same)
joined g f false differ =
    cond-false (eqb g.price f.price) (level f.price (g.lots + f.lots) ∷ []) (level g.price g.lots ∷ level f.price f.lots ∷ []) differ
    ∙ sym (cond-false (eqb g.price f.price) (level g.price (g.lots + f.lots) ∷ []) (level g.price g.lots ∷ level f.price f.lots ∷ []) differ)

-- a fill in front of levels
front_same : (g : Fill) (l : Level) (levels : List Level) → eqb g.price l.price ≡ true → with_fill g (l ∷ levels) ≡ level l.price (g.lots + l.lots) ∷ levels
front_same g l levels same = cond-true (eqb g.price l.price) (level l.price (g.lots + l.lots) ∷ levels) (level g.price g.lots ∷ l ∷ levels) same

front_other : (g : Fill) (l : Level) (levels : List Level) → eqb g.price l.price ≡ false → with_fill g (l ∷ levels) ≡ level g.price g.lots ∷ l ∷ levels
front_other g l levels differ = cond-false (eqb g.price l.price) (level l.price (g.lots + l.lots) ∷ levels) (level g.price g.lots ∷ l ∷ levels) differ

-- a fill behind one level
behind_same : (l : Level) (f : Fill) → eqb l.price f.price ≡ true → fill_added (l ∷ []) f ≡ level l.price (l.lots + f.lots) ∷ []
behind_same l f same = cond-true (eqb l.price f.price) (level l.price (l.lots + f.lots) ∷ []) (l ∷ level f.price f.lots ∷ []) same

behind_other : (l : Level) (f : Fill) → eqb l.price f.price ≡ false → fill_added (l ∷ []) f ≡ l ∷ level f.price f.lots ∷ []
behind_other l f differ = cond-false (eqb l.price f.price) (level l.price (l.lots + f.lots) ∷ []) (l ∷ level f.price f.lots ∷ []) differ

total_front : (g : Fill) (levels : List Level) → total (λ (l : Level). l.lots) (with_fill g levels) ≡ g.lots + total (λ (l : Level). l.lots) levels
total_front g [] = refl
total_front g (l ∷ levels) =
    cond_both (eqb g.price l.price) (level l.price (g.lots + l.lots) ∷ levels) (level g.price g.lots ∷ l ∷ levels)
    (λ (ls : List Level). total (λ (m : Level). m.lots) ls ≡ g.lots + (l.lots + total (λ (m : Level). m.lots) levels)) (λ _. omega arith) (λ _. refl)

-- one in front and one behind, in either order
both_ends : (g f : Fill) (levels : List Level) → with_fill g (fill_added levels f) ≡ fill_added (with_fill g levels) f
both_ends g f [] = joined g f (eqb g.price f.price) refl
both_ends g f (l ∷ []) =
    elim (cases_Bool (eqb g.price l.price)) [
      | inl gl ↦ elim (cases_Bool (eqb l.price f.price)) [
        | inl lf ↦
            ap (with_fill g) (behind_same l f lf) ∙ front_same g (level l.price (l.lots + f.lots)) [] gl
            ∙ ap (λ n. level l.price n ∷ []) (sym (add_assoc g.lots l.lots f.lots))
            ∙ sym (ap (λ (ls : List Level). fill_added ls f) (front_same g l [] gl) ∙ behind_same (level l.price (g.lots + l.lots)) f lf)
        | inr lf ↦
            ap (with_fill g) (behind_other l f lf) ∙ front_same g l (level f.price f.lots ∷ []) gl
            ∙ sym (ap (λ (ls : List Level). fill_added ls f) (front_same g l [] gl) ∙ behind_other (level l.price (g.lots + l.lots)) f lf)
      ]
      | inr gl ↦ elim (cases_Bool (eqb l.price f.price)) [
        | inl lf ↦
            ap (with_fill g) (behind_same l f lf) ∙ front_other g (level l.price (l.lots + f.lots)) [] gl
            ∙ sym (ap (λ (ls : List Level). fill_added ls f) (front_other g l [] gl) ∙ ap (λ (ls : List Level). level g.price g.lots ∷ ls) (behind_same l f lf))
        | inr lf ↦
            ap (with_fill g) (behind_other l f lf) ∙ front_other g l (level f.price f.lots ∷ []) gl
            ∙ sym (ap (λ (ls : List Level). fill_added ls f) (front_other g l [] gl) ∙ ap (λ (ls : List Level). level g.price g.lots ∷ ls) (behind_other l f lf))
      ]
    ]
both_ends g f (l ∷ m ∷ levels) =
    elim (cases_Bool (eqb g.price l.price)) [
      | inl gl ↦ front_same g l (fill_added (m ∷ levels) f) gl ∙ sym (ap (λ (ls : List Level). fill_added ls f) (front_same g l (m ∷ levels) gl))
      | inr gl ↦ front_other g l (fill_added (m ∷ levels) f) gl ∙ sym (ap (λ (ls : List Level). fill_added ls f) (front_other g l (m ∷ levels) gl))
    ]

pub levels_of-push : (fills : List Fill) (f : Fill) → levels_of (fills ++ f ∷ []) ≡ fill_added (levels_of fills) f
levels_of-push [] f = refl
levels_of-push (g ∷ fills) f = ap (with_fill g) (levels_of-push fills f) ∙ both_ends g f (levels_of fills)

-- the lots of the levels are those of the fills
pub total-levels : (fills : List Fill) → total (λ (l : Level). l.lots) (levels_of fills) ≡ total (λ (f : Fill). f.lots) fills
total-levels [] = refl
total-levels (g ∷ fills) = total_front g (levels_of fills) ∙ ap (λ n. g.lots + n) (total-levels fills)
