-- Fills by price.
use Rattle.std.proofs.Common.{ℕ, zero, suc, ◌≡◌, ◌+◌, ◌<◌, true, false, eqb, List, [], ◌∷◌, ◌++◌, take, length, ◌⊎◌, inl, inr, refl, ap, sym, subst, ◌∙◌, arith}
use Rattle.std.proofs.lemmas.Bool.{cases_Bool, cond_both, eqb-true}
use Rattle.fx_rules.specs.declared.orders.Fill.{Fill}
use Rattle.fx_rules.specs.declared.orders.Level.{Level}
use Rattle.fx_rules.specs.Lists.{Among, total}
use Rattle.fx_rules.specs.Depth.{with_fill, levels_of}
use Rattle.fx_rules.specs.Truthful.{lots_shown, last_price}

unfoldable pub lots_of : List Fill → ℕ
lots_of fills = total (λ (f : Fill). f.lots) fills

joined : Fill → Level → Level
joined f level = record { price = level.price; lots = f.lots + level.lots }

alone : Fill → Level
alone f = record { price = f.price; lots = f.lots }

with_same : (f : Fill) (level : Level) (levels : List Level) → eqb f.price level.price ≡ true → with_fill f (level ∷ levels) ≡ joined f level ∷ levels
unfolding joined
with_same f level levels same = rw same

with_other : (f : Fill) (level : Level) (levels : List Level) → eqb f.price level.price ≡ false → with_fill f (level ∷ levels) ≡ alone f ∷ level ∷ levels
unfolding alone
with_other f level levels other = rw other

-- the lots of levels are those of their fills
shown_with : (f : Fill) (levels : List Level) → lots_shown (with_fill f levels) ≡ f.lots + lots_shown levels
shown_with f [] = refl
shown_with f (level ∷ levels) =
    cond_both (eqb f.price level.price) (record { price = level.price; lots = f.lots + level.lots } ∷ levels)
    (record { price = f.price; lots = f.lots } ∷ level ∷ levels) (λ (ls : List Level). lots_shown ls ≡ f.lots + lots_shown (level ∷ levels))
    (λ _. omega arith) (λ _. refl)

pub shown-lots : (fills : List Fill) → lots_shown (levels_of fills) ≡ lots_of fills
unfolding lots_of
shown-lots [] = refl
shown-lots (f ∷ fills) = shown_with f (levels_of fills) ∙ ap (λ n. f.lots + n) (shown-lots fills)

-- the first levels with one more fill in front: it is a level of its own, or joins the first
first_with : (f : Fill) (n : ℕ) (levels : List Level) → (with_fill f (take n levels) ≡ take (suc n) (with_fill f levels)) ⊎ (with_fill f (take (suc n) levels) ≡ take (suc n) (with_fill f levels))
unfolding alone
first_with f zero [] = inr refl
first_with f (suc n) [] = inr refl
first_with f zero (level ∷ levels) = elim (cases_Bool (eqb f.price level.price)) [
  | inl same ↦ inr (with_same f level [] same ∙ sym (ap (take 1) (with_same f level levels same)))
  | inr other ↦ inl (sym (ap (take 1) (with_other f level levels other)))
]
first_with f (suc n) (level ∷ levels) = elim (cases_Bool (eqb f.price level.price)) [
  | inl same ↦ inr (with_same f level (take (suc n) levels) same ∙ sym (ap (take (suc (suc n))) (with_same f level levels same)))
  | inr other ↦ inl (with_other f level (take n levels) other ∙ sym (ap (take (suc (suc n))) (with_other f level levels other)))
]

-- some of the first fills
pub record IsPrefix (fills : List Fill) (levels : List Level) : Type 0 where
  pub first : List Fill
  pub rest : List Fill
  pub parts : fills ≡ first ++ rest
  pub made : levels_of first ≡ levels

-- the first levels are those of some of the first fills
pub first_levels : (n : ℕ) (fills : List Fill) → IsPrefix fills (take n (levels_of fills))
first_levels zero fills = record { first = []; rest = fills; parts = refl; made = refl }
first_levels (suc n) [] = record { first = []; rest = []; parts = refl; made = refl }
first_levels (suc n) (f ∷ fills) = elim (first_with f n (levels_of fills)) [
  | inl alone_is ↦
      let less = first_levels n fills in
      record {
        first = f ∷ less.first;
        rest = less.rest;
        parts = ap (λ fs. f ∷ fs) less.parts;
        made = ap (with_fill f) less.made ∙ alone_is;
      }
  | inr joined_is ↦
      let more = first_levels (suc n) fills in
      record {
        first = f ∷ more.first;
        rest = more.rest;
        parts = ap (λ fs. f ∷ fs) more.parts;
        made = ap (with_fill f) more.made ∙ joined_is;
      }
]

-- the last price is unchanged by a fill in front of levels
last_with : (f : Fill) (level : Level) (levels : List Level) → last_price (with_fill f (level ∷ levels)) ≡ last_price (level ∷ levels)
last_with f level [] =
    cond_both (eqb f.price level.price) (record { price = level.price; lots = f.lots + level.lots } ∷ [])
    (record { price = f.price; lots = f.lots } ∷ level ∷ []) (λ (ls : List Level). last_price ls ≡ level.price) (λ _. refl) (λ _. refl)
last_with f level (next ∷ levels) =
    cond_both (eqb f.price level.price) (record { price = level.price; lots = f.lots + level.lots } ∷ next ∷ levels)
    (record { price = f.price; lots = f.lots } ∷ level ∷ next ∷ levels) (λ (ls : List Level). last_price ls ≡ last_price (next ∷ levels)) (λ _. refl) (λ _. refl)

-- with_fill leaves a level in front
has_level : (f : Fill) (levels : List Level) → (level : Level) × ((more : List Level) × (with_fill f levels ≡ level ∷ more))
has_level f [] = (record { price = f.price; lots = f.lots }, ([], refl))
has_level f (level ∷ levels) = elim (cases_Bool (eqb f.price level.price)) [
  | inl same ↦ (joined f level, (levels, with_same f level levels same))
  | inr other ↦ (alone f, (level ∷ levels, with_other f level levels other))
]

last_more : (f : Fill) (levels : List Level) (level : Level) (more : List Level) → levels ≡ level ∷ more → last_price (with_fill f levels) ≡ last_price levels
last_more f levels level more is = subst (λ (ls : List Level). last_price (with_fill f ls) ≡ last_price ls) (sym is) (last_with f level more)

-- the last price is that of the last fill
pub last_price-more : (f g : Fill) (fills : List Fill) → last_price (levels_of (f ∷ g ∷ fills)) ≡ last_price (levels_of (g ∷ fills))
last_price-more f g fills =
    let has = has_level g (levels_of fills) in
    last_more f (levels_of (g ∷ fills)) has.0 has.1.0 has.1.1

pub last_price-among : (f : Fill) (fills : List Fill) → (g : Fill) × Among g (f ∷ fills) × (last_price (levels_of (f ∷ fills)) ≡ g.price)
last_price-among f [] = (f, inl refl, refl)
last_price-among f (g ∷ fills) =
    let later = last_price-among g fills in
    (later.0, inr later.1, last_price-more f g fills ∙ later.2)

-- levels of fills that begin with one: the first of them has its price
record Begins (f : Fill) (levels : List Level) : Type 0 where
  first : Level
  rest : List Level
  parts : levels ≡ first ∷ rest
  price : first.price ≡ f.price

begins : (f : Fill) (levels : List Level) → Begins f (with_fill f levels)
unfolding joined alone
begins f [] = record { first = alone f; rest = []; parts = refl; price = refl }
begins f (level ∷ levels) = elim (cases_Bool (eqb f.price level.price)) [
  | inl same ↦ record { first = joined f level; rest = levels; parts = with_same f level levels same; price = sym (eqb-true f.price level.price same) }
  | inr other ↦ record { first = alone f; rest = level ∷ levels; parts = with_other f level levels other; price = refl }
]

with_joined : Fill → List Level → List Level
with_joined f [] = []
with_joined f (level ∷ levels) = joined f level ∷ levels

-- a fill in front of two lists of levels with one first price, whose first levels are the same
with_first : (f : Fill) (n : ℕ) (level level' : Level) (levels levels' : List Level) → level.price ≡ level'.price →
    suc n < length (with_fill f (level ∷ levels)) →
    ((m : ℕ) → m < length (level ∷ levels) → take m (level' ∷ levels') ≡ take m (level ∷ levels)) →
    take (suc n) (with_fill f (level' ∷ levels')) ≡ take (suc n) (with_fill f (level ∷ levels))
unfolding with_joined joined alone
with_first f n level level' levels levels' price few firsts = elim (cases_Bool (eqb f.price level.price)) [
  | inl same ↦
      let same' : eqb f.price level'.price ≡ true = subst (λ p. eqb f.price p ≡ true) price same in
      let within : suc n < length (level ∷ levels) = subst (λ (ls : List Level). suc n < length ls) (with_same f level levels same) few in
      ap (take (suc n)) (with_same f level' levels' same') ∙ ap (with_joined f) (firsts (suc n) within)
      ∙ sym (ap (take (suc n)) (with_same f level levels same))
  | inr other ↦
      let other' : eqb f.price level'.price ≡ false = subst (λ p. eqb f.price p ≡ false) price other in
      let within : suc n < suc (length (level ∷ levels)) = subst (λ (ls : List Level). suc n < length ls) (with_other f level levels other) few in
      ap (take (suc n)) (with_other f level' levels' other') ∙ ap (λ ls. alone f ∷ ls) (firsts n (omega (arith, within)))
      ∙ sym (ap (take (suc n)) (with_other f level levels other))
]

-- fills that make more than so many levels have the first of them however the fills go on
pub first_levels-stay : (n : ℕ) (fills more : List Fill) → n < length (levels_of fills) → take n (levels_of (fills ++ more)) ≡ take n (levels_of fills)
first_levels-stay zero fills more few = refl
first_levels-stay (suc n) [] more few = absurd (omega (arith, few))
first_levels-stay (suc n) (f ∷ []) more few = absurd (omega (arith, few))
first_levels-stay (suc n) (f ∷ g ∷ fills) more few =
    let one = begins g (levels_of fills) in
    let other = begins g (levels_of (fills ++ more)) in
    let firsts : (m : ℕ) → m < length (one.first ∷ one.rest) → take m (other.first ∷ other.rest) ≡ take m (one.first ∷ one.rest) = λ m within.
    subst (λ (ls : List Level). take m ls ≡ take m (one.first ∷ one.rest)) other.parts
    (subst (λ (ls : List Level). take m (levels_of ((g ∷ fills) ++ more)) ≡ take m ls) one.parts
    (first_levels-stay m (g ∷ fills) more (subst (λ (ls : List Level). m < length ls) (sym one.parts) within))) in
    subst (λ (ls : List Level). take (suc n) (with_fill f ls) ≡ take (suc n) (with_fill f (levels_of (g ∷ fills)))) (sym other.parts)
    (subst (λ (ls : List Level). take (suc n) (with_fill f (other.first ∷ other.rest)) ≡ take (suc n) (with_fill f ls)) (sym one.parts)
    (with_first f n one.first other.first one.rest other.rest (one.price ∙ sym other.price)
    (subst (λ (ls : List Level). suc n < length (with_fill f ls)) one.parts few) firsts))
