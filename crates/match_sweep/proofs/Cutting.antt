-- What the total of a bank pays for: the first fills of a planned sweep, and the first levels, up to so many lots in all.
use Rattle.std.proofs.Common.{ℕ, zero, suc, ◌≡◌, ◌+◌, ◌-◌, ◌*◌, ◌/◌, ◌^◌, ◌≤◌, ◌<◌, min, eqb, if◌then◌else◌, List, [], ◌∷◌, ◌++◌, length, ◌⊎◌, inl, inr, refl, ap, sym, subst, ◌∙◌, arith, Option, Some, None, append-nil, length-append, take}
use Rattle.std.proofs.lemmas.Bool.{cases_Bool, cases_lt, eqb-true}
use Rattle.std.proofs.lemmas.List.{take_all, take_at}
use Rattle.fx_rules.specs.declared.orders.Fill.{Fill}
use Rattle.fx_rules.specs.declared.orders.Level.{Level}
use Rattle.fx_rules.specs.declared.orders.Resting.{Resting}
use Rattle.fx_rules.specs.Lists.{total}
use Rattle.fx_rules.specs.Depth.{with_fill, levels_of}
use Rattle.fx_rules.specs.Truthful.{lots_shown}
use Rattle.fx_rules.specs.Sweep.{Taker, amount, fill_with, less}
use Rattle.fx_rules.specs.Plan.{Planned, spend}
use Rattle.fx_rules.proofs.Capped.{affordable}
use Rattle.fx_rules.proofs.Levels.{lots_of, shown-lots}
use Rattle.fx_rules.proofs.ListLemmas.{total-append}
use Rattle.match_sweep.specs.inside.Reaches.{IsMost, cut}

-- Levels.

abbrev level_is : ℕ → ℕ → Level
level_is price lots = record { price = price; lots = lots }

cut_none : (most : ℕ) → cut most [] ≡ []
cut_none zero = refl
cut_none (suc most) = refl

-- one level more
cut_one : (most : ℕ) (level : Level) → 1 ≤ most → cut most (level ∷ []) ≡ level_is level.price (min most level.lots) ∷ []
cut_one zero level some = absurd (omega (arith, some))
cut_one (suc most) level some = ap (λ (ls : List Level). level_is level.price (min (suc most) level.lots) ∷ ls) (cut_none (suc most - level.lots))

cut_append : (most : ℕ) (levels more : List Level) → cut most (levels ++ more) ≡ cut most levels ++ cut (most - lots_shown levels) more
cut_append zero levels more =
    let none : 0 - lots_shown levels ≡ 0 = omega arith in
    sym (ap (λ n. cut n more) none)
cut_append (suc most) [] more =
    let all : suc most ≡ suc most - 0 = omega arith in
    ap (λ n. cut n more) all
cut_append (suc most) (level ∷ levels) more =
    let rest : ℕ = suc most - level.lots in
    let sum : rest - lots_shown levels ≡ suc most - lots_shown (level ∷ levels) = omega arith in
    ap (λ (ls : List Level). level_is level.price (min (suc most) level.lots) ∷ ls)
    (cut_append rest levels more ∙ ap (λ n. cut rest levels ++ cut n more) sum)

-- all of them, where they have fewer lots
cut_whole : (most : ℕ) (levels : List Level) → lots_shown levels < most → cut most levels ≡ levels
cut_whole zero levels fewer = absurd (omega (arith, fewer))
cut_whole (suc most) [] fewer = refl
cut_whole (suc most) (level ∷ levels) fewer =
    let all : min (suc most) level.lots ≡ level.lots = omega (arith, fewer) in
    ap (λ (ls : List Level). level_is level.price (min (suc most) level.lots) ∷ ls) (cut_whole (suc most - level.lots) levels (omega (arith, fewer)))
    ∙ ap (λ n. level_is level.price n ∷ levels) all

-- Fills.

-- the first fills, up to so many lots in all
abbrev cut_fills : ℕ → List Fill → List Fill
cut_fills zero fills = []
cut_fills (suc most) [] = []
cut_fills (suc most) (fill ∷ fills) = record fill { lots = min (suc most) fill.lots } ∷ cut_fills (suc most - fill.lots) fills

-- a fill in front of levels, of which so many lots are kept
with_cut : (most rest : ℕ) (fill : Fill) (levels : List Level) → rest ≡ suc most - fill.lots → with_fill (record fill { lots = min (suc most) fill.lots }) (cut rest levels) ≡ cut (suc most) (with_fill fill levels)
with_cut most rest fill [] is =
    ap (with_fill (record fill { lots = min (suc most) fill.lots })) (cut_none rest) ∙ sym (cut_one (suc most) (level_is fill.price fill.lots) (omega arith))
with_cut most zero fill (level ∷ levels) is =
    let all : min (suc most) fill.lots ≡ suc most = omega (arith, is) in
    elim (cases_Bool (eqb fill.price level.price)) [
      | inl same ↦
          let both : suc most - (fill.lots + level.lots) ≡ 0 = omega (arith, is) in
          let more : suc most ≡ min (suc most) (fill.lots + level.lots) = omega (arith, is) in
          ap (λ n. level_is fill.price n ∷ []) all
          ∙ ap (λ p. level_is p (suc most) ∷ []) (eqb-true fill.price level.price same)
          ∙ ap (λ n. level_is level.price n ∷ []) more
          ∙ ap (λ n. level_is level.price (min (suc most) (fill.lots + level.lots)) ∷ cut n levels) (sym both)
          ∙ sym (ap (λ b. cut (suc most) (if b then level_is level.price (fill.lots + level.lots) ∷ levels else level_is fill.price fill.lots ∷ level ∷ levels)) same)
      | inr other ↦
          ap (λ n. level_is fill.price (min (suc most) fill.lots) ∷ cut n (level ∷ levels)) is
          ∙ sym (ap (λ b. cut (suc most) (if b then level_is level.price (fill.lots + level.lots) ∷ levels else level_is fill.price fill.lots ∷ level ∷ levels)) other)
    ]
with_cut most (suc rest) fill (level ∷ levels) is =
    let all : min (suc most) fill.lots ≡ fill.lots = omega (arith, is) in
    let kept : Level = level_is level.price (min (suc rest) level.lots) in
    let behind : List Level = cut (suc rest - level.lots) levels in
    elim (cases_Bool (eqb fill.price level.price)) [
      | inl same ↦
          let both : suc rest - level.lots ≡ suc most - (fill.lots + level.lots) = omega (arith, is) in
          let sum : min (suc most) fill.lots + min (suc rest) level.lots ≡ min (suc most) (fill.lots + level.lots) = omega (arith, is) in
          ap (λ b. if b then level_is level.price (min (suc most) fill.lots + min (suc rest) level.lots) ∷ behind else level_is fill.price (min (suc most) fill.lots) ∷ kept ∷ behind) same
          ∙ ap (λ n. level_is level.price n ∷ behind) sum
          ∙ ap (λ n. level_is level.price (min (suc most) (fill.lots + level.lots)) ∷ cut n levels) both
          ∙ sym (ap (λ b. cut (suc most) (if b then level_is level.price (fill.lots + level.lots) ∷ levels else level_is fill.price fill.lots ∷ level ∷ levels)) same)
      | inr other ↦
          ap (λ b. if b then level_is level.price (min (suc most) fill.lots + min (suc rest) level.lots) ∷ behind else level_is fill.price (min (suc most) fill.lots) ∷ kept ∷ behind) other
          ∙ ap (λ n. level_is fill.price (min (suc most) fill.lots) ∷ cut n (level ∷ levels)) is
          ∙ sym (ap (λ b. cut (suc most) (if b then level_is level.price (fill.lots + level.lots) ∷ levels else level_is fill.price fill.lots ∷ level ∷ levels)) other)
    ]

levels_of_cut : (most : ℕ) (fills : List Fill) → levels_of (cut_fills most fills) ≡ cut most (levels_of fills)
levels_of_cut zero fills = refl
levels_of_cut (suc most) [] = refl
levels_of_cut (suc most) (fill ∷ fills) =
    ap (with_fill (record fill { lots = min (suc most) fill.lots })) (levels_of_cut (suc most - fill.lots) fills)
    ∙ with_cut most (suc most - fill.lots) fill (levels_of fills) refl

-- An order that wants so many lots at most: the first fills of its sweep are the sweep of the lesser order.

abbrev capped : ℕ → Taker → Taker
capped most t = record t { left = min most t.left }

least_same : (m a b r : ℕ) → min m (min a (min b r)) ≡ min (min m a) (min b r)
least_same m a b r = omega arith

less_same : (m a n : ℕ) → min (m - n) (a - n) ≡ min m a - n
less_same m a n = omega arith

fits_taker : (a b r n : ℕ) → n ≡ min a (min b r) → n ≤ a
fits_taker a b r n is = omega (arith, is)

-- a cut sweep, and what it leaves
abbrev IsCut : ℕ → (ℕ → ℕ) → List Resting → Taker → Option Resting → ℕ → List Fill → Type 0
IsCut weight lines book t last most fills = (rest : ℕ) × Planned weight lines book (capped most t) last (cut_fills most fills) rest

planned_cut : (weight : ℕ) (lines : ℕ → ℕ) (book : List Resting) (t : Taker) (last : Option Resting) (fills : List Fill) (left most : ℕ) → Planned weight lines book t last fills left → IsCut weight lines book t last most fills
planned_cut weight lines book t last fills left zero planned =
    let none : 0 ≡ min 0 t.left = omega arith in
    (0, (none, inl (sym none)))
planned_cut weight lines book t last [] left (suc most) planned = (
  min (suc most) t.left,
  (
    refl,
    elim planned.1 [
      | inl none ↦ inl (omega (arith, none))
      | inr closed ↦ inr closed
    ],
  ),
)
planned_cut weight lines book t last (fill ∷ fills) left (suc most) planned =
    let best : Resting = planned.0 in
    let reach : ℕ = lines best.bank / weight in
    let lots : ℕ = min (suc most) fill.lots in
    let u : Taker = capped (suc most) t in
    let lots_are : fill.lots ≡ amount t best reach = ap (λ (f : Fill). f.lots) planned.3 in
    let fill_is : record fill { lots = lots } ≡ fill_with u best (amount u best reach) =
    ap (λ (f : Fill). record f { lots = min (suc most) f.lots }) planned.3 ∙ ap (fill_with t best) (least_same (suc most) t.left best.left reach) in
    let fits : fill.lots ≤ t.left = fits_taker t.left best.left reach fill.lots lots_are in
    let Behind : ℕ → ℕ → Type 0 = λ n rest. Planned weight (spend lines best.bank (n * weight)) book (less u n) (Some best) (cut_fills (suc most - fill.lots) fills) rest in
    let behind : (rest : ℕ) × Behind lots rest =
    elim (cases_lt fill.lots (suc most)) [
      | inl within ↦
          let all : fill.lots ≡ lots = omega (arith, within) in
          let next : IsCut weight (spend lines best.bank (fill.lots * weight)) book (less t fill.lots) (Some best) (suc most - fill.lots) fills =
          planned_cut weight (spend lines best.bank (fill.lots * weight)) book (less t fill.lots) (Some best) fills left (suc most - fill.lots) planned.4 in
          let same : capped (suc most - fill.lots) (less t fill.lots) ≡ less u fill.lots = ap (λ n. record t { left = n }) (less_same (suc most) t.left fill.lots) in (
            next.0,
            subst (λ n. Behind n next.0) all
                (subst (λ (v : Taker). Planned weight (spend lines best.bank (fill.lots * weight)) book v (Some best) (cut_fills (suc most - fill.lots) fills) next.0) same next.1),
          )
      | inr over ↦
          let none : 0 ≡ suc most - fill.lots = omega (arith, over) in
          let whole : 0 ≡ min (suc most) t.left - lots = omega (arith, over, fits) in (
            0,
            subst (λ n. Planned weight (spend lines best.bank (lots * weight)) book (less u lots) (Some best) (cut_fills n fills) 0) none (whole, inl (sym whole)),
          )
    ] in (
      behind.0,
      (
        best,
        omega (arith, planned.1),
        planned.2,
        fill_is,
        behind.1,
      ),
    )

-- What a bank's total pays for of a sweep that its lines allow.

pub record WithinTotal (weight : ℕ) (lines : ℕ → ℕ) (book : List Resting) (t : Taker) (purse : Option ℕ) (most : ℕ) (fills : List Fill) : Type 0 where
  pub made : List Fill
  pub rest : ℕ
  pub planned : Planned weight lines book (affordable purse weight t) None made rest
  pub levels : cut most (levels_of fills) ≡ levels_of made

pub within-total : (weight : ℕ) (lines : ℕ → ℕ) (book : List Resting) (t : Taker) (purse : Option ℕ) (most : ℕ) (fills : List Fill) (left : ℕ) → IsMost purse weight most → total (λ (f : Fill). f.lots) fills ≤ 65 * 10 ^ 15 → Planned weight lines book t None fills left → WithinTotal weight lines book t purse most fills
unfolding lots_of
within-total weight lines book t None most fills left is few planned = record {
  made = fills;
  rest = left;
  planned = planned;
  levels = cut_whole most (levels_of fills) (omega (arith, shown-lots fills, few, is));
}
within-total weight lines book t (Some room) most fills left is few planned =
    let cut_plan = planned_cut weight lines book t None fills left most planned in
    record {
      made = cut_fills most fills;
      rest = cut_plan.0;
      planned = subst (λ n. Planned weight lines book (capped n t) None (cut_fills most fills) cut_plan.0) is cut_plan.1;
      levels = sym (levels_of_cut most fills);
    }

-- The levels of a walk, cut as it goes.

-- `whole` are the levels that were come to, of which up to `start` lots are written down; `most` are left of these
pub record AreCut (start most : ℕ) (whole levels : List Level) : Type 0 where
  pub levels_are : levels ≡ cut start whole
  pub left : most ≡ start - lots_shown whole
  pub long : length levels ≡ length whole

pub cut-begins : (start : ℕ) (levels : List Level) → levels ≡ [] → AreCut start start [] levels
cut-begins start levels none = record {
  levels_are = none ∙ sym (cut_none start);
  left = omega arith;
  long = ap length none;
}

pub cut-on : (start most most' : ℕ) (whole levels levels' : List Level) (level : Level) → AreCut start most whole levels → 1 ≤ most → most' ≡ most - min level.lots most
    → levels' ≡ levels ++ level_is level.price (min level.lots most) ∷ [] → AreCut start most' (whole ++ level ∷ []) levels'
cut-on start most most' whole levels levels' level was some falls more =
    let lots : min level.lots most ≡ min most level.lots = omega arith in
    record {
      levels_are = more
          ∙ ap (λ n. levels ++ level_is level.price n ∷ []) lots
          ∙ ap (λ (ls : List Level). levels ++ ls) (sym (cut_one most level some))
          ∙ ap (λ n. levels ++ cut n (level ∷ [])) was.left
          ∙ ap (λ (ls : List Level). ls ++ cut (start - lots_shown whole) (level ∷ [])) was.levels_are
          ∙ sym (cut_append start whole (level ∷ []));
      left = omega (arith, falls, was.left, total-append (λ (l : Level). l.lots) whole (level ∷ []));
      long = ap length more ∙ length-append levels (level_is level.price (min level.lots most) ∷ []) ∙ ap (λ n. n + 1) was.long ∙ sym (length-append whole (level ∷ []));
    }

module _ (start most : ℕ) (whole levels : List Level) (are : AreCut start most whole levels) where
  cut_all : (more : List Level) → cut start (whole ++ more) ≡ levels ++ cut most more
  cut_all more =
      cut_append start whole more ∙ ap (λ (ls : List Level). ls ++ cut (start - lots_shown whole) more) (sym are.levels_are) ∙ ap (λ n. levels ++ cut n more) (sym are.left)

  -- they are the first ten cut: of all levels, where there are no more
  pub cut-ended : length whole ≤ 10 → levels ≡ take 10 (cut start whole)
  cut-ended few = are.levels_are ∙ sym (take_all 10 (cut start whole) (subst (λ (ls : List Level). length ls ≤ 10) are.levels_are (omega (arith, few, are.long))))

  -- and of all with more behind them, where there are ten or nothing more is paid for
  pub cut-first : (more : List Level) → length whole ≤ 10 → (10 ≤ length levels) ⊎ (most ≡ 0) → levels ≡ take 10 (cut start (whole ++ more))
  cut-first more few (inl full) = sym (ap (take 10) (cut_all more) ∙ take_at levels (cut most more) 10 (omega (arith, full, few, are.long)))
  cut-first more few (inr none) =
      sym (ap (take 10) (cut_all more ∙ ap (λ n. levels ++ cut n more) none ∙ append-nil levels) ∙ take_all 10 levels (omega (arith, few, are.long)))
