-- The lots of the ranks that a word marks, added up from the lowest mark on.
use Rattle.std.proofs.Common.{ℕ, zero, suc, ◌≡◌, ◌≢◌, ◌+◌, ◌-◌, ◌*◌, ◌/◌, ◌%◌, min, ◌≤◌, ◌<◌, ◌^◌, Bool, if◌then◌else◌, eqb, List, [], length, get_or, get_or-set_same, get_or-set_other, slice_index, w64, subst, inl, inr, refl, ap, sym, ◌∙◌, arith}
use Rattle.std.proofs.Math.ListN.{length-set, set}
use Rattle.std.proofs.lemmas.Bool.{cases_Bool, cases_eq, cases_lt, eq-eqb, eqb-true}
use Rattle.std.proofs.lemmas.List.{get_or_default, get_or_past}
use Rattle.std.proofs.lemmas.Nat.{and_le_l}
use Rattle.std.proofs.lemmas.Nat.Bits.{bit_at-trailing_zeros, bit_at-zero, bit_at-lt, bit_at_and, bit_at_clear_other, bit_at_clear_same, bit_at_ones, bit_at_ones_above}
use Rattle.std.specs.Int.{bit_at, bit_not, trailing_zeros}
use Rattle.std.specs.Int.Bits.{bit_and}
use Rattle.price_levels.specs.declared.level.Level.{Level}
use Rattle.price_levels.specs.Rungs.{AreMarks, Rungs, kept_at, level_at, level_or, lots_below}
use Rattle.price_levels.specs.Ticks.{Covers, Ticks, level_of, mark_of, no_level}
use Rattle.price_levels.proofs.Marking.{at_rank, below_rank, bit_at-shifted, positive}

-- a level that is not marked has no lots
pub none_marked : (level : Level) → mark_of level ≡ 0 → level.lots ≡ 0
none_marked level none =
    elim (cases_Bool (eqb level.lots 0)) [
      | inl is ↦ eqb-true level.lots 0 is
      | inr isnt ↦ absurd (let it : mark_of level ≡ 1 = ap (λ (b : Bool). if b then 0 else 1) isnt in omega (arith, none, it))
    ]

-- ranks without lots add nothing
pub none_between : (levels : ℕ → Level) (from at more : ℕ) → ((k : ℕ) → at ≤ k → k < at + more → (levels (from + k)).lots ≡ 0) → lots_below levels from (at + more) ≡ lots_below levels from at
none_between levels from at zero none = let it : at + 0 ≡ at = omega arith in ap (lots_below levels from) it
none_between levels from at (suc more) none =
    let it : at + suc more ≡ suc (at + more) = omega arith in
    let rest = none_between levels from at more (λ k start before. none k start (omega (arith, before))) in
    ap (lots_below levels from) it ∙ (let sum : lots_below levels from (at + more) + (levels (from + (at + more))).lots ≡ lots_below levels from at = omega (arith, rest, none (at + more) (omega arith) (omega arith)) in sum)

pub none_up_to : (levels : ℕ → Level) (from at end : ℕ) → at ≤ end → ((k : ℕ) → at ≤ k → k < end → (levels (from + k)).lots ≡ 0) → lots_below levels from end ≡ lots_below levels from at
none_up_to levels from at end within none =
    let it : at + (end - at) ≡ end = omega (arith, within) in
    ap (lots_below levels from) (sym it) ∙ none_between levels from at (end - at) (λ k start before. none k start (omega (arith, before, it)))

-- the marks up to the last rank that are left are those from a place on, and the lots of the ranks before it are added
pub record AreAdded (levels : ℕ → Level) (from last : ℕ) (lots : List ℕ) (sum left : ℕ) (now : List ℕ) : Type 0 where
  pub at : ℕ
  pub within : at ≤ last + 1
  pub passed : (k : ℕ) → k < at → bit_at left k ≡ 0
  pub to_come : (k : ℕ) → at ≤ k → k ≤ last → bit_at left k ≡ mark_of (levels (from + k))
  pub above : (k : ℕ) → last < k → k < 64 → bit_at left k ≡ 0
  pub fits : left < 2 ^ 64
  pub sum_is : sum ≡ lots_below levels from at
  pub small : (k : ℕ) → k < at → (levels (from + k)).lots < 2 ^ 32
  pub long : length now ≡ length lots
  pub added : (k : ℕ) → k < at → slice_index now k ≡ slice_index lots k + (levels (from + k)).lots
  pub same : (k : ℕ) → at ≤ k → slice_index now k ≡ slice_index lots k

-- the lots of all ranks up to the last are added
pub record AllAdded (levels : ℕ → Level) (from last : ℕ) (lots : List ℕ) (sum : ℕ) (now : List ℕ) : Type 0 where
  pub sum_is : sum ≡ lots_below levels from (last + 1)
  pub small : (k : ℕ) → k ≤ last → (levels (from + k)).lots < 2 ^ 32
  pub added : (k : ℕ) → k ≤ last → slice_index now k ≡ slice_index lots k + (levels (from + k)).lots
  pub same : (k : ℕ) → last < k → slice_index now k ≡ slice_index lots k

-- the marks up to the last rank
pub added-begins : (levels : ℕ → Level) (from marks last : ℕ) (lots : List ℕ) → AreMarks levels from marks → marks < 2 ^ 64 → last < 64 → AreAdded levels from last lots 0 (bit_and marks ((2 ^ 64 - 1) / 2 ^ (63 - last))) lots
added-begins levels from marks last lots are fits low =
    let ones : ℕ = (2 ^ 64 - 1) / 2 ^ (63 - last) in
    record {
      at = 0;
      within = omega arith;
      passed = λ k early. absurd (omega (arith, early));
      to_come = λ k _ within.
          let it : bit_at ones k ≡ 1 = bit_at-shifted (2 ^ 64 - 1) (63 - last) k ∙ bit_at_ones 64 (63 - last + k) (omega (arith, within, low)) in
          bit_at_and marks ones k ∙ (let same : min (bit_at marks k) (bit_at ones k) ≡ bit_at marks k = omega (arith, it, bit_at-lt marks k) in same) ∙ are k (omega (arith, within, low));
      above = λ k past small.
          let it : bit_at ones k ≡ 0 = bit_at-shifted (2 ^ 64 - 1) (63 - last) k ∙ bit_at_ones_above 64 (63 - last + k) (omega (arith, past, low)) in
          bit_at_and marks ones k ∙ (let none : min (bit_at marks k) (bit_at ones k) ≡ 0 = omega (arith, it) in none);
      fits = omega (arith, and_le_l marks ones, fits);
      sum_is = refl;
      small = λ k early. absurd (omega (arith, early));
      long = refl;
      added = λ k early. absurd (omega (arith, early));
      same = λ k _. refl;
    }

module _ (levels : ℕ → Level) (from last : ℕ) (lots : List ℕ) (sum left : ℕ) (now : List ℕ) (low : last < 64) (long : length lots ≡ 64) (was : AreAdded levels from last lots sum left now) where
  -- a rank without a mark that is left
  unmarked : (k : ℕ) → was.at ≤ k → k ≤ last → bit_at left k ≡ 0 → (levels (from + k)).lots ≡ 0
  unmarked k start within none = none_marked (levels (from + k)) (sym (was.to_come k start within) ∙ none)

  -- the lowest mark that is left is up to the last rank
  pub lowest_within : left ≢ 0 → trailing_zeros w64 left ≤ last
  lowest_within some =
      let lowest = bit_at-trailing_zeros w64 left (positive left some) was.fits in
      elim (cases_lt last (trailing_zeros w64 left)) [
        | inl past ↦ absurd (omega (arith, was.above (trailing_zeros w64 left) past lowest.0, lowest.1))
        | inr within ↦ within
      ]

  -- a number of the list that stays where the rank has no lots
  skipped_at : (now' : List ℕ) (k : ℕ) → slice_index now' k ≡ slice_index lots k → (levels (from + k)).lots ≡ 0 → slice_index now' k ≡ slice_index lots k + (levels (from + k)).lots
  skipped_at now' k same none = omega (arith, same, none)

  -- the lowest mark is passed
  pub added-on : (sum' left' count : ℕ) (now' : List ℕ) → left ≢ 0 → left' ≡ bit_and left (bit_not w64 (1 * 2 ^ trailing_zeros w64 left % 2 ^ 64))
      → count ≡ (levels (from + trailing_zeros w64 left)).lots → count < 2 ^ 32 → sum' ≡ sum + count
      → now' ≡ set now (trailing_zeros w64 left) (slice_index now (trailing_zeros w64 left) + count) → AreAdded levels from last lots sum' left' now'
  added-on sum' left' count now' some left_is count_is few sum_is now_is =
      let t : ℕ = trailing_zeros w64 left in
      let within : t ≤ last = lowest_within some in
      let lowest = bit_at-trailing_zeros w64 left (positive left some) was.fits in
      let start : was.at ≤ t = elim (cases_lt t was.at) [
        | inl early ↦ absurd (omega (arith, was.passed t early, lowest.1))
        | inr late ↦ late
      ] in
      let next : t + 1 ≡ suc t = omega arith in
      let skipped : lots_below levels from t ≡ lots_below levels from was.at = none_up_to levels from was.at t start (λ k from_on before. unmarked k from_on (omega (arith, before, within)) (lowest.2 k before)) in
      let below : lots_below levels from (t + 1) ≡ lots_below levels from was.at + count = ap (lots_below levels from) next ∙ (let it : lots_below levels from t + (levels (from + t)).lots ≡ lots_below levels from was.at + count = omega (arith, skipped, count_is) in it) in
      let there : slice_index now' t ≡ slice_index now t + count = ap (λ (xs : List ℕ). slice_index xs t) now_is ∙ get_or-set_same now t _ 0 (omega (arith, lowest.0, was.long, long)) in
      let else' : (k : ℕ) → k ≢ t → slice_index now' k ≡ slice_index now k = λ k differ. ap (λ (xs : List ℕ). slice_index xs k) now_is ∙ get_or-set_other now t k _ 0 differ in
      let here : (k : ℕ) → k < 64 → k ≢ t → bit_at left' k ≡ bit_at left k = λ k small differ. ap (λ (n : ℕ). bit_at n k) left_is ∙ bit_at_clear_other w64 left t lowest.0 k small differ in
      record {
        at = t + 1;
        within = omega (arith, within);
        passed = λ k early. elim (cases_eq k t) [
          | inl same ↦ ap (bit_at left') same ∙ ap (λ (n : ℕ). bit_at n t) left_is ∙ bit_at_clear_same w64 left t lowest.0
          | inr differ ↦ here k (omega (arith, early, lowest.0)) differ ∙ lowest.2 k (omega (arith, early, differ))
        ];
        to_come = λ k late most. here k (omega (arith, most, low)) (omega (arith, late)) ∙ was.to_come k (omega (arith, late, start)) most;
        above = λ k past small. here k small (omega (arith, past, within)) ∙ was.above k past small;
        fits = omega (arith, left_is, and_le_l left (bit_not w64 (1 * 2 ^ t % 2 ^ 64)), was.fits);
        sum_is = omega (arith, sum_is, was.sum_is, below);
        small = λ k early. elim (cases_lt k was.at) [
          | inl before ↦ was.small k before
          | inr late ↦ elim (cases_eq k t) [
            | inl same ↦ subst (λ (j : ℕ). (levels (from + j)).lots < 2 ^ 32) (sym same) (omega (arith, count_is, few))
            | inr differ ↦ omega (arith, unmarked k late (omega (arith, early, within)) (lowest.2 k (omega (arith, early, differ))))
          ]
        ];
        long = ap length now_is ∙ length-set now t _ ∙ was.long;
        added = λ k early. elim (cases_lt k was.at) [
          | inl before ↦ else' k (omega (arith, before, start)) ∙ was.added k before
          | inr late ↦ elim (cases_eq k t) [
            | inl same ↦ subst (λ (j : ℕ). slice_index now' j ≡ slice_index lots j + (levels (from + j)).lots) (sym same) (omega (arith, there, was.same t start, count_is))
            | inr differ ↦
                skipped_at now' k (else' k differ ∙ was.same k late) (unmarked k late (omega (arith, early, within)) (lowest.2 k (omega (arith, early, differ))))
          ]
        ];
        same = λ k late. else' k (omega (arith, late)) ∙ was.same k (omega (arith, late, start));
      }

  -- no mark is left
  pub all-added : left ≡ 0 → AllAdded levels from last lots sum now
  all-added none =
      let bare : (k : ℕ) → was.at ≤ k → k < last + 1 → (levels (from + k)).lots ≡ 0 = λ k start before. unmarked k start (omega (arith, before)) (ap (λ (n : ℕ). bit_at n k) none ∙ bit_at-zero k) in
      record {
        sum_is = was.sum_is ∙ sym (none_up_to levels from was.at (last + 1) was.within bare);
        small = λ k within. elim (cases_lt k was.at) [
          | inl before ↦ was.small k before
          | inr late ↦ omega (arith, bare k late (omega (arith, within)))
        ];
        added = λ k within. elim (cases_lt k was.at) [
          | inl before ↦ was.added k before
          | inr late ↦ skipped_at now k (was.same k late) (bare k late (omega (arith, within)))
        ];
        same = λ k past. was.same k (omega (arith, past, was.within));
      }

-- fewer are left once the lowest is taken away
pub fewer_left : (left : ℕ) → left ≢ 0 → left < 2 ^ 64 → bit_and left (bit_not w64 (1 * 2 ^ trailing_zeros w64 left % 2 ^ 64)) < left
fewer_left left some fits =
    let t : ℕ = trailing_zeros w64 left in
    let left' : ℕ = bit_and left (bit_not w64 (1 * 2 ^ t % 2 ^ 64)) in
    let lowest = bit_at-trailing_zeros w64 left (positive left some) fits in
    let most : left' ≤ left = and_le_l left (bit_not w64 (1 * 2 ^ t % 2 ^ 64)) in
    let differ : left' ≢ left = λ same. (let it = ap (λ (n : ℕ). bit_at n t) same in omega (arith, it, bit_at_clear_same w64 left t lowest.0, lowest.1)) in
    omega (arith, most, differ)

-- The ranks that a word marks are in the window, and their lots add up to few.

pub covers_lots : (ticks : Ticks) (rank : ℕ) → (level_of ticks rank).lots ≢ 0 → Covers ticks rank
covers_lots ticks rank some =
    elim (cases_lt rank ticks.base) [
      | inl before ↦ absurd (some (ap (λ (l : Level). l.lots) (below_rank ticks rank before)))
      | inr from ↦
          elim (cases_lt (rank - ticks.base) (length ticks.levels)) [
            | inl within ↦ record { from_on = from; within = omega (arith, from, within) }
            | inr past ↦ absurd (some (ap (λ (l : Level). l.lots) (at_rank ticks rank from ∙ get_or_past ticks.levels (rank - ticks.base) no_level past)))
          ]
    ]

pub marked_lots : (level : Level) → mark_of level ≡ 1 → level.lots ≢ 0
marked_lots level marked none = absurd (let it : mark_of level ≡ 0 = ap (λ (b : Bool). if b then 0 else 1) (eq-eqb level.lots 0 none) in omega (arith, it, marked))

pub few_below : (levels : ℕ → Level) (from count : ℕ) → ((k : ℕ) → k < count → (levels (from + k)).lots < 2 ^ 32) → lots_below levels from count ≤ count * 2 ^ 32
few_below levels from zero few = omega arith
few_below levels from (suc count) few = omega (arith, few_below levels from count (λ k below. few k (omega (arith, below))), few count (omega arith))

module _ (ticks : Ticks) (from last : ℕ) (lots : List ℕ) (sum left : ℕ) (now : List ℕ) (low : last < 64) (long : length lots ≡ 64) (some : left ≢ 0) (was : AreAdded (level_of ticks) from last lots sum left now) where
  -- the lowest mark that is left
  start : was.at ≤ trailing_zeros w64 left
  start =
      elim (cases_lt (trailing_zeros w64 left) was.at) [
        | inl early ↦ absurd (omega (arith, was.passed (trailing_zeros w64 left) early, (bit_at-trailing_zeros w64 left (positive left some) was.fits).1))
        | inr late ↦ late
      ]

  -- its rank is in the window
  pub lowest_in : Covers ticks (from + trailing_zeros w64 left)
  lowest_in =
      let lowest = bit_at-trailing_zeros w64 left (positive left some) was.fits in
      covers_lots ticks (from + trailing_zeros w64 left) (marked_lots (level_of ticks (from + trailing_zeros w64 left)) (sym (was.to_come (trailing_zeros w64 left) start (lowest_within (level_of ticks) from last lots sum left now low long was some)) ∙ lowest.1))

  -- its number in the list is as it was
  pub lowest_same : slice_index now (trailing_zeros w64 left) ≡ slice_index lots (trailing_zeros w64 left)
  lowest_same = was.same (trailing_zeros w64 left) start

  -- the sum so far
  pub sum_few : sum ≤ 65 * 2 ^ 32
  sum_few = omega (arith, was.sum_is, few_below (level_of ticks) from was.at was.small, was.within, low)

-- where no rank is kept apart from the window its levels are all
pub window_alone : (rungs : Rungs) (near : Ticks) → rungs.near ≡ near → rungs.far ≡ [] → (rank : ℕ) → level_of near rank ≡ level_at rungs rank
window_alone rungs near near_is none rank = sym (ap (λ (t : Ticks). level_of t rank) near_is) ∙ sym (ap (λ (far : List (ℕ × Level)). level_or (kept_at far rank) (level_of rungs.near rank)) none)

pub lots_alike : (levels others : ℕ → Level) (from count : ℕ) → ((rank : ℕ) → levels rank ≡ others rank) → lots_below levels from count ≡ lots_below others from count
lots_alike levels others from zero alike = refl
lots_alike levels others from (suc count) alike = omega (arith, lots_alike levels others from count alike, ap (λ (l : Level). l.lots) (alike (from + count)))

-- the level that stands at a rank of the window
pub level_there : (ticks now : Ticks) (rank : ℕ) (found blank : Level) → ticks ≡ now → Covers now rank → found ≡ get_or ticks.levels (rank - ticks.base) blank → found ≡ level_of now rank
level_there ticks now rank found blank same covers is =
    is ∙ ap (λ (t : Ticks). get_or t.levels (rank - t.base) blank) same
    ∙ get_or_default now.levels (rank - now.base) blank no_level (omega (arith, covers.from_on, covers.within))
    ∙ sym (at_rank now rank covers.from_on)
