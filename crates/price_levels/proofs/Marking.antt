-- Bits of a row as one of them is set or cleared, and as the first one is looked for.
use Rattle.std.proofs.Common.{ℕ, zero, suc, ◌≡◌, ◌≢◌, ◌+◌, ◌-◌, ◌*◌, ◌/◌, ◌%◌, ◌≤◌, ◌<◌, ◌^◌, ◌==◌, ◌++◌, Bool, true, false, if◌then◌else◌, [], ◌∷◌, List, length, length-append, replicate, get_or, Option, Some, None, w64, inl, inr, refl, ap, ap₂, sym, ◌∙◌, arith}
use Rattle.std.proofs.Math.ListN.{get_or-append, set}
use Rattle.std.proofs.Math.Nat.{div-div-eq-div-mul, div-le_self}
use Rattle.std.proofs.lemmas.Bool.{cases_eq, cases_lt, le-leb, lt-leb}
use Rattle.std.proofs.lemmas.Nat.{pow-add}
use Rattle.std.proofs.lemmas.Nat.Bits.{bit_at-trailing_zeros, bit_at-zero, bit_at_above, bit_at_cat_high, bit_at_cat_low}
use Rattle.std.proofs.lemmas.List.{get_or-append-add, get_or-replicate, get_or-set_same, get_or-set_other, get_or_past, length-replicate}
use Rattle.std.specs.Int.{bit_at, trailing_zeros}
use Rattle.std.proofs.lemmas.List.Sums.{sum_by-append, sum_by-cons}
use Rattle.std.specs.List.{sum_by}
use Rattle.std.specs.Prelude.{IfSome}
use Rattle.price_levels.specs.declared.level.Level.{Level}
use Rattle.price_levels.specs.inside.Bits.{IsFirstMark, bit_of}
use Rattle.price_levels.specs.Rungs.{AreMarks}
use Rattle.price_levels.specs.Ticks.{Ticks, level_of, mark_of, no_level}
use Rattle.price_levels.specs.inside.Marked.{AreMarked, padded}

-- a word whose bit at a tick alone is another
pub bit_here : (words : List ℕ) (at word bit : ℕ) → at / 64 < length words → bit_at word (at % 64) ≡ bit → bit_of (set words (at / 64) word) at ≡ bit
bit_here words at word bit within is = ap (λ (w : ℕ). bit_at w (at % 64)) (get_or-set_same words (at / 64) word 0 within) ∙ is

pub bit_elsewhere : (words : List ℕ) (at word other : ℕ) → at / 64 < length words → other ≢ at
    → ((i : ℕ) → i < 64 → i ≢ at % 64 → bit_at word i ≡ bit_at (get_or words (at / 64) 0) i) → bit_of (set words (at / 64) word) other ≡ bit_of words other
bit_elsewhere words at word other within differ rest =
    elim (cases_eq (other / 64) (at / 64)) [
      | inl same ↦
          ap (λ (k : ℕ). bit_at (get_or (set words (at / 64) word) k 0) (other % 64)) same
          ∙ ap (λ (w : ℕ). bit_at w (other % 64)) (get_or-set_same words (at / 64) word 0 within)
          ∙ rest (other % 64) (omega arith) (λ equal. differ (omega (arith, same, equal)))
          ∙ ap (λ (k : ℕ). bit_at (get_or words k 0) (other % 64)) (sym same)
      | inr apart ↦ ap (λ (w : ℕ). bit_at w (other % 64)) (get_or-set_other words (at / 64) (other / 64) word 0 apart)
    ]

-- a word that is not 0: its lowest bit
pub positive : (n : ℕ) → (n ≡ 0 → ⊥) → 0 < n
positive n some = omega (arith, some)

-- the lowest bit of a word, behind words that have none, is the first from the first tick of these on
pub first_of_word : (words : List ℕ) (first word : ℕ) → first ≤ word → word < length words → get_or words word 0 < 2 ^ 64 → (get_or words word 0 ≡ 0 → ⊥)
    → ((at : ℕ) → 64 * first ≤ at → at < 64 * word → bit_of words at ≡ 0) → IsFirstMark words (64 * first) (word * 64 + trailing_zeros w64 (get_or words word 0))
first_of_word words first word from within fits some passed =
    let n : ℕ = get_or words word 0 in
    let lowest = bit_at-trailing_zeros w64 n (positive n some) fits in
    let t : ℕ = trailing_zeros w64 n in
    let small : t < 64 = lowest.0 in
    let here : (i : ℕ) → i < 64 → (word * 64 + i) / 64 ≡ word = λ i below. omega (arith, below) in
    let bit : (i : ℕ) → i < 64 → bit_of words (word * 64 + i) ≡ bit_at n i = λ i below.
    let rest : (word * 64 + i) % 64 ≡ i = omega (arith, below) in
    ap₂ (λ (k j : ℕ). bit_at (get_or words k 0) j) (here i below) rest in
    record {
      from_on = omega (arith, from);
      within = omega (arith, within, small);
      marked = bit t small ∙ lowest.1;
      first = λ other start before. elim (cases_lt other (word * 64)) [
        | inl early ↦ passed other start (omega (arith, early))
        | inr late ↦
            let place : word * 64 + (other - word * 64) ≡ other = omega (arith, late) in
            ap (bit_of words) (sym place) ∙ bit (other - word * 64) (omega (arith, late, before, small)) ∙ lowest.2 (other - word * 64) (omega (arith, late, before))
      ];
    }

-- the bits of a word from one on
pub bit_at-shifted : (n s i : ℕ) → bit_at (n / 2 ^ s) i ≡ bit_at n (s + i)
bit_at-shifted n s i = ap (λ (q : ℕ). q % 2) (div-div-eq-div-mul n (2 ^ s) (2 ^ i) ∙ ap (λ (q : ℕ). n / q) (sym (pow-add 2 s i)))

-- a tick of the word of another one
bit_of_rest : (words : List ℕ) (from i : ℕ) → from % 64 + i < 64 → bit_of words (from + i) ≡ bit_at (get_or words (from / 64) 0 / 2 ^ (from % 64)) i
bit_of_rest words from i small =
    let here : (from + i) / 64 ≡ from / 64 = omega (arith, small) in
    let rest : (from + i) % 64 ≡ from % 64 + i = omega (arith, small) in
    ap₂ (λ (k j : ℕ). bit_at (get_or words k 0) j) here rest ∙ sym (bit_at-shifted (get_or words (from / 64) 0) (from % 64) i)

pub first_of_rest : (words : List ℕ) (from : ℕ) → from / 64 < length words → get_or words (from / 64) 0 < 2 ^ 64 → (get_or words (from / 64) 0 / 2 ^ (from % 64) ≡ 0 → ⊥)
    → IsFirstMark words from (from + trailing_zeros w64 (get_or words (from / 64) 0 / 2 ^ (from % 64)))
first_of_rest words from within fits some =
    let n : ℕ = get_or words (from / 64) 0 in
    let m : ℕ = n / 2 ^ (from % 64) in
    let lowest = bit_at-trailing_zeros w64 m (positive m some) (omega (arith, fits, div-le_self n (2 ^ (from % 64)))) in
    let t : ℕ = trailing_zeros w64 m in
    let small : from % 64 + t < 64 = elim (cases_lt (from % 64 + t) 64) [
      | inl below ↦ below
      | inr above ↦ absurd (omega (arith, bit_at_above n 64 (from % 64 + t) fits above, bit_at-shifted n (from % 64) t, lowest.1))
    ] in
    record {
      from_on = omega arith;
      within = omega (arith, within, small);
      marked = bit_of_rest words from t small ∙ lowest.1;
      first = λ other start before.
          let place : from + (other - from) ≡ other = omega (arith, start) in
          ap (bit_of words) (sym place) ∙ bit_of_rest words from (other - from) (omega (arith, start, before, small)) ∙ lowest.2 (other - from) (omega (arith, start, before));
    }

-- a word whose bits from one on are all 0
pub none_in_rest : (words : List ℕ) (from : ℕ) → get_or words (from / 64) 0 / 2 ^ (from % 64) ≡ 0 → (other : ℕ) → from ≤ other → other < 64 * (from / 64 + 1) → bit_of words other ≡ 0
none_in_rest words from none other start before =
    let place : from + (other - from) ≡ other = omega (arith, start) in
    ap (bit_of words) (sym place) ∙ bit_of_rest words from (other - from) (omega (arith, start, before)) ∙ ap (λ (m : ℕ). bit_at m (other - from)) none ∙ bit_at-zero (other - from)

-- what is first in the words behind is first of all, where the rest of a word has none
pub first_behind : (words : List ℕ) (from : ℕ) (found : Option ℕ) → get_or words (from / 64) 0 / 2 ^ (from % 64) ≡ 0 → IfSome found (IsFirstMark words (64 * (from / 64 + 1))) → IfSome found (IsFirstMark words from)
first_behind words from None none is = tt
first_behind words from (Some at) none is = record {
  from_on = omega (arith, is.from_on);
  within = is.within;
  marked = is.marked;
  first = λ other start before. elim (cases_lt other (64 * (from / 64 + 1))) [
    | inl early ↦ none_in_rest words from none other start early
    | inr late ↦ is.first other late before
  ];
}

-- A list that is laid out anew.
pub in_front : {A : Type 0} (blank : A) (xs : List A) (before after k : ℕ) → k < before → get_or (padded blank xs before after) k blank ≡ blank
in_front blank xs before after k early =
    get_or-append (replicate before blank) (xs ++ replicate after blank) blank k (omega (arith, early, length-replicate before blank)) ∙ get_or-replicate before k blank blank early

behind : {A : Type 0} (blank : A) (xs : List A) (after k : ℕ) → get_or (xs ++ replicate after blank) k blank ≡ get_or xs k blank
behind blank xs after k =
    elim (cases_lt k (length xs)) [
      | inl within ↦ get_or-append xs (replicate after blank) blank k within
      | inr past ↦
          let place : length xs + (k - length xs) ≡ k = omega (arith, past) in
          ap (λ (j : ℕ). get_or (xs ++ replicate after blank) j blank) (sym place) ∙ get_or-append-add xs (replicate after blank) (k - length xs) blank
          ∙ blanks after (k - length xs) blank ∙ sym (get_or_past xs k blank past)
    ]
  where
    blanks : {B : Type 0} (n j : ℕ) (b : B) → get_or (replicate n b) j b ≡ b
    blanks n j b =
        elim (cases_lt j n) [
          | inl within ↦ get_or-replicate n j b b within
          | inr past ↦ get_or_past (replicate n b) j b (omega (arith, past, length-replicate n b))
        ]

pub in_place : {A : Type 0} (blank : A) (xs : List A) (before after k : ℕ) → get_or (padded blank xs before after) (before + k) blank ≡ get_or xs k blank
in_place blank xs before after k =
    ap (λ (n : ℕ). get_or (padded blank xs before after) (n + k) blank) (sym (length-replicate before blank))
    ∙ get_or-append-add (replicate before blank) (xs ++ replicate after blank) k blank ∙ behind blank xs after k

pub length-padded : {A : Type 0} (blank : A) (xs : List A) (before after : ℕ) → length (padded blank xs before after) ≡ before + length xs + after
length-padded blank xs before after =
    omega (
      arith,
      length-append (replicate before blank) (xs ++ replicate after blank),
      length-append xs (replicate after blank),
      length-replicate before blank,
      length-replicate after blank,
    )

-- how many levels of a list have orders
none_used : (n : ℕ) → sum_by mark_of (replicate n no_level) ≡ 0
none_used zero = refl
none_used (suc n) = omega (arith, sum_by-cons mark_of no_level (replicate n no_level), none_used n)

used_padded : (levels : List Level) (before after : ℕ) → sum_by mark_of (padded no_level levels before after) ≡ sum_by mark_of levels
used_padded levels before after =
    omega (
      arith,
      sum_by-append mark_of (replicate before no_level) (levels ++ replicate after no_level),
      sum_by-append mark_of levels (replicate after no_level),
      none_used before,
      none_used after,
    )

pub mark_few : (level : Level) → mark_of level ≤ 1
mark_few level = by_test (level.lots == 0)
  where
    by_test : (b : Bool) → (if b then 0 else 1) ≤ 1
    by_test true = omega arith
    by_test false = omega arith

pub used_few : (levels : List Level) → sum_by mark_of levels ≤ length levels
used_few [] = omega arith
used_few (level ∷ levels) = omega (arith, sum_by-cons mark_of level levels, mark_few level, used_few levels)

-- the levels and the words of a window, laid out anew
pub marked_padded : (base base' : ℕ) (levels levels' : List Level) (words words' : List ℕ) (used first before after : ℕ) → AreMarked base levels words used
    → levels' ≡ padded no_level levels (64 * before) (64 * after) → words' ≡ padded 0 words before after → base' ≡ 64 * first
    → 64 * (first + before + after) + length levels ≤ 2 ^ 32 → AreMarked base' levels' words' used
marked_padded base base' levels levels' words words' used first before after are levels_are words_are base_is few =
    let long : length levels' ≡ 64 * before + length levels + 64 * after = ap length levels_are ∙ length-padded no_level levels (64 * before) (64 * after) in
    let wide : length words' ≡ before + length words + after = ap length words_are ∙ length-padded 0 words before after in
    record {
      blocks = omega (arith, long, wide, are.blocks);
      aligned = omega (arith, base_is);
      few = omega (arith, long, base_is, few);
      marks = λ at within.
          ap (λ (ws : List ℕ). bit_of ws at) words_are ∙ padded_mark levels words before after at are.blocks are.marks
          ∙ ap (λ (ls : List Level). mark_of (get_or ls at no_level)) (sym levels_are);
      counted = are.counted ∙ sym (ap (λ (ls : List Level). sum_by mark_of ls) levels_are ∙ used_padded levels (64 * before) (64 * after));
    }
  where
    padded_mark : (levels : List Level) (words : List ℕ) (before after at : ℕ) → length levels ≡ 64 * length words → ((k : ℕ) → k < length levels → bit_of words k ≡ mark_of (get_or levels k no_level))
        → bit_of (padded 0 words before after) at ≡ mark_of (get_or (padded no_level levels (64 * before) (64 * after)) at no_level)
    padded_mark levels words before after at blocks marks =
        elim (cases_lt at (64 * before)) [
          | inl early ↦
              ap (λ (w : ℕ). bit_at w (at % 64)) (in_front 0 words before after (at / 64) (omega (arith, early))) ∙ bit_at-zero (at % 64)
              ∙ ap mark_of (sym (in_front no_level levels (64 * before) (64 * after) at early))
          | inr late ↦
              let k : ℕ = at - 64 * before in
              let place : 64 * before + k ≡ at = omega (arith, late) in
              let word : at / 64 ≡ before + k / 64 = omega (arith, place) in
              let bit : at % 64 ≡ k % 64 = omega (arith, place) in
              ap₂ (λ (w j : ℕ). bit_at (get_or (padded 0 words before after) w 0) j) word bit
              ∙ ap (λ (w : ℕ). bit_at w (k % 64)) (in_place 0 words before after (k / 64))
              ∙ elim (cases_lt k (length levels)) [
                | inl within ↦ marks k within
                | inr past ↦
                    ap (λ (w : ℕ). bit_at w (k % 64)) (get_or_past words (k / 64) 0 (omega (arith, past, blocks))) ∙ bit_at-zero (k % 64)
                    ∙ ap mark_of (sym (get_or_past levels k no_level past))
              ]
              ∙ ap mark_of (sym (in_place no_level levels (64 * before) (64 * after) k) ∙ ap (λ (j : ℕ). get_or (padded no_level levels (64 * before) (64 * after)) j no_level) place)
        ]

-- the level of a rank stays
pub at_rank : (ticks : Ticks) (rank : ℕ) → ticks.base ≤ rank → level_of ticks rank ≡ get_or ticks.levels (rank - ticks.base) no_level
at_rank ticks rank from = ap (λ (b : Bool). if b then get_or ticks.levels (rank - ticks.base) no_level else no_level) (le-leb ticks.base rank from)

pub below_rank : (ticks : Ticks) (rank : ℕ) → rank < ticks.base → level_of ticks rank ≡ no_level
below_rank ticks rank under = ap (λ (b : Bool). if b then get_or ticks.levels (rank - ticks.base) no_level else no_level) (lt-leb ticks.base rank under)

pub level_padded : (old new : Ticks) (before after : ℕ) → new.base + before ≡ old.base → new.levels ≡ padded no_level old.levels before after → (rank : ℕ) → level_of new rank ≡ level_of old rank
level_padded old new before after moved are rank =
    elim (cases_lt rank new.base) [
      | inl under ↦ below_rank new rank under ∙ sym (below_rank old rank (omega (arith, under, moved)))
      | inr over ↦
          at_rank new rank over ∙ ap (λ (ls : List Level). get_or ls (rank - new.base) no_level) are
          ∙ elim (cases_lt rank old.base) [
            | inl early ↦ in_front no_level old.levels before after (rank - new.base) (omega (arith, early, moved, over)) ∙ sym (below_rank old rank early)
            | inr late ↦
                let place : rank - new.base ≡ before + (rank - old.base) = omega (arith, late, moved, over) in
                ap (λ (k : ℕ). get_or (padded no_level old.levels before after) k no_level) place ∙ in_place no_level old.levels before after (rank - old.base)
                ∙ sym (at_rank old rank late)
          ]
    ]

-- a window of no ranks is opened at any
pub level_opened : (old new : Ticks) (after : ℕ) → old.levels ≡ [] → new.levels ≡ padded no_level old.levels 0 after → (rank : ℕ) → level_of new rank ≡ level_of old rank
level_opened old new after none are rank = empty new (λ k. ap (λ (ls : List Level). get_or ls k no_level) are ∙ behind no_level old.levels after k ∙ ap (λ (ls : List Level). get_or ls k no_level) none) rank
    ∙ sym (empty old (λ k. ap (λ (ls : List Level). get_or ls k no_level) none) rank)
  where
    empty : (ticks : Ticks) → ((k : ℕ) → get_or ticks.levels k no_level ≡ no_level) → (rank : ℕ) → level_of ticks rank ≡ no_level
    empty ticks none rank =
        elim (cases_lt rank ticks.base) [
          | inl under ↦ below_rank ticks rank under
          | inr over ↦ at_rank ticks rank over ∙ none (rank - ticks.base)
        ]

-- The words of a window, and 64 ranks of two of them.

-- a word of the window tells which ranks of its block have orders
pub word_marks : (ticks : Ticks) (words : List ℕ) (used block k : ℕ) → AreMarked ticks.base ticks.levels words used → k < 64 → ticks.base / 64 ≤ block
    → bit_at (get_or words (block - ticks.base / 64) 0) k ≡ mark_of (level_of ticks (64 * block + k))
word_marks ticks words used block k are small from =
    let first : ℕ = ticks.base / 64 in
    let base : 64 * first ≡ ticks.base = omega (arith, are.aligned) in
    let at : ℕ = 64 * (block - first) + k in
    let place : 64 * block + k - ticks.base ≡ at = omega (arith, base, from) in
    let there : level_of ticks (64 * block + k) ≡ get_or ticks.levels at no_level = at_rank ticks (64 * block + k) (omega (arith, base, from)) ∙ ap (λ (n : ℕ). get_or ticks.levels n no_level) place in
    elim (cases_lt at (length ticks.levels)) [
      | inl within ↦
          let word : at / 64 ≡ block - first = omega (arith, small) in
          let bit : at % 64 ≡ k = omega (arith, small) in
          sym (ap₂ (λ (w j : ℕ). bit_at (get_or words w 0) j) word bit) ∙ are.marks at within ∙ ap mark_of (sym there)
      | inr past ↦
          ap (λ (w : ℕ). bit_at w k) (get_or_past words (block - first) 0 (omega (arith, past, are.blocks, small))) ∙ bit_at-zero k
          ∙ ap mark_of (sym (there ∙ get_or_past ticks.levels at no_level past))
    ]

-- no rank before the window has
pub word_before : (ticks : Ticks) (words : List ℕ) (used block k : ℕ) → AreMarked ticks.base ticks.levels words used → k < 64 → block < ticks.base / 64 → bit_at 0 k ≡ mark_of (level_of ticks (64 * block + k))
word_before ticks words used block k are small before = bit_at-zero k ∙ ap mark_of (sym (below_rank ticks (64 * block + k) (omega (arith, are.aligned, before, small))))

-- of the bits of two words that stand side by side those from one on
pub marks_across : (levels : ℕ → Level) (from low high : ℕ) → low < 2 ^ 64 → ((k : ℕ) → k < 64 → bit_at low k ≡ mark_of (levels (64 * (from / 64) + k))) → ((k : ℕ) → k < 64 → bit_at high k ≡ mark_of (levels (64 * (from / 64 + 1) + k)))
    → AreMarks levels from ((high * 2 ^ 64 + low) / 2 ^ (from % 64) % 2 ^ 64)
marks_across levels from low high fits here next k small =
    let both : ℕ = high * 2 ^ 64 + low in
    let s : ℕ = from % 64 in
    let shifted : ℕ = both / 2 ^ s in
    cut_off shifted ∙ bit_at-shifted both s k
    ∙ elim (cases_lt (s + k) 64) [
      | inl first ↦
          let place : 64 * (from / 64) + (s + k) ≡ from + k = omega arith in
          bit_at_cat_low high 64 low (s + k) first ∙ here (s + k) first ∙ ap (λ (r : ℕ). mark_of (levels r)) place
      | inr second ↦
          let place : 64 * (from / 64 + 1) + (s + k - 64) ≡ from + k = omega (arith, second) in
          bit_at_cat_high high 64 low (s + k) fits second ∙ next (s + k - 64) (omega (arith, small)) ∙ ap (λ (r : ℕ). mark_of (levels r)) place
    ]
  where
    cut_off : (n : ℕ) → bit_at (n % 2 ^ 64) k ≡ bit_at n k
    cut_off n =
        let parts : n / 2 ^ 64 * 2 ^ 64 + n % 2 ^ 64 ≡ n = omega arith in
        sym (bit_at_cat_low (n / 2 ^ 64) 64 (n % 2 ^ 64) k small) ∙ ap (λ (m : ℕ). bit_at m k) parts
