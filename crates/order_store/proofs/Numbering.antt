-- A bank's row of numbers: what a search in it finds, and what it has after an entry came in.
use Rattle.std.proofs.Common.{ℕ, zero, suc, ◌≡◌, ◌≢◌, ◌-◌, ◌≤◌, ◌<◌, Bool, true, false, cond, eqb, ltb, List, [], ◌∷◌, ◌++◌, Option, Some, None, length, get_or, inl, inr, refl, ap, sym, subst, ◌∙◌, arith}
use Rattle.std.proofs.Math.ListN.{set}
use Rattle.std.proofs.lemmas.Bool.{cases_eq, cases_lt, cond-true, cond-false, eq-eqb, eqb-true, ne_eqb, lt-ltb, le-ltb, ltb-true, ltb-false}
use Rattle.std.proofs.lemmas.List.{get_or_default}
use Rattle.std.proofs.lemmas.List.Elements.{All-cons, All-nil}
use Rattle.std.proofs.lemmas.List.Kept.{AllPairs-cons}
use Rattle.std.specs.List.{All, insert}
use Rattle.std.specs.List.Sorted.{IsPartitionedBy, IsPartitionPoint}
use Rattle.order_store.specs.declared.row.Numbered.{Numbered}
use Rattle.order_store.specs.inside.Rows.{AreRising, is_at, key_in, with_key}

abbrev pub numbered : ℕ → ℕ → Numbered
numbered number key = record { number = number; key = key }

-- what a search by halves asks, and answers
abbrev pub is_lower : ℕ → Numbered → Bool
is_lower number entry = ltb entry.number number

abbrev pub IsPlace : ℕ → List Numbered → ℕ → Type 0
IsPlace number = IsPartitionPoint (λ entry. is_lower number entry ≡ true) (λ entry. is_lower number entry ≡ false)

rising_later : (entry : Numbered) (entries : List Numbered) → AreRising (entry ∷ entries) → AreRising entries
rising_later entry entries rising = λ i j d below within. rising (suc i) (suc j) d (omega arith) (omega arith)

rising_first : (entry : Numbered) (entries : List Numbered) → AreRising (entry ∷ entries) → All (λ later. entry.number < later.number) entries
rising_first entry entries rising = λ k d within. rising 0 (suc k) d (omega arith) (omega arith)

pub rising-parted : (number : ℕ) (entries : List Numbered) → AreRising entries → IsPartitionedBy (is_lower number) entries
rising-parted number entries rising i j d upto within lower =
    let last : (get_or entries j d).number < number = ltb-true (get_or entries j d).number number lower in
    elim (cases_lt i j) [
      | inl before ↦ let less = rising i j d before within in lt-ltb (get_or entries i d).number number (omega arith)
      | inr behind ↦ let same : i ≡ j = omega arith in subst (λ (k : ℕ). is_lower number (get_or entries k d) ≡ true) (sym same) lower
    ]

-- all numbers are below one that is above the last
pub all_below : (number : ℕ) (entries : List Numbered) (last : Numbered) → AreRising entries → 0 < length entries → last ≡ get_or entries (length entries - 1) last → last.number < number
    → All (λ entry. entry.number < number) entries
all_below number entries last rising some is less k d within =
    let there : get_or entries (length entries - 1) d ≡ last = get_or_default entries (length entries - 1) d last (omega arith) ∙ sym is in
    elim (cases_lt k (length entries - 1)) [
      | inl before ↦
          let below = rising k (length entries - 1) d before (omega arith) in
          omega (arith, below, ap (λ (e : Numbered). e.number) there, less)
      | inr behind ↦
          let same : k ≡ length entries - 1 = omega arith in
          subst (λ (j : ℕ). (get_or entries j d).number < number) (sym same) (omega (arith, ap (λ (e : Numbered). e.number) there, less))
    ]

-- and the other way round
pub last_below : (number : ℕ) (entries : List Numbered) (last : Numbered) → 0 < length entries → last ≡ get_or entries (length entries - 1) last → All (λ entry. entry.number < number) entries
    → last.number < number
last_below number entries last some is below =
    let there : (get_or entries (length entries - 1) last).number < number = below (length entries - 1) last (omega arith) in
    omega (arith, there, ap (λ (e : Numbered). e.number) is)

-- A search.

place_later : (number : ℕ) (entry : Numbered) (entries : List Numbered) (at : ℕ) → IsPlace number (entry ∷ entries) (suc at) → IsPlace number entries at
place_later number entry entries at place = (
  λ k d low high. place.0 (suc k) d (omega arith) (omega arith),
  λ k d low high. place.1 (suc k) d (omega arith) (omega arith),
)

first_lower : (number : ℕ) (entry : Numbered) (entries : List Numbered) (at : ℕ) → IsPlace number (entry ∷ entries) (suc at) → entry.number < number
first_lower number entry entries at place = ltb-true entry.number number (place.0 0 entry (omega arith) (omega arith))

first_not_lower : (number : ℕ) (entry : Numbered) (entries : List Numbered) → IsPlace number (entry ∷ entries) 0 → number ≤ entry.number
first_not_lower number entry entries place = ltb-false entry.number number (place.1 0 entry (omega arith) (omega arith))

key_in-same : (number : ℕ) (entry : Numbered) (entries : List Numbered) → entry.number ≡ number → key_in (entry ∷ entries) number ≡ Some entry.key
key_in-same number entry entries same = cond-true (eqb entry.number number) (Some entry.key) (key_in entries number) (eq-eqb entry.number number same)

key_in-other : (number : ℕ) (entry : Numbered) (entries : List Numbered) → entry.number ≢ number → key_in (entry ∷ entries) number ≡ key_in entries number
key_in-other number entry entries differ = cond-false (eqb entry.number number) (Some entry.key) (key_in entries number) (ne_eqb entry.number number differ)

none_above : (number : ℕ) (entries : List Numbered) → All (λ entry. number < entry.number) entries → key_in entries number ≡ None
none_above number [] above = refl
none_above number (entry ∷ entries) above =
    let first : number < entry.number = above 0 entry (omega arith) in
    key_in-other number entry entries (λ same. omega arith) ∙ none_above number entries (λ k d within. above (suc k) d (omega arith))

pub none_below : (number : ℕ) (entries : List Numbered) → All (λ entry. entry.number < number) entries → key_in entries number ≡ None
none_below number [] below = refl
none_below number (entry ∷ entries) below =
    let first : entry.number < number = below 0 entry (omega arith) in
    key_in-other number entry entries (λ same. omega arith) ∙ none_below number entries (λ k d within. below (suc k) d (omega arith))

none_later : (number : ℕ) (entry : Numbered) (entries : List Numbered) → AreRising (entry ∷ entries) → number ≤ entry.number → key_in entries number ≡ None
none_later number entry entries rising upto =
    none_above number entries (λ k d within. let later = rising_first entry entries rising k d within in omega arith)

pub key_at_none : (number : ℕ) (entries : List Numbered) (at : ℕ) → length entries ≤ at → IsPlace number entries at → key_in entries number ≡ None
key_at_none number [] at past place = refl
key_at_none number (entry ∷ entries) zero past place = absurd (omega arith)
key_at_none number (entry ∷ entries) (suc at) past place =
    let lower = first_lower number entry entries at place in
    key_in-other number entry entries (λ same. omega arith) ∙ key_at_none number entries at (omega arith) (place_later number entry entries at place)

pub key_at_same : (number : ℕ) (entries : List Numbered) (at : ℕ) (found : Numbered) → at < length entries → found ≡ get_or entries at found → found.number ≡ number → IsPlace number entries at
    → key_in entries number ≡ Some found.key
key_at_same number [] at found within is same place = absurd (omega arith)
key_at_same number (entry ∷ entries) zero found within is same place =
    key_in-same number entry entries (sym (ap (λ (e : Numbered). e.number) is) ∙ same) ∙ ap (λ (e : Numbered). Some e.key) (sym is)
key_at_same number (entry ∷ entries) (suc at) found within is same place =
    let lower = first_lower number entry entries at place in
    key_in-other number entry entries (λ equal. omega arith) ∙ key_at_same number entries at found (omega arith) is same (place_later number entry entries at place)

pub key_at_other : (number : ℕ) (entries : List Numbered) (at : ℕ) (found : Numbered) → AreRising entries → at < length entries → found ≡ get_or entries at found → found.number ≢ number → IsPlace number entries at
    → key_in entries number ≡ None
key_at_other number [] at found rising within is differ place = refl
key_at_other number (entry ∷ entries) zero found rising within is differ place =
    let same : found.number ≡ entry.number = ap (λ (e : Numbered). e.number) is in
    key_in-other number entry entries (λ equal. differ (same ∙ equal)) ∙ none_later number entry entries rising (first_not_lower number entry entries place)
key_at_other number (entry ∷ entries) (suc at) found rising within is differ place =
    let lower = first_lower number entry entries at place in
    key_in-other number entry entries (λ equal. omega arith)
    ∙ key_at_other number entries at found (rising_later entry entries rising) (omega arith) is differ (place_later number entry entries at place)

-- An entry comes in.

with_later : (number key : ℕ) (entry : Numbered) (entries : List Numbered) → entry.number < number → with_key number key (entry ∷ entries) ≡ entry ∷ with_key number key entries
with_later number key entry entries lower = cond-true (ltb entry.number number) _ _ (lt-ltb entry.number number lower)

with_same : (number key : ℕ) (entry : Numbered) (entries : List Numbered) → entry.number ≡ number → with_key number key (entry ∷ entries) ≡ numbered number key ∷ entries
with_same number key entry entries same =
    cond-false (ltb entry.number number) _ _ (le-ltb entry.number number (omega arith)) ∙ cond-true (eqb entry.number number) _ _ (eq-eqb entry.number number same)

with_front : (number key : ℕ) (entry : Numbered) (entries : List Numbered) → number < entry.number → with_key number key (entry ∷ entries) ≡ numbered number key ∷ entry ∷ entries
with_front number key entry entries above =
    cond-false (ltb entry.number number) _ _ (le-ltb entry.number number (omega arith)) ∙ cond-false (eqb entry.number number) _ _ (ne_eqb entry.number number (λ same. omega arith))

pub with_key-behind : (number key : ℕ) (entries : List Numbered) → All (λ entry. entry.number < number) entries → entries ++ numbered number key ∷ [] ≡ with_key number key entries
with_key-behind number key [] below = refl
with_key-behind number key (entry ∷ entries) below =
    ap (λ (es : List Numbered). entry ∷ es) (with_key-behind number key entries (λ k d within. below (suc k) d (omega arith)))
    ∙ sym (with_later number key entry entries (below 0 entry (omega arith)))

pub with_key-set : (number key : ℕ) (entries : List Numbered) (at : ℕ) → is_at number entries at ≡ true → IsPlace number entries at → set entries at (numbered number key) ≡ with_key number key entries
with_key-set number key [] at there place = let it : false ≡ true = there in cc
with_key-set number key (entry ∷ entries) zero there place = sym (with_same number key entry entries (eqb-true entry.number number there))
with_key-set number key (entry ∷ entries) (suc at) there place =
    ap (λ (es : List Numbered). entry ∷ es) (with_key-set number key entries at there (place_later number entry entries at place))
    ∙ sym (with_later number key entry entries (first_lower number entry entries at place))

pub with_key-insert : (number key : ℕ) (entries : List Numbered) (at : ℕ) → at ≤ length entries → is_at number entries at ≡ false → IsPlace number entries at → insert entries at (numbered number key) ≡ with_key number key entries
with_key-insert number key [] zero upto there place = refl
with_key-insert number key [] (suc at) upto there place = absurd (omega arith)
with_key-insert number key (entry ∷ entries) zero upto there place =
    let not_lower = first_not_lower number entry entries place in
    sym (with_front number key entry entries (elim (cases_eq entry.number number) [
      | inl same ↦ let it : true ≡ false = sym (eq-eqb entry.number number same) ∙ there in cc
      | inr differ ↦ omega arith
    ]))
with_key-insert number key (entry ∷ entries) (suc at) upto there place =
    ap (λ (es : List Numbered). entry ∷ es) (with_key-insert number key entries at (omega arith) there (place_later number entry entries at place))
    ∙ sym (with_later number key entry entries (first_lower number entry entries at place))

all_with : (P : Numbered → Type 0) (number key : ℕ) (entries : List Numbered) → P (numbered number key) → All P entries → All P (with_key number key entries)
all_with P number key [] new all = All-cons P (numbered number key) [] new (All-nil P)
all_with P number key (entry ∷ entries) new all =
    let first : P entry = all 0 entry (omega arith) in
    let later : All P entries = λ k d within. all (suc k) d (omega arith) in
    elim (cases_lt entry.number number) [
      | inl lower ↦ subst (All P) (sym (with_later number key entry entries lower)) (All-cons P entry (with_key number key entries) first (all_with P number key entries new later))
      | inr upto ↦ elim (cases_eq entry.number number) [
        | inl same ↦ subst (All P) (sym (with_same number key entry entries same)) (All-cons P (numbered number key) entries new later)
        | inr differ ↦ subst (All P) (sym (with_front number key entry entries (omega arith))) (All-cons P (numbered number key) (entry ∷ entries) new all)
      ]
    ]

pub rising-with_key : (number key : ℕ) (entries : List Numbered) → AreRising entries → AreRising (with_key number key entries)
rising-with_key number key [] rising = λ i j d below within. absurd (omega arith)
rising-with_key number key (entry ∷ entries) rising =
    let first = rising_first entry entries rising in
    let later = rising_later entry entries rising in
    elim (cases_lt entry.number number) [
      | inl lower ↦ subst AreRising (sym (with_later number key entry entries lower))
          (AllPairs-cons (λ e o. e.number < o.number) entry (with_key number key entries)
          (all_with (λ o. entry.number < o.number) number key entries lower first) (rising-with_key number key entries later))
      | inr upto ↦ elim (cases_eq entry.number number) [
        | inl same ↦ subst AreRising (sym (with_same number key entry entries same))
            (AllPairs-cons (λ e o. e.number < o.number) (numbered number key) entries (λ k d within. let above = first k d within in omega arith) later)
        | inr differ ↦
            let front : number < entry.number = omega arith in
            subst AreRising (sym (with_front number key entry entries front))
            (AllPairs-cons (λ e o. e.number < o.number) (numbered number key) (entry ∷ entries)
            (All-cons (λ o. number < o.number) entry entries front (λ k d within. let above = first k d within in omega arith)) rising)
      ]
    ]

pub key_in-with_key_same : (number key : ℕ) (entries : List Numbered) → key_in (with_key number key entries) number ≡ Some key
key_in-with_key_same number key [] = key_in-same number (numbered number key) [] refl
key_in-with_key_same number key (entry ∷ entries) =
    elim (cases_lt entry.number number) [
      | inl lower ↦
          ap (λ (es : List Numbered). key_in es number) (with_later number key entry entries lower)
          ∙ key_in-other number entry (with_key number key entries) (λ same. omega arith) ∙ key_in-with_key_same number key entries
      | inr upto ↦ elim (cases_eq entry.number number) [
        | inl same ↦ ap (λ (es : List Numbered). key_in es number) (with_same number key entry entries same) ∙ key_in-same number (numbered number key) entries refl
        | inr differ ↦
            ap (λ (es : List Numbered). key_in es number) (with_front number key entry entries (omega arith)) ∙ key_in-same number (numbered number key) (entry ∷ entries) refl
      ]
    ]

pub key_in-with_key_other : (number key other : ℕ) (entries : List Numbered) → other ≢ number → key_in (with_key number key entries) other ≡ key_in entries other
key_in-with_key_other number key other [] differ = key_in-other other (numbered number key) [] (λ same. differ (sym same))
key_in-with_key_other number key other (entry ∷ entries) differ =
    let passes : (es : List Numbered) → key_in (numbered number key ∷ es) other ≡ key_in es other = λ es. key_in-other other (numbered number key) es (λ same. differ (sym same)) in
    elim (cases_lt entry.number number) [
      | inl lower ↦
          ap (λ (es : List Numbered). key_in es other) (with_later number key entry entries lower)
          ∙ ap (λ (found : Option ℕ). cond (eqb entry.number other) (Some entry.key) found) (key_in-with_key_other number key other entries differ)
      | inr upto ↦ elim (cases_eq entry.number number) [
        | inl same ↦
            ap (λ (es : List Numbered). key_in es other) (with_same number key entry entries same) ∙ passes entries
            ∙ sym (key_in-other other entry entries (λ equal. differ (sym equal ∙ same)))
        | inr apart ↦ ap (λ (es : List Numbered). key_in es other) (with_front number key entry entries (omega arith)) ∙ passes (entry ∷ entries)
      ]
    ]
