-- How the tests of a session's banks, pairs and limits tell whether it is valid.
use Rattle.std.proofs.Common.{◌≡◌, All, option_map, slice_get, ◌&&◌, bytes_eq, ◌<◌, ◌+◌, ◌*◌, ◌/◌, ◌%◌, ℕ, Bool, true, false, cond, List, Some, None, length, take, get_or, is_some, nat_lt, position, slice_index, ◌≢◌, ◌++◌, ◌∷◌, [], Option, IsTrue, refl, sym, ap, ap₂, ◌∙◌, subst, arith, inl, inr}
use Rattle.std.specs.List.{position_or_len, AllPairs}
use Rattle.fx_rules.specs.declared.session.PairRule.{PairRule}
use Rattle.fx_rules.specs.Names.{is_code}
use Rattle.fx_rules.specs.Session.{AreSamePair}
use Rattle.std.proofs.lemmas.Bool.{cases_lt, false≢true}
use Rattle.std.specs.Cmp.Lexicographic.{bytes_decides}
use Rattle.std.proofs.lemmas.Bool.Decides.{nat_tests}
use Rattle.std.proofs.lemmas.List.{get_or-take, get_or_read, length-take-le}
use Rattle.std.proofs.lemmas.List.Quantifiers.{position-Some}
use Rattle.std.proofs.lemmas.Option.{slice_get_cases}
use Rattle.std.proofs.lemmas.List.Sums.{fails_before_first, passes_at_first}
use Rattle.std.proofs.lemmas.Nat.{mul-add-lt, mod-mul-add, div_below, div-add-mod'}

and_true : (a b : Bool) → a ≡ true → b ≡ true → (a && b) ≡ true
and_true a b p q = grind (arith, nat_tests)

and_parts : (a b : Bool) → (a && b) ≡ true → (a ≡ true) × (b ≡ true)
and_parts true b both = (refl, both)
and_parts false b both = absurd (false≢true both)

is_some-position : {X : Type 0} (p : X → Bool) (xs : List X) → is_some (position p xs) ≡ nat_lt (position_or_len p xs) (length xs)
is_some-position p xs =
    elim (nat_lt (position_or_len p xs) (length xs)) as (λ b. is_some (cond b (Some (position_or_len p xs)) None) ≡ b) [ true ↦ refl | false ↦ refl ]

-- where `position` finds none, none passes
fails_below : {X : Type 0} (p : X → Bool) (xs : List X) → is_some (position p xs) ≡ false → (k : ℕ) (d : X) → k < length xs → p (get_or xs k d) ≡ false
fails_below p xs none k d within =
    let past : nat_lt (position_or_len p xs) (length xs) ≡ false = sym (is_some-position p xs) ∙ none in
    fails_before_first p xs k d (grind (arith, nat_tests))

-- where it finds one, that one passes
passes_somewhere : {X : Type 0} (p : X → Bool) (xs : List X) → is_some (position p xs) ≡ true → (k : ℕ) × (k < length xs) × ((d : X) → p (get_or xs k d) ≡ true)
passes_somewhere p xs some =
    let found : nat_lt (position_or_len p xs) (length xs) ≡ true = sym (is_some-position p xs) ∙ some in
    let within : position_or_len p xs < length xs = grind (arith, nat_tests) in
    (position_or_len p xs, within, λ d. passes_at_first p xs d within)

-- each two of the elements before `at` are in R
abbrev pub AllPairsBelow : {X : Type 0} → (X → X → Type 0) → List X → ℕ → Type 0
AllPairsBelow {X} R xs at = (i j : ℕ) (d : X) → i < j → j < at → R (get_or xs i d) (get_or xs j d)

-- one element more, where the test finds none before it
pub AllPairsBelow-more : {X : Type 0} (R : X → X → Type 0) (p : X → Bool) (xs : List X) (at : ℕ) (x : X) → ((y : X) → p y ≡ false → R y x) → at < length xs → x ≡ get_or xs at x → is_some (position p (take at xs)) ≡ false → AllPairsBelow R xs at → AllPairsBelow R xs (at + 1)
AllPairsBelow-more {X} R p xs at x apart within is_item none below i j d less upto =
    elim (cases_lt j at) [
      | inl earlier ↦ below i j d less earlier
      | inr later ↦
          let is_last : j ≡ at = omega arith in
          let first : get_or (take at xs) i d ≡ get_or xs i d = get_or-take at xs i d (omega arith) in
          let size : length (take at xs) ≡ at = length-take-le at xs (omega arith) in
          let fails : p (get_or xs i d) ≡ false = sym (ap p first) ∙ fails_below p (take at xs) none i d (omega arith) in
          let second : x ≡ get_or xs j d = get_or_read xs at x within is_item d ∙ ap (λ k. get_or xs k d) (sym is_last) in
          subst (λ (y : X). R (get_or xs i d) y) second (apart (get_or xs i d) fails)
    ]

-- where the test finds one before an element, not all pairs are in R
pub AllPairs-fails : {X : Type 0} (R : X → X → Type 0) (p : X → Bool) (xs : List X) (at : ℕ) (x : X) → ((y : X) → p y ≡ true → ¬ (R y x)) → at < length xs → x ≡ get_or xs at x → is_some (position p (take at xs)) ≡ true → ¬ (AllPairs R xs)
AllPairs-fails {X} R p xs at x alike within is_item some all =
    let found = passes_somewhere p (take at xs) some in
    let size : length (take at xs) ≡ at = length-take-le at xs (omega arith) in
    let before : found.0 < at = omega (arith, found.1) in
    let first : get_or (take at xs) found.0 x ≡ get_or xs found.0 x = get_or-take at xs found.0 x before in
    let passes : p (get_or xs found.0 x) ≡ true = sym (ap p first) ∙ found.2 x in
    alike (get_or xs found.0 x) passes (subst (λ (y : X). R (get_or xs found.0 x) y) (sym is_item) (all found.0 at x before within))

-- a bank's own limits stand at the multiples of one more than the number of banks
pub own_limit_at : (limits : List ℕ) (banks i : ℕ) → length limits ≡ banks * banks → ((k : ℕ) → k < length limits → k % (banks + 1) ≡ 0 → get_or limits k 0 ≡ 0) → i < banks → slice_index limits (i * banks + i) ≡ 0
own_limit_at limits banks i full zeros within =
    let place : i * banks + i ≡ i * (banks + 1) + 0 = omega arith in
    zeros (i * banks + i) (omega (arith, mul-add-lt i banks i banks within within)) (ap (λ k. k % (banks + 1)) place ∙ mod-mul-add i (banks + 1) 0 (omega arith))

-- and each such multiple is a bank's own limit
pub own_limit_of : (limits : List ℕ) (banks at : ℕ) → length limits ≡ banks * banks → at < length limits → at % (banks + 1) ≡ 0 → ((i : ℕ) → i < banks → slice_index limits (i * banks + i) ≡ 0) → get_or limits at 0 ≡ 0
own_limit_of limits banks at full within own zeros =
    let place : at / (banks + 1) * banks + at / (banks + 1) ≡ at = omega (arith, div-add-mod' at (banks + 1)) in
    let bank : at / (banks + 1) < banks = div_below at (banks + 1) banks (omega arith) (omega arith) in
    ap (λ k. get_or limits k 0) (sym place) ∙ zeros (at / (banks + 1)) bank

-- a name is another than x, or x, as the test against its text says
name_apart : (x text y : List ℕ) → text ≡ x → bytes_eq y text ≡ false → y ≢ x
name_apart x text y is_text fails same = false≢true (sym fails ∙ (bytes_decides y text).1 (same ∙ sym is_text))

name_alike : (x text y : List ℕ) → text ≡ x → bytes_eq y text ≡ true → ¬ (y ≢ x)
name_alike x text y is_text passes apart = apart ((bytes_decides y text).0 passes ∙ is_text)

pub banks_differ-more : (banks : List (List ℕ)) (at : ℕ) (x text : List ℕ) → text ≡ x → at < length banks → x ≡ get_or banks at x → is_some (position (λ y. bytes_eq y text) (take at banks)) ≡ false → AllPairsBelow (λ a b. a ≢ b) banks at → AllPairsBelow (λ a b. a ≢ b) banks (at + 1)
banks_differ-more banks at x text is_text = AllPairsBelow-more (λ a b. a ≢ b) (λ y. bytes_eq y text) banks at x (λ y. name_apart x text y is_text)

pub banks_differ-fails : (banks : List (List ℕ)) (at : ℕ) (x text : List ℕ) → text ≡ x → at < length banks → x ≡ get_or banks at x → is_some (position (λ y. bytes_eq y text) (take at banks)) ≡ true → ¬ (AllPairs (λ a b. a ≢ b) banks)
banks_differ-fails banks at x text is_text = AllPairs-fails (λ a b. a ≢ b) (λ y. bytes_eq y text) banks at x (λ y. name_alike x text y is_text)

-- a pair is of other currencies than x, or of the same, as the test against the texts of x says
pair_apart : (x y : PairRule) (base quote : List ℕ) → base ≡ x.base → quote ≡ x.quote → (bytes_eq y.base base && bytes_eq y.quote quote) ≡ false → ¬ (AreSamePair y x)
pair_apart x y base quote base_is quote_is fails same =
    false≢true (sym fails ∙ and_true (bytes_eq y.base base) (bytes_eq y.quote quote) ((bytes_decides y.base base).1 (same.0 ∙ sym base_is)) ((bytes_decides y.quote quote).1 (same.1 ∙ sym quote_is)))

pair_alike : (x y : PairRule) (base quote : List ℕ) → base ≡ x.base → quote ≡ x.quote → (bytes_eq y.base base && bytes_eq y.quote quote) ≡ true → ¬ ¬ (AreSamePair y x)
pair_alike x y base quote base_is quote_is passes apart =
    let both = and_parts (bytes_eq y.base base) (bytes_eq y.quote quote) passes in
    apart ((bytes_decides y.base base).0 both.0 ∙ base_is, (bytes_decides y.quote quote).0 both.1 ∙ quote_is)

pub pairs_differ-more : (pairs : List PairRule) (at : ℕ) (x : PairRule) (base quote : List ℕ) → base ≡ x.base → quote ≡ x.quote → at < length pairs → x ≡ get_or pairs at x → is_some (position (λ y. bytes_eq y.base base && bytes_eq y.quote quote) (take at pairs)) ≡ false → AllPairsBelow (λ a b. ¬ (AreSamePair a b)) pairs at → AllPairsBelow (λ a b. ¬ (AreSamePair a b)) pairs (at + 1)
pairs_differ-more pairs at x base quote base_is quote_is = AllPairsBelow-more (λ a b. ¬ (AreSamePair a b)) (λ y. bytes_eq y.base base && bytes_eq y.quote quote) pairs at x (λ y. pair_apart x y base quote base_is quote_is)

pub pairs_differ-fails : (pairs : List PairRule) (at : ℕ) (x : PairRule) (base quote : List ℕ) → base ≡ x.base → quote ≡ x.quote → at < length pairs → x ≡ get_or pairs at x → is_some (position (λ y. bytes_eq y.base base && bytes_eq y.quote quote) (take at pairs)) ≡ true → ¬ (AllPairs (λ a b. ¬ (AreSamePair a b)) pairs)
pairs_differ-fails pairs at x base quote base_is quote_is = AllPairs-fails (λ a b. ¬ (AreSamePair a b)) (λ y. bytes_eq y.base base && bytes_eq y.quote quote) pairs at x (λ y. pair_alike x y base quote base_is quote_is)

cond_some : (b : Bool) (n k : ℕ) → cond b (Some n) None ≡ Some k → (b ≡ true) × (n ≡ k)
cond_some true n k some = (refl, cc)
cond_some false n k some = cc

place_within : {X : Type 0} (p : X → Bool) (xs : List X) (k : ℕ) → position p xs ≡ Some k → k < length xs
place_within p xs k found =
    let parts = cond_some (nat_lt (position_or_len p xs) (length xs)) (position_or_len p xs) k found in
    let test : nat_lt (position_or_len p xs) (length xs) ≡ true = parts.0 in
    let is_place : position_or_len p xs ≡ k = parts.1 in
    grind (arith, nat_tests)

-- what the place that `position` gives tells
pub found_from_place : {X : Type 0} (text_of : X → List ℕ) (text : List ℕ) (xs : List X) (k : ℕ) → position (λ x. bytes_eq (text_of x) text) xs ≡ Some k → option_map text_of (slice_get xs k) ≡ Some text
found_from_place {X} text_of text xs k found =
    let within : k < length xs = place_within (λ (x : X). bytes_eq (text_of x) text) xs k found in
    elim ((slice_get_cases xs k).1) [
      | inl at ↦
          let passes : bytes_eq (text_of (get_or xs k at.0)) text ≡ true = (position-Some (λ (x : X). bytes_eq (text_of x) text) xs k at.0 found).1 in
          ap (option_map text_of) at.2 ∙ ap Some (sym (ap text_of at.3) ∙ (bytes_decides (text_of (get_or xs k at.0)) text).0 passes)
      | inr past ↦ absurd (omega (arith, past.0))
    ]

pub missing_from_place : {X : Type 0} (text_of : X → List ℕ) (text : List ℕ) (xs : List X) → position (λ x. bytes_eq (text_of x) text) xs ≡ None → All (λ x. text_of x ≢ text) xs
missing_from_place text_of text xs none k d within same =
    false≢true (sym (fails_below (λ x. bytes_eq (text_of x) text) xs (ap is_some none) k d within) ∙ (bytes_decides (text_of (get_or xs k d)) text).1 same)

-- a code is its three letters
three_letters : (code : List ℕ) → IsTrue (is_code code) → get_or code 0 0 ∷ get_or code 1 0 ∷ get_or code 2 0 ∷ [] ≡ code
three_letters [] valid = absurd (false≢true valid)
three_letters (a ∷ []) valid = absurd (false≢true valid)
three_letters (a ∷ b ∷ []) valid = absurd (false≢true valid)
three_letters (a ∷ b ∷ c ∷ []) valid = refl
three_letters (a ∷ b ∷ c ∷ d ∷ rest) valid = absurd (false≢true valid)

pub pair_text_by_letters : (base quote first second : List ℕ) → IsTrue (is_code base) → IsTrue (is_code quote) → first ≡ base → second ≡ quote → get_or first 0 0 ∷ get_or first 1 0 ∷ get_or first 2 0 ∷ 47 ∷ get_or second 0 0 ∷ get_or second 1 0 ∷ get_or second 2 0 ∷ [] ≡ base ++ (47 ∷ quote)
pair_text_by_letters base quote first second base_valid quote_valid is_base is_quote =
    ap₂ (λ (x y : List ℕ). get_or x 0 0 ∷ get_or x 1 0 ∷ get_or x 2 0 ∷ 47 ∷ get_or y 0 0 ∷ get_or y 1 0 ∷ get_or y 2 0 ∷ []) is_base is_quote
    ∙ ap₂ (λ (x y : List ℕ). x ++ (47 ∷ y)) (three_letters base base_valid) (three_letters quote quote_valid)

pub option_map-same : {X : Type 0} (o : Option X) → o ≡ option_map (λ x. x) o
option_map-same None = refl
option_map-same (Some x) = refl
