-- The session that is made is a session.
use Rattle.std.proofs.Common.{ℕ, ◌≡◌, ◌≢◌, ◌≤◌, ◌<◌, ◌+◌, ◌-◌, ◌*◌, ◌/◌, ◌%◌, Bool, true, false, ◌||◌, ◌==◌, List, [], ◌∷◌, map, length, inl, inr, refl, ap, sym, subst, ◌∙◌, arith, slice_index, IsTrue, add-one, Option, Some, None, IsSome, SomeIff}
use Rattle.std.proofs.lemmas.Bool.{cases_lt, lt-ltb, le-ltb, le-leb}
use Rattle.std.proofs.lemmas.Bool.Decides.{nat_tests}
use Rattle.std.proofs.lemmas.Nat.{div-mul-add, mod-mul-add, mul-add-lt}
use Rattle.std.proofs.Math.Nat.{mod-lt, div-add-mod}
use Rattle.std.specs.Char.{is_ascii_digit, is_ascii_uppercase}
use Rattle.fx_rules.specs.Lists.{below}
use Rattle.fx_rules.specs.Names.{is_name, is_name_byte, is_code}
use Rattle.fx_rules.specs.Session.{Header, IsSession, IsPairRule}
use Rattle.fx_rules.specs.declared.session.PairRule.{PairRule}
use Rattle.made_session.specs.Draws.{seeded, draw}
use Rattle.made_session.specs.Session.{made_bank, made_base, made_pair, drawn_limit, after_limit, made_limit, made_limits, is_own_place, before_limit, made_header}
use Rattle.std.specs.Prelude.{IfSome}
use Rattle.std.proofs.lemmas.List.Elements.{All-nil}
use Rattle.fx_rules.proofs.Plain.{first-known}
use Rattle.fx_rules.proofs.Below.{length-map_below, get_or_below, all-below}

-- digits and letters

digit : (n : ℕ) → n < 10 → is_ascii_digit (48 + n) ≡ true
digit n within = rw (le-leb 48 (48 + n) (omega arith), le-leb (48 + n) 57 (omega arith)) refl

or_right : (a b : Bool) → b ≡ true → (a || b) ≡ true
or_right true b is = refl
or_right false b is = is

name_digit : (n : ℕ) → n < 10 → is_name_byte (48 + n) ≡ true
name_digit n within = or_right (is_ascii_uppercase (48 + n)) (is_ascii_digit (48 + n)) (digit n within)

letter : (n : ℕ) → n < 26 → is_ascii_uppercase (65 + n) ≡ true
letter n within = rw (le-leb 65 (65 + n) (omega arith), le-leb (65 + n) 90 (omega arith)) refl

-- banks

pub bank_is_named : (k : ℕ) → k < 64 → is_name (made_bank k) ≡ true
bank_is_named k within =
    let tens : (k + 1) / 10 < 10 = omega (arith, div-add-mod (k + 1) 10) in
    let units : (k + 1) % 10 < 10 = mod-lt (k + 1) (omega arith) in
    rw (name_digit ((k + 1) / 10) tens, name_digit ((k + 1) % 10) units) refl

banks_apart : (i j : ℕ) → i < j → made_bank i ≢ made_bank j
banks_apart i j before same =
    let tens : (i + 1) / 10 ≡ (j + 1) / 10 = omega (arith, ap (λ (t : List ℕ). slice_index t 1) same) in
    let units : (i + 1) % 10 ≡ (j + 1) % 10 = omega (arith, ap (λ (t : List ℕ). slice_index t 2) same) in
    omega (arith, tens, units, div-add-mod (i + 1) 10, div-add-mod (j + 1) 10)

-- pairs

base_low : (k : ℕ) → k < 26 → made_base k ≡ 65 ∷ 65 ∷ (65 + k) ∷ []
base_low k low = rw (lt-ltb k 26 low) refl

base_high : (k : ℕ) → 26 ≤ k → made_base k ≡ 65 ∷ 66 ∷ (65 + (k - 26)) ∷ []
base_high k high = rw (le-ltb k 26 high) refl

pub base_is_code : (k : ℕ) → k < 32 → is_code (made_base k) ≡ true
base_is_code k within = elim (cases_lt k 26) [
  | inl low ↦ ap is_code (base_low k low) ∙ rw (letter k low) refl
  | inr high ↦ ap is_code (base_high k high) ∙ rw (letter (k - 26) (omega arith)) refl
]

-- the place of a base among all codes that begin with A
abbrev rank : List ℕ → ℕ
rank text = slice_index text 1 * 26 + slice_index text 2

base_rank : (k : ℕ) → rank (made_base k) ≡ 1755 + k
base_rank k = elim (cases_lt k 26) [
  | inl low ↦ ap rank (base_low k low) ∙ omega arith
  | inr high ↦ ap rank (base_high k high) ∙ omega arith
]

bases_apart : (i j : ℕ) → i < j → made_base i ≢ made_base j
bases_apart i j before same = omega (arith, base_rank i, base_rank j, ap rank same)

base_first : (k : ℕ) → slice_index (made_base k) 0 ≡ 65
base_first k = elim (cases_lt k 26) [
  | inl low ↦ ap (λ (t : List ℕ). slice_index t 0) (base_low k low)
  | inr high ↦ ap (λ (t : List ℕ). slice_index t 0) (base_high k high)
]

pair_is_rule : (k : ℕ) → k < 32 → IsPairRule (made_pair k)
pair_is_rule k within = record {
  base = base_is_code k within;
  quote = refl;
  differ = λ same. omega (arith, base_first k, ap (λ (t : List ℕ). slice_index t 0) same);
  decimals = omega arith;
  lot_least = omega arith;
  lot_most = omega arith;
  lot_whole = refl;
  weight_least = omega arith;
  weight_most = omega arith;
}

-- limits

limit_most : (is_own : Bool) (x : ℕ) → drawn_limit is_own x ≤ 20000
limit_most true x = omega arith
limit_most false x = let few : draw 1 20 x < 20 = mod-lt (x * 48271 % 2147483647) (omega arith) in omega (arith, few)

own_place : (banks i : ℕ) → i < banks → is_own_place banks (i * banks + i) ≡ true
own_place banks i within = rw (div-mul-add i banks i within, mod-mul-add i banks i within) (same i)
  where
    same : (n : ℕ) → (n == n) ≡ true
    same n = grind (arith, nat_tests)

own_limit : (banks x i : ℕ) → i < banks → made_limit banks x (i * banks + i) ≡ 0
own_limit banks x i within = rw (own_place banks i within) refl

pub is_session : (seed banks pairs : ℕ) → 2 ≤ banks → banks ≤ 64 → 1 ≤ pairs → pairs ≤ 32 → IsSession (made_header seed banks pairs)
is_session seed banks pairs two few one most =
    let bank_total : length (map made_bank (below banks)) ≡ banks = length-map_below made_bank banks in
    let pair_total : length (map made_pair (below pairs)) ≡ pairs = length-map_below made_pair pairs in
    let limits = made_limits banks (seeded seed) in
    let full : length limits ≡ banks * banks = length-map_below (made_limit banks (seeded seed)) (banks * banks) in
    record {
      banks_least = omega arith;
      banks_most = omega arith;
      names = all-below (λ name. IsTrue (is_name name)) made_bank banks (λ k within. bank_is_named k (omega arith));
      names_differ = λ i j d before within same.
          let last : j < banks = omega arith in
          banks_apart i j before (sym (get_or_below made_bank banks i d (omega arith)) ∙ same ∙ get_or_below made_bank banks j d last);
      pairs_least = omega arith;
      pairs_most = omega arith;
      rules = all-below IsPairRule made_pair pairs (λ k within. pair_is_rule k (omega arith));
      pairs_differ = λ i j d before within same.
          let last : j < pairs = omega arith in
          bases_apart i j before (ap (λ (r : PairRule). r.base) (sym (get_or_below made_pair pairs i d (omega arith))) ∙ same.0 ∙ ap (λ (r : PairRule). r.base) (get_or_below made_pair pairs j d last));
      limits_full = rw bank_total full;
      limits_most = all-below (λ limit. limit ≤ 1000000000000000) (made_limit banks (seeded seed)) (banks * banks) (λ k within. omega (arith, limit_most (is_own_place banks k) (before_limit banks (seeded seed) k)));
      own_limits = λ i within.
          let bank : i < banks = omega arith in
          ap (λ n. slice_index limits (i * n + i)) bank_total
          ∙ get_or_below (made_limit banks (seeded seed)) (banks * banks) (i * banks + i) 0 (mul-add-lt i banks i banks bank bank)
          ∙ own_limit banks (seeded seed) i bank;
      version_least = omega arith;
      version_most = first-known;
      totals_full = refl;
      totals_most = All-nil (λ most. IfSome most (λ units. units ≤ 1000000000000000));
    }

-- the same of the parts as they were made
pub parts_are_session : (seed banks pairs : ℕ) (h : Header) → 2 ≤ banks → banks ≤ 64 → 1 ≤ pairs → pairs ≤ 32 → h ≡ made_header seed banks pairs → IsSession h
parts_are_session seed banks pairs h two few one most is = subst IsSession (sym is) (is_session seed banks pairs two few one most)

-- one limit more
pub before_more : (banks x place : ℕ) → before_limit banks x (place + 1) ≡ after_limit (is_own_place banks place) (before_limit banks x place)
before_more banks x place = ap (before_limit banks x) (add-one place)

-- a session is built of parts that are one
pub built : (made : Option Header) (h : Header) → SomeIff made (IsSession h) h → IsSession h → IsSome made
built None h none is = absurd (none is)
built (Some other) h some is = refl
