-- How a text is found among names and among pairs.
use Rattle.std.proofs.Common.{◌≡◌, ◌∙◌, ◌++◌, ◌∷◌, [], ◌-◌, ◌<◌, ◌≤◌, ◌^◌, ◌&&◌, ℕ, min, Bool, true, false, not, List, Some, None, All, length, take, drop, replicate, get_or, position, cond, nat_lt, nat_eq, bytes_eq, subst, refl, sym, ap, ap₂, arith, ⊎_elim}
use Rattle.std.proofs.lemmas.Bool.{cases_lt, and_parts, cond-false, cond-true, le-ltb, lt-ltb, eqb-true, eq-eqb, false_from_ne_true}
use Rattle.std.proofs.lemmas.List.{take_at, drop_at, take_all, length-take, drop-drop, drop-replicate}
use Rattle.std.proofs.lemmas.List.Sums.{position_or_len_is, fails_before_first, passes_at_first, prefix_len-le-length}
use Rattle.std.proofs.Math.Seq.{get_or-append_seam}
use Rattle.std.proofs.lemmas.Nat.{from_le_bytes-to_le_bytes_8}
use Rattle.std.specs.Cmp.Lexicographic.{bytes_decides}
use Rattle.std.specs.Cmp.Derive.{both_true}
use Rattle.std.specs.Int.{w64, from_le_bytes, to_le_bytes}
use Rattle.std.specs.List.{position_or_len, AllPairs}
use Rattle.fx_rules.specs.Names.{padded}
use Rattle.fx_rules.specs.Session.{AreSamePair, IsPairRule, pair_text}
use Rattle.fx_rules.specs.declared.session.PairRule.{PairRule}
use Rattle.fx_rules.proofs.NameTexts.{HasCodeBytes-code, HasPairBytes-pair_text}

pub same_test : (a b : Bool) → (a ≡ true → b ≡ true) → (b ≡ true → a ≡ true) → a ≡ b
same_test true b there back = sym (there refl)
same_test false true there back = back refl
same_test false false there back = refl

-- two tests that agree on each element find the same place
pub position_agrees : {X : Type 0} (p q : X → Bool) (xs : List X) → All (λ x. p x ≡ q x) xs → position p xs ≡ position q xs
position_agrees p q [] agree = refl
position_agrees p q (x ∷ xs) agree =
    let all = x ∷ xs in
    let place : ℕ = position_or_len q all in
    let within : place ≤ length all = prefix_len-le-length (λ (y : _). not (q y)) all in
    let same : position_or_len p all ≡ place = position_or_len_is p all place x within
    (λ k before. agree k x (omega arith) ∙ fails_before_first q all k x before)
    (λ inside. agree place x inside ∙ passes_at_first q all x inside) in
    ap (λ n. cond (nat_lt n (length all)) (Some n) None) same

-- a test that no element passes finds none
pub position_none : {X : Type 0} (p : X → Bool) (xs : List X) → All (λ x. p x ≡ false) xs → None ≡ position p xs
position_none p [] fails = refl
position_none p (x ∷ xs) fails =
    let all = x ∷ xs in
    let past : position_or_len p all ≡ length all = position_or_len_is p all (length all) x (omega arith) (λ k within. fails k x within) (λ inside. absurd (omega (arith, inside))) in
    sym (ap (λ n. cond (nat_lt n (length all)) (Some n) None) past ∙ cond-false _ _ _ (le-ltb (length all) (length all) (omega arith)))

-- where each two elements are apart, one that passes is found, since no two that pass are apart
pub position_alone : {X : Type 0} (R : X → X → Type 0) (p : X → Bool) (xs : List X) (at : ℕ) (x : X)
    → AllPairs R xs → ((y : X) → p y ≡ true → ¬ (R y x)) → at < length xs → get_or xs at x ≡ x → p x ≡ true → Some at ≡ position p xs
position_alone R p xs at x apart alone within is passes =
    let first : position_or_len p xs ≡ at = position_or_len_is p xs at x (omega arith)
    (λ k before. false_from_ne_true _ (λ other. alone (get_or xs k x) other (subst (λ y. R (get_or xs k x) y) is (apart k at x before within))))
    (λ _. ap p is ∙ passes) in
    sym (ap (λ n. cond (nat_lt n (length xs)) (Some n) None) first ∙ cond-true (nat_lt at (length xs)) (Some at) None (lt-ltb at (length xs) within))

-- the text of a pair, in its parts
parts_of_pair : (text : List ℕ) → length text ≡ 7 → get_or text 3 0 ≡ 47 → take 3 text ++ 47 ∷ drop 4 text ≡ text
parts_of_pair [] size slash = absurd (omega arith)
parts_of_pair (a ∷ []) size slash = absurd (omega arith)
parts_of_pair (a ∷ b ∷ []) size slash = absurd (omega arith)
parts_of_pair (a ∷ b ∷ c ∷ []) size slash = absurd (omega arith)
parts_of_pair (a ∷ b ∷ c ∷ d ∷ rest) size slash = ap (λ (byte : ℕ). a ∷ b ∷ c ∷ byte ∷ rest) (sym slash)

-- a pair is written so where its codes are the parts
pair_test : (text : List ℕ) → length text ≡ 7 → get_or text 3 0 ≡ 47 → (rule : PairRule) → IsPairRule rule
    → (bytes_eq rule.base (take 3 text) && bytes_eq rule.quote (drop 4 text)) ≡ bytes_eq (pair_text rule) text
pair_test text size slash rule valid =
    let base : length rule.base ≡ 3 = (HasCodeBytes-code rule.base valid.base).size in
    let quote : List ℕ = 47 ∷ rule.quote in
    same_test _ _
    (λ both.
    let parts = and_parts (bytes_eq rule.base (take 3 text)) (bytes_eq rule.quote (drop 4 text)) both in
    (bytes_decides (pair_text rule) text).1 (ap₂ (λ (front back : List ℕ). front ++ 47 ∷ back) ((bytes_decides rule.base (take 3 text)).0 parts.0) ((bytes_decides rule.quote (drop 4 text)).0 parts.1) ∙ parts_of_pair text size slash))
    (λ whole.
    let is : pair_text rule ≡ text = (bytes_decides (pair_text rule) text).0 whole in
    let front : rule.base ≡ take 3 text = sym (take_at rule.base quote 3 base) ∙ ap (take 3) is in
    let back : quote ≡ drop 3 text = sym (drop_at rule.base quote 3 base) ∙ ap (drop 3) is in
    let last : rule.quote ≡ drop 4 text = ap (drop 1) back ∙ drop-drop 1 3 text in
    both_true ((bytes_decides rule.base (take 3 text)).1 front) ((bytes_decides rule.quote (drop 4 text)).1 last))

-- the place of a text of the form of a pair, by its parts
pub place_by_parts : (pairs : List PairRule) (text : List ℕ) → All IsPairRule pairs → length text ≡ 7 → get_or text 3 0 ≡ 47
    → position (λ rule. bytes_eq rule.base (take 3 text) && bytes_eq rule.quote (drop 4 text)) pairs ≡ position (λ rule. bytes_eq (pair_text rule) text) pairs
place_by_parts pairs text valid size slash =
    position_agrees _ _ pairs (λ k rule within. pair_test text size slash (get_or pairs k rule) (valid k rule within))

-- a pair that is written so is the only one
pub place_alone : (pairs : List PairRule) (text : List ℕ) (at : ℕ) (rule : PairRule) → All IsPairRule pairs → AllPairs (λ a b. ¬ (AreSamePair a b)) pairs → at < length pairs → get_or pairs at rule ≡ rule
    → bytes_eq (pair_text rule) text ≡ true → Some at ≡ position (λ rule. bytes_eq (pair_text rule) text) pairs
place_alone pairs text at rule valid differ within is same =
    let own : IsPairRule rule = subst IsPairRule is (valid at rule within) in
    let written : pair_text rule ≡ text = (bytes_decides (pair_text rule) text).0 same in
    let base : length rule.base ≡ 3 = (HasCodeBytes-code rule.base own.base).size in
    let size : length text ≡ 7 = sym (ap length written) ∙ (HasPairBytes-pair_text rule own).size in
    let seam : get_or (pair_text rule) 3 0 ≡ 47 = ap (λ n. get_or (pair_text rule) n 0) (sym base) ∙ get_or-append_seam rule.base 47 rule.quote 0 in
    let slash : get_or text 3 0 ≡ 47 = sym (ap (λ (t : List ℕ). get_or t 3 0) written) ∙ seam in
    let passes : (bytes_eq rule.base (take 3 text) && bytes_eq rule.quote (drop 4 text)) ≡ true = pair_test text size slash rule own ∙ same in
    let mine = and_parts (bytes_eq rule.base (take 3 text)) (bytes_eq rule.quote (drop 4 text)) passes in
    position_alone (λ a b. ¬ (AreSamePair a b)) (λ rule. bytes_eq rule.base (take 3 text) && bytes_eq rule.quote (drop 4 text)) pairs at rule differ
    (λ other alike apart.
    let parts = and_parts (bytes_eq other.base (take 3 text)) (bytes_eq other.quote (drop 4 text)) alike in
    apart (
      (bytes_decides other.base (take 3 text)).0 parts.0 ∙ sym ((bytes_decides rule.base (take 3 text)).0 mine.0),
      (bytes_decides other.quote (drop 4 text)).0 parts.1 ∙ sym ((bytes_decides rule.quote (drop 4 text)).0 mine.1),
    ))
    within is passes
    ∙ place_by_parts pairs text valid size slash

-- a text of another form is no pair's
not_written : (text : List ℕ) (rule : PairRule) → IsPairRule rule → ¬ ((length text ≡ 7) × (get_or text 3 0 ≡ 47)) → bytes_eq (pair_text rule) text ≡ false
not_written text rule valid other = false_from_ne_true _ (λ same.
    let is : pair_text rule ≡ text = (bytes_decides (pair_text rule) text).0 same in
    let base : length rule.base ≡ 3 = (HasCodeBytes-code rule.base valid.base).size in
    let slash : get_or (pair_text rule) 3 0 ≡ 47 = ap (λ n. get_or (pair_text rule) n 0) (sym base) ∙ get_or-append_seam rule.base 47 rule.quote 0 in
    other (sym (ap length is) ∙ (HasPairBytes-pair_text rule valid).size, sym (ap (λ (t : List ℕ). get_or t 3 0) is) ∙ slash))

pub no_place : (pairs : List PairRule) (text : List ℕ) → All IsPairRule pairs → ¬ ((length text ≡ 7) × (get_or text 3 0 ≡ 47))
    → None ≡ position (λ rule. bytes_eq (pair_text rule) text) pairs
no_place pairs text valid other = position_none _ pairs (λ k rule within. not_written text (get_or pairs k rule) (valid k rule within) other)

-- a name is a text of as many bytes whose word is its own
pub word_tells : (name text bytes : List ℕ) (word mine : ℕ) → padded name ≡ bytes → name ≡ take (length name) bytes → length name ≡ length text → length bytes ≡ 8
    → mine < 2 ^ 64 → to_le_bytes w64 mine ≡ bytes → word < 2 ^ 64 → to_le_bytes w64 word ≡ padded (take 8 text) → nat_eq mine word ≡ bytes_eq name text
word_tells name text bytes word mine stores is size full mine_small mine_bytes small word_bytes =
    let short : length text ≤ 8 = omega (arith, ap length is, length-take (length name) bytes) in
    let whole : take 8 text ≡ text = take_all 8 text short in
    same_test _ _
    (λ same.
    let alike : bytes ≡ padded text = sym mine_bytes ∙ ap (to_le_bytes w64) (eqb-true mine word same) ∙ word_bytes ∙ ap padded whole in
    (bytes_decides name text).1 (is ∙ ap₂ take size alike ∙ take_at text (replicate (8 - length text) 0) (length text) refl))
    (λ same.
    let alike : name ≡ text = (bytes_decides name text).0 same in
    let words : to_le_bytes w64 mine ≡ to_le_bytes w64 word = mine_bytes ∙ sym stores ∙ ap padded (alike ∙ sym whole) ∙ sym word_bytes in
    eq-eqb mine word (sym (from_le_bytes-to_le_bytes_8 mine mine_small) ∙ ap (from_le_bytes w64) words ∙ from_le_bytes-to_le_bytes_8 word small))

-- the bytes of a text, cut to eight and with zeros behind a shorter one
pub padded_front : (text front : List ℕ) (len : ℕ) → len ≡ min (length text) 8 → front ≡ take len text → front ++ drop len (replicate {A = ℕ} 8 0) ≡ padded (take 8 text)
padded_front text front len is first =
    let size : length (take 8 text) ≡ len = omega (arith, length-take 8 text) in
    let same : take len text ≡ take 8 text = ⊎_elim
    (λ (short : length text < 8). take_all len text (omega arith) ∙ sym (take_all 8 text (omega arith)))
    (λ (long : 8 ≤ length text). let eight : len ≡ 8 = omega arith in ap (λ n. take n text) eight)
    (cases_lt (length text) 8) in
    ap₂ (λ (one two : List ℕ). one ++ two) (first ∙ same) (drop-replicate len 8 0 ∙ ap (λ n. replicate (8 - n) 0) (sym size))
