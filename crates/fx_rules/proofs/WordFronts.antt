-- The first bytes of a word, as it is written byte by byte.
use Rattle.std.proofs.Common.{◌≡◌, ℕ, zero, suc, ◌+◌, ◌-◌, ◌*◌, ◌/◌, ◌%◌, ◌^◌, ◌<◌, ◌≤◌, [], ◌∷◌, take, bit_and, ap, ◌∙◌, arith}
use Rattle.std.proofs.lemmas.Nat.{and_mask}
use Rattle.std.specs.Int.{w64, to_le_bytes}
use Rattle.fx_rules.specs.Names.{padded}

-- a word's byte above so many bytes stands where it stood once the higher ones are cut off, and those are gone
cut_3 : (word : ℕ) → to_le_bytes w64 (word % 2 ^ 24) ≡ padded (take 3 (to_le_bytes w64 word))
cut_3 word =
    let at_0 : word % 16777216 % 256 ≡ word % 256 = omega arith in
    let at_1 : word % 16777216 / 256 % 256 ≡ word / 256 % 256 = omega arith in
    let at_2 : word % 16777216 / 65536 % 256 ≡ word / 65536 % 256 = omega arith in
    let at_3 : word % 16777216 / 16777216 % 256 ≡ 0 = omega arith in
    let at_4 : word % 16777216 / 4294967296 % 256 ≡ 0 = omega arith in
    let at_5 : word % 16777216 / 1099511627776 % 256 ≡ 0 = omega arith in
    let at_6 : word % 16777216 / 281474976710656 % 256 ≡ 0 = omega arith in
    let at_7 : word % 16777216 / 72057594037927936 % 256 ≡ 0 = omega arith in
    λ i. at_0 i ∷ at_1 i ∷ at_2 i ∷ at_3 i ∷ at_4 i ∷ at_5 i ∷ at_6 i ∷ at_7 i ∷ []

cut_4 : (word : ℕ) → to_le_bytes w64 (word % 2 ^ 32) ≡ padded (take 4 (to_le_bytes w64 word))
cut_4 word =
    let at_0 : word % 4294967296 % 256 ≡ word % 256 = omega arith in
    let at_1 : word % 4294967296 / 256 % 256 ≡ word / 256 % 256 = omega arith in
    let at_2 : word % 4294967296 / 65536 % 256 ≡ word / 65536 % 256 = omega arith in
    let at_3 : word % 4294967296 / 16777216 % 256 ≡ word / 16777216 % 256 = omega arith in
    let at_4 : word % 4294967296 / 4294967296 % 256 ≡ 0 = omega arith in
    let at_5 : word % 4294967296 / 1099511627776 % 256 ≡ 0 = omega arith in
    let at_6 : word % 4294967296 / 281474976710656 % 256 ≡ 0 = omega arith in
    let at_7 : word % 4294967296 / 72057594037927936 % 256 ≡ 0 = omega arith in
    λ i. at_0 i ∷ at_1 i ∷ at_2 i ∷ at_3 i ∷ at_4 i ∷ at_5 i ∷ at_6 i ∷ at_7 i ∷ []

cut_5 : (word : ℕ) → to_le_bytes w64 (word % 2 ^ 40) ≡ padded (take 5 (to_le_bytes w64 word))
cut_5 word =
    let at_0 : word % 1099511627776 % 256 ≡ word % 256 = omega arith in
    let at_1 : word % 1099511627776 / 256 % 256 ≡ word / 256 % 256 = omega arith in
    let at_2 : word % 1099511627776 / 65536 % 256 ≡ word / 65536 % 256 = omega arith in
    let at_3 : word % 1099511627776 / 16777216 % 256 ≡ word / 16777216 % 256 = omega arith in
    let at_4 : word % 1099511627776 / 4294967296 % 256 ≡ word / 4294967296 % 256 = omega arith in
    let at_5 : word % 1099511627776 / 1099511627776 % 256 ≡ 0 = omega arith in
    let at_6 : word % 1099511627776 / 281474976710656 % 256 ≡ 0 = omega arith in
    let at_7 : word % 1099511627776 / 72057594037927936 % 256 ≡ 0 = omega arith in
    λ i. at_0 i ∷ at_1 i ∷ at_2 i ∷ at_3 i ∷ at_4 i ∷ at_5 i ∷ at_6 i ∷ at_7 i ∷ []

cut_6 : (word : ℕ) → to_le_bytes w64 (word % 2 ^ 48) ≡ padded (take 6 (to_le_bytes w64 word))
cut_6 word =
    let at_0 : word % 281474976710656 % 256 ≡ word % 256 = omega arith in
    let at_1 : word % 281474976710656 / 256 % 256 ≡ word / 256 % 256 = omega arith in
    let at_2 : word % 281474976710656 / 65536 % 256 ≡ word / 65536 % 256 = omega arith in
    let at_3 : word % 281474976710656 / 16777216 % 256 ≡ word / 16777216 % 256 = omega arith in
    let at_4 : word % 281474976710656 / 4294967296 % 256 ≡ word / 4294967296 % 256 = omega arith in
    let at_5 : word % 281474976710656 / 1099511627776 % 256 ≡ word / 1099511627776 % 256 = omega arith in
    let at_6 : word % 281474976710656 / 281474976710656 % 256 ≡ 0 = omega arith in
    let at_7 : word % 281474976710656 / 72057594037927936 % 256 ≡ 0 = omega arith in
    λ i. at_0 i ∷ at_1 i ∷ at_2 i ∷ at_3 i ∷ at_4 i ∷ at_5 i ∷ at_6 i ∷ at_7 i ∷ []

cut_7 : (word : ℕ) → to_le_bytes w64 (word % 2 ^ 56) ≡ padded (take 7 (to_le_bytes w64 word))
cut_7 word =
    let at_0 : word % 72057594037927936 % 256 ≡ word % 256 = omega arith in
    let at_1 : word % 72057594037927936 / 256 % 256 ≡ word / 256 % 256 = omega arith in
    let at_2 : word % 72057594037927936 / 65536 % 256 ≡ word / 65536 % 256 = omega arith in
    let at_3 : word % 72057594037927936 / 16777216 % 256 ≡ word / 16777216 % 256 = omega arith in
    let at_4 : word % 72057594037927936 / 4294967296 % 256 ≡ word / 4294967296 % 256 = omega arith in
    let at_5 : word % 72057594037927936 / 1099511627776 % 256 ≡ word / 1099511627776 % 256 = omega arith in
    let at_6 : word % 72057594037927936 / 281474976710656 % 256 ≡ word / 281474976710656 % 256 = omega arith in
    let at_7 : word % 72057594037927936 / 72057594037927936 % 256 ≡ 0 = omega arith in
    λ i. at_0 i ∷ at_1 i ∷ at_2 i ∷ at_3 i ∷ at_4 i ∷ at_5 i ∷ at_6 i ∷ at_7 i ∷ []

cut_8 : (word : ℕ) → to_le_bytes w64 (word % 2 ^ 64) ≡ padded (take 8 (to_le_bytes w64 word))
cut_8 word =
    let at_0 : word % 18446744073709551616 % 256 ≡ word % 256 = omega arith in
    let at_1 : word % 18446744073709551616 / 256 % 256 ≡ word / 256 % 256 = omega arith in
    let at_2 : word % 18446744073709551616 / 65536 % 256 ≡ word / 65536 % 256 = omega arith in
    let at_3 : word % 18446744073709551616 / 16777216 % 256 ≡ word / 16777216 % 256 = omega arith in
    let at_4 : word % 18446744073709551616 / 4294967296 % 256 ≡ word / 4294967296 % 256 = omega arith in
    let at_5 : word % 18446744073709551616 / 1099511627776 % 256 ≡ word / 1099511627776 % 256 = omega arith in
    let at_6 : word % 18446744073709551616 / 281474976710656 % 256 ≡ word / 281474976710656 % 256 = omega arith in
    let at_7 : word % 18446744073709551616 / 72057594037927936 % 256 ≡ word / 72057594037927936 % 256 = omega arith in
    λ i. at_0 i ∷ at_1 i ∷ at_2 i ∷ at_3 i ∷ at_4 i ∷ at_5 i ∷ at_6 i ∷ at_7 i ∷ []

pub front_is : (count word : ℕ) → 3 ≤ count → count ≤ 8 → to_le_bytes w64 (bit_and word (18446744073709551615 / 2 ^ (64 - 8 * count))) ≡ padded (take count (to_le_bytes w64 word))
front_is zero word some few = absurd (omega (arith, some))
front_is (suc zero) word some few = absurd (omega (arith, some))
front_is (suc (suc zero)) word some few = absurd (omega (arith, some))
front_is (suc (suc (suc zero))) word some few = ap (to_le_bytes w64) (and_mask word 24) ∙ cut_3 word
front_is (suc (suc (suc (suc zero)))) word some few = ap (to_le_bytes w64) (and_mask word 32) ∙ cut_4 word
front_is (suc (suc (suc (suc (suc zero))))) word some few = ap (to_le_bytes w64) (and_mask word 40) ∙ cut_5 word
front_is (suc (suc (suc (suc (suc (suc zero)))))) word some few = ap (to_le_bytes w64) (and_mask word 48) ∙ cut_6 word
front_is (suc (suc (suc (suc (suc (suc (suc zero))))))) word some few = ap (to_le_bytes w64) (and_mask word 56) ∙ cut_7 word
front_is (suc (suc (suc (suc (suc (suc (suc (suc zero)))))))) word some few = ap (to_le_bytes w64) (and_mask word 64) ∙ cut_8 word
front_is (suc (suc (suc (suc (suc (suc (suc (suc (suc more))))))))) word some few = absurd (omega (arith, few))
