-- The bytes of banks' names, of currency codes and of pairs.
use Rattle.std.proofs.Common.{◌≡◌, ℕ, ◌<◌, ◌≤◌, true, ◌&&◌, not, List, [], ◌∷◌, length, get_or, refl, arith, leb, length-append, All, IsTrue}
use Rattle.std.proofs.lemmas.Bool.{and_parts, leb-true, false≢true}
use Rattle.std.proofs.lemmas.Bool.Decides.{nat_tests}
use Rattle.std.proofs.lemmas.List.Elements.{All-nil, All-cons, All-append}
use Rattle.std.specs.Char.{is_ascii_uppercase}
use Rattle.std.specs.List.{list_all}
use Rattle.fx_rules.specs.inside.Names.{is_reserved}
use Rattle.fx_rules.specs.Names.{is_name, is_code, is_name_byte}
use Rattle.fx_rules.specs.Session.{IsPairRule, pair_text}
use Rattle.fx_rules.specs.declared.session.PairRule.{PairRule}

-- each byte is above the space
abbrev Visible : List ℕ → Type 0
Visible text = All (λ byte. 32 < byte) text

name_byte_visible : (byte : ℕ) → is_name_byte byte ≡ true → 32 < byte
name_byte_visible byte test = grind (arith, nat_tests)

letter_visible : (byte : ℕ) → is_ascii_uppercase byte ≡ true → 64 < byte
letter_visible byte test = grind (arith, nat_tests)

name_bytes_visible : (text : List ℕ) → list_all is_name_byte text ≡ true → Visible text
name_bytes_visible [] all = All-nil (λ byte. 32 < byte)
name_bytes_visible (byte ∷ text) all =
    let parts = and_parts (is_name_byte byte) (list_all is_name_byte text) all in
    All-cons (λ byte. 32 < byte) byte text (name_byte_visible byte parts.0) (name_bytes_visible text parts.1)

-- a name begins with a letter, and so begins no comment
pub record HasNameBytes (text : List ℕ) : Type 0 where
  pub least : 3 ≤ length text
  pub most : length text ≤ 8
  pub letter : 64 < get_or text 0 0
  pub visible : All (λ byte. 32 < byte) text

pub HasNameBytes-name : (text : List ℕ) → IsTrue (is_name text) → HasNameBytes text
HasNameBytes-name text is =
    let outer = and_parts (leb 3 (length text) && leb (length text) 8 && is_ascii_uppercase (get_or text 0 0) && list_all is_name_byte text) (not (is_reserved text)) is in
    let bytes = and_parts (leb 3 (length text) && leb (length text) 8 && is_ascii_uppercase (get_or text 0 0)) (list_all is_name_byte text) outer.0 in
    let letter = and_parts (leb 3 (length text) && leb (length text) 8) (is_ascii_uppercase (get_or text 0 0)) bytes.0 in
    let sizes = and_parts (leb 3 (length text)) (leb (length text) 8) letter.0 in
    record { least = leb-true 3 (length text) sizes.0; most = leb-true (length text) 8 sizes.1; letter = letter_visible (get_or text 0 0) letter.1; visible = name_bytes_visible text bytes.1 }

pub record HasCodeBytes (code : List ℕ) : Type 0 where
  pub size : length code ≡ 3
  pub visible : All (λ byte. 32 < byte) code

pub HasCodeBytes-code : (code : List ℕ) → IsTrue (is_code code) → HasCodeBytes code
HasCodeBytes-code [] is = absurd (false≢true is)
HasCodeBytes-code (a ∷ []) is = absurd (false≢true is)
HasCodeBytes-code (a ∷ b ∷ []) is = absurd (false≢true is)
HasCodeBytes-code (a ∷ b ∷ c ∷ []) is =
    let last = and_parts (is_ascii_uppercase a && is_ascii_uppercase b) (is_ascii_uppercase c) is in
    let front = and_parts (is_ascii_uppercase a) (is_ascii_uppercase b) last.0 in
    record {
      size = refl;
      visible = All-cons (λ byte. 32 < byte) a (b ∷ c ∷ []) (omega (arith, letter_visible a front.0))
          (All-cons (λ byte. 32 < byte) b (c ∷ []) (omega (arith, letter_visible b front.1))
          (All-cons (λ byte. 32 < byte) c [] (omega (arith, letter_visible c last.1)) (All-nil (λ byte. 32 < byte))));
    }
HasCodeBytes-code (a ∷ b ∷ c ∷ d ∷ rest) is = absurd (false≢true is)

-- two codes with `/` between them
pub record HasPairBytes (text : List ℕ) : Type 0 where
  pub size : length text ≡ 7
  pub visible : All (λ byte. 32 < byte) text

pub HasPairBytes-pair_text : (rule : PairRule) → IsPairRule rule → HasPairBytes (pair_text rule)
HasPairBytes-pair_text rule valid =
    let base : HasCodeBytes rule.base = HasCodeBytes-code rule.base valid.base in
    let quote : HasCodeBytes rule.quote = HasCodeBytes-code rule.quote valid.quote in
    record {
      size = omega (arith, base.size, quote.size, length-append rule.base (47 ∷ rule.quote));
      visible = All-append (λ byte. 32 < byte) rule.base (47 ∷ rule.quote) base.visible (All-cons (λ byte. 32 < byte) 47 rule.quote (omega arith) quote.visible);
    }
