-- A text that is walked line by line, where it is known what stands in it.
use Rattle.std.proofs.Common.{◌≡◌, ◌≢◌, ℕ, ◌+◌, ◌-◌, ◌≤◌, false, List, [], ◌∷◌, ◌++◌, length, drop, get_or, refl, sym, ap, ◌∙◌, arith, append_assoc, All, inl, inr}
use Rattle.std.specs.Str.Lines.{strip_carriage_return}
use Rattle.std.proofs.lemmas.Bool.{ne_eqb, le-ltb, cases_lt}
use Rattle.std.proofs.lemmas.List.{drop_at, drop-drop, get_or_past}
use Rattle.std.proofs.lemmas.List.Elements.{All-weaker, All-get_or}
use Rattle.fx_text.specs.Lines.{parts_of, all_but_last, line_of}
use Rattle.fx_text.specs.declared.line.Line.TheVariants.{Whole}
use Rattle.journal_check.specs.Lines.{is_long, placed, lines_from}
use Rattle.journal_check.proofs.LineLemmas.{is_line_feed, parts_of-line, line_of-short}

-- no byte is below the space, as a line feed and a carriage return are
abbrev pub IsPlain : List ℕ → Type 0
IsPlain part = All (λ byte. 32 ≤ byte) part

pub unbroken : (part : List ℕ) → IsPlain part → All (λ byte. is_line_feed byte ≡ false) part
unbroken part plain = All-weaker (λ byte. 32 ≤ byte) (λ byte. is_line_feed byte ≡ false) (λ byte least. ne_eqb byte 10 (λ same. omega arith)) part plain

-- what stands at an offset is a line, and what follows it stands behind it
pub record IsAt (text : List ℕ) (at : ℕ) (part more : List ℕ) : Type 0 where
  pub line : lines_from text at ≡ record { at = at; part = part } ∷ lines_from text (at + length part + 1)
  pub rest : drop (at + length part + 1) text ≡ more

pub IsAt-plain : (text : List ℕ) (at : ℕ) (part more : List ℕ) → drop at text ≡ part ++ 10 ∷ more → IsPlain part → IsAt text at part more
unfolding lines_from
IsAt-plain text at part more there plain =
    let size : at + (length part + 1) ≡ at + length part + 1 = omega arith in
    let onward : drop (at + length part + 1) text ≡ drop (length part + 1) (part ++ 10 ∷ more) =
    ap (λ (n : ℕ). drop n text) (sym size) ∙ sym (drop-drop (length part + 1) at text) ∙ ap (drop (length part + 1)) there in
    let behind : drop (length part + 1) (part ++ 10 ∷ more) ≡ more =
    sym (drop-drop 1 (length part) (part ++ 10 ∷ more)) ∙ ap (drop 1) (drop_at part (10 ∷ more) (length part) refl) in
    let rest : drop (at + length part + 1) text ≡ more = onward ∙ behind in
    record {
      line = ap (λ (t : List ℕ). placed at (all_but_last (parts_of t))) there
          ∙ ap (placed at) (parts_of-line part more (unbroken part plain))
          ∙ ap (λ (t : List ℕ). record { at = at; part = part } ∷ placed (at + length part + 1) (all_but_last (parts_of t))) (sym rest);
      rest = rest;
    }

-- a line of plain bytes that is not long
pub short_line : (at : ℕ) (part : List ℕ) → length part ≤ 256 → is_long (record { at = at; part = part }) ≡ false
short_line at part short = le-ltb 256 (length part) short

ends_otherwise : (part : List ℕ) → IsPlain part → get_or part (length part - 1) 0 ≢ 13
ends_otherwise part plain same = elim (cases_lt (length part - 1) (length part)) [
  | inl within ↦ let last : 32 ≤ get_or part (length part - 1) 0 = All-get_or (λ byte. 32 ≤ byte) part (length part - 1) 0 within plain in omega arith
  | inr past ↦ let none : get_or part (length part - 1) 0 ≡ 0 = get_or_past part (length part - 1) 0 past in omega arith
]

pub line_of-plain : (part : List ℕ) → IsPlain part → length part ≤ 256 → line_of part ≡ Whole part
line_of-plain part plain short =
    let whole : strip_carriage_return part ≡ part = rw (ne_eqb (get_or part (length part - 1) 0) 13 (ends_otherwise part plain)) refl in
    line_of-short part short ∙ ap (λ (text : List ℕ). Whole text) whole

-- a line in front of others that ends in a line feed
pub ended : (part more : List ℕ) → (part ++ 10 ∷ []) ++ more ≡ part ++ 10 ∷ more
ended part more = append_assoc part (10 ∷ []) more
