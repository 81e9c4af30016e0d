-- A line is its number, a space, and what the number has no part in.
use Rattle.std.proofs.Common.{ℕ, ◌≡◌, ◌≢◌, ◌+◌, ◌≤◌, ◌<◌, true, false, List, [], ◌∷◌, ◌++◌, length, drop, get_or, inl, inr, ap, sym, ◌∙◌, arith, codes, append_assoc, length-append}
use Rattle.std.proofs.Math.Seq.{get_or-append_seam}
use Rattle.std.proofs.lemmas.Bool.{cases_lt}
use Rattle.std.proofs.lemmas.List.{drop_at, get_or_append_left}
use Rattle.std.proofs.lemmas.List.Folds.{list_all_at}
use Rattle.std.specs.Char.{is_ascii_digit}
use Rattle.std.specs.List.{list_all}
use Rattle.fx_amounts.specs.Numeral.{numeral}
use Rattle.fx_amounts.specs.Side.{opposite}
use Rattle.fx_amounts.proofs.NumeralLemmas.{IsNumeralOf-numeral}
use Rattle.fx_rules.specs.Session.{Header}
use Rattle.fx_text.specs.Fields.{fields_text}
use Rattle.reply_lines.specs.Desks.{DeskSoFar, with_notice}
use Rattle.reply_lines.specs.Notices.{Notice, fill_fields, notice_line, reply_fields}
use Rattle.reply_lines.specs.Notices.Notice.{Replied, Took, Gave}
use Rattle.reply_lines.specs.Rows.{row}

-- ---- where the number ends

-- a digit is no space
no_space : (number at : ℕ) → at < length (numeral number) → get_or (numeral number) at 0 ≢ 32
no_space number at within is =
    let other : list_all is_ascii_digit (numeral number) ≡ false = list_all_at is_ascii_digit (numeral number) at 0 within (ap is_ascii_digit is) in
    let digits : list_all is_ascii_digit (numeral number) ≡ true = (IsNumeralOf-numeral number).digits in
    absurd cc

module _ (line : List ℕ) (at number : ℕ) (rest : List ℕ) (is : line ≡ numeral number ++ 32 ∷ rest) (before : at ≤ length (numeral number)) where
  pub inside : at < length line
  inside = omega (arith, before, ap length is, length-append (numeral number) (32 ∷ rest))

  at_end : at ≡ length (numeral number) → get_or line at 0 ≡ 32
  at_end end = ap (λ (text : List ℕ). get_or text at 0) is ∙ ap (λ n. get_or (numeral number ++ 32 ∷ rest) n 0) end ∙ get_or-append_seam (numeral number) 32 rest 0

  -- a byte that is no space is a digit
  pub goes_on : get_or line at 0 ≢ 32 → at + 1 ≤ length (numeral number)
  goes_on other = elim (cases_lt at (length (numeral number))) [
    | inl within ↦ omega (arith, within)
    | inr past ↦ let end : at ≡ length (numeral number) = omega (arith, past, before) in absurd (other (at_end end))
  ]

  -- a space stands behind the number
  pub ends : get_or line at 0 ≡ 32 → drop at line ≡ 32 ∷ rest
  ends space = elim (cases_lt at (length (numeral number))) [
    | inl within ↦ absurd (no_space number at within
        (sym (get_or_append_left (numeral number) (32 ∷ rest) 0 at within) ∙ ap (λ (text : List ℕ). get_or text at 0) (sym is) ∙ space))
    | inr past ↦ ap (drop at) is ∙ drop_at (numeral number) (32 ∷ rest) at (omega (arith, past, before))
  ]

-- ---- what stands behind it

abbrev rest_of : List (List ℕ) → List ℕ
rest_of [] = []
rest_of (field ∷ fields) = field ++ fields_text fields ++ 10 ∷ []

row_numbered : (number : ℕ) (fields : List (List ℕ)) → 0 < length fields → row (numeral number) fields ≡ numeral number ++ 32 ∷ rest_of fields
row_numbered number [] some = absurd (omega (arith, some))
row_numbered number (field ∷ fields) some = append_assoc (numeral number) (fields_text (field ∷ fields)) (10 ∷ [])

-- what the line of a notice has behind its number and the space
abbrev pub notice_rest : Header → Notice → List ℕ
notice_rest h (Replied e) = rest_of (codes "REPLY" ∷ numeral e.number ∷ reply_fields h e.command e.outcome)
notice_rest h (Took fill) = rest_of (fill_fields h fill.taker_number fill.taker_side fill.maker fill)
notice_rest h (Gave fill) = rest_of (fill_fields h fill.maker_number (opposite fill.taker_side) fill.taker fill)

pub numbered : (h : Header) (number : ℕ) (notice : Notice) → notice_line h number notice ≡ numeral number ++ 32 ∷ notice_rest h notice
numbered h number (Replied e) = row_numbered number (codes "REPLY" ∷ numeral e.number ∷ reply_fields h e.command e.outcome) (omega arith)
numbered h number (Took fill) = row_numbered number (fill_fields h fill.taker_number fill.taker_side fill.maker fill) (omega arith)
numbered h number (Gave fill) = row_numbered number (fill_fields h fill.maker_number (opposite fill.taker_side) fill.taker fill) (omega arith)

-- what a desk has from its former end on is the line of the notice that it got
pub last_line : (h : Header) (was now : DeskSoFar) (notice : Notice) (from : ℕ) (lines line : List ℕ) → now ≡ with_notice h was notice → lines ≡ now.lines → from ≡ length was.lines → line ≡ drop from lines → line ≡ notice_line h (was.count + 1) notice
last_line h was now notice from lines line told are from_is read =
    read ∙ ap (drop from) (are ∙ ap (λ (desk : DeskSoFar). desk.lines) told) ∙ drop_at was.lines (notice_line h (was.count + 1) notice) from (sym from_is)
