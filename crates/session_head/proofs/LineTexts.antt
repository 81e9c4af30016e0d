-- The text of a line of a header, in front of others.
use Rattle.std.proofs.Common.{◌≡◌, ℕ, ◌<◌, ◌≤◌, List, [], ◌∷◌, ◌++◌, length, ap, ◌∙◌, append_assoc}
use Rattle.std.specs.List.{AllByRecursion, join_with_byte}
use Rattle.fx_text.specs.Lines.{lines_of, rest_of}
use Rattle.fx_text.specs.declared.line.Line.{Line}
use Rattle.fx_text.specs.declared.line.Line.TheVariants.{Whole}
use Rattle.fx_text.proofs.JoinedFields.{IsField, join-visible, line_of-join, lines_of-line, rest_of-line}
use Rattle.session_head.specs.HeadText.{line_text}

-- fields that make a line
pub record IsLine (fields : List (List ℕ)) : Type 0 where
  pub some : 0 < length fields
  pub few : length fields ≤ 6
  pub fields_are : AllByRecursion IsField fields

in_front : (fields : List (List ℕ)) (more : List ℕ) → line_text fields ++ more ≡ join_with_byte 32 fields ++ 10 ∷ more
in_front fields more = append_assoc (join_with_byte 32 fields) (10 ∷ []) more

pub lines_of-line_text : (fields : List (List ℕ)) (more : List ℕ) → IsLine fields → lines_of (line_text fields ++ more) ≡ Whole (join_with_byte 32 fields) ∷ lines_of more
lines_of-line_text fields more is =
    ap lines_of (in_front fields more)
    ∙ lines_of-line (join_with_byte 32 fields) more (join-visible fields is.fields_are)
    ∙ ap (λ (line : Line). line ∷ lines_of more) (line_of-join fields is.few is.fields_are)

pub rest_of-line_text : (fields : List (List ℕ)) (more : List ℕ) → IsLine fields → rest_of (line_text fields ++ more) ≡ rest_of more
rest_of-line_text fields more is = ap rest_of (in_front fields more) ∙ rest_of-line (join_with_byte 32 fields) more (join-visible fields is.fields_are)
