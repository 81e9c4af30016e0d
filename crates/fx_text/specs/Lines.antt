-- The lines of a text. A line feed ends a line, and one carriage return before it belongs to the end.
use Rattle.std.specs.Prelude.{◌≡◌, ℕ, Bool, ◌&&◌, ◌||◌, ◌==◌, nat_le, if◌then◌else◌, List, [], ◌∷◌, length, map, take}
use Rattle.std.specs.List.{slice_split}
use Rattle.std.specs.Str.Lines.{strip_carriage_return}
use Rattle.fx_text.specs.Fields.{fields_of, first_field, is_comment, is_end}
use Rattle.fx_text.specs.declared.line.Line.{Line}
use Rattle.fx_text.specs.declared.line.Line.TheVariants.{Whole, Long}
use Rattle.fx_text.specs.declared.line.LineView.{LineView}
use Rattle.fx_text.specs.declared.line.LineView.TheVariants as view

-- the parts of a text between its line feeds
abbrev pub parts_of : List ℕ → List (List ℕ)
parts_of text = slice_split (λ byte. byte == 10) text

-- all elements but the last, and the last
abbrev pub all_but_last : List (List ℕ) → List (List ℕ)
all_but_last [] = []
all_but_last (part ∷ []) = []
all_but_last (part ∷ second ∷ more) = part ∷ all_but_last (second ∷ more)

abbrev pub last_of : List (List ℕ) → List ℕ
last_of [] = []
last_of (part ∷ []) = part
last_of (part ∷ second ∷ more) = last_of (second ∷ more)

-- the line of a part that a line feed ends: long where it has more than 256 bytes, and then only the first field of the
-- first 256 bytes is kept
unfoldable pub line_of : List ℕ → Line
line_of part = let text = strip_carriage_return part in
    if nat_le (length text) 256 then Whole text else Long (first_field (take 256 text))

-- the line that is seen where it lies
abbrev pub line_seen : LineView → Line
line_seen (view.Whole text) = Whole text.now
line_seen (view.Long field) = Long field.now

-- the lines of a text
unfoldable pub lines_of : List ℕ → List Line
lines_of text = map line_of (all_but_last (parts_of text))

-- the bytes after the last line feed
unfoldable pub rest_of : List ℕ → List ℕ
rest_of text = last_of (parts_of text)

-- what is held of a rest: as many bytes as can matter to its line, a whole line with its carriage return and one more
abbrev pub held_of : List ℕ → List ℕ
held_of text = take 258 (rest_of text)

-- no line ends in a text: all of it is its rest
pub record IsRest (text : List ℕ) : Type 0 where
  pub lines : lines_of text ≡ []
  pub whole : rest_of text ≡ text

-- the first line that ends in a text, and what stands behind its line feed
pub record IsFirstLine (text : List ℕ) (line : Line) (behind : List ℕ) : Type 0 where
  pub lines : lines_of text ≡ line ∷ lines_of behind
  pub rest : rest_of text ≡ rest_of behind

-- whether a rest is the END line
abbrev pub is_end_rest : List ℕ → Bool
is_end_rest rest = nat_le (length rest) 256 && is_end (fields_of rest)

-- whether a line is ignored: one without a field, and one whose first field begins with `#`
abbrev pub is_passed_over : Line → Bool
is_passed_over (Whole text) = (length (fields_of text) == 0) || is_comment (first_field text)
is_passed_over (Long field) = is_comment field
