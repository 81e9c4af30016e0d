-- The lines of a text, each with the offset at which it begins.
use Rattle.std.specs.Prelude.{ℕ, ◌+◌, Bool, nat_lt, List, [], ◌∷◌, length, drop}
use Rattle.fx_text.specs.Lines.{parts_of, all_but_last}

-- a line of a text: where it begins, and its bytes in front of the line feed
pub record LineAt : Type 0 where
  pub at : ℕ
  pub part : List ℕ

-- where the line behind one begins
abbrev pub behind : LineAt → ℕ
behind line = line.at + length line.part + 1

-- a line has more than 256 bytes in front of its line feed
abbrev pub is_long : LineAt → Bool
is_long line = nat_lt 256 (length line.part)

-- lines that follow one another from an offset on
abbrev pub placed : ℕ → List (List ℕ) → List LineAt
placed at [] = []
placed at (part ∷ parts) = record { at = at; part = part } ∷ placed (at + length part + 1) parts

-- the lines of a text from an offset on. What stands behind the last line feed is no line
unfoldable pub lines_from : List ℕ → ℕ → List LineAt
lines_from text at = placed at (all_but_last (parts_of (drop at text)))
