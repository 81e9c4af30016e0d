-- What a cutter holds.
use Rattle.std.specs.Prelude.{◌≡◌, ◌<◌, ℕ, List, [], ◌∷◌, length}
use Rattle.fx_text.specs.Lines.{parts_of, lines_of, held_of}

-- bytes that can be held: without a line, and no more of them than can matter
pub record IsHeld (held : List ℕ) : Type 0 where
  pub no_line : lines_of held ≡ []
  pub whole : held_of held ≡ held

-- the part of a text before its first line feed, and what stands behind that
pub record IsFirstPart (text part behind : List ℕ) : Type 0 where
  pub parts : parts_of text ≡ part ∷ parts_of behind
  pub whole : parts_of part ≡ part ∷ []
  pub shorter : length behind < length text
