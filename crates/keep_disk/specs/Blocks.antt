-- What the bytes of a journal file say: a gate, then, where that is 1, a block and the next gate. A block is
-- its body's length in 8 bytes, the highest first, and the body.
use Rattle.std.specs.Prelude.{◌≡◌, ◌⊎◌, ℕ, zero, suc, ◌+◌, ◌<◌, Bool, false, cond, nat_lt, ◌==◌, List, [], ◌∷◌, ◌++◌, length, take, drop, slice_index}
use Rattle.std.specs.Int.{from_be_bytes}
use Rattle.std.proofs.Common.{w64}

-- of the bytes behind a gate: the length of the body that they begin, and the body
unfoldable pub body_length : List ℕ → ℕ
body_length rest = from_be_bytes w64 (take 8 rest)

unfoldable pub body_of : List ℕ → List ℕ
body_of rest = drop 8 (take (8 + body_length rest) rest)

-- the gate opens a whole block: the file has its body and the next gate
unfoldable pub opens : ℕ → List ℕ → Bool
opens gate rest = cond (gate == 1) (nat_lt (8 + body_length rest) (length rest)) false

-- the bodies of the whole blocks from the place of a gate on, up to the first gate that opens none
abbrev pub blocks_from : ℕ → List ℕ → List (List ℕ)
blocks_from place [] = []
blocks_from (suc place) (_ ∷ file) = blocks_from place file
blocks_from zero (gate ∷ rest) = cond (opens gate rest) (body_of rest ∷ blocks_from (8 + body_length rest) rest) []

abbrev pub whole_blocks : List ℕ → List (List ℕ)
whole_blocks file = blocks_from 0 file

-- the bytes of blocks with these bodies, each with its gate
abbrev pub space : List (List ℕ) → ℕ
space [] = 0
space (body ∷ bodies) = 9 + length body + space bodies

-- the last gate stands at this place, and doesn't say 1
pub record IsClosedAt (file : List ℕ) (place : ℕ) : Type 0 where
  pub behind : place ≡ space (whole_blocks file)
  pub within : place < length file
  pub closed : slice_index file place ≡ 1 → ⊥

-- the image has these whole blocks, with this one more or without
abbrev pub HasOrLacks : List (List ℕ) → List ℕ → List ℕ → Type 0
HasOrLacks bodies body image = (whole_blocks image ≡ bodies) ⊎ (whole_blocks image ≡ bodies ++ body ∷ [])
