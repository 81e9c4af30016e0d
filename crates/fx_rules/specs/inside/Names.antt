-- What private functions and proofs alone say of it, beside `specs/Names.antt`.
use Rattle.std.specs.Prelude.{ℕ, Bool, ◌||◌, List, ◌≡◌, IsTrue, codes, bytes_eq, length, take}
use Rattle.fx_rules.specs.Names.{is_name, padded}

-- the words that no bank may have as its name
abbrev pub is_reserved : List ℕ → Bool
is_reserved text = bytes_eq text (codes "HOST") || bytes_eq text (codes "END")

-- the first `len` bytes are a name, and zeros stand behind it
pub record StoresName (bytes : List ℕ) (len : ℕ) : Type 0 where
  pub size : length (take len bytes) ≡ len
  pub padding : padded (take len bytes) ≡ bytes
  pub name : IsTrue (is_name (take len bytes))
