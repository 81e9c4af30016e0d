-- What contracts see of a text that is compared with what is written, as a sink.
use Rattle.std.specs.Prelude.{ℕ, ◌≡◌, ◌≢◌, ◌≤◌, List, ◌∷◌, ◌++◌, length, take, slice_get, Option, Some, None}
use Rattle.std.specs.Option.{option_to_list}

-- the text; how much of it was written; the byte that was written next, where the text does not have it; the faults
pub record Comparing : Type 0 where
  pub text : List ℕ
  pub at : ℕ
  pub wrong : Option ℕ
  pub faults : ℕ

-- what was taken of what was written
abbrev pub taken : Comparing → List ℕ
taken c = take c.at c.text ++ option_to_list c.wrong

-- What it tells as a sink: the text, behind its length, and then what was taken. So what is said of a sink that is written
-- to says of this one that its text stays.
abbrev pub told : Comparing → List ℕ
told c = length c.text ∷ c.text ++ taken c

-- the text has another byte at the place, or has ended
abbrev pub Differs : List ℕ → ℕ → ℕ → Type 0
Differs text at byte = slice_get text at ≢ Some byte

pub record IsComparing (c : Comparing) : Type 0 where
  pub within : c.at ≤ length c.text
  pub differs : (byte : ℕ) → c.wrong ≡ Some byte → Differs c.text c.at byte
  pub unfailed : c.wrong ≡ None → c.faults ≡ 0
