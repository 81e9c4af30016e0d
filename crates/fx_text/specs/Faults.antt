-- Readings one after another.
use Rattle.std.specs.Prelude.{Result, Ok, Err}

-- the first of two readings, and then the second; the first fault ends both
infixl 10 ◌>>=◌
abbrev pub ◌>>=◌ : {E A B : Type 0} → Result A E → (A → Result B E) → Result B E
(Ok x) >>= f = f x
(Err fault) >>= f = Err fault
