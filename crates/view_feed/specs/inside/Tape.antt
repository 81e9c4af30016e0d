-- The rule of the book that holds a tape, and what its one step tells.
use Rattle.std.specs.Prelude.{ℕ, ◌≡◌, true, List, [], ◌∷◌, ◌++◌, length}
use Rattle.logbook.specs.Pages.{Cell, Book, Step, View, Named}
use Rattle.fx_rules.specs.declared.outcome.Entry.{Entry}

-- the first word is the length of the tape. A book has two words, of which this one leaves the second at 0
abbrev pub IsKept : List Cell → List Entry → Type 0
IsKept cells log = cells ≡ (length log, true) ∷ (0, true) ∷ []

-- the word that holds the length
abbrev pub head_of : Book → Named
head_of b = record { tracked = true; key = 0; book = b }

-- where the tape was as long as was expected, the entry was added to all that had been seen
abbrev pub Adds : Step Entry → View Entry ℕ → ℕ → View Entry ℕ → Type 0
Adds s v found w = found ≡ s.old → w.0 ≡ v.0 ++ s.ask ∷ []
