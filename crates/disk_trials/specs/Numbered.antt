-- What the program keeps and prints of numbers.
use Rattle.std.specs.Prelude.{◌≡◌, ℕ, zero, suc, ◌+◌, ◌-◌, ◌^◌, ◌<◌, ◌≤◌, min, List, [], ◌∷◌, ◌++◌, length, decimal, replicate, Option, None, Some}
use Rattle.fx_edges.specs.Writing.{Appended, AppendedPart}
use Rattle.fx_disk.specs.Disk.{LeavesOnly}
use Rattle.keep_disk.specs.declared.rounds.Round.{Round}
use Rattle.keep_disk.specs.Blocks.{whole_blocks}
use Rattle.keep_disk.specs.Rounds.{HasFirst}
use Rattle.disk_trials.specs.declared.numbers.Numbers.{Numbers}

-- a number's digits and as many dots
abbrev pub body : ℕ → ℕ → List ℕ
body dots number = decimal number ++ replicate dots 46

-- its digits on a line of their own
abbrev pub line : ℕ → List ℕ
line number = decimal number ++ 10 ∷ []

-- the same of so many numbers from the first on
abbrev pub bodies : ℕ → ℕ → ℕ → List (List ℕ)
bodies dots first zero = []
bodies dots first (suc count) = body dots first ∷ bodies dots (first + 1) count

abbrev pub lines : ℕ → ℕ → List ℕ
lines first zero = []
lines first (suc count) = line first ++ lines (first + 1) count

-- the next number's round, or none at the end
abbrev pub GivesNumber : Numbers → Option Round → Numbers → Type 0
GivesNumber s None t = (s.end ≤ s.next) × (t ≡ s)
GivesNumber s (Some round) t = (s.next < s.end) × (round.body.items ≡ body s.dots s.next) × (round.text.items ≡ line s.next) × (t ≡ record s { next = s.next + 1 })

-- the number behind a file's blocks, and how many numbers there are from it on, of so many and below the last `u64`
abbrev pub next_number : List ℕ → ℕ
next_number file = length (whole_blocks file) + 1

abbrev pub room : List ℕ → ℕ → ℕ
room file count = min count (2 ^ 64 - 1 - next_number file)

-- Some of so many numbers were begun with. At every moment since the start every image had the file's blocks, and behind them those of
-- the first so many of these; now it has at least those of which a byte was printed.
pub record KeptNumbers {D K : Type 0} (may_leave : D → List ℕ → Type 0) (moment : D → ℕ) (left_since : D → ℕ → List ℕ → Type 0)
    (written : K → Option (List ℕ)) (faults : K → ℕ) (dots count : ℕ) (file : List ℕ) (before now : D) (out_before out_now : K) : Type 0 where
  pub begun : ℕ
  pub no_more : begun ≤ room file count
  pub printed : ℕ
  pub every_moment : LeavesOnly moment left_since before now (HasFirst (whole_blocks file) (bodies dots (next_number file) begun) 0)
  pub images : (image : List ℕ) → may_leave now image → HasFirst (whole_blocks file) (bodies dots (next_number file) begun) printed image
  pub told : AppendedPart written faults out_before out_now (lines (next_number file) printed)

-- so many numbers are kept and printed
pub record AllNumbers {D K : Type 0} (may_leave : D → List ℕ → Type 0) (written : K → Option (List ℕ)) (faults : K → ℕ)
    (dots count : ℕ) (file : List ℕ) (now : D) (out_before out_now : K) : Type 0 where
  pub images : (image : List ℕ) → may_leave now image → whole_blocks image ≡ whole_blocks file ++ bodies dots (next_number file) count
  pub told : Appended written faults out_before out_now (lines (next_number file) count)
