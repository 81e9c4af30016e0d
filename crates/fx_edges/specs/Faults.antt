-- Counts of faults.
use Rattle.std.specs.Prelude.{ℕ, ◌+◌, ◌-◌, ◌^◌, ◌≤◌, min}

-- the largest `u64`, at which a count stands still
abbrev pub last_count : ℕ
last_count = 2 ^ 64 - 1

-- a count after one more fault
abbrev pub one_more : ℕ → ℕ
one_more count = min (count + 1) last_count

-- a count rose: it is greater than before, or stands at its last value
abbrev pub Rose : ℕ → ℕ → Type 0
Rose before now = one_more before ≤ now
