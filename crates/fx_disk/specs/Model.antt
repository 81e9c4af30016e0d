-- A disk in memory: its calls since it was made, and what a crash may leave after each of them.
use Rattle.std.specs.Prelude.{◌≡◌, ◌⊎◌, ℕ, ◌+◌, ◌<◌, ◌≤◌, max, List, [], ◌∷◌, length, take, slice_index}
use Rattle.fx_disk.specs.declared.call.Call.{Call}
use Rattle.fx_disk.specs.declared.call.Call.TheVariants.{Wrote, Broke, Synced}
use Rattle.fx_disk.specs.Disk.{with_piece}

-- the greatest end of ranges, each a place and a length
abbrev pub greatest_end : List (ℕ × ℕ) → ℕ
greatest_end [] = 0
greatest_end (range ∷ ranges) = max (range.0 + range.1) (greatest_end ranges)

-- the place is in none of them
abbrev pub IsOutside : ℕ → List (ℕ × ℕ) → Type 0
IsOutside place [] = Unit {0}
IsOutside place (range ∷ ranges) = ((place < range.0) ⊎ (range.0 + range.1 ≤ place)) × IsOutside place ranges

-- A crash may leave this image of a file that was last synced as `synced`, and has since been written in
-- these ranges: each of them may hold any bytes, the other bytes stay, and the length is any from that at
-- the sync to the greatest end of the ranges, or stays where no end is greater.
pub record MayLeave (synced : List ℕ) (ranges : List (ℕ × ℕ)) (image : List ℕ) : Type 0 where
  pub no_shorter : length synced ≤ length image
  pub no_longer : length image ≤ max (length synced) (greatest_end ranges)
  pub stays : (place : ℕ) → place < length synced → IsOutside place ranges → slice_index image place ≡ slice_index synced place

-- what a disk reads, what it read at its last sync, and the ranges written since, the latest in front
pub record State : Type 0 where
  pub reads : List ℕ
  pub synced : List ℕ
  pub ranges : List (ℕ × ℕ)

-- a write that failed left what reads, though a crash may leave any bytes in its range
abbrev pub after_call : State → Call → State
after_call s (Wrote at piece) = record {
  reads = with_piece at piece.items s.reads;
  synced = s.synced;
  ranges = (at, length piece.items) ∷ s.ranges;
}
after_call s (Broke at count) = record { reads = s.reads; synced = s.synced; ranges = (at, count) ∷ s.ranges }
after_call s Synced = record { reads = s.reads; synced = s.reads; ranges = [] }

abbrev pub after_calls : State → List Call → State
after_calls s [] = s
after_calls s (call ∷ calls) = after_calls (after_call s call) calls

-- the bytes that a disk was made of, and the calls that changed it since, each write and each sync that did
pub record Tape : Type 0 where
  pub first : List ℕ
  pub calls : List Call

abbrev pub start_of : List ℕ → State
start_of first = record { reads = first; synced = first; ranges = [] }

abbrev pub state_now : Tape → State
state_now tape = after_calls (start_of tape.first) tape.calls

-- after the first `n` calls
abbrev pub state_at : Tape → ℕ → State
state_at tape n = after_calls (start_of tape.first) (take n tape.calls)

abbrev pub MayLeaveIn : State → List ℕ → Type 0
MayLeaveIn s image = MayLeave s.synced s.ranges image

-- at some moment since `t`, a number of calls, a crash may have left this image
abbrev pub LeftSince : Tape → ℕ → List ℕ → Type 0
LeftSince tape t image = (n : ℕ) × (t ≤ n) × (n ≤ length tape.calls) × MayLeaveIn (state_at tape n) image
