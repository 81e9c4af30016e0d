-- The words in which the best orders of the banks are kept.
use Rattle.std.specs.Prelude.{ℕ, ◌≡◌, ◌≢◌, ◌+◌, ◌-◌, ◌*◌, ◌/◌, ◌%◌, ◌≤◌, ◌<◌, ◌^◌, ◌==◌, if◌then◌else◌, Bool, true, nat_lt, List, length, Option, Some, None, slice_index, slice_index_or}
use Rattle.access_index.specs.declared.words.Head.{Head}

-- the order that a word tells, where there is one
abbrev pub head_of : ℕ → Option Head
head_of word = if word == 2 ^ 64 - 1 then None else Some (record { rank = word / 2 ^ 34; place = word / 64 % 2 ^ 28 })

-- the least of so many words from one on, where one of them tells an order
pub record IsLeastOf (words : List ℕ) (from count least : ℕ) : Type 0 where
  pub first : (at : ℕ) → at < count → least ≤ slice_index words (from + at)
  pub there : least ≢ 2 ^ 64 - 1 → (at : ℕ) × (at < count) × (slice_index words (from + at) ≡ least)

-- there is a word for each of so many banks, of that bank and of 64 bits, and the least of each eight of them stands beside these
pub record AreWords (banks eights : ℕ) (words groups : List ℕ) : Type 0 where
  pub few : banks ≤ 64
  pub whole : eights * 8 ≡ banks
  pub count : length words ≡ banks
  pub group_count : length groups ≡ eights
  pub own : (bank : ℕ) → bank < banks → slice_index words bank ≢ 2 ^ 64 - 1 → slice_index words bank % 64 ≡ bank
  pub most : (bank : ℕ) → bank < banks → slice_index words bank < 2 ^ 64
  pub least : (group : ℕ) → group < eights → IsLeastOf words (group * 8) 8 (slice_index groups group)

-- behind so many groups of eight banks no bank has an order
pub record AreFilled (heads : List (Option Head)) (filled : ℕ) : Type 0 where
  pub few : filled ≤ 8
  pub empty : (bank : ℕ) → filled * 8 ≤ bank → slice_index_or heads bank None ≡ None

-- whether an order that comes at a rank, behind all others there, is the best one of its bank
abbrev pub leads : Option Head → ℕ → Bool
leads None rank = true
leads (Some best) rank = nat_lt rank best.rank

-- the best order of a bank once another one comes, behind all others at its rank
abbrev pub head_with : Option Head → Head → Option Head
head_with best head = if leads best head.rank then Some head else best
