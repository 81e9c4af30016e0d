-- What a run keeps of its rounds, and tells of them.
use Rattle.std.specs.Prelude.{ℕ, ◌≡◌, ◌-◌, List, ◌++◌, length, map, take}
use Rattle.std.specs.List.{flat_map}
use Rattle.fx_rules.specs.declared.outcome.Entry.{Entry}
use Rattle.fx_rules.specs.Session.{Header}
use Rattle.reply_lines.specs.Output.{entry_line}
use Rattle.reply_lines.specs.Telling.{told_text}
use Rattle.keep_disk.specs.declared.rounds.Round.{Round}
use Rattle.keep_disk.specs.Rounds.{bodies_of, text_of}

-- the body of a round's block: the lines of its entries' commands
abbrev pub block_of : Header → List Entry → List ℕ
block_of h entries = flat_map (entry_line h) entries

-- the entries of rounds, one after the other
abbrev pub entries_of : List (List Entry) → List Entry
entries_of parts = flat_map (λ part. part) parts

-- Rounds that were kept behind a kept history. Some blocks stand in front, of which nothing is told. Behind them each round has the
-- lines of its entries as its block, and what is told of the first so many rounds is the notices of their entries.
pub record AreRoundsOf (h : Header) (kept : List Entry) (front : List (List ℕ)) (parts : List (List Entry)) (rounds : List Round) : Type 0 where
  pub blocks : bodies_of rounds ≡ front ++ map (block_of h) parts
  pub texts : (count : ℕ) → text_of (take count rounds) ≡ told_text h kept (entries_of (take (count - length front) parts))
