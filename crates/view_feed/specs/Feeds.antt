-- A feed, its readers and its notes, as contracts see them.
use Rattle.std.specs.Prelude.{ℕ, List, []}
use Rattle.logbook.specs.Pages.{Book}
use Rattle.fx_rules.specs.declared.outcome.Entry.{Entry}
use Rattle.fx_rules.specs.Session.{Header}

-- The entries that a tape was seen to begin with. A tape is the one list of entries that a feed publishes, which only grows; its
-- name tells one feed from another.
pub record Stretch : Type 0 where
  pub tape : Book
  pub entries : List Entry

-- a feed: the session whose market it shows, its tape, with how many readers it was opened, the entries that are published, and
-- those that were appended since
pub record Feeding : Type 0 where
  pub session : Header
  pub tape : Book
  pub readers : ℕ
  pub published : List Entry
  pub pending : List Entry

-- a reader: the session and the tape of its feed, the entries behind which it last saw the market, and the longest list of
-- entries that it has seen or was told
pub record Reading : Type 0 where
  pub session : Header
  pub tape : Book
  pub seen : List Entry
  pub known : List Entry

-- a reader as a feed opens
abbrev pub opened_reader : Header → Book → Reading
opened_reader session tape = record { session = session; tape = tape; seen = []; known = [] }
