-- The credit book: the credit side of the market, and the history that led it to where it stands.
use Rattle.std.specs.Prelude.{ℕ, ◌≡◌, ◌-◌, ◌++◌, [], ◌∷◌}
use Rattle.fx_rules.specs.declared.outcome.Entry.{Entry}
use Rattle.fx_rules.specs.Session.{Header, pair_count}
use Rattle.fx_rules.specs.Keyed.{pair_key, touches_key}
use Rattle.fx_rules.specs.History.{IsLegal, state}
use Rattle.fx_chronicle.specs.Faces.{Chronicle}
use Rattle.fx_chronicle.specs.Touching.{touched, without}
use Rattle.credit_lines.specs.Table.{Table, Stands, followed}

-- the credit table, and the history as its writer keeps it
pub record Recorded : Type 0 where
  pub table : Table
  pub history : Chronicle Entry

-- how many keys the history of a session has: those below the pairs', and one for each pair
abbrev pub key_count : Header → ℕ
key_count h = pair_key (pair_count h)

-- What holds of every credit book: the entries are a legal history of the session, the table stands for the state after it, and
-- each pair has a key.
pub record IsCreditBook (h : Header) (book : Recorded) : Type 0 where
  pub legal : IsLegal h book.history.entries
  pub stands : Stands h (state h book.history.entries) book.table
  pub keys : book.history.keys ≡ key_count h

-- a history with one entry more, which the keys that it touches have still to sign
abbrev pub committed : Chronicle Entry → Entry → Chronicle Entry
committed history entry = record {
  entries = history.entries ++ entry ∷ [];
  room = history.room - 1;
  keys = history.keys;
  pending = touched touches_key entry history.keys;
}

-- the credit book with one entry more
abbrev pub recorded : Recorded → Entry → Recorded
recorded book entry = record { table = followed book.table entry; history = committed book.history entry }

-- and once a key has signed it
abbrev pub signed_by : ℕ → Recorded → Recorded
signed_by key book = record book { history = record book.history { pending = without key book.history.pending } }
