-- A blank, a writer and a front as contracts see them.
use Rattle.std.specs.Prelude.{ℕ, ◌≡◌, ◌<◌, if◌then◌else◌, nat_lt, List, [], length, Some, slice_get}
use Rattle.atomic_table.specs.Seated.{TableId}
use Rattle.fx_rules.specs.Session.{Header}

-- a writer: all entries, for how many more it has room, how many keys were dealt, and which of them have still to sign
pub record Chronicle (E : Type 0) : Type 0 where
  pub entries : List E
  pub room : ℕ
  pub keys : ℕ
  pub pending : List ℕ

-- a front: its key, the entries that it has seen, and those that it had seen when it last caught up or signed
pub record Witness (E : Type 0) : Type 0 where
  pub key : ℕ
  pub seen : List E
  pub met : List E

-- a front that has met all that it has seen
abbrev pub witness : {E : Type 0} → ℕ → List E → Witness E
witness key entries = record { key = key; seen = entries; met = entries }

-- a blank: its table, and for how many keys it is
pub record Unopened : Type 0 where
  pub table : TableId
  pub keys : ℕ

-- one front for each key below a number, in the order of the keys, that have seen nothing
abbrev pub AreNew : {E : Type 0} → ℕ → List (Witness E) → Type 0
AreNew keys fronts = (length fronts ≡ keys) × ((key : ℕ) → key < keys → slice_get fronts key ≡ Some (witness key []))

-- the longer of two lists, the first where they are as long
abbrev pub longer : {E : Type 0} → List E → List E → List E
longer seen told = if nat_lt (length seen) (length told) then told else seen

-- no table, and no session
abbrev pub no_table : TableId
no_table = record { words = 0; slots = 0; views_name = 0; atom = 0; block = 0; offset = 0; slot_names = [] }

abbrev pub no_session : Header
no_session = record { version = 1; banks = []; pairs = []; limits = []; totals = [] }
