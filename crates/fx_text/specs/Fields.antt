-- The fields of a line.
use Rattle.std.specs.Prelude.{ℕ, Bool, ◌&&◌, ◌||◌, ◌==◌, nat_lt, List, [], ◌∷◌, length, filter, codes, flat_map, bytes_eq, slice_index, slice_index_or}
use Rattle.std.specs.List.{slice_split}

-- a space or a tab
abbrev pub is_blank : ℕ → Bool
is_blank byte = (byte == 32) || (byte == 9)

-- whether a text has a byte
abbrev pub has_bytes : List ℕ → Bool
has_bytes text = nat_lt 0 (length text)

-- the fields of a line: what stands between its blanks, where something does
unfoldable pub fields_of : List ℕ → List (List ℕ)
fields_of line = filter has_bytes (slice_split is_blank line)

-- the field at a place from 0, which is empty where there is none
abbrev pub field_at : List (List ℕ) → ℕ → List ℕ
field_at fields at = slice_index_or fields at []

-- the first field of a line
abbrev pub first_field : List ℕ → List ℕ
first_field line = field_at (fields_of line) 0

-- fields with a space before each
abbrev pub fields_text : List (List ℕ) → List ℕ
fields_text fields = flat_map (λ field. 32 ∷ field) fields

-- whether a field begins a comment: its first byte is `#`
abbrev pub is_comment : List ℕ → Bool
is_comment field = slice_index field 0 == 35

-- whether `END` is the only field
abbrev pub is_end : List (List ℕ) → Bool
is_end fields = (length fields == 1) && bytes_eq (field_at fields 0) (codes "END")
