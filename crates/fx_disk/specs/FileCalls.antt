-- What a `FileDisk` asks of the file behind it, and what that answers.
use Rattle.std.specs.Prelude.{◌≡◌, ◌⊎◌, ℕ, Bool, true, false, List, [], ◌∷◌, ◌++◌, take, Option, None, Some, option_map, Result, Ok, Err, codes, if◌then◌else◌}
use Rattle.std.specs.Fs.{new_options, with_read, with_write, with_create}
use Rattle.std.specs.declared.fs.options.OpenOptions.{OpenOptions}
use Rattle.fx_edges.specs.Faults.{one_more}

-- a call of a file, with what it answered: an error is `false`, or `None` where another answer tells something
pub data FileCall : Type 0 where
  -- the file of this name was opened in this way
  Opened : OpenOptions → List ℕ → Bool → FileCall
  -- the folder's names were synced
  FolderSynced : Bool → FileCall
  -- how many bytes the file has
  Measured : Option ℕ → FileCall
  -- from this place on, with room for so many bytes, the file gave these
  Gave : ℕ → ℕ → Option (List ℕ) → FileCall
  -- all these bytes were written at this place
  Wrote : ℕ → List ℕ → Bool → FileCall
  Synced : Bool → FileCall

-- what a call answered, where that was no error
abbrev pub answer_of : {T E : Type 0} → Result T E → Option T
answer_of (Ok answer) = Some answer
answer_of (Err e) = None

-- the bytes that a read gave, which stand in front of `into`
abbrev pub given_by : {E : Type 0} → Result ℕ E → List ℕ → Option (List ℕ)
given_by (Ok count) into = Some (take count into)
given_by (Err e) into = None

-- the calls so far, where they are told, and then these
abbrev pub noted : Option (List FileCall) → List FileCall → Option (List FileCall)
noted known made = option_map (λ calls. calls ++ made) known

-- to read and to write, made where it is missing, and with the bytes that it has
abbrev pub journal_options : OpenOptions
journal_options = with_create (with_write (with_read new_options true) true) true

abbrev pub journal_name : List ℕ
journal_name = codes "fx.journal"

-- a file, whether it is open, and how many faults it met
pub record OpenedFile (F : Type 0) : Type 0 where
  pub file : F
  pub is_open : Bool
  pub faults : ℕ

-- what opens the file, where it isn't open yet
abbrev pub opening : Bool → List FileCall
opening is_open = if is_open then [] else (Opened journal_options journal_name true ∷ FolderSynced true ∷ [])

-- A call of the disk opened the file where it wasn't, and asked it this one thing. No fault was met.
pub record Did {F : Type 0} (calls : F → Option (List FileCall)) (before now : OpenedFile F) (call : FileCall) : Type 0 where
  pub asked : calls now.file ≡ noted (calls before.file) (opening before.is_open ++ call ∷ [])
  pub opened : now.is_open ≡ true
  pub faults : now.faults ≡ before.faults

-- opening failed, at the file or at its folder
abbrev pub IsUnopened : List FileCall → Type 0
IsUnopened made = (made ≡ Opened journal_options journal_name false ∷ []) ⊎ (made ≡ Opened journal_options journal_name true ∷ FolderSynced false ∷ [])

-- A call of the disk met one fault: the file wasn't open and opening it failed, or it was asked this, and failed.
pub record Stopped {F : Type 0} (calls : F → Option (List FileCall)) (before now : OpenedFile F) (call : FileCall) : Type 0 where
  pub made : List FileCall
  pub asked : calls now.file ≡ noted (calls before.file) made
  pub failed : ((before.is_open ≡ false) × IsUnopened made) ⊎ (made ≡ opening before.is_open ++ call ∷ [])
  pub faults : now.faults ≡ one_more before.faults
