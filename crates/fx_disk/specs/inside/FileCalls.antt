-- What private functions and proofs alone say of it, beside `specs/FileCalls.antt`.
use Rattle.std.specs.Prelude.{◌≡◌, ◌⊎◌, true, false, List, [], ◌∷◌, ◌++◌, Option, Result, OnOk, OnErr}
use Rattle.fx_disk.specs.FileCalls.{FileCall, OpenedFile, noted, opening, IsUnopened}

-- these calls were made of the file, and no fault was counted
pub record Asked {F : Type 0} (calls : F → Option (List FileCall)) (before now : OpenedFile F) (made : List FileCall) : Type 0 where
  pub asked : calls now.file ≡ noted (calls before.file) made
  pub faults : now.faults ≡ before.faults

-- the file wasn't open, and opening it failed
pub record Unopened {F : Type 0} (calls : F → Option (List FileCall)) (before now : OpenedFile F) : Type 0 where
  pub made : List FileCall
  pub asked : Asked calls before now made
  pub failed : IsUnopened made
  pub was : before.is_open ≡ false

-- the file was opened where it wasn't, and asked this; or opening it failed, and this is an error
pub record Tried {F T E : Type 0} (calls : F → Option (List FileCall)) (before now : OpenedFile F) (call : FileCall) (result : Result T E) : Type 0 where
  pub ok : OnOk result (Asked calls before now (opening before.is_open ++ call ∷ []) × (now.is_open ≡ true))
  pub err : OnErr result (Unopened calls before now ⊎ Asked calls before now (opening before.is_open ++ call ∷ []))
