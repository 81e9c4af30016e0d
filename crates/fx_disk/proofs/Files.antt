-- What a disk's call asks of the file behind it.
use Rattle.std.proofs.Common.{◌≡◌, inl, inr, Bool, true, false, List, [], ◌∷◌, ◌++◌, Option, None, Some, Result, Ok, Err, OnErr, append_assoc, refl, sym, ap, ◌∙◌}
use Rattle.std.specs.declared.fs.options.OpenOptions.{OpenOptions}
use Rattle.fx_disk.specs.FileCalls.{FileCall, Opened, FolderSynced, OpenedFile, noted, opening, journal_options, journal_name}
use Rattle.fx_disk.specs.inside.FileCalls.{Asked, Unopened}

-- some calls, and then more
pub noted-append : (known : Option (List FileCall)) (s t : List FileCall) → noted (noted known s) t ≡ noted known (s ++ t)
noted-append None s t = refl
noted-append (Some calls) s t = ap (λ all. Some all) (append_assoc calls s t)

pub on_err_always : {T E P : Type 0} (r : Result T E) → P → OnErr r P
on_err_always (Ok value) p = tt
on_err_always (Err e) p = p

module _ {F : Type 0} (calls : F → Option (List FileCall)) (before : OpenedFile F) (was : before.is_open ≡ false) (how : OpenOptions) (is_how : how ≡ journal_options) (file : F) where
  -- the file could not be opened
  pub unopened_file : (opened : Bool) → opened ≡ false → calls file ≡ noted (calls before.file) (Opened how journal_name opened ∷ []) → Unopened calls before (record before { file = file })
  unopened_file opened failed asked = record {
    made = Opened journal_options journal_name false ∷ [];
    asked = record { asked = asked ∙ ap (λ (h : OpenOptions). noted (calls before.file) (Opened h journal_name opened ∷ [])) is_how ∙ ap (λ (done : Bool). noted (calls before.file) (Opened journal_options journal_name done ∷ [])) failed; faults = refl };
    failed = inl refl;
    was = was;
  }

  module _ (opened : Bool) (worked : opened ≡ true) (asked : calls file ≡ noted (calls before.file) (Opened how journal_name opened ∷ [])) (synced : F) (done : Bool)
      (asked_folder : calls synced ≡ noted (calls file) (FolderSynced done ∷ [])) where
    both : calls synced ≡ noted (calls before.file) (Opened journal_options journal_name true ∷ FolderSynced done ∷ [])
    both =
        asked_folder
        ∙ ap (λ (known : Option (List FileCall)). noted known (FolderSynced done ∷ []))
        (asked ∙ ap (λ (h : OpenOptions). noted (calls before.file) (Opened h journal_name opened ∷ [])) is_how ∙ ap (λ (o : Bool). noted (calls before.file) (Opened journal_options journal_name o ∷ [])) worked)
        ∙ noted-append (calls before.file) (Opened journal_options journal_name true ∷ []) (FolderSynced done ∷ [])

    -- the folder could not be synced
    pub unopened_folder : done ≡ false → Unopened calls before (record before { file = synced })
    unopened_folder failed = record {
      made = Opened journal_options journal_name true ∷ FolderSynced false ∷ [];
      asked = record { asked = both ∙ ap (λ (d : Bool). noted (calls before.file) (Opened journal_options journal_name true ∷ FolderSynced d ∷ [])) failed; faults = refl };
      failed = inr refl;
      was = was;
    }

    -- the file is open
    pub opened_now : done ≡ true → Asked calls before (record before { file = synced; is_open = true }) (opening before.is_open)
    opened_now worked_too = record {
      asked = both ∙ ap (λ (d : Bool). noted (calls before.file) (Opened journal_options journal_name true ∷ FolderSynced d ∷ [])) worked_too ∙ ap (λ (o : Bool). noted (calls before.file) (opening o)) (sym was);
      faults = refl;
    }
