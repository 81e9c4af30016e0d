-- What private functions and proofs alone say of it, beside `specs/Check.antt`.
use Rattle.std.specs.Prelude.{ℕ, ◌≡◌, ◌⊎◌, List, Option}
use Rattle.fx_amounts.specs.OutOfMemory.{refused}
use Rattle.fx_edges.specs.Faults.{Rose}
use Rattle.fx_edges.specs.Writing.{Appended, AppendedPart}
use Rattle.program_calls.specs.declared.status.Status.{Status}
use Rattle.program_calls.specs.declared.status.Status.TheVariants.{WriteFault, Memory}

-- a text was written whole, with this status then; or a prefix of it, with the status of the fault
abbrev pub EndedWith : {K : Type 0} (written : K → Option (List ℕ)) (faults : K → ℕ) (before now : K) → List ℕ → Status → Status → Type 0
EndedWith written faults before now text status result =
    ((result ≡ status) × Appended written faults before now text)
    ⊎ (((result ≡ WriteFault) × (AppendedPart written faults before now text × Rose (faults before) (faults now)))
    ⊎ ((result ≡ Memory refused) × AppendedPart written faults before now text))
