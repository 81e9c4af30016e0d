-- What a load does to standard output.
use Rattle.std.specs.Prelude.{ℕ, ◌≡◌, ◌⊎◌, List, Option}
use Rattle.fx_amounts.specs.OutOfMemory.{refused}
use Rattle.fx_edges.specs.Faults.{Rose}
use Rattle.fx_edges.specs.Writing.{Appended, AppendedPart}
use Rattle.program_calls.specs.LoadSummary.{IsSummary}
use Rattle.program_calls.specs.declared.status.Status.{Status}
use Rattle.program_calls.specs.declared.status.Status.TheVariants.{Done, WriteFault, Memory}

-- a sink got a text, or a prefix of it, by the status that the writing ended with
abbrev pub WroteText : {K : Type 0} (written : K → Option (List ℕ)) (faults : K → ℕ) (before now : K) → List ℕ → Status → Type 0
WroteText written faults before now text Done = Appended written faults before now text
WroteText written faults before now text WriteFault = AppendedPart written faults before now text × Rose (faults before) (faults now)
WroteText written faults before now text (Memory memory) = AppendedPart written faults before now text
WroteText written faults before now text _ = ⊥

-- the same of the summary that these numbers determine; out of memory, nothing may be written of it
pub record Loaded {K : Type 0} (written : K → Option (List ℕ)) (faults : K → ℕ) (before now : K) (seed banks pairs commands : ℕ) (status : Status) : Type 0 where
  pub ended : ((status ≡ Memory refused) × (now ≡ before))
      ⊎ ((text : List ℕ) × IsSummary seed banks pairs commands text × WroteText written faults before now text status)
