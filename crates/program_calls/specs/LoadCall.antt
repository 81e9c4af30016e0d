-- What the top call does with the word `load`.
use Rattle.std.specs.Prelude.{ℕ, ◌≡◌, ◌⊎◌, List, [], ◌∷◌, Option}
use Rattle.fx_amounts.specs.OutOfMemory.{refused}
use Rattle.fx_edges.specs.Faults.{Rose}
use Rattle.fx_edges.specs.Writing.{Appended, AppendedPart}
use Rattle.fx_rules.specs.Lists.{Among}
use Rattle.program_calls.specs.LoadSummary.{IsSummary}
use Rattle.program_calls.specs.TopCall.{GotNothing}
use Rattle.program_calls.specs.declared.status.Status.{Status}
use Rattle.program_calls.specs.declared.status.Status.TheVariants.{Done, WriteFault, Memory}

-- standard output got the summary of the load that these numbers make, or a prefix of it
abbrev pub GotSummary : {K : Type 0} (written : K → Option (List ℕ)) (faults : K → ℕ) (before now : K) → ℕ → ℕ → ℕ → ℕ → Type 0
GotSummary written faults before now seed banks pairs commands =
    (text : List ℕ) × IsSummary seed banks pairs commands text × Appended written faults before now text

abbrev pub GotSummaryPart : {K : Type 0} (written : K → Option (List ℕ)) (faults : K → ℕ) (before now : K) → ℕ → ℕ → ℕ → ℕ → Type 0
GotSummaryPart written faults before now seed banks pairs commands =
    (text : List ℕ) × IsSummary seed banks pairs commands text × AppendedPart written faults before now text

pub record DidLoad {S K : Type 0} (written : K → Option (List ℕ)) (faults : K → ℕ) (seed banks pairs commands : ℕ)
    (source source' : S) (out out' : K) (status : Status) : Type 0 where
  -- nothing is read
  pub unread : source' ≡ source
  -- standard output: the whole summary, a prefix of it, or nothing
  pub done : status ≡ Done → GotSummary written faults out out' seed banks pairs commands
  pub write_fault : status ≡ WriteFault → Rose (faults out) (faults out')
  pub part : status ≡ WriteFault → GotSummaryPart written faults out out' seed banks pairs commands
  pub memory : status ≡ Memory refused → GotNothing written faults out out' ⊎ GotSummaryPart written faults out out' seed banks pairs commands
  -- no other status comes, and over a sink without faults the summary is written
  pub answers : Among status (Done ∷ WriteFault ∷ Memory refused ∷ [])
  pub complete : ¬ (Rose (faults out) (faults out')) → Among status (Done ∷ Memory refused ∷ [])
