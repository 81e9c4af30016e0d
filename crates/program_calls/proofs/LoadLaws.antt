-- What a load that ended with a status says of that status and of standard output.
use Rattle.std.proofs.Common.{ℕ, ◌≡◌, ◌⊎◌, List, [], ◌∷◌, Option, refl, sym, subst, ◌∙◌, inl, inr}
use Rattle.fx_amounts.specs.OutOfMemory.{refused}
use Rattle.fx_edges.specs.Faults.{Rose}
use Rattle.fx_edges.specs.Writing.{Appended, AppendedPart}
use Rattle.fx_edges.proofs.Writing.{Appended-nil, AppendedPart-whole}
use Rattle.fx_rules.specs.Lists.{Among}
use Rattle.program_calls.specs.LoadSummary.{IsSummary}
use Rattle.program_calls.specs.Load.{WroteText, Loaded}
use Rattle.program_calls.specs.LoadCall.{GotSummary, GotSummaryPart, DidLoad}
use Rattle.program_calls.specs.TopCall.{GotNothing}
use Rattle.program_calls.specs.declared.status.Status.{Status}
use Rattle.program_calls.specs.declared.status.Status.TheVariants.{Done, WriteFault, Memory}

module _ {K : Type 0} (written : K → Option (List ℕ)) (faults : K → ℕ) (out out' : K) where
  -- a text that was written with some status was in part
  text_part : (text : List ℕ) (status : Status) → WroteText written faults out out' text status → AppendedPart written faults out out' text
  text_part text Done wrote = AppendedPart-whole wrote
  text_part text WriteFault wrote = wrote.0
  text_part text (Memory memory) wrote = wrote
  text_part text status wrote = absurd wrote

  text_answers : (text : List ℕ) (status : Status) → WroteText written faults out out' text status → Among status (Done ∷ WriteFault ∷ Memory refused ∷ [])
  text_answers text Done wrote = inl refl
  text_answers text WriteFault wrote = inr (inl refl)
  text_answers text (Memory memory) wrote = inr (inr (inl refl))
  text_answers text status wrote = absurd wrote

  text_complete : (text : List ℕ) (status : Status) → WroteText written faults out out' text status → ¬ (Rose (faults out) (faults out')) → Among status (Done ∷ Memory refused ∷ [])
  text_complete text Done wrote writes = inl refl
  text_complete text WriteFault wrote writes = absurd (writes wrote.1)
  text_complete text (Memory memory) wrote writes = inr (inl refl)
  text_complete text status wrote writes = absurd wrote

module _ {S K : Type 0} (written : K → Option (List ℕ)) (faults : K → ℕ) (seed banks pairs commands : ℕ) (source source' : S) (out out' : K) where
  -- nothing was written, out of memory, or some of the summary
  Ended : Status → Type 0
  Ended status = ((status ≡ Memory refused) × (out' ≡ out)) ⊎ ((text : List ℕ) × IsSummary seed banks pairs commands text × WroteText written faults out out' text status)

  told : (status result : Status) → Ended status → Among result (status ∷ Memory refused ∷ []) → Ended result
  unfolding Ended
  told status result ended (inl same) = subst Ended (sym same) ended
  told status result (inl none) (inr (inl memory)) = inl (memory, none.1)
  told status result (inr some) (inr (inl memory)) =
      inr (some.0, some.1, subst (WroteText written faults out out' some.0) (sym memory) (text_part written faults out out' some.0 status some.2))
  told status result ended (inr (inr none)) = absurd none

  whole : (result : Status) → Ended result → result ≡ Done → GotSummary written faults out out' seed banks pairs commands
  unfolding Ended
  whole result (inl none) is = let no : Done ≡ Memory refused = sym is ∙ none.0 in absurd cc
  whole result (inr some) is = (some.0, some.1, subst (WroteText written faults out out' some.0) is some.2)

  rose : (result : Status) → Ended result → result ≡ WriteFault → Rose (faults out) (faults out')
  unfolding Ended
  rose result (inl none) is = let no : WriteFault ≡ Memory refused = sym is ∙ none.0 in absurd cc
  rose result (inr some) is = let wrote : WroteText written faults out out' some.0 WriteFault = subst (WroteText written faults out out' some.0) is some.2 in wrote.1

  part : (result : Status) → Ended result → result ≡ WriteFault → GotSummaryPart written faults out out' seed banks pairs commands
  unfolding Ended
  part result (inl none) is = let no : WriteFault ≡ Memory refused = sym is ∙ none.0 in absurd cc
  part result (inr some) is = (some.0, some.1, text_part written faults out out' some.0 result some.2)

  memory_part : (result : Status) → Ended result → GotNothing written faults out out' ⊎ GotSummaryPart written faults out out' seed banks pairs commands
  unfolding Ended
  memory_part result (inl none) = inl (subst (λ (k : K). Appended written faults out k []) (sym none.1) (Appended-nil written faults out))
  memory_part result (inr some) = inr (some.0, some.1, text_part written faults out out' some.0 result some.2)

  answers : (result : Status) → Ended result → Among result (Done ∷ WriteFault ∷ Memory refused ∷ [])
  unfolding Ended
  answers result (inl none) = inr (inr (inl none.0))
  answers result (inr some) = text_answers written faults out out' some.0 result some.2

  complete : (result : Status) → Ended result → ¬ (Rose (faults out) (faults out')) → Among result (Done ∷ Memory refused ∷ [])
  unfolding Ended
  complete result (inl none) writes = inr (inl none.0)
  complete result (inr some) writes = text_complete written faults out out' some.0 result some.2 writes

  pub load_did : (status result : Status) → source' ≡ source → Loaded written faults out out' seed banks pairs commands status → Among result (status ∷ Memory refused ∷ []) → DidLoad written faults seed banks pairs commands source source' out out' result
  unfolding Ended
  load_did status result unread loaded tells =
      let ended : Ended result = told status result loaded.ended tells in
      record {
        unread = unread;
        done = whole result ended;
        write_fault = rose result ended;
        part = part result ended;
        memory = λ _. memory_part result ended;
        answers = answers result ended;
        complete = complete result ended;
      }
