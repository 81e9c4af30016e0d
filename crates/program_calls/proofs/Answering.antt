-- What was done at a verdict, from how the writing of its text ended.
use Rattle.std.proofs.Common.{ℕ, ◌≡◌, List, inl, inr, sym, subst, Option}
use Rattle.fx_amounts.specs.OutOfMemory.{refused}
use Rattle.fx_edges.specs.Writing.{AppendedPart}
use Rattle.fx_edges.proofs.Writing.{Appended-nil, AppendedPart-whole, AppendedPart-longer, IsPrefixOf-nil}
use Rattle.journal_check.specs.Verdict.{yes, IsVerdict, IsSomeOutput}
use Rattle.journal_check.specs.declared.check.Verdict.{Verdict}
use Rattle.journal_check.specs.declared.check.Verdict.TheVariants.{No}
use Rattle.program_calls.specs.Check.{KindOfAnswer, no_line, IsAnswerAt, WrotePartOf, ToldVerdict}
use Rattle.program_calls.specs.inside.Check.{EndedWith}
use Rattle.program_calls.specs.declared.status.Status.{Status}
use Rattle.program_calls.specs.declared.status.Status.TheVariants.{Done, Differs, WriteFault, Memory}

module _ (IsAnswer : KindOfAnswer) {K : Type 0} (written : K → Option (List ℕ)) (faults : K → ℕ) (before now : K) (bytes text : List ℕ) where
  part_of : (verdict : Verdict) → IsVerdict bytes verdict → IsAnswerAt IsAnswer bytes verdict text → AppendedPart written faults before now text → WrotePartOf IsAnswer written faults before now bytes
  part_of verdict is says part = record { verdict = verdict; is_verdict = is; text = text; is_text = says; part = part }

  at_status : (status result : Status) → result ≡ status → ToldVerdict IsAnswer written faults before now bytes status → ToldVerdict IsAnswer written faults before now bytes result
  at_status status result same told = subst (ToldVerdict IsAnswer written faults before now bytes) (sym same) told

  pub told_yes : (result : Status) → IsVerdict bytes yes → IsSomeOutput bytes → IsAnswer bytes text → EndedWith written faults before now text Done result → ToldVerdict IsAnswer written faults before now bytes result
  told_yes result is some says (inl all) = at_status Done result all.0 (some, record { is_verdict = is; text = text; is_text = says; all = all.1 })
  told_yes result is some says (inr (inl part)) = at_status WriteFault result part.0 (part_of yes is says part.1.0, part.1.1)
  told_yes result is some says (inr (inr part)) = at_status (Memory refused) result part.0 (inr (part_of yes is says part.1))

  pub told_no : (offset : ℕ) (result : Status) → IsVerdict bytes (No offset) → ¬ (IsSomeOutput bytes) → text ≡ no_line offset → EndedWith written faults before now text Differs result → ToldVerdict IsAnswer written faults before now bytes result
  told_no offset result is other says (inl all) = at_status Differs result all.0 (other, (offset, record { is_verdict = is; text = text; is_text = says; all = all.1 }))
  told_no offset result is other says (inr (inl part)) = at_status WriteFault result part.0 (part_of (No offset) is says part.1.0, part.1.1)
  told_no offset result is other says (inr (inr part)) = at_status (Memory refused) result part.0 (inr (part_of (No offset) is says part.1))

-- out of memory, before anything of a text was written
pub not_begun : {K : Type 0} (written : K → Option (List ℕ)) (faults : K → ℕ) (out : K) (text : List ℕ) → AppendedPart written faults out out text
not_begun written faults out text = AppendedPart-longer (AppendedPart-whole (Appended-nil written faults out)) (IsPrefixOf-nil text)
