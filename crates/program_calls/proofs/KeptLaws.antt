-- What a call that keeps a session did, once the status is told.
use Rattle.std.proofs.Common.{[], ◌∷◌, Result, inl, inr, sym, subst}
use Rattle.fx_amounts.specs.OutOfMemory.{refused}
use Rattle.fx_rules.specs.Lists.{Among}
use Rattle.kept_call.specs.declared.fault.KeptFault.{KeptFault}
use Rattle.session_script.specs.declared.ends.TextEnd.{TextEnd}
use Rattle.program_calls.specs.KeptCall.{DidKept}
use Rattle.program_calls.specs.Status.{kept_status}
use Rattle.program_calls.specs.declared.status.Status.{Status}
use Rattle.program_calls.specs.declared.status.Status.TheVariants.{Memory}

pub told_kept : (Did : Result TextEnd KeptFault → Type 0) (status result : Status) → DidKept Did status → Among result (status ∷ Memory refused ∷ []) → DidKept Did result
told_kept Did status result kept (inl same) = record { answer = kept.answer; did = kept.did; status_is = subst (λ (s : Status). Among s (kept_status kept.answer ∷ Memory refused ∷ [])) (sym same) kept.status_is }
told_kept Did status result kept (inr (inl memory)) = record { answer = kept.answer; did = kept.did; status_is = inr (inl memory) }
told_kept Did status result kept (inr (inr none)) = absurd none
