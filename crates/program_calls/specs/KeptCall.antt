-- What a call that keeps a session, or goes on with a kept one, ends with.
use Rattle.std.specs.Prelude.{[], ◌∷◌, Result}
use Rattle.fx_amounts.specs.OutOfMemory.{refused}
use Rattle.fx_rules.specs.Lists.{Among}
use Rattle.kept_call.specs.declared.fault.KeptFault.{KeptFault}
use Rattle.session_script.specs.declared.ends.TextEnd.{TextEnd}
use Rattle.program_calls.specs.Status.{kept_status}
use Rattle.program_calls.specs.declared.status.Status.{Status}
use Rattle.program_calls.specs.declared.status.Status.TheVariants.{Memory}

-- A call that keeps a session did this, and the status is that of its answer, or out of memory for the line on standard error.
pub record DidKept (Did : Result TextEnd KeptFault → Type 0) (status : Status) : Type 0 where
  pub answer : Result TextEnd KeptFault
  pub did : Did answer
  pub status_is : Among status (kept_status answer ∷ Memory refused ∷ [])
