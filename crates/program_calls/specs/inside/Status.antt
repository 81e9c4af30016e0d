-- What private functions and proofs alone say of it, beside `specs/Status.antt`.
use Rattle.std.specs.Prelude.{Result, Ok, Err}
use Rattle.reply_lines.specs.declared.output.OutFault.{OutFault}
use Rattle.reply_lines.specs.declared.output.OutFault.TheVariants as faults
use Rattle.session_script.specs.declared.ends.TextEnd.{TextEnd}
use Rattle.program_calls.specs.declared.status.Status.{Status}
use Rattle.program_calls.specs.declared.status.Status.TheVariants.{WriteFault, Memory}
use Rattle.program_calls.specs.Status.{status_at}

-- what it ends with where the output was written so
abbrev pub written_status : {T : Type 0} → TextEnd → Result T OutFault → Status
written_status end (Ok done) = status_at end
written_status end (Err faults.Write) = WriteFault
written_status end (Err (faults.Memory memory)) = Memory memory
