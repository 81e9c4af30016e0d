-- How the writing of an output ended.
use Rattle.std.specs.Prelude.{◌≡◌, ℕ, List, Option, Result, OnOk, OnErr, IfErr}
use Rattle.fx_edges.specs.Faults.{Rose}
use Rattle.fx_edges.specs.Writing.{Appended, AppendedPart}
use Rattle.fx_edges.specs.declared.sink.SinkFault.{SinkFault}
use Rattle.fx_edges.specs.declared.sink.SinkFault.TheVariants as sinks
use Rattle.reply_lines.specs.declared.output.OutFault.{OutFault}
use Rattle.reply_lines.specs.declared.output.OutFault.TheVariants.{Write, Memory}

-- the fault of an output whose sink had this one
abbrev pub fault_of : SinkFault → OutFault
fault_of sinks.Failed = Write
fault_of (sinks.Memory memory) = Memory memory

-- The sink got a text of this kind whole at `Ok`, and a prefix of it at a fault. The fault was `Write` only where the sink's
-- count rose.
pub record WroteOutput {K T : Type 0} (written : K → Option (List ℕ)) (faults : K → ℕ)
    (before now : K) (is_output : List ℕ → Type 0) (result : Result T OutFault) : Type 0 where
  pub text : List ℕ
  pub is_text : is_output text
  pub ok : OnOk result (Appended written faults before now text)
  pub fault : OnErr result (AppendedPart written faults before now text)
  pub cause : IfErr result (λ fault. fault ≡ Write → Rose (faults before) (faults now))
