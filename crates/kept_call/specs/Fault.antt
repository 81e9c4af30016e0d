-- The faults of a call that keeps a session, by those of what it calls.
use Rattle.std.specs.Prelude.{ℕ, ◌≡◌, ◌≤◌, [], ◌∷◌, Result, Err}
use Rattle.fx_amounts.specs.OutOfMemory.{refused}
use Rattle.fx_edges.specs.Faults.{Rose}
use Rattle.fx_edges.specs.declared.sink.SinkFault.TheVariants as sinks
use Rattle.fx_rules.specs.Lists.{Among}
use Rattle.fx_disk.specs.declared.disk.DiskStop.{DiskStop}
use Rattle.fx_disk.specs.declared.disk.DiskStop.TheVariants as disks
use Rattle.keep_disk.specs.declared.rounds.RunFault.{RunFault}
use Rattle.keep_disk.specs.declared.rounds.RunFault.TheVariants as runs
use Rattle.reply_lines.specs.declared.output.OutFault.{OutFault}
use Rattle.reply_lines.specs.declared.output.OutFault.TheVariants as outs
use Rattle.session_script.specs.declared.ends.Stop.{Stop}
use Rattle.session_script.specs.declared.ends.Stop.TheVariants as stops
use Rattle.kept_call.specs.declared.fault.KeptFault.{KeptFault}
use Rattle.kept_call.specs.declared.fault.KeptFault.TheVariants.{Header, Early, Disk, Write, Memory}

abbrev pub of_keeper : DiskStop → KeptFault
of_keeper disks.Failed = Disk
of_keeper (disks.Memory memory) = Memory memory

abbrev pub of_run : RunFault → KeptFault
of_run (runs.Keep fault) = of_keeper fault
of_run (runs.Tell sinks.Failed) = Write
of_run (runs.Tell (sinks.Memory memory)) = Memory memory

abbrev pub of_out : OutFault → KeptFault
of_out outs.Write = Write
of_out (outs.Memory memory) = Memory memory

abbrev pub of_stop : Stop → KeptFault
of_stop (stops.Header line reason) = Header line reason
of_stop (stops.Early end) = Early end
of_stop (stops.Memory memory) = Memory memory

-- The call answered this fault exactly where the cause stands, unless the disk failed before it was known, or it was out of memory.
pub record Exactly {T : Type 0} (result : Result T KeptFault) (fault : KeptFault) (cause : Type 0) : Type 0 where
  pub only : result ≡ Err fault → cause
  pub always : cause → Among result (Err fault ∷ Err Disk ∷ Err (Memory refused) ∷ [])

-- A fault of the disk or of the sink comes only where its own count rose. Neither count falls, and the disk's rises at nothing else.
pub record HasCauses {D K T : Type 0} (disk_faults : D → ℕ) (sink_faults : K → ℕ) (before now : D) (out_before out_now : K) (result : Result T KeptFault) : Type 0 where
  pub disk_count : disk_faults before ≤ disk_faults now
  pub disk : result ≡ Err Disk → Rose (disk_faults before) (disk_faults now)
  pub disk_steady : (result ≡ Err Disk → ⊥) → disk_faults now ≡ disk_faults before
  pub sink_count : sink_faults out_before ≤ sink_faults out_now
  pub sink : result ≡ Err Write → Rose (sink_faults out_before) (sink_faults out_now)
