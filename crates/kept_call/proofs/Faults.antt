-- What an answer is by the fault of a call, and the causes of both.
use Rattle.std.proofs.Common.{ℕ, ◌≡◌, ◌≤◌, List, Option, Result, Ok, Err, refl, sym, ◌∙◌, subst, ap, arith}
use Rattle.std.specs.Prelude.{IsErrAnd}
use Rattle.fx_edges.specs.Faults.{Rose}
use Rattle.fx_edges.proofs.FaultCounts.{Rose-from_later}
use Rattle.fx_edges.specs.declared.sink.SinkFault.TheVariants as sinks
use Rattle.keep_disk.specs.Keeping.{HasCause}
use Rattle.keep_disk.specs.Rounds.{RunCauses}
use Rattle.fx_disk.specs.declared.disk.DiskStop.{DiskStop}
use Rattle.fx_disk.specs.declared.disk.DiskStop.TheVariants as disks
use Rattle.keep_disk.specs.declared.rounds.RunFault.{RunFault}
use Rattle.keep_disk.specs.declared.rounds.RunFault.TheVariants as runs
use Rattle.reply_lines.specs.Faults.{WroteOutput}
use Rattle.reply_lines.specs.declared.output.OutFault.{OutFault}
use Rattle.reply_lines.specs.declared.output.OutFault.TheVariants as outs
use Rattle.kept_call.specs.Fault.{of_keeper, of_run, of_out, HasCauses}
use Rattle.kept_call.specs.Kept.{StopsASession}
use Rattle.kept_call.specs.declared.fault.KeptFault.{KeptFault}
use Rattle.kept_call.specs.declared.fault.KeptFault.TheVariants.{Disk, Write}

-- an answer that is this fault
pub for_err : {T E : Type 0} (result : Result T E) (e : E) (P : Result T E → Type 0) → IsErrAnd result (λ f. f ≡ e) → P (Err e) → P result
for_err (Ok value) e P is holds = absurd is
for_err (Err f) e P is holds = subst (λ (x : _). P (Err x)) (sym is) holds

-- and its value
pub is_err : {T E : Type 0} (result : Result T E) (e : E) → IsErrAnd result (λ f. f ≡ e) → result ≡ Err e
is_err (Ok value) e is = absurd is
is_err (Err f) e is = ap (λ (x : _). Err x) is

pub run_stops : (fault : RunFault) → StopsASession (of_run fault)
run_stops (runs.Keep disks.Failed) = tt
run_stops (runs.Keep (disks.Memory memory)) = tt
run_stops (runs.Tell sinks.Failed) = tt
run_stops (runs.Tell (sinks.Memory memory)) = tt

pub out_stops : (fault : OutFault) → StopsASession (of_out fault)
out_stops outs.Write = tt
out_stops (outs.Memory memory) = tt

run_disk : (fault : RunFault) → of_run fault ≡ Disk → fault ≡ runs.Keep disks.Failed
run_disk (runs.Keep disks.Failed) is = refl
run_disk (runs.Keep (disks.Memory memory)) is = absurd cc
run_disk (runs.Tell sinks.Failed) is = absurd cc
run_disk (runs.Tell (sinks.Memory memory)) is = absurd cc

run_write : (fault : RunFault) → of_run fault ≡ Write → fault ≡ runs.Tell sinks.Failed
run_write (runs.Keep disks.Failed) is = absurd cc
run_write (runs.Keep (disks.Memory memory)) is = absurd cc
run_write (runs.Tell sinks.Failed) is = refl
run_write (runs.Tell (sinks.Memory memory)) is = absurd cc

out_disk : (fault : OutFault) → of_out fault ≡ Disk → ⊥
out_disk outs.Write is = cc
out_disk (outs.Memory memory) is = cc

out_write : (fault : OutFault) → of_out fault ≡ Write → fault ≡ outs.Write
out_write outs.Write is = refl
out_write (outs.Memory memory) is = absurd cc

keeper_disk : (fault : DiskStop) → of_keeper fault ≡ Disk → fault ≡ disks.Failed
keeper_disk disks.Failed is = refl
keeper_disk (disks.Memory memory) is = absurd cc

keeper_write : (fault : DiskStop) → of_keeper fault ≡ Write → ⊥
keeper_write disks.Failed is = cc
keeper_write (disks.Memory memory) is = cc

-- an answer that is one fault is no other
pub same_err : {T E : Type 0} (result : Result T E) (e f : E) → result ≡ Err e → result ≡ Err f → e ≡ f
same_err (Ok value) e f is other = absurd cc
same_err (Err fault) e f is other = let first : fault ≡ e = cc in let second : fault ≡ f = cc in sym first ∙ second

module _ {D K : Type 0} (disk_faults : D → ℕ) (sink_faults : K → ℕ) where
  -- the fault of a run
  pub causes-of_run : {T U : Type 0} (d d' : D) (k k' : K) (fault : RunFault) (first : Result T RunFault) (result : Result U KeptFault) → first ≡ Err fault → result ≡ Err (of_run fault) → RunCauses disk_faults sink_faults d d' k k' first → HasCauses disk_faults sink_faults d d' k k' result
  causes-of_run d d' k k' fault first result was there causes = record {
    disk_count = causes.disk_count;
    disk = λ is. causes.disk (was ∙ ap (λ (f : RunFault). Err f) (run_disk fault (same_err result (of_run fault) Disk there is)));
    disk_steady = λ other. causes.disk_steady (λ of. other (there ∙ ap (λ (f : RunFault). Err (of_run f)) (same_err first fault (runs.Keep disks.Failed) was of)));
    sink_count = causes.sink_count;
    sink = λ is. causes.sink (was ∙ ap (λ (f : RunFault). Err f) (run_write fault (same_err result (of_run fault) Write there is)));
  }

  -- a keeper's
  pub causes-of_keeper : {T U : Type 0} (d d' : D) (k : K) (fault : DiskStop) (first : Result T DiskStop) (result : Result U KeptFault) → first ≡ Err fault → result ≡ Err (of_keeper fault) → HasCause disk_faults d d' first → HasCauses disk_faults sink_faults d d' k k result
  causes-of_keeper d d' k fault first result was there cause = record {
    disk_count = cause.count;
    disk = λ is. cause.cause (was ∙ ap (λ (f : DiskStop). Err f) (keeper_disk fault (same_err result (of_keeper fault) Disk there is)));
    disk_steady = λ other. cause.steady (λ of. other (there ∙ ap (λ (f : DiskStop). Err (of_keeper f)) (same_err first fault disks.Failed was of)));
    sink_count = omega arith;
    sink = λ is. absurd (keeper_write fault (same_err result (of_keeper fault) Write there is));
  }

  -- an output's, behind calls that met none
  pub causes-of_out : {T U : Type 0} {written : K → Option (List ℕ)} {IsText : List ℕ → Type 0} (d d' : D) (k k' k2 : K) (first : Result U OutFault) (fault : OutFault) (result : Result T KeptFault) → first ≡ Err fault → result ≡ Err (of_out fault) → disk_faults d' ≡ disk_faults d → sink_faults k ≤ sink_faults k'
      → WroteOutput written sink_faults k' k2 IsText first → HasCauses disk_faults sink_faults d d' k k2 result
  causes-of_out {written = written} {IsText = IsText} d d' k k' k2 first fault result was there steady count has =
      let wrote = subst (λ (w : Result _ OutFault). WroteOutput written sink_faults k' k2 IsText w) was has in
      record {
        disk_count = omega (arith, steady);
        disk = λ is. absurd (out_disk fault (same_err result (of_out fault) Disk there is));
        disk_steady = λ other. steady;
        sink_count = omega (arith, count, wrote.fault.count);
        sink = λ is. Rose-from_later (sink_faults k) (sink_faults k') (sink_faults k2) count (wrote.cause (out_write fault (same_err result (of_out fault) Write there is)));
      }

  -- no fault of either
  pub causes-steady : {T : Type 0} (d d' : D) (k k' : K) (result : Result T KeptFault) → disk_faults d' ≡ disk_faults d → sink_faults k ≤ sink_faults k' → (result ≡ Err Disk → ⊥) → (result ≡ Err Write → ⊥) → HasCauses disk_faults sink_faults d d' k k' result
  causes-steady d d' k k' result steady count no_disk no_write = record {
    disk_count = omega (arith, steady);
    disk = λ is. absurd (no_disk is);
    disk_steady = λ other. steady;
    sink_count = count;
    sink = λ is. absurd (no_write is);
  }

  -- behind calls that met none
  pub causes-behind : {T : Type 0} (d0 d d' : D) (k0 k k' : K) (result : Result T KeptFault) → disk_faults d ≡ disk_faults d0 → sink_faults k0 ≤ sink_faults k → HasCauses disk_faults sink_faults d d' k k' result → HasCauses disk_faults sink_faults d0 d' k0 k' result
  causes-behind d0 d d' k0 k k' result steady count causes = record {
    disk_count = omega (arith, steady, causes.disk_count);
    disk = λ is. subst (λ (n : ℕ). Rose n (disk_faults d')) steady (causes.disk is);
    disk_steady = λ other. causes.disk_steady other ∙ steady;
    sink_count = omega (arith, count, causes.sink_count);
    sink = λ is. Rose-from_later (sink_faults k0) (sink_faults k) (sink_faults k') count (causes.sink is);
  }

  -- calls that met none
  pub causes-done : {T : Type 0} (d0 d : D) (k0 k : K) (value : T) → disk_faults d ≡ disk_faults d0 → sink_faults k0 ≤ sink_faults k → HasCauses disk_faults sink_faults d0 d k0 k (Ok value)
  causes-done d0 d k0 k value steady count = causes-steady d0 d k0 k (Ok value) steady count (λ is. cc) (λ is. cc)

  -- and an output that was written whole
  pub causes-written : {T U : Type 0} {written : K → Option (List ℕ)} {IsText : List ℕ → Type 0} (d d' : D) (k k' k2 : K) (first : Result U OutFault) (done : U) → first ≡ Ok done → (value : T) → disk_faults d' ≡ disk_faults d → sink_faults k ≤ sink_faults k'
      → WroteOutput written sink_faults k' k2 IsText first → HasCauses disk_faults sink_faults d d' k k2 (Ok value)
  causes-written {written = written} {IsText = IsText} d d' k k' k2 first done was value steady count has =
      let wrote = subst (λ (w : Result _ OutFault). WroteOutput written sink_faults k' k2 IsText w) was has in
      causes-done d d' k k2 value steady (omega (arith, count, wrote.ok.count))
