-- A fault comes only where its own count rose, from call to call.
use Rattle.std.proofs.Common.{ℕ, ◌≡◌, ◌≤◌, Result, Ok, Err, refl, sym, ◌∙◌, subst, ap, arith}
use Rattle.std.specs.Prelude.{IsErrAnd, IsErrOf}
use Rattle.fx_amounts.specs.declared.memory.Memory.{Memory as AmountsMemory}
use Rattle.fx_edges.specs.Faults.{Rose}
use Rattle.fx_edges.proofs.FaultCounts.{Rose-from_later}
use Rattle.keep_disk.specs.Rounds.{RunCauses, out_of_memory}
use Rattle.keep_disk.specs.declared.rounds.RunFault.{RunFault}
use Rattle.keep_disk.specs.declared.rounds.RunFault.TheVariants.{Keep, Tell}
use Rattle.fx_disk.specs.declared.disk.DiskStop.TheVariants as disks
use Rattle.fx_edges.specs.declared.sink.SinkFault.TheVariants.{Failed}

err_is : {T : Type 0} (result : Result T RunFault) (e f : RunFault) → IsErrAnd result (λ fault. fault ≡ e) → IsErrOf result f → e ≡ f
err_is (Ok value) e f is of = absurd is
err_is (Err fault) e f is of = let same : fault ≡ f = cc in sym is ∙ same

handed : {T U : Type 0} (result : Result U RunFault) (e f : RunFault) (same : Result T RunFault) → same ≡ Err e → IsErrAnd result (λ fault. fault ≡ e) → IsErrOf same f → IsErrOf result f
handed (Ok value) e f same there is of = absurd is
handed (Err fault) e f same there is of = let errs : Err e ≡ same = sym there in let equal : e ≡ f = cc in ap (λ (x : RunFault). Err x) (is ∙ equal)

no_disk : (memory : AmountsMemory) → out_of_memory memory ≡ Keep disks.Failed → ⊥
no_disk memory is = cc

no_write : (memory : AmountsMemory) → out_of_memory memory ≡ Tell Failed → ⊥
no_write memory is = cc

module _ {D K : Type 0} (disk_faults : D → ℕ) (sink_faults : K → ℕ) where
  -- calls that met no fault, and then one
  pub causes-then : {T : Type 0} (d0 d d' : D) (k0 k k' : K) (result : Result T RunFault) → disk_faults d ≡ disk_faults d0 → sink_faults k0 ≤ sink_faults k
      → RunCauses disk_faults sink_faults d d' k k' result → RunCauses disk_faults sink_faults d0 d' k0 k' result
  causes-then d0 d d' k0 k k' result steady count causes = record {
    disk_count = omega (arith, steady, causes.disk_count);
    disk = λ is. subst (λ (n : ℕ). Rose n (disk_faults d')) steady (causes.disk is);
    disk_steady = λ other. causes.disk_steady other ∙ steady;
    sink_count = omega (arith, count, causes.sink_count);
    sink = λ is. Rose-from_later (sink_faults k0) (sink_faults k) (sink_faults k') count (causes.sink is);
  }

  -- the fault of a call that is handed on
  pub causes-on : {T U : Type 0} (d d' : D) (k k' : K) (e : RunFault) (first : Result T RunFault) (result : Result U RunFault) → first ≡ Err e → RunCauses disk_faults sink_faults d d' k k' first → IsErrAnd result (λ fault. fault ≡ e)
      → RunCauses disk_faults sink_faults d d' k k' result
  causes-on d d' k k' e first result was causes is = record {
    disk_count = causes.disk_count;
    disk = λ of. causes.disk (was ∙ ap (λ (x : RunFault). Err x) (err_is result e (Keep disks.Failed) is of));
    disk_steady = λ other. causes.disk_steady (λ of. other (handed result e (Keep disks.Failed) first was is of));
    sink_count = causes.sink_count;
    sink = λ of. causes.sink (was ∙ ap (λ (x : RunFault). Err x) (err_is result e (Tell Failed) is of));
  }

  -- out of memory before the disk and the sink were touched
  pub causes-none : {T : Type 0} (d : D) (k : K) (memory : AmountsMemory) (result : Result T RunFault) → IsErrAnd result (λ fault. fault ≡ out_of_memory memory) → RunCauses disk_faults sink_faults d d k k result
  causes-none d k memory result is = record {
    disk_count = omega arith;
    disk = λ of. absurd (no_disk memory (err_is result (out_of_memory memory) (Keep disks.Failed) is of));
    disk_steady = λ other. refl;
    sink_count = omega arith;
    sink = λ of. absurd (no_write memory (err_is result (out_of_memory memory) (Tell Failed) is of));
  }

  -- calls that met none
  pub causes-done : {T : Type 0} (d0 d : D) (k0 k : K) (value : T) → disk_faults d ≡ disk_faults d0 → sink_faults k0 ≤ sink_faults k → RunCauses disk_faults sink_faults d0 d k0 k (Ok value)
  causes-done d0 d k0 k value steady count = record {
    disk_count = omega (arith, steady);
    disk = λ of. absurd cc;
    disk_steady = λ other. steady;
    sink_count = count;
    sink = λ of. absurd cc;
  }
