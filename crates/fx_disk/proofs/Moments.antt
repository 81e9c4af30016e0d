-- One call more on the tape of a disk in memory.
use Rattle.std.proofs.Common.{◌≡◌, ◌⊎◌, inl, inr, ℕ, ◌+◌, ◌≤◌, List, [], ◌∷◌, ◌++◌, length, take, Option, None, Some, Result, IsErrOf, Vec, Global, refl, sym, ◌∙◌, ap, subst, arith, length-append, take_all}
use Rattle.std.specs.Prelude.{MatchOption, max}
use Rattle.std.proofs.lemmas.List.{take-append-le, ext_get_or}
use Rattle.std.proofs.lemmas.Bool.{cases_lt}
use Rattle.fx_amounts.specs.OutOfMemory.{refused}
use Rattle.fx_edges.specs.Faults.{Rose}
use Rattle.fx_disk.specs.declared.disk.DiskStop.{DiskStop}
use Rattle.fx_disk.specs.declared.disk.DiskStop.TheVariants.{Failed, Memory}
use Rattle.fx_disk.specs.declared.call.Call.{Call}
use Rattle.fx_disk.specs.declared.call.Call.TheVariants.{Wrote, Broke, Synced}
use Rattle.fx_disk.specs.Disk.{with_piece, Torn, TornBy, NoMore, Only, Called}
use Rattle.fx_disk.specs.Model.{State, greatest_end, MayLeave, after_call, after_calls, Tape, start_of, state_now, state_at, MayLeaveIn, LeftSince}
use Rattle.fx_disk.specs.inside.Model.{Added, AddedWrite}
use Rattle.fx_disk.specs.ModelLaws.{reads_may_leave}
use Rattle.fx_disk.proofs.Images.{restored, restored_may_leave, restored_torn, torn_may_leave}

pub after_calls-push : (s : State) (calls : List Call) (call : Call) → after_calls s (calls ++ call ∷ []) ≡ after_call (after_calls s calls) call
after_calls-push s [] call = refl
after_calls-push s (c ∷ calls) call = after_calls-push (after_call s c) calls call

-- What the tape keeps of its bytes

pub reads_kept : (first : List ℕ) (changed : Option (Vec ℕ Global)) (was now : List ℕ) → was ≡ now → MatchOption changed (first ≡ was) (λ v. v.items ≡ was) → MatchOption changed (first ≡ now) (λ v. v.items ≡ now)
reads_kept first None was now e kept = kept ∙ e
reads_kept first (Some v) was now e kept = kept ∙ e

pub reads_kept_by : (first : List ℕ) (changed : Option (Vec ℕ Global)) (calls now : List Call) (call : Call) → now ≡ calls ++ call ∷ []
    → (after_call (after_calls (start_of first) calls) call).reads ≡ (after_calls (start_of first) calls).reads
    → MatchOption changed (first ≡ (after_calls (start_of first) calls).reads) (λ v. v.items ≡ (after_calls (start_of first) calls).reads)
    → MatchOption changed (first ≡ (after_calls (start_of first) now).reads) (λ v. v.items ≡ (after_calls (start_of first) now).reads)
reads_kept_by first changed calls now call pushed same kept =
    reads_kept first changed _ _
    (sym same ∙ ap (λ (s : State). s.reads) (sym (after_calls-push (start_of first) calls call)) ∙ ap (λ (cs : List Call). (after_calls (start_of first) cs).reads) (sym pushed))
    kept

pub reads_written : (first : List ℕ) (calls now : List Call) (at : ℕ) (kept : Vec ℕ Global) (piece file whole : List ℕ) → now ≡ calls ++ Wrote at kept ∷ [] → kept.items ≡ piece
    → file ≡ (after_calls (start_of first) calls).reads → whole ≡ with_piece at piece file → whole ≡ (after_calls (start_of first) now).reads
reads_written first calls now at kept piece file whole pushed same reads is =
    is
    ∙ ap (λ (f : List ℕ). with_piece at piece f) reads
    ∙ ap (λ (p : List ℕ). with_piece at p (after_calls (start_of first) calls).reads) (sym same)
    ∙ ap (λ (s : State). s.reads) (sym (after_calls-push (start_of first) calls (Wrote at kept)))
    ∙ ap (λ (cs : List Call). (after_calls (start_of first) cs).reads) (sym pushed)

-- What the state becomes

pub state_added : (before now : Tape) (call : Call) → Added before call now → state_now now ≡ after_call (state_now before) call
state_added before now call added = ap state_now added ∙ after_calls-push (start_of before.first) before.calls call

pub Added-from : (before : Tape) (first : List ℕ) (calls now : List Call) (call : Call) → before ≡ record { first = first; calls = calls } → now ≡ calls ++ call ∷ [] → Added before call (record { first = first; calls = now })
Added-from before first calls now call is pushed =
    ap (λ (cs : List Call). let tape : Tape = record { first = first; calls = cs } in tape) pushed ∙ ap (λ (tape : Tape). let more : Tape = record tape { calls = tape.calls ++ call ∷ [] } in more) (sym is)

-- What a call does to the images

ranged_torn_by : (synced : List ℕ) (ranges : List (ℕ × ℕ)) (at n : ℕ) → at ≤ max (length synced) (greatest_end ranges) → TornBy at n (MayLeave synced ranges) (MayLeave synced ((at, n) ∷ ranges))
ranged_torn_by synced ranges at n le = λ image may. (restored synced ranges at n image, restored_may_leave synced ranges at n image may, restored_torn synced ranges at n image may le)

within_longest : (tape : Tape) (at : ℕ) → at ≤ length (state_now tape).reads → at ≤ max (length (state_now tape).synced) (greatest_end (state_now tape).ranges)
within_longest tape at le = let may = reads_may_leave tape in omega (arith, le, may.no_longer)

module _ (before now : Tape) (at : ℕ) (bytes : List ℕ) (added : AddedWrite before at bytes now) where
  written_state : state_now now ≡ after_call (state_now before) (Wrote at added.0)
  written_state = state_added before now (Wrote at added.0) added.2

  pub written_reads : (state_now now).reads ≡ with_piece at bytes (state_now before).reads
  written_reads = ap (λ (s : State). s.reads) written_state ∙ ap (λ (piece : List ℕ). with_piece at piece (state_now before).reads) added.1

  pub written_torn_by : at ≤ length (state_now before).reads → TornBy at (length bytes) (MayLeaveIn (state_now before)) (MayLeaveIn (state_now now))
  written_torn_by le =
      subst (λ (s : State). TornBy at (length bytes) (MayLeaveIn (state_now before)) (MayLeaveIn s)) (sym written_state)
      (subst (λ (piece : List ℕ). TornBy at (length piece) (MayLeaveIn (state_now before)) (MayLeaveIn (after_call (state_now before) (Wrote at added.0)))) added.1
      (ranged_torn_by (state_now before).synced (state_now before).ranges at (length added.0.items) (within_longest before at le)))

  pub written_torn : (old image : List ℕ) → MayLeaveIn (state_now before) old → Torn at (length bytes) old image → MayLeaveIn (state_now now) image
  written_torn old image may torn =
      subst (λ (s : State). MayLeaveIn s image) (sym written_state)
      (torn_may_leave (state_now before).synced (state_now before).ranges at (length added.0.items) old image may
      (subst (λ (piece : List ℕ). Torn at (length piece) old image) (sym added.1) torn))

module _ (before now : Tape) (at count : ℕ) (added : Added before (Broke at count) now) where
  broken_state : state_now now ≡ after_call (state_now before) (Broke at count)
  broken_state = state_added before now (Broke at count) added

  pub broken_reads : (state_now now).reads ≡ (state_now before).reads
  broken_reads = ap (λ (s : State). s.reads) broken_state

  pub broken_torn_by : at ≤ length (state_now before).reads → TornBy at count (MayLeaveIn (state_now before)) (MayLeaveIn (state_now now))
  broken_torn_by le =
      subst (λ (s : State). TornBy at count (MayLeaveIn (state_now before)) (MayLeaveIn s)) (sym broken_state)
      (ranged_torn_by (state_now before).synced (state_now before).ranges at count (within_longest before at le))

  pub broken_torn : (old image : List ℕ) → MayLeaveIn (state_now before) old → Torn at count old image → MayLeaveIn (state_now now) image
  broken_torn old image may torn =
      subst (λ (s : State). MayLeaveIn s image) (sym broken_state)
      (torn_may_leave (state_now before).synced (state_now before).ranges at count old image may torn)

module _ (before now : Tape) (added : Added before Synced now) where
  synced_state : state_now now ≡ after_call (state_now before) Synced
  synced_state = state_added before now Synced added

  pub synced_reads : (state_now now).reads ≡ (state_now before).reads
  synced_reads = ap (λ (s : State). s.reads) synced_state

  pub synced_only : Only (state_now before).reads (MayLeaveIn (state_now now))
  synced_only image may =
      let all = subst (λ (s : State). MayLeaveIn s image) synced_state may in
      ext_get_or 0 _ _ (omega (arith, all.no_shorter, all.no_longer)) (λ i below. all.stays i (omega (arith, below, all.no_shorter, all.no_longer)) tt)

  pub synced_leaves : (image : List ℕ) → image ≡ (state_now before).reads → MayLeaveIn (state_now now) image
  synced_leaves image is = subst (λ (file : List ℕ). MayLeaveIn (state_now now) file) (synced_reads ∙ sym is) (reads_may_leave now)

  pub synced_no_more : NoMore (MayLeaveIn (state_now before)) (MayLeaveIn (state_now now))
  synced_no_more image may = subst (λ (file : List ℕ). MayLeaveIn (state_now before) file) (sym (synced_only image may)) (reads_may_leave before)

-- At an earlier moment, and since one

at_earlier : (before now : Tape) (call : Call) (n : ℕ) → Added before call now → n ≤ length before.calls → state_at now n ≡ state_at before n
at_earlier before now call n added le = ap (λ (tape : Tape). state_at tape n) added ∙ ap (λ (cs : List Call). after_calls (start_of before.first) cs) (take-append-le n before.calls (call ∷ []) le)

length_added : (before now : Tape) (call : Call) → Added before call now → length now.calls ≡ length before.calls + 1
length_added before now call added = ap (λ (tape : Tape). length tape.calls) added ∙ length-append before.calls (call ∷ [])

left_fewer : (before now : Tape) (call : Call) → Added before call now → (t : ℕ) (image : List ℕ) → LeftSince before t image → LeftSince now t image
left_fewer before now call added t image left =
    (left.0, left.1, omega (arith, left.2, length_added before now call added), subst (λ (s : State). MayLeaveIn s image) (sym (at_earlier before now call left.0 added left.2)) left.3)

left_more : (before now : Tape) (call : Call) → Added before call now → (t : ℕ) (image : List ℕ) → LeftSince now t image → LeftSince before t image ⊎ MayLeaveIn (state_now now) image
left_more before now call added t image left =
    let long = length_added before now call added in
    elim (cases_lt left.0 (length now.calls)) [
      | inl earlier ↦
          let le : left.0 ≤ length before.calls = omega (arith, earlier, long) in
          inl (left.0, left.1, le, subst (λ (s : State). MayLeaveIn s image) (at_earlier before now call left.0 added le) left.3)
      | inr last ↦
          let all : take left.0 now.calls ≡ now.calls = take_all _ _ last in
          inr (subst (λ (cs : List Call). MayLeaveIn (after_calls (start_of now.first) cs) image) all left.3)
    ]

-- Calls

module _ {D T : Type 0} (tape : D → Tape) (faults : D → ℕ) (before now : D) (result : Result T DiskStop) where
  -- it added a call to the tape
  pub Called-added : (call : Call) → Added (tape before) call (tape now) → faults before ≤ faults now → (IsErrOf result Failed → Rose (faults before) (faults now)) → ((IsErrOf result Failed → ⊥) → faults now ≡ faults before) → (IsErrOf result (Memory refused) → ⊥)
      → Called (λ d. Some (state_now (tape d)).reads) (λ d image. MayLeaveIn (state_now (tape d)) image) (λ d. length (tape d).calls) (λ d t image. LeftSince (tape d) t image) faults before now result
  Called-added call added count cause steady no_memory = record {
    told = refl;
    later = let e = length_added (tape before) (tape now) call added in omega (arith, e);
    no_more = λ t image le left. left_more (tape before) (tape now) call added t image left;
    no_fewer = λ t image le left. left_fewer (tape before) (tape now) call added t image left;
    count = count;
    cause = cause;
    steady = steady;
    same_bytes = λ memory. absurd (no_memory memory);
    same_images = λ memory. absurd (no_memory memory);
  }
