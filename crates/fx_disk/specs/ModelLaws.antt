-- What the model says of each disk in memory.
use Rattle.std.proofs.Common.{◌≡◌, ◌⊎◌, inl, inr, ℕ, ◌+◌, ◌-◌, ◌<◌, ◌≤◌, min, List, [], ◌∷◌, ◌++◌, length, take, drop, get_or, refl, sym, ◌∙◌, ap, subst, arith, Some, length-append, length-drop, take_all}
use Rattle.std.proofs.lemmas.List.{get_or-take, get_or-drop, get_or-append_right, length-take}
use Rattle.std.proofs.Math.ListN.{get_or-append}
use Rattle.fx_disk.specs.declared.call.Call.{Call}
use Rattle.fx_disk.specs.declared.call.Call.TheVariants.{Wrote, Broke, Synced}
use Rattle.fx_disk.specs.Disk.{with_piece}
use Rattle.fx_disk.specs.Model.{MayLeave, State, after_call, after_calls, Tape, start_of, state_now, MayLeaveIn, LeftSince}

pub length-with_piece : (at : ℕ) (piece file : List ℕ) → length (with_piece at piece file) ≡ min at (length file) + length piece + (length file - (at + length piece))
length-with_piece at piece file =
    length-append (take at file ++ piece) (drop (at + length piece) file)
    ∙ ap (λ (n : ℕ). n + length (drop (at + length piece) file)) (length-append (take at file) piece ∙ ap (λ (n : ℕ). n + length piece) (length-take at file))
    ∙ ap (λ (n : ℕ). min at (length file) + length piece + n) (length-drop (at + length piece) file)

-- a piece leaves each byte of the file that isn't in its range
pub get_or-with_piece : (at : ℕ) (piece file : List ℕ) (k : ℕ) → k < length file → (k < at) ⊎ (at + length piece ≤ k) → get_or (with_piece at piece file) k 0 ≡ get_or file k 0
get_or-with_piece at piece file k within (inl front) =
    let n = length-take at file in
    let m = length-append (take at file) piece in
    get_or-append (take at file ++ piece) (drop (at + length piece) file) 0 k (omega arith)
    ∙ get_or-append (take at file) piece 0 k (omega arith)
    ∙ get_or-take at file k 0 front
get_or-with_piece at piece file k within (inr behind) =
    let n = length-take at file in
    let m = length-append (take at file) piece in
    get_or-append_right (take at file ++ piece) (drop (at + length piece) file) (at + length piece) k 0 (omega arith) behind
    ∙ get_or-drop (at + length piece) file (k - (at + length piece)) 0
    ∙ (let e : at + length piece + (k - (at + length piece)) ≡ k = omega arith in ap (λ (i : ℕ). get_or file i 0) e)

-- one more range may only add images
pub MayLeave-wider : (synced : List ℕ) (ranges : List (ℕ × ℕ)) (at n : ℕ) (image : List ℕ) → MayLeave synced ranges image → MayLeave synced ((at, n) ∷ ranges) image
MayLeave-wider synced ranges at n image may = record {
  no_shorter = may.no_shorter;
  no_longer = omega (arith, may.no_longer);
  stays = λ place within outside. may.stays place within outside.1;
}

reads_after : (s : State) (call : Call) → MayLeaveIn s s.reads → MayLeaveIn (after_call s call) (after_call s call).reads
reads_after s (Wrote at piece) may =
    let long = length-with_piece at piece.items s.reads in
    record {
      no_shorter = omega (arith, may.no_shorter, long);
      no_longer = omega (arith, may.no_longer, long);
      stays = λ place within outside.
          get_or-with_piece at piece.items s.reads place (omega (arith, may.no_shorter)) outside.0 ∙ may.stays place within outside.1;
    }
reads_after s (Broke at count) may = MayLeave-wider s.synced s.ranges at count s.reads may
reads_after s Synced may = record { no_shorter = omega arith; no_longer = omega arith; stays = λ place within outside. refl }

reads_after_calls : (s : State) (calls : List Call) → MayLeaveIn s s.reads → MayLeaveIn (after_calls s calls) (after_calls s calls).reads
reads_after_calls s [] may = may
reads_after_calls s (call ∷ calls) may = reads_after_calls (after_call s call) calls (reads_after s call may)

-- what a disk reads is one of its images
pub reads_may_leave : (tape : Tape) → MayLeaveIn (state_now tape) (state_now tape).reads
reads_may_leave tape = reads_after_calls (start_of tape.first) tape.calls
    record { no_shorter = omega arith; no_longer = omega arith; stays = λ place within outside. refl }

-- this moment is one of those since an earlier one
pub left_now : (tape : Tape) (t : ℕ) (image : List ℕ) → t ≤ length tape.calls → MayLeaveIn (state_now tape) image → LeftSince tape t image
left_now tape t image le may =
    let all : tape.calls ≡ take (length tape.calls) tape.calls = sym (take_all _ _ (omega arith)) in
    (length tape.calls, le, omega arith, subst (λ (calls : List Call). MayLeaveIn (after_calls (start_of tape.first) calls) image) all may)

-- since this moment there is no other
pub left_only_now : (tape : Tape) (image : List ℕ) → LeftSince tape (length tape.calls) image → MayLeaveIn (state_now tape) image
left_only_now tape image left =
    let all : take left.0 tape.calls ≡ tape.calls = take_all _ _ (omega (arith, left.1)) in
    subst (λ (calls : List Call). MayLeaveIn (after_calls (start_of tape.first) calls) image) all left.3

-- the same of what reads, as an option
pub reads_told : (tape : Tape) (file : List ℕ) → Some (state_now tape).reads ≡ Some file → MayLeaveIn (state_now tape) file
reads_told tape file e = let same : (state_now tape).reads ≡ file = cc in subst (λ (f : List ℕ). MayLeaveIn (state_now tape) f) same (reads_may_leave tape)
